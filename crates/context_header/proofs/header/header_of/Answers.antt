use Rattle.std.proofs.Common.{◌≡◌, refl, ◌∙◌, arith}
use Rattle.context_header.specs.Header.{context_header}
use Rattle.context_header.proofs.header.header_of.Goals as goal
use Rattle.context_header.proofs.header.header_of.Goals.{in-Cbc256, in-Cbc512, in-Gcm}

pub invariant_of-result : goal.invariant_of-result
unfolding context_header
invariant_of-result c =
    elim c.match-alg.branch [
      | in-Cbc256 w ↦
          let is = w.in-Cbc256.is in
          let count : c.mac_len.result ≡ 32 = rw is at c.mac_len.ensures in
          (omega arith, rw (count, w.bytes-is) (w.write_cbc.ensures ∙ rw (w.key_len.ensures, c.derive-keys.ensures, is) refl))
      | in-Cbc512 w ↦
          let is = w.in-Cbc512.is in
          let count : c.mac_len.result ≡ 64 = rw is at c.mac_len.ensures in
          (omega arith, rw (count, w.bytes-is) (w.write_cbc-in-Cbc512.ensures ∙ rw (w.key_len-in-Cbc512.ensures, c.derive-keys.ensures, is) refl))
      | in-Gcm w ↦
          let is = w.in-Gcm.is in
          let count : c.mac_len.result ≡ 0 = rw is at c.mac_len.ensures in
          (omega arith, rw (count, w.bytes-is) (w.write_gcm.ensures ∙ rw (w.key_len-in-Gcm.ensures, c.derive-keys.ensures, is) refl))
    ]
