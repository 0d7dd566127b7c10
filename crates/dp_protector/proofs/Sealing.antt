-- What sealing under the default key gives.
use Rattle.std.proofs.Common.{◌≡◌, ℕ, ◌+◌, List, ◌++◌, take, drop, Option, Some, Ok, sym, ap, ◌∙◌}
use Rattle.dp_base.specs.Guid.{guid}
use Rattle.dp_base.specs.Lengths.{iv_len}
use Rattle.dp_base.specs.declared.alg.Alg.{Alg}
use Rattle.key_elements.specs.declared.element.KeyRecord.{KeyRecord}
use Rattle.key_ring.specs.Ring.{RingOf, default_key}
use Rattle.payload_view.specs.Payload.{joined}
use Rattle.dp_encryptor.specs.Body.{Secret, sealed}
use Rattle.purpose_chain.specs.Chain.{aad, first_bytes}
use Rattle.dp_protector.specs.Algorithms.{alg_of}
use Rattle.dp_protector.specs.Payload.{seal, secret}
use Rattle.dp_protector.specs.Protect.{draw_len, draw_len_for, draw_len_under, sealed_for, sealed_under, sealing}

pub draw_len-is : (ring : RingOf) (key : KeyRecord) (alg : Alg) → default_key ring.list ring.made_at ≡ Some key → alg_of key.alg ≡ Some alg → draw_len ring ≡ 16 + iv_len alg
unfolding draw_len
draw_len-is ring key alg is has = ap draw_len_under is ∙ ap draw_len_for has

pub sealing-is : (ring : RingOf) (chain : List (List ℕ)) (drawn text : List ℕ) (key : KeyRecord) (alg : Alg) (e : Secret) (a payload : List ℕ)
    → default_key ring.list ring.made_at ≡ Some key → alg_of key.alg ≡ Some alg → e ≡ secret alg key → a ≡ aad key.id.0 chain
    → payload ≡ first_bytes ++ guid key.id.0 ++ joined (sealed e a (take 16 drawn) (drop 16 drawn) text) → sealing ring chain drawn text ≡ Ok payload
unfolding sealing seal
sealing-is ring chain drawn text key alg e a payload is has e_is a_is made =
    ap (λ (o : Option KeyRecord). sealed_under o chain drawn text) is ∙ ap (λ (o : Option Alg). sealed_for o key chain drawn text) has
    ∙ ap Ok (sym (made ∙ ap (λ (s : Secret). first_bytes ++ guid key.id.0 ++ joined (sealed s a (take 16 drawn) (drop 16 drawn) text)) e_is
    ∙ ap (λ (d : List ℕ). first_bytes ++ guid key.id.0 ++ joined (sealed (secret alg key) d (take 16 drawn) (drop 16 drawn) text)) a_is))
