use Rattle.std.proofs.Common.{◌≡◌, ◌∙◌, ℕ, List, length, refl, sym, ap, arith, inl, inr, ⊎_elim}
use Rattle.timed_payload.specs.Timed.{timed}
use Rattle.dp_protector.specs.Timed.{timed_chain}
use Rattle.dp_protector.specs.declared.timed.TheConstants.{MAX_TIMED}
use Rattle.dp_protector.specs.Protect.{sealing, within}
use Rattle.key_ring.specs.Ring.{RingOf}
use Rattle.dp_wire.specs.Chains.{chain_of, used_chain}
use Rattle.dp_wire.specs.Request.{ProtectTimed}
use Rattle.dp_answer.specs.Replies.{protected_reply}
use Rattle.dp_answer.proofs.Responses.{AsksForPayload, made, unmade_by, sealing-none, by_payload_timed}
use Rattle.dp_base.proofs.Parts.{AreBytes-from_fits}
use Rattle.dp_protector.proofs.Lengths.{length-protects_timed}
use Rattle.dp_answer.proofs.protecting.protected_timed.Goals as goal

asks : (app : List ℕ) (now need expiry : ℕ) (wire chain : List (List ℕ)) (ring : RingOf) (text : List ℕ) → chain ≡ used_chain app wire → AsksForPayload app now (ProtectTimed need wire expiry text) ring MAX_TIMED text (λ d. sealing ring (timed_chain chain) d (timed expiry text))
asks app now need expiry wire chain ring text same = record {
  replies_are = λ d. ap (λ (ch : List (List ℕ)). protected_reply (length ring.list) (within MAX_TIMED text (sealing ring (timed_chain ch) d (timed expiry text)))) (sym same);
  len_is = refl;
  keyless = λ none d. sealing-none ring (timed_chain chain) d (timed expiry text) none;
}

pub to_chain-requires : goal.to_chain-requires
to_chain-requires g c = c.as_str.ensures.short

pub returns-in-Ok : goal.returns-in-Ok
returns-in-Ok g c = λ now need.
    let ring = c.args.ring.now in
    let how = asks c.args.setting.app.now now need c.args.expiry (chain_of c.args.chain.now.bytes.now) c.in_ok-chain.chain ring c.args.plain.now (rw c.as_str.ensures.value at c.in_ok-chain.ensures.value) in
    let count = c.len-front.ensures.value ∙ ap length c.list.ensures in
    made how c.by_ring.result (g.D.Draw.draws c.args.draw.now) (g.D.Draw.draws c.protect_timed.new.draw) _ c.in-Ok.ensures.made
    (by_payload_timed ring c.by_ring.result c.len-front.result c.as_slice-payload.result _ count c.as_slice-payload.ensures.value c.by_ring.ensures)

pub returns : goal.returns
returns g c = λ now need.
    let how = asks c.args.setting.app.now now need c.args.expiry (chain_of c.args.chain.now.bytes.now) c.in_ok-chain.chain c.args.ring.now c.args.plain.now (rw c.as_str.ensures.value at c.in_ok-chain.ensures.value) in
    let e = c.in-Err.ensures in
    unmade_by how c.unmade.result (g.D.Draw.draws c.args.draw.now) (g.D.Draw.draws c.protect_timed.new.draw) c.in-Err.why e.too_long (λ h. e.no_default_key h) e.keyless (λ h. ap g.D.Draw.draws (e.untouched h)) e.draw_fault
    (λ h. ⊎_elim (λ s. inl (ap g.D.Draw.draws s)) (λ d. inr d) (e.memory h)) c.unmade.ensures

pub by_ring-requires : goal.by_ring-requires
by_ring-requires g c =
    omega (arith, ap length c.as_slice-payload.ensures.value, length-protects_timed c.args.ring.now c.in_ok-chain.chain c.args.expiry c.args.plain.now _ (AreBytes-from_fits c.args.plain.now c.type_inv.plain) c.in-Ok.ensures.made)
