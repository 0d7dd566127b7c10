use Rattle.std.proofs.Common.{◌≡◌, ◌∙◌, ℕ, List, length, refl, sym, ap, arith, inl, inr, ⊎_elim}
use Rattle.dp_protector.specs.Text.{given_as_text}
use Rattle.dp_protector.specs.declared.text.TheConstants.{MAX_TEXT}
use Rattle.dp_protector.specs.Protect.{sealing, within}
use Rattle.key_ring.specs.Ring.{RingOf}
use Rattle.dp_wire.specs.Chains.{chain_of, used_chain}
use Rattle.dp_wire.specs.Request.{ProtectText}
use Rattle.dp_answer.specs.Replies.{protected_reply}
use Rattle.dp_answer.proofs.Responses.{AsksForPayload, made, unmade_by, sealing-none, by_payload_text}
use Rattle.dp_base.proofs.Parts.{AreBytes-from_fits}
use Rattle.dp_protector.proofs.Lengths.{length-protects_text}
use Rattle.dp_answer.proofs.protecting.protected_text.Goals as goal

asks : (app : List ℕ) (now need : ℕ) (wire chain : List (List ℕ)) (ring : RingOf) (text : List ℕ) → chain ≡ used_chain app wire → AsksForPayload app now (ProtectText need wire text) ring MAX_TEXT text (λ d. given_as_text (sealing ring chain d text))
asks app now need wire chain ring text same = record {
  replies_are = λ d. ap (λ (ch : List (List ℕ)). protected_reply (length ring.list) (within MAX_TEXT text (given_as_text (sealing ring ch d text)))) (sym same);
  len_is = refl;
  keyless = λ none d. ap given_as_text (sealing-none ring chain d text none);
}

pub to_chain-requires : goal.to_chain-requires
to_chain-requires g c = c.as_str.ensures.short

pub returns-in-Ok : goal.returns-in-Ok
returns-in-Ok g c = λ now need.
    let ring = c.args.ring.now in
    let how = asks c.args.setting.app.now now need (chain_of c.args.chain.now.bytes.now) c.in_ok-chain.chain ring c.args.text.now (rw c.as_str.ensures.value at c.in_ok-chain.ensures.value) in
    let count = c.len-front.ensures.value ∙ ap length c.list.ensures in
    made how c.by_ring.result (g.D.Draw.draws c.args.draw.now) (g.D.Draw.draws c.protect_text.new.draw) _ c.in-Ok.ensures.made
    (by_payload_text ring c.by_ring.result c.len-front.result c.as_str-text.result _ count c.as_str-text.ensures.value c.by_ring.ensures)

pub returns : goal.returns
returns g c = λ now need.
    let how = asks c.args.setting.app.now now need (chain_of c.args.chain.now.bytes.now) c.in_ok-chain.chain c.args.ring.now c.args.text.now (rw c.as_str.ensures.value at c.in_ok-chain.ensures.value) in
    let e = c.in-Err.ensures in
    unmade_by how c.unmade.result (g.D.Draw.draws c.args.draw.now) (g.D.Draw.draws c.protect_text.new.draw) c.in-Err.why e.too_long (λ h. e.no_default_key.0 h) (λ none le. inl (e.no_default_key.1 (le, none))) (λ h. ap g.D.Draw.draws (e.untouched h)) e.draw_fault
    (λ h. ⊎_elim (λ s. inl (ap g.D.Draw.draws s)) (λ d. inr d) (e.memory h)) c.unmade.ensures

pub by_ring-requires : goal.by_ring-requires
by_ring-requires g c =
    omega (arith, ap length c.as_str-text.ensures.value, length-protects_text c.args.ring.now c.in_ok-chain.chain c.args.text.now _ (AreBytes-from_fits c.args.text.now c.type_inv.text) c.in-Ok.ensures.made)
