-- What holds where a payload was opened.
use Rattle.std.proofs.Common.{◌≡◌, ℕ, Bool, true, false, not, ◌==◌, ◌&&◌, List, [], ◌∷◌, drop, Option, Some, None, Result, Ok, Err, refl, sym, ap, ◌∙◌, arith}
use Rattle.std.specs.Prelude.{IsTrue, find, if◌then◌else◌}
use Rattle.std.specs.Option.{option_map}
use Rattle.std.proofs.lemmas.Bool.Decides.{nat_tests}
use Rattle.dp_base.specs.declared.alg.Alg.{Alg}
use Rattle.key_elements.specs.declared.element.Element.{Element}
use Rattle.key_elements.specs.declared.element.KeyRecord.{KeyRecord}
use Rattle.key_elements.specs.Lists.{Extends}
use Rattle.key_ring.specs.Keys.{is_named, is_revoked, keys_of}
use Rattle.key_ring.specs.Ring.{RingOf}
use Rattle.key_ring.specs.State.{State, lookup_of, state}
use Rattle.key_ring.proofs.Stays.{stays, stays-id}
use Rattle.dp_protector.specs.declared.refused.UnprotectRefused.{UnprotectRefused}
use Rattle.dp_protector.specs.declared.refused.UnprotectRefused.TheVariants as payloads
use Rattle.dp_protector.specs.Algorithms.{alg_of}
use Rattle.dp_protector.specs.Opening.{Opening, has_head, has_version, id_in, open_body, opened, opened_for, opened_under, opening_of}

abbrev some_of : {X : Type 0} → X → Option X
some_of x = Some x

pub record Taken (ring : RingOf) (chain : List (List ℕ)) (payload : List ℕ) (allow : Bool) (o : Opening) : Type 0 where
  pub s : State
  pub alg : Alg
  pub held : lookup_of ring.list ring.made_at (id_in payload).0 ≡ Some s
  pub unbarred : (s.revoked && not allow) ≡ false
  pub alg_is : alg_of s.key.alg ≡ Some alg
  pub body : open_body alg s.key chain (drop 20 payload) ≡ Some o.plain

text-taken : (s : State) (t : Option (List ℕ)) (o : Opening) → opening_of s t ≡ Ok o → t ≡ Some o.plain
text-taken s None o e = absurd cc
text-taken s (Some text) o e = let same : (let x : Opening = record { plain = text; revoked = s.revoked; default_changed = not s.is_default } in x) ≡ o = cc in ap (λ (x : Opening). Some x.plain) same

head-taken : {X : Type 0} (h v : Bool) (x : Result X UnprotectRefused) (o : X) → (if not h then Err payloads.BadHeader else if not v then Err payloads.BadVersion else x) ≡ Ok o → x ≡ Ok o
head-taken true true x o e = e
head-taken true false x o e = absurd cc
head-taken false v x o e = absurd cc

pub taken : (ring : RingOf) (chain : List (List ℕ)) (payload : List ℕ) (allow : Bool) (o : Opening) → opened ring chain payload allow ≡ Ok o → Taken ring chain payload allow o
unfolding opened
taken ring chain payload allow o e =
    under (lookup_of ring.list ring.made_at (id_in payload).0) refl (head-taken (has_head payload) (has_version payload) _ o e)
  where
    under : (found : Option State) → lookup_of ring.list ring.made_at (id_in payload).0 ≡ found
        → opened_under found allow (id_in payload) chain (drop 20 payload) ≡ Ok o → Taken ring chain payload allow o
    under None held told = absurd cc
    under (Some s) held told = at (s.revoked && not allow) (alg_of s.key.alg) refl refl told
      where
        at : (b : Bool) (a : Option Alg) → (s.revoked && not allow) ≡ b → alg_of s.key.alg ≡ a
            → (if b then Err (payloads.KeyRevoked (id_in payload)) else opened_for a s (id_in payload) chain (drop 20 payload)) ≡ Ok o → Taken ring chain payload allow o
        at true a barred has told = absurd cc
        at false None barred has told = absurd cc
        at false (Some alg) barred has told =
            record { s = s; alg = alg; held = held; unbarred = barred; alg_is = has; body = text-taken s (open_body alg s.key chain (drop 20 payload)) o told }

-- ---- what a look-up finds

passes-at : {X : Type 0} (p : X → Bool) (y : X) (rest : Option X) (x : X) (b : Bool) → p y ≡ b → (rest ≡ Some x → p x ≡ true) → (if b then Some y else rest) ≡ Some x → p x ≡ true
passes-at p y rest x true is more e = let same : y ≡ x = cc in ap p (sym same) ∙ is
passes-at p y rest x false is more e = more e

found-passes : {X : Type 0} (p : X → Bool) (xs : List X) (x : X) → find p xs ≡ Some x → p x ≡ true
found-passes p [] x e = absurd cc
found-passes p (y ∷ ys) x e = passes-at p y (find p ys) x (p y) refl (found-passes p ys x) e

pub record IsState (es : List Element) (t id : ℕ) (s : State) : Type 0 where
  pub key_id : s.key.id.0 ≡ id
  pub state_is : s ≡ state es t s.key

pub found-state : (es : List Element) (t id : ℕ) (s : State) → lookup_of es t id ≡ Some s → IsState es t id s
found-state es t id s e = at (find (λ k. k.id.0 == id) (keys_of es)) refl e
  where
    at : (o : Option KeyRecord) → find (λ k. k.id.0 == id) (keys_of es) ≡ o → option_map (state es t) o ≡ Some s → IsState es t id s
    at None is e = absurd cc
    at (Some k) is e =
        let same : state es t k ≡ s = cc in
        let key : k ≡ s.key = ap (λ (x : State). x.key) same in
        let passes : (k.id.0 == id) ≡ true = found-passes (λ k. k.id.0 == id) (keys_of es) k is in
        let id_is : k.id.0 ≡ id = grind (arith, nat_tests) in
        record { key_id = ap (λ (j : KeyRecord). j.id.0) (sym key) ∙ id_is; state_is = sym same ∙ ap (state es t) key }

-- ---- what was revoked stays shut

shut : (b : Bool) → b ≡ true → (b && true) ≡ false → ⊥
shut true e f = absurd cc
shut false e f = absurd cc

pub record-shut : (es : List Element) (ring : RingOf) (chain : List (List ℕ)) (payload : List ℕ) (o : Opening) (s : State)
    → Extends ring.list es → lookup_of ring.list ring.made_at (id_in payload).0 ≡ Some s → IsTrue (is_revoked es s.key)
    → opened ring chain payload false ≡ Ok o → ⊥
record-shut es ring chain payload o s extends held revoked e =
    let t = taken ring chain payload false o e in
    let same : t.s ≡ s = some_one t.s s (sym t.held ∙ held) in
    let is = found-state ring.list ring.made_at (id_in payload).0 s held in
    let flag : s.revoked ≡ true = ap (λ (x : State). x.revoked) is.state_is ∙ stays es ring.list s.key extends revoked in
    shut t.s.revoked (ap (λ (x : State). x.revoked) same ∙ flag) t.unbarred
  where
    some_one : (a b : State) → some_of a ≡ some_of b → a ≡ b
    some_one a b e = cc

pub id-shut : (es : List Element) (ring : RingOf) (chain : List (List ℕ)) (payload : List ℕ) (o : Opening)
    → Extends ring.list es → IsTrue (is_named es (id_in payload).0) → opened ring chain payload false ≡ Ok o → ⊥
id-shut es ring chain payload o extends named e =
    let t = taken ring chain payload false o e in
    let is = found-state ring.list ring.made_at (id_in payload).0 t.s t.held in
    let flag : t.s.revoked ≡ true =
    ap (λ (x : State). x.revoked) is.state_is ∙ stays-id es ring.list (id_in payload).0 extends named t.s.key is.key_id in
    shut t.s.revoked flag t.unbarred
