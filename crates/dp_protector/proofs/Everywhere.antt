-- What one node seals, other nodes open.
use Rattle.std.proofs.Common.{◌≡◌, ◌≢◌, ℕ, ◌+◌, ◌<◌, ◌^◌, Bool, true, false, not, ◌&&◌, List, ◌++◌, length, take, drop, Option, Some, None, Result, Ok, refl, sym, ap, subst, ◌∙◌, arith, length-append}
use Rattle.std.specs.Prelude.{nat_le}
use Rattle.std.proofs.lemmas.Bool.Decides.{nat_tests}
use Rattle.std.proofs.lemmas.List.{take_at, drop_at, length-take-le, length-drop}
use Rattle.dp_base.specs.declared.alg.Alg.{Alg}
use Rattle.dp_base.specs.declared.key_id.KeyId.{KeyId}
use Rattle.dp_base.specs.Blocks.{AreBytes}
use Rattle.dp_base.specs.Guid.{guid, id_of_guid}
use Rattle.dp_base.specs.Lengths.{iv_len}
use Rattle.dp_base.proofs.Guid.{id_of_guid-guid, length-guid}
use Rattle.dp_base.proofs.Parts.{AreBytes-drop}
use Rattle.key_elements.specs.declared.element.KeyRecord.{KeyRecord}
use Rattle.payload_view.specs.Payload.{Parts, joined, parts_of, plain_len}
use Rattle.dp_encryptor.specs.Body.{HasTag, Opens, Secret, enciphered, sealed, subkeys, tag}
use Rattle.dp_encryptor.proofs.Undoing.{Opens-sealed, length-tag, parts_of-joined}
use Rattle.purpose_chain.specs.Chain.{IsChain, aad, first_bytes}
use Rattle.purpose_chain.proofs.OneToOne.{one_to_one}
use Rattle.key_ring.specs.Ring.{RingOf}
use Rattle.key_ring.specs.State.{State, lookup_of}
use Rattle.dp_protector.specs.declared.refused.ProtectRefused.{ProtectRefused}
use Rattle.dp_protector.specs.Algorithms.{alg_of}
use Rattle.dp_protector.specs.Payload.{seal, secret}
use Rattle.dp_protector.specs.Protect.{sealed_for, sealed_under, sealing}
use Rattle.dp_protector.specs.Opening.{Opening, has_head, has_version, id_in, open_body, opened, opened_for, opened_under, opening_of}
use Rattle.dp_protector.specs.Laws.{Holds, Seals}
use Rattle.dp_protector.proofs.Sealing.{draw_len-is}
use Rattle.dp_protector.proofs.Taken.{found-state, taken}
use Rattle.dp_protector.proofs.Texts.{open_parts-is, open_parts-fact}
use Rattle.dp_protector.proofs.Bodies.{open_body-long}

abbrev some_of : {X : Type 0} → X → Option X
some_of x = Some x

abbrev ok_of : List ℕ → Result (List ℕ) ProtectRefused
ok_of x = Ok x

abbrev secret_of : Alg → List ℕ → Secret
secret_of alg material = record { alg = alg; material = material }

-- ---- the head of a payload

payload_with : ℕ → List ℕ → List ℕ
payload_with id body = first_bytes ++ guid id ++ body

pub head_len : (id : ℕ) → length (first_bytes ++ guid id) ≡ 20
head_len id = omega (arith, length-guid id)

body-of : (id : ℕ) (body : List ℕ) → drop 20 (first_bytes ++ guid id ++ body) ≡ body
body-of id body = drop_at (first_bytes ++ guid id) body 20 (head_len id)

id-of : (id : ℕ) (body : List ℕ) → id < 2 ^ 128 → (id_in (first_bytes ++ guid id ++ body)).0 ≡ id
id-of id body small = ap id_of_guid (take_at (guid id) body 16 (length-guid id)) ∙ id_of_guid-guid id small

head-of : (id : ℕ) (body : List ℕ) → has_head (first_bytes ++ guid id ++ body) ≡ true
head-of id body =
    let len = length-append (first_bytes ++ guid id) body in
    let twenty = head_len id in
    let room : nat_le 20 (length (first_bytes ++ guid id ++ body)) ≡ true = grind (arith, nat_tests) in
    rw room refl

version-of : (id : ℕ) (body : List ℕ) → has_version (first_bytes ++ guid id ++ body) ≡ true
version-of id body = refl

opened-head : (ring : RingOf) (chain : List (List ℕ)) (payload : List ℕ) (allow : Bool) → has_head payload ≡ true → has_version payload ≡ true
    → opened ring chain payload allow ≡ opened_under (lookup_of ring.list ring.made_at (id_in payload).0) allow (id_in payload) chain (drop 20 payload)
unfolding opened
opened-head ring chain payload allow head version = rw (head, version) refl

-- ---- what was sealed

pub record SealedBy (ring : RingOf) (chain : List (List ℕ)) (drawn text payload : List ℕ) (key : KeyRecord) : Type 0 where
  pub alg : Alg
  pub alg_is : alg_of key.alg ≡ Some alg
  pub len : length drawn ≡ 16 + iv_len alg
  pub payload_is : payload ≡ first_bytes ++ guid key.id.0 ++ joined (sealed (secret alg key) (aad key.id.0 chain) (take 16 drawn) (drop 16 drawn) text)

pub sealed-by : (ring : RingOf) (chain : List (List ℕ)) (drawn text payload : List ℕ) (key : KeyRecord) → Seals ring chain drawn text payload key → SealedBy ring chain drawn text payload key
unfolding sealing seal
sealed-by ring chain drawn text payload key seals =
    at (alg_of key.alg) refl (sym (ap (λ (o : Option KeyRecord). sealed_under o chain drawn text) seals.is) ∙ seals.sealed)
  where
    ok_same : (x y : List ℕ) → ok_of x ≡ ok_of y → x ≡ y
    ok_same x y e = cc

    at : (a : Option Alg) → alg_of key.alg ≡ a → sealed_for a key chain drawn text ≡ Ok payload → SealedBy ring chain drawn text payload key
    at None has e = absurd cc
    at (Some alg) has e = record {
      alg = alg;
      alg_is = has;
      len = seals.len ∙ draw_len-is ring key alg seals.is has;
      payload_is = sym (ok_same _ _ e);
    }

-- ---- the body of a text under the key of another node

module _ (alg : Alg) (key : KeyRecord) (k : KeyRecord) (chain : List (List ℕ)) (m iv text : List ℕ)
    (ml : length m ≡ 16) (vl : length iv ≡ iv_len alg) (are : AreBytes iv)
    (material : k.material ≡ key.material) (id : k.id.0 ≡ key.id.0) where
  parts : Parts
  parts = sealed (secret alg key) (aad key.id.0 chain) m iv text

  again : parts_of alg (joined (sealed (secret alg key) (aad key.id.0 chain) m iv text)) ≡ sealed (secret alg key) (aad key.id.0 chain) m iv text
  again = parts_of-joined alg (sealed (secret alg key) (aad key.id.0 chain) m iv text) ml vl
      (length-tag alg (subkeys (secret alg key) (aad key.id.0 chain) m) iv (enciphered alg (subkeys (secret alg key) (aad key.id.0 chain) m).encryption iv text) vl are)

  room : length (joined (sealed (secret alg key) (aad key.id.0 chain) m iv text)) < plain_len alg → ⊥
  room short =
      let keys = subkeys (secret alg key) (aad key.id.0 chain) m in
      let c = enciphered alg keys.encryption iv text in
      let tl = length-tag alg keys iv c vl are in
      let one = length-append m iv in
      let two = length-append (m ++ iv) c in
      let three = length-append (m ++ iv ++ c) (tag alg keys iv c) in
      omega arith

  same_secret : secret alg key ≡ secret alg k
  same_secret = ap (λ (b : List ℕ). secret_of alg b) (sym material)

  pub opens-there : AreBytes text → open_body alg k chain (joined (sealed (secret alg key) (aad key.id.0 chain) m iv text)) ≡ Some text
  opens-there bytes =
      open_body-long alg k chain (joined (sealed (secret alg key) (aad key.id.0 chain) m iv text)) room
      ∙ open_parts-is alg (subkeys (secret alg k) (aad k.id.0 chain) P.modifier) P text
      (ap (λ (p : Parts). length p.iv) again ∙ vl) (subst AreBytes (sym (ap (λ (p : Parts). p.iv) again)) are) bytes three
    where
      P : Parts
      P = parts_of alg (joined (sealed (secret alg key) (aad key.id.0 chain) m iv text))

      one : Opens alg (subkeys (secret alg key) (aad key.id.0 chain) P.modifier) P text
      one = subst (λ (q : List ℕ). Opens alg (subkeys (secret alg key) (aad key.id.0 chain) q) P text) (sym (ap (λ (p : Parts). p.modifier) again))
          (Opens-sealed (secret alg key) (aad key.id.0 chain) m iv text ml vl are)

      two : Opens alg (subkeys (secret alg k) (aad key.id.0 chain) P.modifier) P text
      two = subst (λ (x : Secret). Opens alg (subkeys x (aad key.id.0 chain) P.modifier) P text) same_secret one

      three : Opens alg (subkeys (secret alg k) (aad k.id.0 chain) P.modifier) P text
      three = subst (λ (n : ℕ). Opens alg (subkeys (secret alg k) (aad n chain) P.modifier) P text) (sym id) two

  pub same_tags : (other : List (List ℕ)) (found : List ℕ) → open_body alg k other (joined (sealed (secret alg key) (aad key.id.0 chain) m iv text)) ≡ Some found
      → tag alg (subkeys (secret alg key) (aad key.id.0 chain) m) iv (enciphered alg (subkeys (secret alg key) (aad key.id.0 chain) m).encryption iv text)
      ≡ tag alg (subkeys (secret alg key) (aad key.id.0 other) m) iv (enciphered alg (subkeys (secret alg key) (aad key.id.0 chain) m).encryption iv text)
  same_tags other found e = three
    where
      B : List ℕ
      B = joined (sealed (secret alg key) (aad key.id.0 chain) m iv text)

      opens : Opens alg (subkeys (secret alg k) (aad k.id.0 other) (parts_of alg B).modifier) (parts_of alg B) found
      opens = open_parts-fact alg (subkeys (secret alg k) (aad k.id.0 other) (parts_of alg B).modifier) (parts_of alg B) found (sym (open_body-long alg k other B room) ∙ e)

      one : HasTag alg (subkeys (secret alg k) (aad k.id.0 other) m) (sealed (secret alg key) (aad key.id.0 chain) m iv text)
      one = subst (λ (p : Parts). HasTag alg (subkeys (secret alg k) (aad k.id.0 other) p.modifier) p) again opens.0

      two : HasTag alg (subkeys (secret alg key) (aad k.id.0 other) m) (sealed (secret alg key) (aad key.id.0 chain) m iv text)
      two = subst (λ (x : Secret). HasTag alg (subkeys x (aad k.id.0 other) m) (sealed (secret alg key) (aad key.id.0 chain) m iv text)) (sym same_secret) one

      three : HasTag alg (subkeys (secret alg key) (aad key.id.0 other) m) (sealed (secret alg key) (aad key.id.0 chain) m iv text)
      three = subst (λ (n : ℕ). HasTag alg (subkeys (secret alg key) (aad n other) m) (sealed (secret alg key) (aad key.id.0 chain) m iv text)) id two

-- ---- at every node

opened-at : (node : RingOf) (chain : List (List ℕ)) (payload : List ℕ) (allow : Bool) (id : KeyId) (s : State) (alg : Alg) (body text : List ℕ)
    → opened node chain payload allow ≡ opened_under (Some s) allow id chain body → (s.revoked && not allow) ≡ false → alg_of s.key.alg ≡ Some alg
    → open_body alg s.key chain body ≡ Some text → opened node chain payload allow ≡ Ok (record { plain = text; revoked = s.revoked; default_changed = not s.is_default })
opened-at node chain payload allow id s alg body text told unbarred has opens =
    told ∙ rw unbarred (ap (λ (a : Option Alg). opened_for a s id chain body) has ∙ ap (opening_of s) opens)

drawn_front : (alg : Alg) (drawn : List ℕ) → length drawn ≡ 16 + iv_len alg → (length (take 16 drawn) ≡ 16) × (length (drop 16 drawn) ≡ iv_len alg)
drawn_front alg drawn len = (length-take-le 16 drawn (omega arith), omega (arith, length-drop 16 drawn))

looked-up : (node : RingOf) (key : KeyRecord) (body : List ℕ) (allow : Bool) (s : State) → key.id.0 < 2 ^ 128 → Holds node key allow s
    → lookup_of node.list node.made_at (id_in (first_bytes ++ guid key.id.0 ++ body)).0 ≡ Some s
looked-up node key body allow s small holds = ap (λ (n : ℕ). lookup_of node.list node.made_at n) (id-of key.id.0 body small) ∙ holds.held

pub everywhere : (ring node : RingOf) (chain : List (List ℕ)) (drawn text payload : List ℕ) (key : KeyRecord) (allow : Bool) (s : State)
    → Seals ring chain drawn text payload key → Holds node key allow s
    → opened node chain payload allow ≡ Ok (record { plain = text; revoked = s.revoked; default_changed = not s.is_default })
everywhere ring node chain drawn text payload key allow s seals holds =
    let by = sealed-by ring chain drawn text payload key seals in
    let front = drawn_front by.alg drawn by.len in
    let body = joined (sealed (secret by.alg key) (aad key.id.0 chain) (take 16 drawn) (drop 16 drawn) text) in
    let is = found-state node.list node.made_at key.id.0 s holds.held in
    let made = first_bytes ++ guid key.id.0 ++ body in
    let told : opened node chain made allow ≡ opened_under (Some s) allow (id_in made) chain body =
    opened-head node chain made allow (head-of key.id.0 body) (version-of key.id.0 body)
    ∙ ap (λ (o : Option State). opened_under o allow (id_in made) chain (drop 20 made)) (looked-up node key body allow s seals.id holds)
    ∙ ap (λ (b : List ℕ). opened_under (Some s) allow (id_in made) chain b) (body-of key.id.0 body) in
    let opens = opens-there by.alg key s.key chain (take 16 drawn) (drop 16 drawn) text front.0 front.1 (AreBytes-drop 16 drawn seals.drawn_are) holds.material is.key_id seals.text_are in
    ap (λ (p : List ℕ). opened node chain p allow) by.payload_is
    ∙ opened-at node chain made allow (id_in made) s by.alg body text told holds.unbarred (ap alg_of holds.alg ∙ by.alg_is) opens

some_same : {X : Type 0} (a b : X) → some_of a ≡ some_of b → a ≡ b
some_same a b e = cc

pub one_chain : (ring node : RingOf) (chain other : List (List ℕ)) (drawn text payload : List ℕ) (key : KeyRecord) (allow : Bool) (s : State) (o : Opening) (alg : Alg)
    → Seals ring chain drawn text payload key → Holds node key allow s → IsChain chain → IsChain other → chain ≢ other
    → opened node other payload allow ≡ Ok o → alg_of key.alg ≡ Some alg
    → (aad key.id.0 chain ≢ aad key.id.0 other)
    × (tag alg (subkeys (secret alg key) (aad key.id.0 chain) (take 16 drawn)) (drop 16 drawn) (enciphered alg (subkeys (secret alg key) (aad key.id.0 chain) (take 16 drawn)).encryption (drop 16 drawn) text)
    ≡ tag alg (subkeys (secret alg key) (aad key.id.0 other) (take 16 drawn)) (drop 16 drawn) (enciphered alg (subkeys (secret alg key) (aad key.id.0 chain) (take 16 drawn)).encryption (drop 16 drawn) text))
one_chain ring node chain other drawn text payload key allow s o alg seals holds is_chain is_other differ e has =
    let by = sealed-by ring chain drawn text payload key seals in
    let one = some_same by.alg alg (sym by.alg_is ∙ has) in (
      λ same. differ (one_to_one key.id.0 key.id.0 chain other seals.id seals.id is_chain is_other same).1,
      subst (λ (a : Alg). tag a (subkeys (secret a key) (aad key.id.0 chain) (take 16 drawn)) (drop 16 drawn) (enciphered a (subkeys (secret a key) (aad key.id.0 chain) (take 16 drawn)).encryption (drop 16 drawn) text)
          ≡ tag a (subkeys (secret a key) (aad key.id.0 other) (take 16 drawn)) (drop 16 drawn) (enciphered a (subkeys (secret a key) (aad key.id.0 chain) (take 16 drawn)).encryption (drop 16 drawn) text)) one
          (tags by),
    )
  where
    tags : (by : SealedBy ring chain drawn text payload key)
        → tag by.alg (subkeys (secret by.alg key) (aad key.id.0 chain) (take 16 drawn)) (drop 16 drawn) (enciphered by.alg (subkeys (secret by.alg key) (aad key.id.0 chain) (take 16 drawn)).encryption (drop 16 drawn) text)
        ≡ tag by.alg (subkeys (secret by.alg key) (aad key.id.0 other) (take 16 drawn)) (drop 16 drawn) (enciphered by.alg (subkeys (secret by.alg key) (aad key.id.0 chain) (take 16 drawn)).encryption (drop 16 drawn) text)
    tags by =
        let front = drawn_front by.alg drawn by.len in
        let body = joined (sealed (secret by.alg key) (aad key.id.0 chain) (take 16 drawn) (drop 16 drawn) text) in
        let made = first_bytes ++ guid key.id.0 ++ body in
        let is = found-state node.list node.made_at key.id.0 s holds.held in
        let t = taken node other made allow o (ap (λ (p : List ℕ). opened node other p allow) (sym by.payload_is) ∙ e) in
        let same : t.s ≡ s = some_same t.s s (sym t.held ∙ looked-up node key body allow s seals.id holds) in
        let algs : t.alg ≡ by.alg = some_same t.alg by.alg (sym t.alg_is ∙ ap (λ (x : State). alg_of x.key.alg) same ∙ ap alg_of holds.alg ∙ by.alg_is) in
        let opens : open_body by.alg s.key other body ≡ Some o.plain =
        sym (ap (λ (a : Alg). open_body a t.s.key other (drop 20 made)) algs ∙ ap (λ (x : State). open_body by.alg x.key other (drop 20 made)) same ∙ ap (open_body by.alg s.key other) (body-of key.id.0 body)) ∙ t.body in
        same_tags by.alg key s.key chain (take 16 drawn) (drop 16 drawn) text front.0 front.1 (AreBytes-drop 16 drawn seals.drawn_are) holds.material is.key_id other o.plain opens
