-- A body that is read is that of the request, and the body of a request is read.
use Rattle.std.proofs.Common.{◌≡◌, ℕ, zero, suc, List, [], ◌∷◌, ◌++◌, length, Result, Ok, Err, IfOk, refl, sym, ap, subst, ◌∙◌, append_assoc}
use Rattle.std.proofs.lemmas.List.{append-nil}
use Rattle.dp_base.specs.Blocks.{AreBytes}
use Rattle.dp_base.specs.Readers.{seen}
use Rattle.dp_base.specs.Guid.{guid, id_of_guid}
use Rattle.dp_base.proofs.Guid.{guid-id_of_guid, id_of_guid-guid, length-guid, id_of_guid-below}
use Rattle.dp_base.proofs.Parts.{AreBytes-drop}
use Rattle.key_elements.specs.Record.{reason_field}
use Rattle.key_elements.proofs.Fields.{reason_again}
use Rattle.dp_wire.specs.declared.request.BadRequest.{BadRequest}
use Rattle.dp_wire.specs.declared.request.RequestView.{RequestView}
use Rattle.dp_wire.specs.Request.{Request, request_of, Ring, Roll, Revoke, RevokeBefore, Protect, Unprotect, ProtectText, UnprotectText, ProtectTimed, UnprotectTimed, field, sealing_fields, body_of, IsRequest, IsBody}
use Rattle.dp_wire.specs.Reading.{◌>>=◌, bytes_at, number_at, code_at, text_at, ends, ring_at, roll_at, revoke_at, revoke_before_at, whole_text_at, sealing_at, opening_at, protect_at, unprotect_at, protect_text_at, unprotect_text_at, protect_timed_at, unprotect_timed_at, request_at}
use Rattle.dp_wire.proofs.Fields.{bind_ok, then, bytes_takes, bytes_again, number_takes, number_again, code_takes, code_again, text_takes, whole_text_takes, whole_text_again, ends_ok}
use Rattle.dp_wire.proofs.Sealings.{sealing_takes, sealing_again, opening_takes, opening_again}

abbrev Reads : Type 0
Reads = Result Request BadRequest

-- fields that end the body
ended : (bytes front rest : List ℕ) → bytes ≡ front ++ rest → rest ≡ [] → bytes ≡ front
ended bytes front rest parts none = parts ∙ ap (λ (t : List ℕ). front ++ t) none ∙ append-nil front

abbrev HasFields : ℕ → List ℕ → Request → Type 0
HasFields kind rest q = IsBody (kind ∷ rest) q

-- ---- RING

ring_found : (len : ℕ) (rest : List ℕ) (q : Request) → AreBytes rest → ring_at len rest ≡ Ok q → HasFields 1 rest q
unfolding ring_at
ring_found len rest q fits e =
    let b = bind_ok (number_at len rest) (λ n. ends len (Ring n.0) n.1) q e in
    let t = number_takes len rest b.0 fits b.1 in
    let end = ends_ok len (Ring b.0.0) b.0.1 q b.2 in
    subst (λ (p : Request). HasFields 1 rest p) end.1 (t.small, ap (λ (x : List ℕ). 1 ∷ x) (ended rest (field b.0.0) b.0.1 t.takes.parts end.0))

-- ---- ROLL

roll_found : (len : ℕ) (rest : List ℕ) (q : Request) → AreBytes rest → roll_at len rest ≡ Ok q → HasFields 2 rest q
unfolding roll_at
roll_found len rest q fits e =
    let b0 = bind_ok (number_at len rest) (λ a. number_at len a.1 >>= (λ x. code_at len x.1 >>= (λ c. ends len (Roll a.0 x.0 c.0) c.1))) q e in
    let t0 = number_takes len rest b0.0 fits b0.1 in
    let b1 = bind_ok (number_at len b0.0.1) (λ x. code_at len x.1 >>= (λ c. ends len (Roll b0.0.0 x.0 c.0) c.1)) q b0.2 in
    let t1 = number_takes len b0.0.1 b1.0 t0.takes.rest_fits b1.1 in
    let b2 = bind_ok (code_at len b1.0.1) (λ c. ends len (Roll b0.0.0 b1.0.0 c.0) c.1) q b1.2 in
    let t2 = code_takes len b1.0.1 b2.0 t1.takes.rest_fits b2.1 in
    let end = ends_ok len (Roll b0.0.0 b1.0.0 b2.0.0) b2.0.1 q b2.2 in
    let two = then rest (field b0.0.0) b0.0.1 (field b1.0.0) b1.0.1 t0.takes.parts t1.takes.parts in
    let three = then rest (field b0.0.0 ++ field b1.0.0) b1.0.1 (b2.0.0 ∷ []) b2.0.1 two t2.takes.parts in
    subst (λ (p : Request). HasFields 2 rest p) end.1
    ((t0.small, t1.small, t2.code), ap (λ (x : List ℕ). 2 ∷ x) (ended rest ((field b0.0.0 ++ field b1.0.0) ++ b2.0.0 ∷ []) b2.0.1 three end.0 ∙ append_assoc (field b0.0.0) (field b1.0.0) (b2.0.0 ∷ [])))

-- ---- REVOKE

revoke_found : (len : ℕ) (rest : List ℕ) (q : Request) → AreBytes rest → revoke_at len rest ≡ Ok q → HasFields 3 rest q
unfolding revoke_at
revoke_found len rest q fits e =
    let b0 = bind_ok (bytes_at len 16 rest) (λ id. text_at len id.1 >>= (λ r. ends len (Revoke (id_of_guid id.0) r.0) r.1)) q e in
    let t0 = bytes_takes len 16 rest b0.0 fits b0.1 in
    let b1 = bind_ok (text_at len b0.0.1) (λ r. ends len (Revoke (id_of_guid b0.0.0) r.0) r.1) q b0.2 in
    let t1 = text_takes len b0.0.1 b1.0 t0.takes.rest_fits b1.1 in
    let end = ends_ok len (Revoke (id_of_guid b0.0.0) b1.0.0) b1.0.1 q b1.2 in
    let same : b0.0.0 ≡ guid (id_of_guid b0.0.0) = sym (guid-id_of_guid b0.0.0 t0.len t0.front_fits) in
    let head : rest ≡ guid (id_of_guid b0.0.0) ++ b0.0.1 = t0.takes.parts ∙ ap (λ (x : List ℕ). x ++ b0.0.1) same in
    let two = then rest (guid (id_of_guid b0.0.0)) b0.0.1 (reason_field b1.0.0) b1.0.1 head t1.takes.parts in
    subst (λ (p : Request). HasFields 3 rest p) end.1
    ((id_of_guid-below b0.0.0 t0.front_fits, t1.reason), ap (λ (x : List ℕ). 3 ∷ x) (ended rest (guid (id_of_guid b0.0.0) ++ reason_field b1.0.0) b1.0.1 two end.0))

-- ---- REVOKE_BEFORE

before_found : (len : ℕ) (rest : List ℕ) (q : Request) → AreBytes rest → revoke_before_at len rest ≡ Ok q → HasFields 4 rest q
unfolding revoke_before_at
before_found len rest q fits e =
    let b0 = bind_ok (number_at len rest) (λ d. text_at len d.1 >>= (λ r. ends len (RevokeBefore d.0 r.0) r.1)) q e in
    let t0 = number_takes len rest b0.0 fits b0.1 in
    let b1 = bind_ok (text_at len b0.0.1) (λ r. ends len (RevokeBefore b0.0.0 r.0) r.1) q b0.2 in
    let t1 = text_takes len b0.0.1 b1.0 t0.takes.rest_fits b1.1 in
    let end = ends_ok len (RevokeBefore b0.0.0 b1.0.0) b1.0.1 q b1.2 in
    let two = then rest (field b0.0.0) b0.0.1 (reason_field b1.0.0) b1.0.1 t0.takes.parts t1.takes.parts in
    subst (λ (p : Request). HasFields 4 rest p) end.1
    ((t0.small, t1.reason), ap (λ (x : List ℕ). 4 ∷ x) (ended rest (field b0.0.0 ++ reason_field b1.0.0) b1.0.1 two end.0))

-- ---- PROTECT and the kinds like it

protect_found : (len : ℕ) (rest : List ℕ) (q : Request) → AreBytes rest → protect_at len rest ≡ Ok q → HasFields 5 rest q
unfolding protect_at
protect_found len rest q fits e =
    let b = bind_ok (sealing_at len rest) (λ s. Ok (Protect s.0 s.1 s.2)) q e in
    let t = sealing_takes len rest b.0 fits b.1 in
    let same : Protect b.0.0 b.0.1 b.0.2 ≡ q = cc b.2 in
    subst (λ (p : Request). HasFields 5 rest p) same ((t.is, t.takes.rest_fits), ap (λ (x : List ℕ). 5 ∷ x) t.takes.parts)

protect_text_found : (len : ℕ) (rest : List ℕ) (q : Request) → AreBytes rest → protect_text_at len rest ≡ Ok q → HasFields 7 rest q
unfolding protect_text_at
protect_text_found len rest q fits e =
    let b0 = bind_ok (sealing_at len rest) (λ s. whole_text_at len s.2 >>= (λ text. Ok (ProtectText s.0 s.1 text))) q e in
    let t0 = sealing_takes len rest b0.0 fits b0.1 in
    let b1 = bind_ok (whole_text_at len b0.0.2) (λ text. Ok (ProtectText b0.0.0 b0.0.1 text)) q b0.2 in
    let t1 = whole_text_takes len b0.0.2 b1.0 b1.1 in
    let same : ProtectText b0.0.0 b0.0.1 b1.0 ≡ q = cc b1.2 in
    let parts : rest ≡ sealing_fields b0.0.0 b0.0.1 ++ b1.0 = t0.takes.parts ∙ ap (λ (x : List ℕ). sealing_fields b0.0.0 b0.0.1 ++ x) t1.0 in
    subst (λ (p : Request). HasFields 7 rest p) same ((t0.is, t1.1), ap (λ (x : List ℕ). 7 ∷ x) parts)

protect_timed_found : (len : ℕ) (rest : List ℕ) (q : Request) → AreBytes rest → protect_timed_at len rest ≡ Ok q → HasFields 9 rest q
unfolding protect_timed_at
protect_timed_found len rest q fits e =
    let b0 = bind_ok (sealing_at len rest) (λ s. number_at len s.2 >>= (λ x. Ok (ProtectTimed s.0 s.1 x.0 x.1))) q e in
    let t0 = sealing_takes len rest b0.0 fits b0.1 in
    let b1 = bind_ok (number_at len b0.0.2) (λ x. Ok (ProtectTimed b0.0.0 b0.0.1 x.0 x.1)) q b0.2 in
    let t1 = number_takes len b0.0.2 b1.0 t0.takes.rest_fits b1.1 in
    let same : ProtectTimed b0.0.0 b0.0.1 b1.0.0 b1.0.1 ≡ q = cc b1.2 in
    let two = then rest (sealing_fields b0.0.0 b0.0.1) b0.0.2 (field b1.0.0) b1.0.1 t0.takes.parts t1.takes.parts in
    subst (λ (p : Request). HasFields 9 rest p) same ((t0.is, t1.small, t1.takes.rest_fits), ap (λ (x : List ℕ). 9 ∷ x) two)

-- ---- UNPROTECT and the kinds like it

unprotect_found : (len : ℕ) (rest : List ℕ) (q : Request) → AreBytes rest → unprotect_at len rest ≡ Ok q → HasFields 6 rest q
unfolding unprotect_at
unprotect_found len rest q fits e =
    let b = bind_ok (opening_at len rest) (λ o. Ok (Unprotect o.0 o.1 o.2 o.3)) q e in
    let t = opening_takes len rest b.0 fits b.1 in
    let same : Unprotect b.0.0 b.0.1 b.0.2 b.0.3 ≡ q = cc b.2 in
    subst (λ (p : Request). HasFields 6 rest p) same ((t.is, t.takes.rest_fits), ap (λ (x : List ℕ). 6 ∷ x) t.takes.parts)

unprotect_text_found : (len : ℕ) (rest : List ℕ) (q : Request) → AreBytes rest → unprotect_text_at len rest ≡ Ok q → HasFields 8 rest q
unfolding unprotect_text_at
unprotect_text_found len rest q fits e =
    let b = bind_ok (opening_at len rest) (λ o. Ok (UnprotectText o.0 o.1 o.2 o.3)) q e in
    let t = opening_takes len rest b.0 fits b.1 in
    let same : UnprotectText b.0.0 b.0.1 b.0.2 b.0.3 ≡ q = cc b.2 in
    subst (λ (p : Request). HasFields 8 rest p) same ((t.is, t.takes.rest_fits), ap (λ (x : List ℕ). 8 ∷ x) t.takes.parts)

unprotect_timed_found : (len : ℕ) (rest : List ℕ) (q : Request) → AreBytes rest → unprotect_timed_at len rest ≡ Ok q → HasFields 10 rest q
unfolding unprotect_timed_at
unprotect_timed_found len rest q fits e =
    let b = bind_ok (opening_at len rest) (λ o. Ok (UnprotectTimed o.0 o.1 o.2 o.3)) q e in
    let t = opening_takes len rest b.0 fits b.1 in
    let same : UnprotectTimed b.0.0 b.0.1 b.0.2 b.0.3 ≡ q = cc b.2 in
    subst (λ (p : Request). HasFields 10 rest p) same ((t.is, t.takes.rest_fits), ap (λ (x : List ℕ). 10 ∷ x) t.takes.parts)

-- a body that is read is that of the request
pub found : (body : List ℕ) (q : Request) → AreBytes body → request_at body ≡ Ok q → IsBody body q
unfolding request_at
found [] q fits e = absurd cc
found (zero ∷ rest) q fits e = absurd cc
found (suc zero ∷ rest) q fits e = ring_found (suc (length rest)) rest q (AreBytes-drop 1 (1 ∷ rest) fits) e
found (suc (suc zero) ∷ rest) q fits e = roll_found (suc (length rest)) rest q (AreBytes-drop 1 (2 ∷ rest) fits) e
found (suc (suc (suc zero)) ∷ rest) q fits e = revoke_found (suc (length rest)) rest q (AreBytes-drop 1 (3 ∷ rest) fits) e
found (suc (suc (suc (suc zero))) ∷ rest) q fits e = before_found (suc (length rest)) rest q (AreBytes-drop 1 (4 ∷ rest) fits) e
found (suc (suc (suc (suc (suc zero)))) ∷ rest) q fits e = protect_found (suc (length rest)) rest q (AreBytes-drop 1 (5 ∷ rest) fits) e
found (suc (suc (suc (suc (suc (suc zero))))) ∷ rest) q fits e = unprotect_found (suc (length rest)) rest q (AreBytes-drop 1 (6 ∷ rest) fits) e
found (suc (suc (suc (suc (suc (suc (suc zero)))))) ∷ rest) q fits e = protect_text_found (suc (length rest)) rest q (AreBytes-drop 1 (7 ∷ rest) fits) e
found (suc (suc (suc (suc (suc (suc (suc (suc zero))))))) ∷ rest) q fits e = unprotect_text_found (suc (length rest)) rest q (AreBytes-drop 1 (8 ∷ rest) fits) e
found (suc (suc (suc (suc (suc (suc (suc (suc (suc zero)))))))) ∷ rest) q fits e = protect_timed_found (suc (length rest)) rest q (AreBytes-drop 1 (9 ∷ rest) fits) e
found (suc (suc (suc (suc (suc (suc (suc (suc (suc (suc zero))))))))) ∷ rest) q fits e = unprotect_timed_found (suc (length rest)) rest q (AreBytes-drop 1 (10 ∷ rest) fits) e
found (suc (suc (suc (suc (suc (suc (suc (suc (suc (suc (suc kind)))))))))) ∷ rest) q fits e = absurd cc

-- nothing follows
none : (len : ℕ) (q : Request) → ends len q [] ≡ Ok q
unfolding ends
none len q = refl

-- the body of a request is read
pub again : (q : Request) → IsRequest q → request_at (body_of q) ≡ Ok q
unfolding request_at ring_at roll_at revoke_at revoke_before_at text_at protect_at unprotect_at protect_text_at unprotect_text_at protect_timed_at unprotect_timed_at
again (Ring need) is =
    ap (ring_at (suc (length (field need)))) (sym (append-nil (field need))) ∙ rw (number_again _ need [] is, none) refl
again (Roll a x c) is =
    rw (number_again _ a (field x ++ c ∷ []) is.0, number_again _ x (c ∷ []) is.1, code_again _ c [] is.2, none) refl
again (Revoke id text) is =
    ap (λ (t : List ℕ). revoke_at (suc (length (guid id ++ reason_field text))) (guid id ++ t)) (sym (append-nil (reason_field text)))
    ∙ rw (bytes_again _ 16 (guid id) (reason_field text ++ []) (length-guid id), reason_again text [] is.1, id_of_guid-guid id is.0, none) refl
again (RevokeBefore d text) is =
    ap (λ (t : List ℕ). revoke_before_at (suc (length (field d ++ reason_field text))) (field d ++ t)) (sym (append-nil (reason_field text)))
    ∙ rw (number_again _ d (reason_field text ++ []) is.0, reason_again text [] is.1, none) refl
again (Protect need chain plain) is = rw (sealing_again _ need chain plain is.0) refl
again (Unprotect need allow chain payload) is = rw (opening_again _ need allow chain payload is.0) refl
again (ProtectText need chain text) is = rw (sealing_again _ need chain text is.0, whole_text_again _ text is.1) refl
again (UnprotectText need allow chain text) is = rw (opening_again _ need allow chain text is.0) refl
again (ProtectTimed need chain expiry plain) is =
    rw (append_assoc (sealing_fields need chain) (field expiry) plain, sealing_again _ need chain (field expiry ++ plain) is.0, number_again _ expiry plain is.1) refl
again (UnprotectTimed need allow chain payload) is = rw (opening_again _ need allow chain payload is.0) refl

-- so is the view that was read
pub found_view : (body : List ℕ) (r : Result RequestView BadRequest) → AreBytes body → seen request_of r ≡ request_at body → IfOk r (λ view. IsBody body (request_of view))
found_view body (Ok view) fits e = found body (request_of view) fits (sym e)
found_view body (Err bad) fits e = tt
