-- Input that is made of whole frames is never refused.
use Rattle.std.proofs.Common.{◌≡◌, ℕ, ◌+◌, ◌≤◌, List, [], ◌∷◌, ◌++◌, length, take, drop, Option, Some, None, IfSome, IsSome, refl, sym, ap, subst, ◌∙◌, append_assoc, arith}
use Rattle.std.specs.Int.{w32, to_be_bytes, from_be_bytes}
use Rattle.std.specs.Io.KnownBytes.{Consumes}
use Rattle.std.proofs.lemmas.Bool.{le-ltb}
use Rattle.std.proofs.lemmas.List.{length-append, take_at}
use Rattle.std.proofs.lemmas.Nat.{from_be_bytes-to_be_bytes_4}
use Rattle.dp_wire.specs.Frame.{frame, IsBodyLen}
use Rattle.dp_wire.proofs.Frames.{frames as same_frames}
use Rattle.dp_session.specs.declared.end.BadPlace.{BadPlace}
use Rattle.dp_session.specs.declared.end.BadWhy.{BadWhy}
use Rattle.dp_session.specs.declared.end.BadWhy.TheVariants.{Element, TooMany, Zero, TooLarge, Cut}
use Rattle.dp_session.specs.declared.session.TheConstants.{MAX_REQUESTS}
use Rattle.dp_session.specs.declared.status.Status.{Status}
use Rattle.dp_session.specs.declared.status.Status.TheVariants as status
use Rattle.dp_session.specs.Frames.{frames, AreBodies, AreWhole, IsBadFrame, RefusesFrame, head_len, frame_len}
use Rattle.dp_session.specs.Session.{Outside, IsSession, EndsInput, IsSpentEnd}
use Rattle.dp_session.proofs.Exchanges.{length-frame}
use Rattle.dp_session.proofs.Sessions.{same_lengths}

-- what is left behind frames of the bytes is the frames of the bodies behind theirs
record Behind (bs bodies : List (List ℕ)) (rest : List ℕ) : Type 0 where
  more : List (List ℕ)
  fit : AreBodies more
  count : length bs ≡ length bodies + length more
  bytes : rest ≡ frames more

behind : (bs bodies : List (List ℕ)) (rest : List ℕ) → AreBodies bs → AreBodies bodies → frames bs ≡ frames bodies ++ rest → Behind bs bodies rest
behind bs [] rest p q e = record { more = bs; fit = p; count = omega arith; bytes = sym e }
behind [] (b ∷ bodies) rest p q e =
    absurd (omega (arith, ap length e, length-append (frame b ++ frames bodies) rest, length-append (frame b) (frames bodies), length-frame b))
behind (c ∷ bs) (b ∷ bodies) rest p q e =
    let both = same_frames c b (frames bs) (frames bodies ++ rest) (omega (arith, p.0.1)) (omega (arith, q.0.1)) (e ∙ append_assoc (frame b) (frames bodies) rest) in
    let r = behind bs bodies rest p.1 q.1 both.1 in
    record { more = r.more; fit = r.fit; count = omega (arith, r.count); bytes = r.bytes }

frame_head : (m : List ℕ) (rest : List ℕ) → IsBodyLen (length m) → head_len (frame m ++ rest) ≡ length m
unfolding frame
frame_head m rest fits =
    ap (λ (t : List ℕ). from_be_bytes w32 (take 4 t)) (append_assoc (to_be_bytes w32 (length m)) m rest)
    ∙ ap (from_be_bytes w32) (take_at (to_be_bytes w32 (length m)) (m ++ rest) 4 refl)
    ∙ from_be_bytes-to_be_bytes_4 (length m) (omega (arith, fits.1))

never_bad : (more : List (List ℕ)) (why : BadWhy) → AreBodies more → IsBadFrame (frames more) why → ⊥
never_bad more (Element why) p bad = bad
never_bad more TooMany p bad = bad
never_bad [] Zero p bad = absurd (omega (arith, bad.0))
never_bad [] (TooLarge len) p bad = absurd (omega (arith, bad.0))
never_bad [] (Cut have want) p bad = absurd (omega (arith, bad.0, bad.1))
never_bad (m ∷ more) Zero p bad = absurd (omega (arith, bad.1, frame_head m (frames more) p.0, p.0.0))
never_bad (m ∷ more) (TooLarge len) p bad = absurd (omega (arith, bad.1.0, bad.1.1, frame_head m (frames more) p.0, p.0.1))
never_bad (m ∷ more) (Cut have want) p bad =
    let all : length (frames (m ∷ more)) ≡ (4 + length m) + length (frames more) = omega (arith, length-append (frame m) (frames more), length-frame m) in
    let whole : frame_len (frames (m ∷ more)) ≡ 4 + length m = rw (le-ltb (length (frames (m ∷ more))) 4 (omega (arith, all))) (ap (λ n. 4 + n) (frame_head m (frames more) p.0)) in
    absurd (omega (arith, bad.0, bad.2, bad.3, all, whole))

left_of : (left : Option (List ℕ)) (bytes taken : List ℕ) → Consumes (Some bytes) left taken → (rest : List ℕ) × (left ≡ Some rest) × (bytes ≡ taken ++ rest)
left_of None bytes taken p = absurd p
left_of (Some rest) bytes taken p = (rest, refl, p)

not_bad : (bad : Option BadPlace) (place : ℕ) (left after : Option (List ℕ)) (rest : List ℕ) → left ≡ Some rest → IsSome bad → EndsInput status.BadInput bad place left after → (b : BadPlace) × IsBadFrame rest b.why
not_bad None place left after rest e some h = absurd cc
not_bad (Some b) place left after rest e some h = (b, (subst (λ (o : Option (List ℕ)). RefusesFrame b.why o after) e h.1).0)

no_frames : (more : List (List ℕ)) → length more ≡ 0 → length (frames more) ≡ 0
no_frames [] e = refl
no_frames (m ∷ more) e = absurd (omega (arith, e))

-- a session over whole frames that aren't too many is never refused its input, and never spent
pub whole_input : (app : List ℕ) (st : Status) (bad : Option BadPlace) (old new : Outside) → IsSession app st bad old new → (st ≡ status.BadInput → IsSome bad) → (st ≡ status.Spent → length new.entries ≡ MAX_REQUESTS)
    → IfSome old.input (λ bytes. AreWhole MAX_REQUESTS bytes → (st ≡ status.BadInput → ⊥) × (st ≡ status.Spent → ⊥))
whole_input app st bad old new s named spent = over old.input refl
  where
    over : (input : Option (List ℕ)) → old.input ≡ input → IfSome input (λ bytes. AreWhole MAX_REQUESTS bytes → (st ≡ status.BadInput → ⊥) × (st ≡ status.Spent → ⊥))
    over None e = tt
    over (Some bytes) e = λ whole.
        let r = left_of s.left bytes (frames s.bodies) (subst (λ (o : Option (List ℕ)). Consumes o s.left (frames s.bodies)) e s.read) in
        let b = behind whole.0 s.bodies r.0 whole.1 s.fit (sym whole.3 ∙ r.2) in (
          λ is.
              let ends = subst (λ (x : Status). EndsInput x bad (length (frames s.bodies)) s.left new.input) is s.ends in
              let n = not_bad bad _ s.left new.input r.0 r.1 (named is) ends in
              never_bad b.more n.0.why b.fit (subst (λ (t : List ℕ). IsBadFrame t n.0.why) b.bytes n.1),
          λ is.
              let ends = subst (λ (x : Status). EndsInput x bad (length (frames s.bodies)) s.left new.input) is s.ends in
              let left = subst (λ (o : Option (List ℕ)). IfSome o (λ t. (1 ≤ length t) × (new.input ≡ Some (drop 1 t)))) r.1 ends in
              let none : length b.more ≡ 0 = omega (arith, b.count, whole.2, spent is, same_lengths s.bodies new.entries old.state new.state s.chain) in
              omega (arith, left.0, ap length b.bytes, no_frames b.more none),
        )

-- behind its last request a session isn't refused its input
pub spent_bad : (st : Status) → IsSpentEnd st → st ≡ status.BadInput → ⊥
spent_bad st is e = subst IsSpentEnd e is
