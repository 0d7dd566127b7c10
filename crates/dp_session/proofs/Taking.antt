-- Reading a frame: what was taken from the input.
use Rattle.std.proofs.Common.{◌≡◌, ◌↔◌, ℕ, ◌+◌, ◌<◌, ◌≤◌, List, [], ◌∷◌, ◌++◌, length, take, drop, Option, Some, None, IfSome, Result, Ok, Err, refl, sym, ap, subst, ◌∙◌, append_assoc, arith}
use Rattle.std.specs.Int.{w32, to_be_bytes, from_be_bytes}
use Rattle.std.specs.Io.KnownBytes.{Consumes}
use Rattle.std.proofs.lemmas.Bool.{le-ltb, lt-ltb}
use Rattle.std.proofs.lemmas.List.{length-append, length-take, take_all, drop_all, take_at, drop_at, take-append-drop}
use Rattle.std.proofs.lemmas.Nat.{from_be_bytes-to_be_bytes_4}
use Rattle.std.proofs.Math.Seq.{drop-append-add}
use Rattle.dp_base.specs.Transfer.{TakesFront, TakesFewer}
use Rattle.dp_base.proofs.KnownBytes.{Consumes-both}
use Rattle.dp_wire.specs.Frame.{frame, IsBodyLen}
use Rattle.dp_wire.specs.declared.frame.TheConstants.{MAX_BODY}
use Rattle.dp_wire.specs.declared.frame.FrameRefused.{FrameRefused}
use Rattle.dp_wire.specs.declared.frame.FrameRefused.TheVariants as refused
use Rattle.dp_session.specs.declared.end.BadWhy.{BadWhy}
use Rattle.dp_session.specs.declared.end.BadWhy.TheVariants.{Element, TooMany, Cut, TooLarge, Zero}
use Rattle.dp_session.specs.declared.reading.Body.{Body}
use Rattle.dp_session.specs.declared.reading.Frame.TheVariants as read
use Rattle.dp_session.specs.declared.reading.Unread.{Unread}
use Rattle.dp_session.specs.declared.reading.Unread.TheVariants as unread
use Rattle.dp_session.specs.Frames.{IsBadLen, why_of, IsBadFrame, RefusesFrame, IsPart, TakesPart, ReadsBody, ReadsFrame, head_len, frame_len, rest_behind}

-- bytes were taken, and then fewer than so many more
pub TakesFewer-after : (a b c : Option (List ℕ)) (xs : List ℕ) (k n : ℕ) → Consumes a b xs → TakesFewer k b c → length xs + k ≤ n → TakesFewer n a c
TakesFewer-after None b c xs k n p q le = tt
TakesFewer-after (Some l) None c xs k n p q le = absurd p
TakesFewer-after (Some l) (Some m) c xs k n p q le = (
  length xs + q.0,
  omega (arith, q.1),
  omega (arith, q.2, ap length p, length-append xs m),
  q.3 ∙ ap Some (sym (ap (drop (length xs + q.0)) p ∙ drop-append-add xs m q.0)),
)

-- bytes were taken, and then all that was left
pub TakesFront-after : (a b c : Option (List ℕ)) (xs ys : List ℕ) (k n : ℕ) → Consumes a b xs → TakesFront k b c ys → length xs + k ≤ n → length ys < k → TakesFront n a c (xs ++ ys)
TakesFront-after None b c xs ys k n p q le lt = tt
TakesFront-after (Some l) None c xs ys k n p q le lt = absurd p
TakesFront-after (Some l) (Some m) c xs ys k n p q le lt =
    let few : length m ≤ k = omega (arith, ap length q.0, length-take k m) in
    let whole : length l ≤ n = omega (arith, ap length p, length-append xs m) in (
      ap (λ (t : List ℕ). xs ++ t) (q.0 ∙ take_all k m few) ∙ sym p ∙ sym (take_all n l whole),
      q.1 ∙ ap Some (drop_all k m few ∙ sym (drop_all n l whole)),
    )

-- as many bytes as were asked for were taken
pub Consumes-front : (b c : Option (List ℕ)) (ys : List ℕ) (k : ℕ) → TakesFront k b c ys → Consumes b c ys
Consumes-front None c ys k p = tt
Consumes-front (Some m) c ys k p =
    subst (λ (o : Option (List ℕ)). Consumes (Some m) o ys) (sym p.1) (sym (take-append-drop k m) ∙ ap (λ (t : List ℕ). t ++ drop k m) (sym p.0))

-- fewer bytes came than were asked for
pub short_body_read : (left after : Option (List ℕ)) (bytes : List ℕ) (found len : ℕ) → TakesFront len left after bytes → length bytes ≡ found → found < len → IfSome left (λ l. (length l < len) × (Cut (4 + found) (4 + len) ≡ Cut (4 + length l) (4 + len)) × (after ≡ Some []))
short_body_read None after bytes found len p e lt = tt
short_body_read (Some l) after bytes found len p e lt =
    let n : found ≡ length l = omega (arith, ap length p.0, length-take len l) in
    (omega (arith, n), ap (λ m. Cut (4 + m) (4 + len)) n, p.1 ∙ ap Some (drop_all len l (omega (arith, n))))

-- the front of four bytes is the length of the body behind it
framed_as : (head body : List ℕ) (len : ℕ) → head ≡ to_be_bytes w32 len → length body ≡ len → head ++ body ≡ frame body
unfolding frame
framed_as head body len value same =
    ap (λ (t : List ℕ). t ++ body) (value ∙ ap (to_be_bytes w32) (sym same))

-- the length in front of bytes, and how many bytes it says that the frame has
head_says : (head t : List ℕ) (len : ℕ) → head ≡ to_be_bytes w32 len → IsBodyLen len → (head_len (head ++ t) ≡ len) × (frame_len (head ++ t) ≡ 4 + len) × (length (head ++ t) ≡ 4 + length t)
head_says head t len value body =
    let four : length head ≡ 4 = ap length value in
    let all : length (head ++ t) ≡ 4 + length t = omega (arith, length-append head t) in
    let front : head_len (head ++ t) ≡ len = ap (from_be_bytes w32) (take_at head t 4 four ∙ value) ∙ from_be_bytes-to_be_bytes_4 len (omega (arith, body.1)) in
    let whole : frame_len (head ++ t) ≡ 4 + len = rw (le-ltb (length (head ++ t)) 4 (omega (arith, all))) (ap (λ n. 4 + n) front) in
    (front, whole, all)

cut_at : (head l : List ℕ) (len : ℕ) (why : BadWhy) → head ≡ to_be_bytes w32 len → IsBodyLen len → length l < len → why ≡ Cut (4 + length l) (4 + len) → IsBadFrame (head ++ l) why
cut_at head l len why value body lt e =
    let s = head_says head l len value body in
    subst (IsBadFrame (head ++ l)) (sym e) (sym s.2, omega arith, omega arith, sym s.1, λ _. subst IsBodyLen (sym s.0) body)

-- fewer bytes than a length has are a part of a frame
short_part : (bytes : List ℕ) → length bytes < 4 → IsPart bytes
short_part bytes short = (rw (lt-ltb (length bytes) 4 short) short, λ four. absurd (omega (arith, short)))

-- a read of a length failed
pub part_of_head : (a b : Option (List ℕ)) (n : ℕ) → n ≤ 4 → TakesFewer n a b → TakesPart a b
part_of_head None b n le p = ([], short_part [] (omega arith), tt)
part_of_head (Some l) b n le p =
    (take p.0 l, short_part (take p.0 l) (omega (arith, p.1, length-take p.0 l)), subst (λ (o : Option (List ℕ)). Consumes (Some l) o (take p.0 l)) (sym p.3) (sym (take-append-drop p.0 l)))

-- a read of a body failed, behind a length that was read
part_behind : (a b c : Option (List ℕ)) (head : List ℕ) (len : ℕ) → head ≡ to_be_bytes w32 len → IsBodyLen len → Consumes a b head → TakesFewer len b c → TakesPart a c
part_behind None b c head len value fits p q = ([], short_part [] (omega arith), tt)
part_behind (Some l) None c head len value fits p q = absurd p
part_behind (Some l) (Some m) c head len value fits p q =
    let t = take q.0 m in
    let s = head_says head t len value fits in
    let all : l ≡ (head ++ t) ++ drop q.0 m = p ∙ ap (λ (x : List ℕ). head ++ x) (sym (take-append-drop q.0 m)) ∙ sym (append_assoc head t (drop q.0 m)) in (
      head ++ t,
      (omega (arith, s.1, s.2, q.1, length-take q.0 m), λ _. subst IsBodyLen (sym s.0) fits),
      subst (λ (o : Option (List ℕ)). Consumes (Some l) o (head ++ t)) (sym q.3) all,
    )

-- a body behind a head that was read
pub frame_of_body : (a b c : Option (List ℕ)) (head : List ℕ) (len : ℕ) → head ≡ to_be_bytes w32 len → IsBodyLen len → Consumes a b head → (body : Body) → ReadsBody len (Ok body) b c → ReadsFrame (Ok (read.Whole body)) a c
frame_of_body a b c head len value fits p body q =
    (q.0, subst IsBodyLen (sym q.1) fits, q.2, subst (Consumes a c) (framed_as head q.0 len value q.1) (Consumes-both a b c head q.0 p q.3))

-- a body that isn't all there, behind a head that was read
pub cut_behind : (a b c : Option (List ℕ)) (head : List ℕ) (len : ℕ) → head ≡ to_be_bytes w32 len → IsBodyLen len → Consumes a b head → (why : Unread) → ReadsBody len (Err why) b c → ReadsFrame (Err why) a c
cut_behind a b c head len value fits p unread.Failed q = part_behind a b c head len value fits p q
cut_behind None b c head len value fits p (unread.Bad why) q = tt
cut_behind (Some l) None c head len value fits p (unread.Bad why) q = absurd p
cut_behind (Some l) (Some m) c head len value fits p (unread.Bad why) q =
    (subst (λ (t : List ℕ). IsBadFrame t why) (sym p) (cut_at head m len why value fits q.0 q.1), q.2 ∙ ap (λ (w : BadWhy). Some (rest_behind w l)) (sym q.1))

bad_len : (n : ℕ) (l : List ℕ) (why : BadWhy) → 4 ≤ length l → n ≡ head_len l → IsBadLen n why → IsBadFrame l why
bad_len n l (Element w) four e bad = absurd bad
bad_len n l TooMany four e bad = absurd bad
bad_len n l Zero four e bad = (four, sym e ∙ bad)
bad_len n l (TooLarge len) four e bad = (four, (bad.0 ∙ e, bad.1))
bad_len n l (Cut have want) four e bad = absurd bad

bad_rest : (n : ℕ) (l m : List ℕ) (why : BadWhy) → IsBadLen n why → drop 4 l ≡ m → m ≡ rest_behind why l
bad_rest n l m (Element w) bad e = absurd bad
bad_rest n l m TooMany bad e = absurd bad
bad_rest n l m Zero bad e = sym e
bad_rest n l m (TooLarge len) bad e = sym e
bad_rest n l m (Cut have want) bad e = absurd bad

-- the head gives a length that no body has
pub bad_head : (a b : Option (List ℕ)) (head : List ℕ) (why : BadWhy) → length head ≡ 4 → Consumes a b head → IsBadLen (from_be_bytes w32 head) why → RefusesFrame why a b
bad_head None b head why four p bad = tt
bad_head (Some l) None head why four p bad = absurd p
bad_head (Some l) (Some m) head why four p bad =
    let front : head_len l ≡ from_be_bytes w32 head = ap (λ (t : List ℕ). from_be_bytes w32 (take 4 t)) p ∙ ap (from_be_bytes w32) (take_at head m 4 four) in
    let rest : drop 4 l ≡ m = ap (drop 4) p ∙ drop_at head m 4 four in
    (bad_len (from_be_bytes w32 head) l why (omega (arith, ap length p, length-append head m)) (sym front) bad, ap Some (bad_rest (from_be_bytes w32 head) l m why bad rest))

-- all of the head was read
pub whole_head : (a b : Option (List ℕ)) (head : List ℕ) (count : ℕ) → length head ≡ 4 → 4 ≤ count → TakesFront (length head) a b (take count head) → Consumes a b head
whole_head a b head count four all p =
    subst (Consumes a b) (take_all count head (omega (arith, four))) (Consumes-front a b (take count head) (length head) p)

-- the input ends in the head
pub cut_head : (a b : Option (List ℕ)) (bytes : List ℕ) (count : ℕ) → TakesFront 4 a b bytes → length bytes ≡ count → 0 < count → count < 4 → RefusesFrame (Cut count 4) a b
cut_head None b bytes count p e some lt = tt
cut_head (Some l) b bytes count p e some lt =
    let n : count ≡ length l = omega (arith, ap length p.0, length-take 4 l) in
    let short : length l < 4 = omega (arith, n) in
    ((n, some, lt, sym (rw (lt-ltb (length l) 4 short) refl), λ four. absurd (omega (arith, n))), p.1 ∙ ap Some (drop_all 4 l (omega (arith, n))))

-- the input ends
pub ended : (a b : Option (List ℕ)) (bytes : List ℕ) → TakesFront 4 a b bytes → length bytes ≡ 0 → IfSome a (λ l. (l ≡ []) × (b ≡ Some []))
ended None b bytes p e = tt
ended (Some l) b bytes p e =
    let none : length l ≡ 0 = omega (arith, ap length p.0, length-take 4 l) in
    (no_items l none, p.1 ∙ ap Some (drop_all 4 l (omega (arith, none))))
  where
    no_items : (xs : List ℕ) → length xs ≡ 0 → xs ≡ []
    no_items [] h = refl
    no_items (x ∷ xs) h = absurd (omega (arith, h))

-- the refusal of a length says what is wrong with it
pub bad_length : (n : ℕ) (r : Result ℕ FrameRefused) (why : FrameRefused) → r ≡ Err why → ((r ≡ Err refused.Zero) ↔ (n ≡ 0)) → ((m : ℕ) → (r ≡ Err (refused.TooLarge m)) ↔ ((m ≡ n) × (MAX_BODY < m))) → IsBadLen n (why_of why)
bad_length n r refused.Zero e z t = z.0 e
bad_length n r (refused.TooLarge m) e z t = (t m).0 e
