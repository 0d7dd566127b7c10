-- Frames that begin alike.
use Rattle.std.proofs.Common.{◌≡◌, ℕ, ◌<◌, ◌^◌, List, ◌++◌, length, take, drop, refl, sym, ap, ◌∙◌, append_assoc}
use Rattle.std.specs.Int.{w32, to_be_bytes, from_be_bytes}
use Rattle.std.proofs.lemmas.List.{take_at, drop_at}
use Rattle.std.proofs.lemmas.Nat.{from_be_bytes-to_be_bytes_4}
use Rattle.dp_wire.specs.Frame.{frame}

-- lists that go on alike behind fronts of one length
fronts : {X : Type 0} (n : ℕ) (a b x y : List X) → length a ≡ n → length b ≡ n → a ++ x ≡ b ++ y → (a ≡ b) × (x ≡ y)
fronts n a b x y p q e = (
  sym (take_at a x n p) ∙ ap (take n) e ∙ take_at b y n q,
  sym (drop_at a x n p) ∙ ap (drop n) e ∙ drop_at b y n q,
)

pub frames : (a b x y : List ℕ) → length a < 2 ^ 32 → length b < 2 ^ 32 → frame a ++ x ≡ frame b ++ y → (a ≡ b) × (x ≡ y)
unfolding frame
frames a b x y p q e =
    let head = fronts 4 (to_be_bytes w32 (length a)) (to_be_bytes w32 (length b)) (a ++ x) (b ++ y) refl refl
    (sym (append_assoc (to_be_bytes w32 (length a)) a x) ∙ e ∙ append_assoc (to_be_bytes w32 (length b)) b y) in
    let len : length a ≡ length b = sym (from_be_bytes-to_be_bytes_4 (length a) p) ∙ ap (from_be_bytes w32) head.0 ∙ from_be_bytes-to_be_bytes_4 (length b) q in
    fronts (length b) a b x y len refl head.1
