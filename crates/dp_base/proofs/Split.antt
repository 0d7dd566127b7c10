-- Bytes as blocks, and blocks as bytes.
use Rattle.std.proofs.Common.{◌≡◌, ℕ, zero, suc, ◌*◌, ◌/◌, ◌%◌, ◌<◌, ◌≤◌, List, [], ◌∷◌, ◌++◌, length, take, drop, refl, sym, arith, lit<, length-append, length-drop}
use Rattle.std.proofs.lemmas.List.{length-take-le, take-append-drop, take_at, drop_at, nil_from_length}
use Rattle.std.specs.List.{concat}
use Rattle.dp_base.specs.Blocks.{AreBytes, IsBlock}
use Rattle.dp_base.specs.Split.{first_blocks, blocks}
use Rattle.dp_base.proofs.Parts.{AreBytes-take, AreBytes-drop, AreBytes-append}

-- each is a block
abbrev pub AreBlocks : List (List ℕ) → Type 0
AreBlocks [] = Unit {0}
AreBlocks (b ∷ bs) = IsBlock b × AreBlocks bs

pub blocks-cons : (bytes : List ℕ) → 16 ≤ length bytes → blocks bytes ≡ take 16 bytes ∷ blocks (drop 16 bytes)
blocks-cons bytes le =
    let rest = length-drop 16 bytes in
    let count : length bytes / 16 ≡ suc (length (drop 16 bytes) / 16) = omega arith in
    rw count

pub blocks-short : (bytes : List ℕ) → length bytes < 16 → blocks bytes ≡ []
blocks-short bytes lt =
    let count : length bytes / 16 ≡ 0 = omega arith in
    rw count

concat-first_blocks : (n : ℕ) (bytes : List ℕ) → length bytes ≡ 16 * n → concat (first_blocks n bytes) ≡ bytes
concat-first_blocks zero bytes e = sym (nil_from_length bytes (omega arith))
concat-first_blocks (suc n) bytes e =
    let rest = concat-first_blocks n (drop 16 bytes) (simp length-drop (omega arith)) in
    rw rest (take-append-drop 16 bytes)

-- whole blocks joined again
pub concat-blocks : (bytes : List ℕ) → length bytes % 16 ≡ 0 → concat (blocks bytes) ≡ bytes
concat-blocks bytes whole = concat-first_blocks (length bytes / 16) bytes (omega arith)

-- blocks that were joined
pub blocks-concat : (bs : List (List ℕ)) → AreBlocks bs → blocks (concat bs) ≡ bs
blocks-concat [] p = refl
blocks-concat (b ∷ bs) p =
    let here = p.0.0 in
    let n = length-append b (concat bs) in
    let step = blocks-cons (b ++ concat bs) (omega arith) in
    rw (step, take_at b (concat bs) 16 here, drop_at b (concat bs) 16 here, blocks-concat bs p.1)

pub length-concat : (bs : List (List ℕ)) → AreBlocks bs → length (concat bs) ≡ 16 * length bs
length-concat [] p = refl
length-concat (b ∷ bs) p =
    let here = p.0.0 in
    let rest = length-concat bs p.1 in
    let n = length-append b (concat bs) in
    omega arith

AreBlocks-first_blocks : (n : ℕ) (bytes : List ℕ) → length bytes ≡ 16 * n → AreBytes bytes → AreBlocks (first_blocks n bytes)
AreBlocks-first_blocks zero bytes e p = tt
AreBlocks-first_blocks (suc n) bytes e p = (
  (length-take-le 16 bytes (omega arith), AreBytes-take 16 bytes p),
  AreBlocks-first_blocks n (drop 16 bytes) (simp length-drop (omega arith)) (AreBytes-drop 16 bytes p),
)

pub AreBlocks-blocks : (bytes : List ℕ) → length bytes % 16 ≡ 0 → AreBytes bytes → AreBlocks (blocks bytes)
AreBlocks-blocks bytes whole p = AreBlocks-first_blocks (length bytes / 16) bytes (omega arith) p

pub AreBytes-concat : (bs : List (List ℕ)) → AreBlocks bs → AreBytes (concat bs)
AreBytes-concat [] p = λ i. lit< tt
AreBytes-concat (b ∷ bs) p = AreBytes-append b (concat bs) p.0.1 (AreBytes-concat bs p.1)
