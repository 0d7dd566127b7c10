-- CBC decryption and encryption undo each other, where a cipher and its inverse do.
use Rattle.std.proofs.Common.{◌≡◌, ℕ, suc, ◌%◌, ◌<◌, ◌≤◌, List, [], ◌∷◌, ◌++◌, length, take, drop, refl, ap, arith}
use Rattle.dp_base.specs.Blocks.{AreBytes, IsBlock, xor_bytes}
use Rattle.dp_base.specs.Split.{blocks}
use Rattle.cbc_mode.specs.Cbc.{cbc, cbc_inverse, ciphertext, plaintext}
use Rattle.dp_base.proofs.Sums.{IsBlock-xor, xor_bytes-twice}
use Rattle.dp_base.proofs.Split.{AreBlocks, AreBlocks-blocks, blocks-cons, blocks-short, blocks-concat, concat-blocks, length-concat, AreBytes-concat}

-- f and g keep blocks blocks, and each undoes the other
pub record AreInverse (f g : List ℕ → List ℕ) : Type 0 where
  pub enciphers : (b : List ℕ) → IsBlock b → IsBlock (f b)
  pub deciphers : (b : List ℕ) → IsBlock b → IsBlock (g b)
  pub undoes : (b : List ℕ) → IsBlock b → g (f b) ≡ b
  pub redoes : (b : List ℕ) → IsBlock b → f (g b) ≡ b

-- ---- one block further

pub ciphertext-cons : (f : List ℕ → List ℕ) (before bytes : List ℕ) → 16 ≤ length bytes →
    ciphertext f before bytes ≡ f (xor_bytes (take 16 bytes) before) ++ ciphertext f (f (xor_bytes (take 16 bytes) before)) (drop 16 bytes)
ciphertext-cons f before bytes le = rw (blocks-cons bytes le)

pub plaintext-cons : (g : List ℕ → List ℕ) (before bytes : List ℕ) → 16 ≤ length bytes →
    plaintext g before bytes ≡ xor_bytes (g (take 16 bytes)) before ++ plaintext g (take 16 bytes) (drop 16 bytes)
plaintext-cons g before bytes le = rw (blocks-cons bytes le)

pub ciphertext-short : (f : List ℕ → List ℕ) (before bytes : List ℕ) → length bytes < 16 → ciphertext f before bytes ≡ []
ciphertext-short f before bytes lt = rw (blocks-short bytes lt)

pub plaintext-short : (g : List ℕ → List ℕ) (before bytes : List ℕ) → length bytes < 16 → plaintext g before bytes ≡ []
plaintext-short g before bytes lt = rw (blocks-short bytes lt)

-- ---- on blocks

module _ (f g : List ℕ → List ℕ) (pair : AreInverse f g) where
  AreBlocks-cbc : (v : List ℕ) (ps : List (List ℕ)) → IsBlock v → AreBlocks ps → AreBlocks (cbc f v ps)
  AreBlocks-cbc v [] b p = tt
  AreBlocks-cbc v (x ∷ xs) b p =
      let c = pair.enciphers (xor_bytes x v) (IsBlock-xor x v p.0 b) in
      (c, AreBlocks-cbc (f (xor_bytes x v)) xs c p.1)

  AreBlocks-cbc_inverse : (v : List ℕ) (cs : List (List ℕ)) → IsBlock v → AreBlocks cs → AreBlocks (cbc_inverse g v cs)
  AreBlocks-cbc_inverse v [] b p = tt
  AreBlocks-cbc_inverse v (c ∷ cs) b p =
      (IsBlock-xor (g c) v (pair.deciphers c p.0) b, AreBlocks-cbc_inverse c cs p.0 p.1)

  length-cbc : (v : List ℕ) (ps : List (List ℕ)) → length (cbc f v ps) ≡ length ps
  length-cbc v [] = refl
  length-cbc v (x ∷ xs) = ap suc (length-cbc (f (xor_bytes x v)) xs)

  length-cbc_inverse : (v : List ℕ) (cs : List (List ℕ)) → length (cbc_inverse g v cs) ≡ length cs
  length-cbc_inverse v [] = refl
  length-cbc_inverse v (c ∷ cs) = ap suc (length-cbc_inverse c cs)

  cbc_inverse-cbc : (v : List ℕ) (ps : List (List ℕ)) → IsBlock v → AreBlocks ps → cbc_inverse g v (cbc f v ps) ≡ ps
  cbc_inverse-cbc v [] b p = refl
  cbc_inverse-cbc v (x ∷ xs) b p =
      let inner = IsBlock-xor x v p.0 b in
      let c = pair.enciphers (xor_bytes x v) inner in
      let same : length x ≡ length v = omega arith in
      let here = pair.undoes (xor_bytes x v) inner in
      let out = xor_bytes-twice x v same in
      let rest = cbc_inverse-cbc (f (xor_bytes x v)) xs c p.1 in
      rw (here, out, rest)

  cbc-cbc_inverse : (v : List ℕ) (cs : List (List ℕ)) → IsBlock v → AreBlocks cs → cbc f v (cbc_inverse g v cs) ≡ cs
  cbc-cbc_inverse v [] b p = refl
  cbc-cbc_inverse v (c ∷ cs) b p =
      let d = pair.deciphers c p.0 in
      let same : length (g c) ≡ length v = omega arith in
      let out = xor_bytes-twice (g c) v same in
      let here = pair.redoes c p.0 in
      let rest = cbc-cbc_inverse c cs p.0 p.1 in
      rw (out, here, rest)

  -- ---- on bytes

  module _ (iv bytes : List ℕ) (block : IsBlock iv) (whole : length bytes % 16 ≡ 0) (are : AreBytes bytes) where
    pub plaintext-ciphertext : plaintext g iv (ciphertext f iv bytes) ≡ bytes
    plaintext-ciphertext =
        let bs = AreBlocks-blocks bytes whole are in
        rw (
          blocks-concat (cbc f iv (blocks bytes)) (AreBlocks-cbc iv (blocks bytes) block bs),
          cbc_inverse-cbc iv (blocks bytes) block bs,
        ) (concat-blocks bytes whole)

    pub ciphertext-plaintext : ciphertext f iv (plaintext g iv bytes) ≡ bytes
    ciphertext-plaintext =
        let bs = AreBlocks-blocks bytes whole are in
        rw (
          blocks-concat (cbc_inverse g iv (blocks bytes)) (AreBlocks-cbc_inverse iv (blocks bytes) block bs),
          cbc-cbc_inverse iv (blocks bytes) block bs,
        ) (concat-blocks bytes whole)

    pub length-ciphertext : length (ciphertext f iv bytes) ≡ length bytes
    length-ciphertext =
        let bs = AreBlocks-blocks bytes whole are in
        let out = length-concat (cbc f iv (blocks bytes)) (AreBlocks-cbc iv (blocks bytes) block bs) in
        let inn = length-concat (blocks bytes) bs in
        let same = length-cbc iv (blocks bytes) in
        let joined = ap length (concat-blocks bytes whole) in
        omega arith

    pub length-plaintext : length (plaintext g iv bytes) ≡ length bytes
    length-plaintext =
        let bs = AreBlocks-blocks bytes whole are in
        let out = length-concat (cbc_inverse g iv (blocks bytes)) (AreBlocks-cbc_inverse iv (blocks bytes) block bs) in
        let inn = length-concat (blocks bytes) bs in
        let same = length-cbc_inverse iv (blocks bytes) in
        let joined = ap length (concat-blocks bytes whole) in
        omega arith

    pub AreBytes-plaintext : AreBytes (plaintext g iv bytes)
    AreBytes-plaintext =
        AreBytes-concat (cbc_inverse g iv (blocks bytes))
        (AreBlocks-cbc_inverse iv (blocks bytes) block (AreBlocks-blocks bytes whole are))
