-- Authenticated data tell the id and the chain.
use Rattle.std.proofs.Common.{◌≡◌, ℕ, ◌<◌, ◌≤◌, ◌^◌, List, [], ◌∷◌, ◌++◌, length, take, drop, refl, sym, ap, ◌∙◌, arith, append_assoc, length-append}
use Rattle.std.specs.List.{flat_map}
use Rattle.std.specs.Int.{w32, to_be_bytes, from_be_bytes}
use Rattle.std.proofs.lemmas.List.{take_at, drop_at}
use Rattle.std.proofs.lemmas.List.Sums.{sum_by-cons}
use Rattle.std.proofs.lemmas.Nat.{from_be_bytes-to_be_bytes_4}
use Rattle.dp_base.specs.Guid.{guid}
use Rattle.dp_base.proofs.Guid.{length-guid, guid-injective}
use Rattle.dp_base.proofs.Sevens.{same_sevens}
use Rattle.purpose_chain.specs.declared.chain.TheConstants.{MAX_CHAIN}
use Rattle.purpose_chain.specs.Chain.{IsChain, aad, bytes_of, first_bytes, purpose_field}

-- joins whose fronts are of one length have the same parts
apart : (p q x y : List ℕ) → length p ≡ length q → p ++ x ≡ q ++ y → (p ≡ q) × (x ≡ y)
apart p q x y len e = (
  sym (take_at p x (length q) len) ∙ ap (take (length q)) e ∙ take_at q y (length q) refl,
  sym (drop_at p x (length q) len) ∙ ap (drop (length q)) e ∙ drop_at q y (length q) refl,
)

first_short : (x : List ℕ) (xs : List (List ℕ)) → bytes_of (x ∷ xs) ≤ MAX_CHAIN → (length x < 2 ^ 32) × (bytes_of xs ≤ MAX_CHAIN)
first_short x xs short =
    let all = sum_by-cons length x xs in
    (omega arith, omega arith)

both : (x y : List ℕ) (xs ys : List (List ℕ)) → x ≡ y → xs ≡ ys → (x ∷ xs) ≡ (y ∷ ys)
both x y xs ys e f = cc

-- as many purposes of the same fields are the same
same_fields : (c d : List (List ℕ)) → length c ≡ length d → bytes_of c ≤ MAX_CHAIN → bytes_of d ≤ MAX_CHAIN →
    flat_map purpose_field c ≡ flat_map purpose_field d → c ≡ d
same_fields [] [] len p q e = refl
same_fields [] (y ∷ ys) len p q e = absurd (omega arith)
same_fields (x ∷ xs) [] len p q e = absurd (omega arith)
same_fields (x ∷ xs) (y ∷ ys) len p q e =
    let m = first_short x xs p in
    let n = first_short y ys q in
    let lengths = same_sevens (length x) (length y) (x ++ flat_map purpose_field xs) (y ++ flat_map purpose_field ys) m.0 n.0
    (simp append_assoc at e) in
    let parts = apart x y (flat_map purpose_field xs) (flat_map purpose_field ys) lengths.0 lengths.1 in
    both x y xs ys parts.0 (same_fields xs ys (omega arith) m.1 n.1 parts.1)

-- authenticated data tell the id and the chain
pub one_to_one : (a b : ℕ) (c d : List (List ℕ)) → a < 2 ^ 128 → b < 2 ^ 128 → IsChain c → IsChain d → aad a c ≡ aad b d → (a ≡ b) × (c ≡ d)
unfolding aad
one_to_one a b c d p q f g e =
    let heads : length (first_bytes ++ guid a ++ to_be_bytes w32 (length c)) ≡ length (first_bytes ++ guid b ++ to_be_bytes w32 (length d)) = simp length-append (omega (arith, length-guid a, length-guid b)) in
    let outer = apart (first_bytes ++ guid a ++ to_be_bytes w32 (length c)) (first_bytes ++ guid b ++ to_be_bytes w32 (length d)) (flat_map purpose_field c) (flat_map purpose_field d) heads e in
    let fronts : length (first_bytes ++ guid a) ≡ length (first_bytes ++ guid b) = omega (arith, length-guid a, length-guid b) in
    let inner = apart (first_bytes ++ guid a) (first_bytes ++ guid b) (to_be_bytes w32 (length c)) (to_be_bytes w32 (length d)) fronts outer.0 in
    let ids = apart first_bytes first_bytes (guid a) (guid b) refl inner.0 in
    let count : length c ≡ length d =
    sym (from_be_bytes-to_be_bytes_4 (length c) (omega arith)) ∙ ap (from_be_bytes w32) inner.1 ∙ from_be_bytes-to_be_bytes_4 (length d) (omega arith) in
    (guid-injective a b p q ids.1, same_fields c d count f.short g.short outer.1)
