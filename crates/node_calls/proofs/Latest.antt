-- The last 24 of a list.
use Rattle.std.proofs.Common.{◌≡◌, ℕ, ◌+◌, ◌-◌, ◌<◌, ◌≤◌, List, [], ◌∷◌, ◌++◌, length, take, drop, set, sym, ap, ◌∙◌, arith, add-one}
use Rattle.std.proofs.lemmas.List.{length-append, length-take-le, take_all}
use Rattle.std.proofs.Math.Seq.{take-suc-set, set-append_seam}
use Rattle.ring_world.specs.declared.step.Step.{Step}
use Rattle.node_calls.specs.HostState.{latest}

latest-short : (xs : List Step) → length xs ≤ 24 → latest xs ≡ xs
unfolding latest
latest-short xs h = let e : length xs - 24 ≡ 0 = omega arith in ap (λ n. drop n xs) e

latest-one : (x : Step) (xs : List Step) → length xs ≡ 24 → latest (x ∷ xs) ≡ xs
unfolding latest
latest-one x xs h = let e : length (x ∷ xs) - 24 ≡ 1 = omega arith in ap (λ n. drop n (x ∷ xs)) e

-- with room, the act goes behind the others
pub push_short : (kept : List Step) (n : ℕ) (a : Step) → n < 24 → length kept ≡ 24 → take (n + 1) (set kept n a) ≡ latest (take n kept ++ a ∷ [])
push_short kept n a h l =
    rw add-one (take-suc-set kept n a (omega arith))
    ∙ sym (latest-short (take n kept ++ a ∷ []) (omega (arith, length-append (take n kept) (a ∷ []), length-take-le n kept (omega arith))))

-- of 24 the first goes
pub push_full : (kept rotated : List Step) (a : Step) → length kept ≡ 24 → rotated ≡ drop 1 kept ++ take 1 kept → take 24 (set rotated 23 a) ≡ latest (take 24 kept ++ a ∷ [])
push_full [] rotated a l r = absurd (omega arith)
push_full (x ∷ xs) rotated a l r =
    let n : length xs ≡ 23 = omega arith in
    let s : set rotated 23 a ≡ xs ++ a ∷ [] = ap (λ z. set z 23 a) r ∙ ap (λ m. set (xs ++ x ∷ []) m a) (sym n) ∙ set-append_seam xs x [] a in
    let m : length (xs ++ a ∷ []) ≡ 24 = omega (arith, length-append xs (a ∷ [])) in
    ap (take 24) s ∙ take_all 24 (xs ++ a ∷ []) (omega arith)
    ∙ sym (ap (λ z. latest (z ++ a ∷ [])) (take_all 24 (x ∷ xs) (omega arith)) ∙ latest-one x (xs ++ a ∷ []) m)
