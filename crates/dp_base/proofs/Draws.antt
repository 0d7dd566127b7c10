-- Draws, one after the other.
use Rattle.std.proofs.Common.{◌≡◌, ℕ, zero, suc, ◌+◌, ◌-◌, ◌^◌, ◌<◌, ◌≤◌, min, nat_le, if◌then◌else◌, List, [], ◌∷◌, ◌++◌, length, map, take, Option, Some, None, refl, sym, ap, subst, ◌∙◌, append_assoc, zero-add, add-zero, ⊎_elim, arith}
use Rattle.std.proofs.lemmas.Bool.{le-leb, lt-leb}
use Rattle.std.proofs.lemmas.Bool.Decides.{leb_tells}
use Rattle.std.proofs.lemmas.List.{length-append, length-take-le, append-nil, take_at, drop-drop}
use Rattle.std.proofs.Math.Seq.{take-add}
use Rattle.dp_base.specs.Counts.{more}
use Rattle.dp_base.specs.declared.draw.TheConstants.{MAX_TAPE}
use Rattle.dp_base.specs.Draws.{DrawState, Lender, Comes, gave, gave_by, tape, Draws}

more-some : (k n : ℕ) → 0 < k → more k n ≡ min (n + k) (2 ^ 64 - 1)
more-some zero n some = absurd (omega arith)
more-some (suc k) n some = refl

-- a count that rose twice
pub more-more : (j k n : ℕ) → more k (more j n) ≡ more (j + k) n
more-more zero k n = rw zero-add refl
more-more (suc j) zero n = rw add-zero refl
more-more (suc j) (suc k) n = rw (more-some (suc j + suc k) n (omega arith)) (omega arith)

pub tape-short : (bytes : List ℕ) → length bytes ≤ MAX_TAPE → tape bytes ≡ Some bytes
tape-short bytes short = rw (le-leb (length bytes) MAX_TAPE short) refl

tape-long : (bytes : List ℕ) → MAX_TAPE < length bytes → tape bytes ≡ None
tape-long bytes long = rw (lt-leb (length bytes) MAX_TAPE long) refl

-- few bytes more are told
pub gave-short : (given bytes : List ℕ) → length (given ++ bytes) ≤ MAX_TAPE → gave (Some given) bytes ≡ Some (given ++ bytes)
gave-short given [] short = ap Some (sym (append-nil given))
gave-short given (b ∷ bytes) short = tape-short (given ++ b ∷ bytes) short

-- a tape with room for more bytes keeps them
pub kept : (count end : ℕ) (room bytes after : List ℕ) → length room ≡ MAX_TAPE → count ≤ MAX_TAPE → end ≡ count + length bytes → end ≤ MAX_TAPE
    → (if nat_le end MAX_TAPE then Some (take end (take count room ++ (bytes ++ after))) else None) ≡ gave (if nat_le count MAX_TAPE then Some (take count room) else None) bytes
kept count end room bytes after len within sum fits =
    let front : length (take count room) ≡ count = length-take-le count room (omega arith) in
    let both : length (take count room ++ bytes) ≡ end = omega (arith, length-append (take count room) bytes) in
    rw (le-leb end MAX_TAPE fits, le-leb count MAX_TAPE within)
    (ap Some (ap (take end) (sym (append_assoc (take count room) bytes after)) ∙ take_at (take count room ++ bytes) after end both) ∙ sym (gave-short (take count room) bytes (omega arith)))

gave-nil : (told : Option (List ℕ)) → gave told [] ≡ told
gave-nil None = refl
gave-nil (Some given) = refl

-- what is told of two draws
pub gave-gave : (told : Option (List ℕ)) (a b : List ℕ) → gave (gave told a) b ≡ gave told (a ++ b)
gave-gave None a b = refl
gave-gave (Some g) [] b = refl
gave-gave (Some g) (x ∷ a) [] = gave-nil (tape (g ++ x ∷ a)) ∙ ap (λ (t : List ℕ). tape (g ++ x ∷ t)) (sym (append-nil a))
gave-gave (Some g) (x ∷ a) (y ∷ b) = ⊎_elim (λ h. short h.1) (λ h. long h.1) (leb_tells (length (g ++ x ∷ a)) MAX_TAPE)
  where
    both : (g ++ x ∷ a) ++ y ∷ b ≡ g ++ x ∷ (a ++ y ∷ b)
    both = append_assoc g (x ∷ a) (y ∷ b)

    short : length (g ++ x ∷ a) ≤ MAX_TAPE → gave (tape (g ++ x ∷ a)) (y ∷ b) ≡ tape (g ++ x ∷ (a ++ y ∷ b))
    short le = rw (tape-short (g ++ x ∷ a) le) (ap tape both)

    long : MAX_TAPE < length (g ++ x ∷ a) → gave (tape (g ++ x ∷ a)) (y ∷ b) ≡ tape (g ++ x ∷ (a ++ y ∷ b))
    long lt = rw (tape-long (g ++ x ∷ a) lt) (sym (tape-long (g ++ x ∷ (a ++ y ∷ b)) (omega (arith, lt, ap length both, length-append (g ++ x ∷ a) (y ∷ b)))))

-- two draws took the bytes of both
pub Comes-both : (s t u : Option (List ℕ)) (a b : List ℕ) → Comes s t a → Comes t u b → Comes s u (a ++ b)
Comes-both None t u a b first second = subst (λ (m : Option (List ℕ)). Comes m u b) first second
Comes-both (Some coming) t u a b first second =
    let rest = subst (λ (m : Option (List ℕ)). Comes m u b) first.1 second in
    rw (length-append a b) (
      ap (λ (x : List ℕ). x ++ b) first.0 ∙ ap (λ (x : List ℕ). take (length a) coming ++ x) rest.0 ∙ sym (take-add (length a) (length b) coming),
      rest.1 ∙ ap Some (drop-drop (length b) (length a) coming),
    )

Comes-nil : (told : Option (List ℕ)) → Comes told told []
Comes-nil None = refl
Comes-nil (Some coming) = (refl, refl)

lender-eq : (k : Lender) (given : Option (List ℕ)) → given ≡ k.given → record { given = given; loan = k.loan } ≡ k
lender-eq k given e = ap (λ (g : Option (List ℕ)). record { given = g; loan = k.loan }) e

-- lenders that gave nothing, and that gave twice
lenders-nil : (ls : List Lender) → ls ≡ map (gave_by []) ls
lenders-nil [] = refl
lenders-nil (l ∷ ls) = ap (λ (x : Lender). x ∷ ls) (sym (lender-eq l (gave l.given []) (gave-nil l.given))) ∙ ap (λ (xs : List Lender). gave_by [] l ∷ xs) (lenders-nil ls)

lenders-both : (a b : List ℕ) (ls : List Lender) → map (gave_by b) (map (gave_by a) ls) ≡ map (gave_by (a ++ b)) ls
lenders-both a b [] = refl
lenders-both a b (l ∷ ls) =
    ap (λ (g : Option (List ℕ)). record { given = g; loan = l.loan } ∷ map (gave_by b) (map (gave_by a) ls)) (gave-gave l.given a b)
    ∙ ap (λ (xs : List Lender). gave_by (a ++ b) l ∷ xs) (lenders-both a b ls)

-- nothing was drawn
pub Draws-none : (s : DrawState) → Draws 0 [] s s
Draws-none s = record { coming = Comes-nil s.coming; given = sym (gave-nil s.given); faults = refl; loan = refl; lenders = lenders-nil s.lenders }

-- two draws are one of the bytes of both
pub Draws-both : (j k : ℕ) (a b : List ℕ) (s t u : DrawState) → Draws j a s t → Draws k b t u → Draws (j + k) (a ++ b) s u
Draws-both j k a b s t u first second = record {
  coming = Comes-both s.coming t.coming u.coming a b first.coming second.coming;
  given = second.given ∙ ap (λ (g : Option (List ℕ)). gave g b) first.given ∙ gave-gave s.given a b;
  faults = second.faults ∙ ap (more k) first.faults ∙ more-more j k s.faults;
  loan = second.loan ∙ first.loan;
  lenders = second.lenders ∙ ap (map (gave_by b)) first.lenders ∙ lenders-both a b s.lenders;
}
