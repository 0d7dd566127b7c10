-- Fronts of courses, and whether the turn is held behind them.
use Rattle.std.proofs.Common.{◌≡◌, ℕ, ◌≤◌, Bool, true, false, ◌&&◌, List, [], ◌∷◌, ◌++◌, refl, sym, ap, ◌∙◌, append_assoc, arith, Option, inl, inr}
use Rattle.std.proofs.lemmas.List.{append-nil}
use Rattle.key_ring.specs.Ring.{RingOf}
use Rattle.ring_world.specs.declared.step.Step.{Step}
use Rattle.ring_world.specs.declared.step.Step.TheVariants.{Take, Give}
use Rattle.ring_world.specs.Course.{Course, idle, stepped, led, closed, joined, IsFront, holds, holds_after}

-- steps that draw, and publish nothing
abbrev pub bare : List Step → List ℕ → Course
bare s b = record idle { steps = s; drawn = b }

pub bare-step : (s : List Step) (b : List ℕ) (t : List Step) → joined (bare s b) (stepped t) ≡ bare (s ++ t) b
bare-step s b t = ap (bare (s ++ t)) (append-nil b)

-- a course so far is a front of one that goes on without drawing
pub front : (d : Course) (s rest : List Step) (b : List ℕ) (rs : List RingOf) (p : Option RingOf) (k : ℕ) → d ≡ bare s b → IsFront d (record { steps = s ++ rest; drawn = b; rings = rs; published = p; unnoted = k })
front d s rest b rs p k e =
    rw e (record { steps = (rest, refl); drawn = ([], sym (append-nil b)); rings = (rs, refl); published = inl refl; unnoted = omega arith })

-- one that found no memory in a call of the repository
pub front_unnoted : (d : Course) (s rest : List Step) (b : List ℕ) (rs more : List RingOf) (p : Option RingOf) (k : ℕ) → d ≡ record (bare s b) { rings = rs; unnoted = 1 } → IsFront d (record { steps = s ++ rest; drawn = b; rings = rs ++ more; published = p; unnoted = k })
front_unnoted d s rest b rs more p k e =
    rw e (record { steps = (rest, refl); drawn = ([], sym (append-nil b)); rings = (more, refl); published = inl refl; unnoted = omega arith })

-- a whole course is a front of itself
pub front_whole : (d : Course) → d.unnoted ≤ 1 → IsFront d d
front_whole d u = record { steps = ([], sym (append-nil d.steps)); drawn = ([], sym (append-nil d.drawn)); rings = ([], sym (append-nil d.rings)); published = inr refl; unnoted = u }

pub front_led : (s : List Step) (rs : List RingOf) (d w : Course) → IsFront d w → IsFront (led s rs d) (led s rs w)
front_led s rs d w f = record {
  steps = (f.steps.0, ap (λ z. s ++ z) f.steps.1 ∙ sym (append_assoc s d.steps f.steps.0));
  drawn = f.drawn;
  rings = (f.rings.0, ap (λ z. rs ++ z) f.rings.1 ∙ sym (append_assoc rs d.rings f.rings.0));
  published = f.published;
  unnoted = f.unnoted;
}

pub front_closed : (t : List Step) (d w : Course) → IsFront d w → IsFront d (closed w t)
front_closed t d w f = record {
  steps = (f.steps.0 ++ t, ap (λ z. z ++ t) f.steps.1 ∙ append_assoc d.steps f.steps.0 t);
  drawn = f.drawn;
  rings = f.rings;
  published = f.published;
  unnoted = f.unnoted;
}

-- steps that leave the turn
abbrev pub leaves : Step → Bool
leaves Take = false
leaves Give = false
leaves _ = true

abbrev pub all_leave : List Step → Bool
all_leave [] = true
all_leave (x ∷ s) = leaves x && all_leave s

and_left : (a b : Bool) → (a && b) ≡ true → a ≡ true
and_left true b h = refl
and_left false b h = cc

and_right : (a b : Bool) → (a && b) ≡ true → b ≡ true
and_right true b h = h
and_right false b h = cc

and_both : (a b : Bool) → a ≡ true → b ≡ true → (a && b) ≡ true
and_both a b p q = cc

pub all_leave-front : (s r : List Step) → all_leave (s ++ r) ≡ true → all_leave s ≡ true
all_leave-front [] r h = refl
all_leave-front (x ∷ s) r h = and_both (leaves x) (all_leave s) (and_left (leaves x) (all_leave (s ++ r)) h) (all_leave-front s r (and_right (leaves x) (all_leave (s ++ r)) h))

leaves-held : (x : Step) → leaves x ≡ true → holds_after true x ≡ true
leaves-held Take h = refl
leaves-held Give h = cc
leaves-held _ h = refl

pub held_behind : (s : List Step) → all_leave s ≡ true → holds true s ≡ true
held_behind [] h = refl
held_behind (x ∷ s) h =
    ap (λ b. holds b s) (leaves-held x (and_left (leaves x) (all_leave s) h)) ∙ held_behind s (and_right (leaves x) (all_leave s) h)

pub free_behind : (held : Bool) (s : List Step) → holds held (s ++ Give ∷ []) ≡ false
free_behind held [] = refl
free_behind held (x ∷ s) = free_behind (holds_after held x) s
