-- Options that are read one after the other are options in any order, no two of one kind.
use Rattle.std.proofs.Common.{◌≡◌, ◌≢◌, ℕ, zero, suc, ◌<◌, ◌≤◌, List, [], ◌∷◌, ◌++◌, length, refl, sym, ap, ◌∙◌, arith}
use Rattle.std.specs.List.{All, AllPairs, flat_map}
use Rattle.std.proofs.lemmas.List.Kept.{AllPairs-cons}
use Rattle.dp_answer.specs.declared.app.TheConstants.{MAX_APP}
use Rattle.dp_server.specs.Words.{PipeOption, NoAuto, App, flag, words_of, IsOption, Settings, with_option, settings_by, AreOptions}
use Rattle.dp_server.specs.Commands.{IsNext, IsFree}

module _ {X : Type 0} (P : X → Type 0) where
  All-cons : (x : X) (xs : List X) → P x → All P xs → All P (x ∷ xs)
  All-cons x xs here rest zero d h = here
  All-cons x xs here rest (suc k) d h = rest k d (omega arith)

  All-first : (x : X) (xs : List X) → All P (x ∷ xs) → P x
  All-first x xs all = all 0 x (omega arith)

  All-rest : (x : X) (xs : List X) → All P (x ∷ xs) → All P xs
  All-rest x xs all k d h = all (suc k) d (omega arith)

-- the options are of two kinds
abbrev Differ : PipeOption → PipeOption → Type 0
Differ o p = flag o ≢ flag p

first-differs : (o : PipeOption) (os : List PipeOption) → AllPairs Differ (o ∷ os) → All (Differ o) os
first-differs o os once k d h = once 0 (suc k) d (omega arith) (omega arith)

rest-differ : (o : PipeOption) (os : List PipeOption) → AllPairs Differ (o ∷ os) → AllPairs Differ os
rest-differ o os once i j d lt h = once (suc i) (suc j) d (omega arith) (omega arith)

-- what is free behind an option is of another kind, and was free before it
still_free : (o p : PipeOption) (s : Settings) → IsOption o → IsFree (with_option o s) p → Differ o p × IsFree s p
still_free NoAuto NoAuto s lawful free = absurd cc
still_free NoAuto (App m) s lawful free = (λ e. cc, free)
still_free (App n) NoAuto s lawful free = (λ e. cc, free)
still_free (App n) (App m) s lawful free = absurd (lawful.0.0 free)

-- and the other way round
free_behind : (o p : PipeOption) (s : Settings) → Differ o p → IsFree s p → IsFree (with_option o s) p
free_behind NoAuto NoAuto s differ free = absurd (differ refl)
free_behind NoAuto (App m) s differ free = free
free_behind (App n) NoAuto s differ free = free
free_behind (App n) (App m) s differ free = absurd (differ refl)

-- each option is lawful, and of a kind that isn't set before it
abbrev pub Follow : Settings → List PipeOption → Type 0
Follow s [] = Unit {0}
Follow s (o ∷ os) = IsOption o × IsFree s o × Follow (with_option o s) os

-- the settings with the options set from the first to the last
abbrev pub after : Settings → List PipeOption → Settings
after s [] = s
after s (o ∷ os) = after (with_option o s) os

follow_apart : (s : Settings) (os : List PipeOption) → Follow s os → All IsOption os × AllPairs Differ os × All (IsFree s) os
follow_apart s [] f = (λ k d h. absurd (omega arith), λ i j d lt h. absurd (omega arith), λ k d h. absurd (omega arith))
follow_apart s (o ∷ os) f =
    let rest = follow_apart (with_option o s) os f.2 in
    let still = λ (k : ℕ) (d : PipeOption) (h : k < length os). still_free o _ s f.0 (rest.2 k d h) in (
      All-cons IsOption o os f.0 rest.0,
      AllPairs-cons Differ o os (λ k d h. (still k d h).0) rest.1,
      All-cons (IsFree s) o os f.1 (λ k d h. (still k d h).1),
    )

follow_of : (s : Settings) (os : List PipeOption) → All IsOption os → AllPairs Differ os → All (IsFree s) os → Follow s os
follow_of s [] lawful once free = tt
follow_of s (o ∷ os) lawful once free = (
  All-first IsOption o os lawful,
  All-first (IsFree s) o os free,
  follow_of (with_option o s) os (All-rest IsOption o os lawful) (rest-differ o os once)
      (λ k d h. free_behind o _ s (first-differs o os once k d h) (All-rest (IsFree s) o os free k d h)),
)

-- the settings before any option
abbrev pub start : Settings
start = settings_by []

-- all is free before the first option
start_free : (p : PipeOption) → IsFree start p
start_free NoAuto = refl
start_free (App m) = refl

-- the options set from the last to the first
over : Settings → List PipeOption → Settings
over s [] = s
over s (o ∷ os) = with_option o (over s os)

swapped : (o p : PipeOption) (s : Settings) → Differ o p → with_option p (with_option o s) ≡ with_option o (with_option p s)
swapped NoAuto NoAuto s differ = refl
swapped NoAuto (App m) s differ = refl
swapped (App n) NoAuto s differ = refl
swapped (App n) (App m) s differ = absurd (differ refl)

over_with : (o : PipeOption) (s : Settings) (os : List PipeOption) → All (Differ o) os → over (with_option o s) os ≡ with_option o (over s os)
unfolding over
over_with o s [] differ = refl
over_with o s (p ∷ os) differ =
    ap (with_option p) (over_with o s os (All-rest (Differ o) p os differ)) ∙ swapped o p (over s os) (All-first (Differ o) p os differ)

after-over : (s : Settings) (os : List PipeOption) → AllPairs Differ os → after s os ≡ over s os
unfolding over
after-over s [] once = refl
after-over s (o ∷ os) once =
    after-over (with_option o s) os (rest-differ o os once) ∙ over_with o s os (first-differs o os once)

over-start : (os : List PipeOption) → over start os ≡ settings_by os
unfolding over
over-start [] = refl
over-start (o ∷ os) = ap (with_option o) (over-start os)

-- behind these settings, the words are those of options that lead to these others
pub record Leads (from : Settings) (words : List (List ℕ)) (to : Settings) : Type 0 where
  pub options : List PipeOption
  pub spelt : words ≡ flat_map words_of options
  pub follow : Follow from options
  pub settle : after from options ≡ to

pub options_lead : (words : List (List ℕ)) (to : Settings) → AreOptions words to → Leads start words to
options_lead words to p = record {
  options = p.options;
  spelt = p.spelt;
  follow = follow_of start p.options p.lawful p.once (λ k d h. start_free _);
  settle = after-over start p.options p.once ∙ over-start p.options ∙ p.settle;
}

pub leads_options : (words : List (List ℕ)) (to : Settings) → Leads start words to → AreOptions words to
leads_options words to p =
    let apart = follow_apart start p.options p.follow in
    record {
      options = p.options;
      spelt = p.spelt;
      lawful = apart.0;
      once = apart.1;
      settle = sym (over-start p.options) ∙ sym (after-over start p.options apart.1) ∙ p.settle;
    }

-- the name that lawful options set is short
pub short_name : (os : List PipeOption) → All IsOption os → length (settings_by os).app ≤ MAX_APP
short_name [] lawful = omega arith
short_name (NoAuto ∷ os) lawful = short_name os (All-rest IsOption NoAuto os lawful)
short_name (App name ∷ os) lawful = (All-first IsOption (App name) os lawful).1

-- one option more in front
pub leads_in : (s : Settings) (o : PipeOption) (words behind : List (List ℕ)) (to : Settings) → IsNext words o behind → IsFree s o → Leads (with_option o s) behind to → Leads s words to
leads_in s o words behind to next free p = record {
  options = o ∷ p.options;
  spelt = next.1 ∙ ap (λ (t : List (List ℕ)). words_of o ++ t) p.spelt;
  follow = (next.0, free, p.follow);
  settle = p.settle;
}

-- the first option, and what is behind it
pub record Parted (s : Settings) (words : List (List ℕ)) (to : Settings) : Type 0 where
  pub option : PipeOption
  pub behind : List (List ℕ)
  pub next : IsNext words option behind
  pub free : IsFree s option
  pub leads : Leads (with_option option s) behind to

parted_at : (os : List PipeOption) (s : Settings) (words : List (List ℕ)) (to : Settings) → words ≡ flat_map words_of os → Follow s os → after s os ≡ to → (words ≡ [] → ⊥) → Parted s words to
parted_at [] s words to e f a some = absurd (some e)
parted_at (o ∷ os) s words to e f a some = record {
  option = o;
  behind = flat_map words_of os;
  next = (f.0, e);
  free = f.1;
  leads = record { options = os; spelt = refl; follow = f.2; settle = a };
}

pub parted : (s : Settings) (words : List (List ℕ)) (to : Settings) → (words ≡ [] → ⊥) → Leads s words to → Parted s words to
parted s words to some p = parted_at p.options s words to p.spelt p.follow p.settle some

-- without words nothing is set
pub ended : (s : Settings) → Leads s [] s
ended s = record { options = []; spelt = refl; follow = tt; settle = refl }

ends_at : (os : List PipeOption) (s to : Settings) → [] ≡ flat_map words_of os → after s os ≡ to → s ≡ to
ends_at [] s to e a = a
ends_at (NoAuto ∷ os) s to e a = absurd cc
ends_at (App name ∷ os) s to e a = absurd cc

pub ends : (s to : Settings) → Leads s [] to → s ≡ to
ends s to p = ends_at p.options s to p.spelt p.settle

-- what leads on behind the first option, at the settings and words that equal these
pub led : (s s' : Settings) (o o' : PipeOption) (b b' : List (List ℕ)) (to : Settings) → s' ≡ with_option o s → o ≡ o' → b ≡ b' → Leads (with_option o' s) b' to → Leads s' b to
led s s' o o' b b' to e f g p = rw (e, f, g) p
