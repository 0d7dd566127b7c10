-- Requests that passed a gate.
use Rattle.std.proofs.Common.{◌≡◌, ℕ, ◌+◌, ◌<◌, nat_lt, Bool, true, false, List, [], ◌∷◌, length, Option, refl, sym, ap, ◌∙◌, subst, arith}
use Rattle.std.proofs.lemmas.Bool.Decides.{nat_tests}
use Rattle.dp_session.specs.declared.end.BadWhy.{BadWhy}
use Rattle.dp_session.specs.declared.status.Status.{Status}
use Rattle.dp_session.specs.declared.status.Status.TheVariants as status
use Rattle.dp_session.specs.Session.{Outside, EndsAt, HavePassed}
use Rattle.std.proofs.lemmas.List.{length-append}

lt_true : (m n : ℕ) → nat_lt m n ≡ true → m < n
lt_true m n h = grind (arith, nat_tests)

lt_false : (m n : ℕ) → nat_lt m n ≡ false → m < n + 1 → n ≡ m
lt_false m n h l = grind (arith, nat_tests)

pub passed-none : (P : ℕ → Type 0) → HavePassed P 0
passed-none P = λ call l. absurd (omega (arith, l))

passed-by : (P : ℕ → Type 0) (n call : ℕ) (b : Bool) → nat_lt call n ≡ b → HavePassed P n → P n → call < n + 1 → P call
passed-by P n call true e h p l = h call (lt_true call n e)
passed-by P n call false e h p l = subst P (lt_false call n e l) p

-- one request more
pub passed-more : (P : ℕ → Type 0) (n : ℕ) → HavePassed P n → P n → HavePassed P (n + 1)
passed-more P n h p = λ call l. passed-by P n call (nat_lt call n) refl h p l

-- a session ends: only where the last reply wasn't written there is one request more
pub passed-ends : (app : List ℕ) (st : Status) (bad : Option BadWhy) (a b : Outside) (P : ℕ → Type 0) (n : ℕ) → EndsAt app st bad a b → length a.entries ≡ n → HavePassed P n → (st ≡ status.WriteFault → P n) → HavePassed P (length b.entries)
passed-ends app status.Done bad a b P n e c h p =
    subst (HavePassed P) (sym (ap length e.0.entries ∙ c)) h
passed-ends app status.BadWords bad a b P n e c h p = absurd e
passed-ends app status.BadInput bad a b P n e c h p =
    subst (HavePassed P) (sym (ap length e.0.entries ∙ c)) h
passed-ends app status.ReadFault bad a b P n e c h p =
    subst (HavePassed P) (sym (ap length e.0.entries ∙ c)) h
passed-ends app status.WriteFault bad a b P n e c h p =
    subst (HavePassed P) (sym (omega (arith, c, ap length e.1.served.added, length-append a.entries (e.1.served.entry ∷ [])))) (passed-more P n h (p refl))
passed-ends app status.StoreFault bad a b P n e c h p = absurd e
passed-ends app status.DrawFault bad a b P n e c h p = absurd e
passed-ends app status.NoMemory bad a b P n e c h p =
    subst (HavePassed P) (sym (ap length e.0.entries ∙ c)) h
passed-ends app status.Spent bad a b P n e c h p = absurd e
passed-ends app status.Forked bad a b P n e c h p = absurd e
