-- What readers answer: no key is refused for want of memory, and no other refusal is told in place of
-- an element.
use Rattle.std.proofs.Common.{◌≡◌, ◌⊎◌, ℕ, Bool, true, false, cond, ltb, List, length, take, drop, Result, Ok, Err, inl, inr, sym, ap, ◌∙◌}
use Rattle.std.specs.Int.{w64, from_be_bytes}
use Rattle.dp_base.specs.declared.ticks.TheConstants.{MAX_TICKS}
use Rattle.key_elements.specs.declared.element.KeyRecord.{KeyRecord}
use Rattle.key_elements.specs.declared.refused.ElementRefused.{ElementRefused}
use Rattle.key_elements.specs.declared.refused.ElementRefused.TheVariants.{Cut, BadDate, Memory}
use Rattle.key_elements.specs.Reading.{◌>>=◌, bytes_at, date_at, key_at}

-- what is to be read is never want of memory
abbrev pub IsKnown : {A : Type 0} → Result A ElementRefused → Type 0
IsKnown r = r ≡ Err Memory → ⊥

then_known : {A B : Type 0} (r : Result A ElementRefused) (f : A → Result B ElementRefused) → IsKnown r → ((x : A) → IsKnown (f x)) → IsKnown (r >>= f)
then_known (Ok x) f known knows e = knows x e
then_known (Err why) f known knows e = known (cc e)

ok_known : {A : Type 0} (x : A) → IsKnown (Ok x)
ok_known x e = cc

guard_known : {A : Type 0} (b : Bool) (why : ElementRefused) (x : A) → (why ≡ Memory → ⊥) → IsKnown (cond b (Err why) (Ok x))
guard_known true why x other e = other (cc e)
guard_known false why x other e = cc

bytes_known : (n : ℕ) (bytes : List ℕ) → IsKnown (bytes_at n bytes)
bytes_known n bytes = guard_known (ltb (length bytes) n) Cut (take n bytes, drop n bytes) (λ e. cc)

date_known : (bytes : List ℕ) → IsKnown (date_at bytes)
unfolding date_at
date_known bytes =
    then_known (bytes_at 8 bytes) _ (bytes_known 8 bytes)
    (λ f. guard_known (ltb MAX_TICKS (from_be_bytes w64 f.0)) BadDate (from_be_bytes w64 f.0, f.1) (λ e. cc))

pub key_known : (bytes : List ℕ) → IsKnown (key_at bytes)
unfolding key_at
key_known bytes =
    then_known (bytes_at 16 bytes) _ (bytes_known 16 bytes) (λ id.
    then_known (date_at id.1) _ (date_known id.1) (λ c.
    then_known (date_at c.1) _ (date_known c.1) (λ a.
    then_known (date_at a.1) _ (date_known a.1) (λ x.
    then_known (bytes_at 1 x.1) _ (bytes_known 1 x.1) (λ alg.
    then_known (bytes_at 64 alg.1) _ (bytes_known 64 alg.1) (λ m. ok_known _))))))

-- a refusal of what can be read is want of memory
pub want_only : {Y : Type 0} (why : ElementRefused) (r : Result Y ElementRefused) (y : Y) → r ≡ Ok y
    → (r ≡ Err why) ⊎ ((why ≡ Memory) × ((y : Y) × (r ≡ Ok y))) → why ≡ Memory
want_only why r y is (inl refused) = absurd (cc (is, refused))
want_only why r y is (inr want) = want.0

-- a key is never refused for want of memory
pub key_never : {X : Type 0} (bytes : List ℕ) (why told : ElementRefused) (result : Result X ElementRefused) → Err why ≡ key_at bytes
    → result ≡ Err told → told ≡ why → result ≡ Err Memory → ⊥
key_never bytes why told result is answer same e = key_known bytes (sym is ∙ ap refused (cc (answer, same, e)))
  where
    refused : ElementRefused → Result (KeyRecord × List ℕ) ElementRefused
    refused why = Err why
