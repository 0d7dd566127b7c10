-- The orders of choices are strict weak orders: of two keys at most one goes before the other, and
-- keys of which neither does stand alike to every third. The laws of Choice's implementations cite
-- these.
use Rattle.std.proofs.Common.{◌≡◌, true, false, arith}
use Rattle.std.specs.Cmp.{IsStrictWeakOrder}
use Rattle.std.proofs.lemmas.Bool.Decides.{nat_tests}
use Rattle.std.proofs.lemmas.List.MinMax.{IsStrictWeakOrder-by_number, IsStrictWeakOrder-flip}
use Rattle.default_key.specs.declared.key_facts.KeyFacts.{KeyFacts}
use Rattle.default_key.specs.PolicyValues.{is_ahead, is_newer, is_older}

pub IsStrictWeakOrder-is_older : IsStrictWeakOrder is_older
IsStrictWeakOrder-is_older = IsStrictWeakOrder-by_number (λ (key : KeyFacts). key.creation)

pub IsStrictWeakOrder-is_newer : IsStrictWeakOrder is_newer
IsStrictWeakOrder-is_newer = IsStrictWeakOrder-flip is_older IsStrictWeakOrder-is_older

one_way : (a b : KeyFacts) → is_ahead a b ≡ true → is_ahead b a ≡ false
one_way a b h = grind (arith, nat_tests)

chain : (a b c : KeyFacts) → is_ahead a b ≡ false → is_ahead b c ≡ false → is_ahead a c ≡ false
chain a b c h k = grind (arith, nat_tests)

pub IsStrictWeakOrder-is_ahead : IsStrictWeakOrder is_ahead
IsStrictWeakOrder-is_ahead = record { one_way = one_way; chain = chain }
