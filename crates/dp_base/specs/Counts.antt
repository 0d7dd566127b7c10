-- Counts that never fall. A count is kept in 64 bits and stands still at the greatest number.
use Rattle.std.specs.Prelude.{ℕ, zero, suc, ◌+◌, ◌-◌, ◌^◌, min}

-- the count after k more; none leaves every count as it is
abbrev pub more : ℕ → ℕ → ℕ
more zero n = n
more (suc k) n = min (n + suc k) (2 ^ 64 - 1)

-- the count after one more
abbrev pub one_more : ℕ → ℕ
one_more n = more 1 n
