-- 02, "Six": from which tick to which a phase runs. Call k stands in phase `phase k`, falls at `fall k` and rises at `rise k`.
-- Assumes nothing.
use Rattle.std.specs.Prelude.{ℕ, zero, suc, ◌+◌, ltb}
use Rattle.terms.specs.Choice.{when}

-- How many of the calls before n stood in phases before q. Phases don't go back, so it is the number of the first call that stood in phase q
-- or in a later one, or n where none did yet.
unfoldable pub calls_before : (ℕ → ℕ) → ℕ → ℕ → ℕ
calls_before phase zero q = 0
calls_before phase (suc n) q = calls_before phase n q + when (ltb (phase n) q) 1 0

-- The last rise before call n; 0 before the first call.
abbrev pub last_rise : (ℕ → ℕ) → ℕ → ℕ
last_rise rise zero = 0
last_rise rise (suc n) = rise n

-- Before call n: the fall of call k, or the last rise where that call is still to come.
unfoldable pub stamp : (ℕ → ℕ) → (ℕ → ℕ) → ℕ → ℕ → ℕ
stamp fall rise n k = when (ltb k n) (fall k) (last_rise rise n)
