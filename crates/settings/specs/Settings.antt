-- 01, "Bench figures", rows 1 to 3 of "Refusal numbers", and row 16 of 02, "Two".
-- Assumes nothing.
use Rattle.std.specs.Prelude.{Bool, List, [], ◌∷◌, ℕ, ◌+◌, ◌*◌, ltb}
use Rattle.terms.specs.Choice.{either}
use Rattle.terms.specs.Refusals.{Row, Answer, ◌given-when◌, first}
use Rattle.settings.specs.declared.Settings.{Settings}

-- Below the smallest, or above the largest.
unfoldable pub outside : ℕ → ℕ → ℕ → Bool
outside smallest largest x = either (ltb x smallest) (ltb largest x)

-- 252 × (2t + h) + 504 × (400 ns + p) above 150,000,000 ns: t and h in ns, p in ps, so all in ps.
unfoldable pub slow : ℕ → ℕ → ℕ → Bool
slow t h p = ltb 150000000000 (252 * (2 * t + h) * 1000 + 504 * (400000 + p))

-- Each figure outside its bounds: t and h in ns, p in ps.
abbrev pub settings_rows : ℕ → ℕ → ℕ → List Row
settings_rows t h p =
    1 given-when outside 4300 26000 t
    ∷ 2 given-when outside 4300 90000000 h
    ∷ 3 given-when outside 1000 1000000 p
    ∷ 16 given-when slow t h p
    ∷ []

-- The settings, or the first row that applies.
unfoldable pub checked : ℕ → ℕ → ℕ → Answer Settings
checked t h p = first (settings_rows t h p) (record { t = t; h = h; p = p })

-- 13: settings that no start hands out, with a figure outside its bounds, or too slow.
unfoldable pub settings_outside : Settings → Bool
settings_outside s =
    either (outside 4300 26000 s.t)
    (either (outside 4300 90000000 s.h)
    (either (outside 1000 1000000 s.p)
    (slow s.t s.h s.p)))
