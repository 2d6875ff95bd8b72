-- 01, "What the host sends" and "Edges": lengths in picoseconds, and the tick of an edge.
-- Assumes nothing.
use Rattle.std.specs.Prelude.{Bool, ℕ, ◌*◌, ◌/◌, max}
use Rattle.terms.specs.Choice.{when}
use Rattle.settings.specs.declared.Settings.{Settings}
use Rattle.units.specs.declared.Ticks.{Ticks}

-- A bit 1 is a low of t, a bit 0 a low of 2t; t and h are in ns.
unfoldable pub low : Settings → Bool → ℕ
low s b = when b (s.t * 1000) (2 * s.t * 1000)

-- After each pulse follows a spacer h; after a silent pair of a wait it is the longer of h and 10,000,000 ns.
unfoldable pub spacer : Settings → Bool → ℕ
spacer s silent = when silent (max s.h 10000000 * 1000) (s.h * 1000)

-- An edge's tick is its exact time divided by p, rounded down.
abbrev pub tick : Settings → ℕ → Ticks
tick s time = record { 0 = time / s.p }
