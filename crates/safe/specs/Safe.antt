-- For which chips a load by some settings is proved to succeed.
-- Assumes nothing.
use Rattle.std.specs.Prelude.{Bool, Option, None, Some, ℕ, ◌-◌, ◌*◌, ◌/◌, min, leb, ltb}
use Rattle.terms.specs.Choice.{when, both}
use Rattle.settings.specs.declared.Settings.{Settings}

-- The largest loop, in ps, of which five and four ticks fit into t, at most 1,000,000: t in ns, p in ps. Where no loop fits it is 0.
unfoldable pub largest_loop : ℕ → ℕ → ℕ
largest_loop t p = min 1000000 ((1000 * t - 4 * p) / 5)

-- All loops of a real chip from 400,000 ps up to the largest; none where that is shorter.
unfoldable pub loops_of : Settings → Option ℕ
loops_of s = when (ltb (largest_loop s.t s.p) 400000) None (Some (largest_loop s.t s.p))

-- The largest is the longest of a real chip, and h is at least t.
unfoldable pub safe_of : Settings → Bool
safe_of s = both (leb 1000000 (largest_loop s.t s.p)) (leb s.t s.h)
