-- The batch report: how long a planned session takes with the settings of a bench, and what the old bench said.
-- Assumes nothing.
use Rattle.std.specs.Prelude.{Bool, false, List, [], ◌∷◌, ℕ, ◌+◌, ◌*◌, ◌/◌, max, ltb}
use Rattle.terms.specs.Choice.{either}
use Rattle.terms.specs.Refusals.{Row, Answer, ◌given-when◌, first}
use Rattle.settings.specs.Settings.{settings_outside}
use Rattle.settings.specs.declared.Settings.{Settings}
use Rattle.counts.specs.Counts.{phases_of, sum_of}
use Rattle.counts.specs.declared.Counts.{Counts}
use Rattle.counts.specs.declared.Plan.{Plan}
use Rattle.times.specs.declared.Times.{Times}

-- How long a phase lasts, in ns, of which every length is a whole number: a 1 is a low of t, a 0 one of 2t; a spacer is h, and after a
-- silent pair the larger of h and 10 ms.
unfoldable pub lasting : Settings → Counts → ℕ
lasting s c = (c.ones + 2 * c.zeros) * s.t + c.spacers * s.h + c.silent * max s.h 10000000

-- What the old bench made of it, in us: each leg cut by itself.
unfoldable pub old_lasting : Settings → Counts → ℕ
old_lasting s c =
    c.ones * (s.t / 1000) + c.zeros * (2 * s.t / 1000) + c.spacers * (s.h / 1000) + c.silent * (max s.h 10000000 / 1000)

-- A plan that no start hands out: one of its counts is above the 264,362 pulses of the longest session.
unfoldable pub counts_outside : Counts → Bool
counts_outside c =
    either (ltb 264362 c.ones) (either (ltb 264362 c.zeros) (either (ltb 264362 c.spacers) (ltb 264362 c.silent)))

abbrev pub one_outside : List Counts → Bool
one_outside [] = false
one_outside (c ∷ cs) = either (counts_outside c) (one_outside cs)

unfoldable pub plan_outside : Plan → Bool
plan_outside p = one_outside (phases_of p)

-- The times of a plan for so many trackers.
abbrev pub times_of : Plan → Settings → ℕ → Times
times_of p s n = record {
  calibration = lasting s p.calibration;
  handshake = lasting s p.handshake;
  connection = lasting s p.connection;
  version = lasting s p.version;
  command = lasting s p.command;
  size = lasting s p.size;
  image = lasting s p.image;
  ram = lasting s p.ram;
  programming = lasting s p.programming;
  verification = lasting s p.verification;
  one = sum_of (lasting s) p;
  all = sum_of (lasting s) p * n;
  old_one = sum_of (old_lasting s) p;
  old_all = sum_of (old_lasting s) p * n;
}

-- 13: settings that no check hands out, or counts that no session has.
abbrev pub timed_rows : Plan → Settings → List Row
timed_rows p s = 13 given-when settings_outside s ∷ 13 given-when plan_outside p ∷ []

-- The times, or 13.
unfoldable pub timed : Plan → Settings → ℕ → Answer Times
timed p s n = first (13 given-when settings_outside s ∷ 13 given-when plan_outside p ∷ []) (times_of p s n)
