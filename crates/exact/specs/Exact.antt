-- The batch report: the closed form is the session. For every settings, command and image, and whatever a good chip lets the host see.
-- Assumes nothing.
use Rattle.std.specs.Prelude.{List, map, ◌≡◌, ℕ, ◌+◌, ◌-◌, ◌*◌, ◌/◌, ◌≤◌, ◌<◌, eqb, length, take}
use Rattle.terms.specs.Choice.{when}
use Rattle.lent.specs.Bytes.{total}
use Rattle.settings.specs.declared.Settings.{Settings}
use Rattle.units.specs.declared.Seen.{Seen}
use Rattle.sessions.specs.Legs.{legs}
use Rattle.sessions.specs.Phases.{calls_before}
use Rattle.sessions.specs.Sessions.{session, many, edge, phase_at, ones, zeros}
use Rattle.counts.specs.Counts.{planned, phases_of, sum_of}
use Rattle.counts.specs.declared.Counts.{Counts}
use Rattle.times.specs.Times.{lasting, old_lasting}
use Rattle.exact.specs.Good.{Good}

abbrev pub pulses_of : Counts → ℕ
pulses_of c = c.ones + c.zeros

-- The legs of a phase: its lows, and its spacers.
abbrev pub legs_of : Counts → ℕ
legs_of c = c.ones + c.zeros + c.spacers + c.silent

-- The sum of a figure over the phases before phase q.
unfoldable pub up_to : (Counts → ℕ) → List Counts → ℕ → ℕ
up_to f cs q = total (take q (map f cs))

-- The last phase that a command has: the command, the acknowledgement of RAM, the verification.
unfoldable pub last_phase : ℕ → ℕ
last_phase command = when (eqb command 0) 4 (when (eqb command 1) 7 9)

module _ (s : Settings) (command : ℕ) (image : List ℕ) (seen : ℕ → Seen) where
  -- The pulses of the session, which is lent the image at every call, and the exact time of edge k in ps.
  abbrev pub last : ℕ
  last = many s command (length image) (λ n. image) seen

  abbrev pub at : ℕ → ℕ
  at = edge s command (length image) (λ n. image) seen

  -- What the old bench made of the first k legs, in us: each cut to whole us by itself, then added.
  abbrev pub old_at : ℕ → ℕ
  old_at k = total (map (λ (x : ℕ). x / 1000000) (take k (legs s (session s command (length image) (λ n. image) seen).pulses)))

  abbrev pub before : (Counts → ℕ) → ℕ → ℕ
  before f q = up_to f (phases_of (planned command image)) q

  pub record Exact : Type 0 where
    -- The session's pulses, ones and zeros.
    pub pulses : last ≡ sum_of pulses_of (planned command image)
    pub counted_ones : ones (session s command (length image) (λ n. image) seen).pulses ≡ sum_of (λ (c : Counts). c.ones) (planned command image)
    pub counted_zeros : zeros (session s command (length image) (λ n. image) seen).pulses ≡ sum_of (λ (c : Counts). c.zeros) (planned command image)
    -- Phase q begins with the call after as many as the phases before it have; these are 02's phases ("Six").
    pub phases : (q : ℕ) → calls_before (phase_at s command (length image) (λ n. image) seen) last q ≡ before pulses_of q
    -- It opens at the sum of the phases before it, to the picosecond, and the session ends at the sum of all: the edge of the last rise.
    pub opens : (q : ℕ) → q ≤ last_phase command → at (2 * before pulses_of q) ≡ 1000 * before (lasting s) q
    pub ends : at (2 * last - 1) ≡ 1000 * sum_of (lasting s) (planned command image)
    pub all_legs : 2 * last - 1 ≡ sum_of legs_of (planned command image)
    -- The old figure is the sum of the legs each cut to whole us, is never above the exact one, and is short of it by less than one us a
    -- leg.
    pub old : old_at (2 * last - 1) ≡ sum_of (old_lasting s) (planned command image)
    pub old_below : sum_of (old_lasting s) (planned command image) * 1000 ≤ sum_of (lasting s) (planned command image)
    pub old_short : sum_of (lasting s) (planned command image)
        < (sum_of (old_lasting s) (planned command image) + sum_of legs_of (planned command image)) * 1000

abbrev pub EveryPlan : Type 0
EveryPlan =
    (s : Settings) (command : ℕ) (image : List ℕ) (seen : ℕ → Seen) → Good command (length image) seen → Exact s command image seen
