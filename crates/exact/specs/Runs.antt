-- The batch report and 01's "Host joined to chip": the run of demand 3 is the planned session.
-- Assumes nothing.
use Rattle.std.specs.Prelude.{List, ◌≡◌, ℕ, ◌*◌, ◌/◌, ◌≤◌, length}
use Rattle.settings.specs.declared.Settings.{Settings}
use Rattle.units.specs.declared.Seen.{Seen}
use Rattle.bits.specs.Seeing.{sees}
use Rattle.ticks.specs.Ticks.{sum}
use Rattle.host.specs.declared.Host.{Host}
use Rattle.chip.specs.declared.Chip.{Chip}
use Rattle.sessions.specs.Sessions.{Sends}
use Rattle.joined.specs.Joined.{State, Measuring, begun}
use Rattle.success.specs.Success.{Asked, pulses, at, last}
use Rattle.counts.specs.Counts.{planned, sum_of}
use Rattle.times.specs.Times.{lasting}
use Rattle.exact.specs.Exact as session
use Rattle.exact.specs.Exact.{Exact}
use Rattle.exact.specs.Good.{Good}

module _ (s : Settings) (command : ℕ) (image : List ℕ) (measured : Measuring) (begin : State) where
  -- What the host is told in call n of the run.
  abbrev pub told : ℕ → Seen
  told n =
      let before = at command image measured begin n in
      sees before.host.session.place.phase before.host.session.place.index before.reply

  -- The report's time of one tracker, in ps.
  abbrev pub time : ℕ
  time = 1000 * sum_of (lasting s) (planned command image)

  pub record PlannedRun : Type 0 where
    -- What the host is told there is what the planned session says.
    pub good : Good command (length image) told
    -- So the run's host sends that session, call for call, to its end.
    pub sends : Sends s command (length image) (λ n. image) told begin.host
    pub hosts : (n : ℕ) → n ≤ pulses command (length image) → (at command image measured begin n).host ≡ sends.hosts n
    pub all_pulses : session.last s command image told ≡ pulses command (length image)
    -- The closed form holds of it, and its last rise is the report's time: exactly, and in ticks, which the ten phases add up to.
    pub exact : Exact s command image told
    pub risen : (last command image measured begin).risen ≡ time
    pub rise : (last command image measured begin).rise ≡ time / s.p
    pub phases : sum (last command image measured begin).host.phases ≡ time / s.p

-- For everything that demand 3 asks.
abbrev pub EveryRun : Type 0
EveryRun =
    (t h p command : ℕ) (image : List ℕ) (host : Host) (ram eeprom : List ℕ) (chip : Chip) (l : ℕ) (measured : Measuring)
    → Asked t h p command image host ram eeprom chip l measured
    → PlannedRun (record { t = t; h = h; p = p }) command image measured (begun host chip ram eeprom)
