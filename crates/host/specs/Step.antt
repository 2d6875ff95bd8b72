-- 01, "What the host sends" and "Edges", and 02, "Six": the host's start and its steps. The session is sent in time.
-- Assumes nothing.
use Rattle.std.specs.Prelude.{Bool, List, ◌∷◌, ◌++◌, ℕ, ◌+◌, ◌-◌, ◌*◌, ltb}
use Rattle.terms.specs.Choice.{either}
use Rattle.terms.specs.Refusals.{Row, Answer, ◌given-when◌, first}
use Rattle.load.specs.Load.{load_rows, load_of}
use Rattle.settings.specs.Settings.{settings_rows, settings_outside}
use Rattle.settings.specs.declared.Settings.{Settings}
use Rattle.session.specs.Step.{step_rows, pulse_of}
use Rattle.session.specs.Step as session
use Rattle.session.specs.declared.Session.{Session}
use Rattle.session.specs.declared.Pulse.{Pulse}
use Rattle.ticks.specs.Ticks.{none, sum, with_pulse}
use Rattle.units.specs.declared.Seen.{Seen}
use Rattle.host.specs.Time.{low, spacer, tick}
use Rattle.host.specs.declared.Host.{Host}
use Rattle.host.specs.declared.Sent.{Sent}

-- The host before its first pulse, which falls at time 0.
abbrev pub fresh : Settings → Session → Host
fresh settings session = record { settings = settings; session = session; time = 0; phases = none }

-- The fresh record, or the first of rows 1 to 9 that applies.
unfoldable pub host_start : ℕ → ℕ → ℕ → ℕ → List ℕ → Answer Host
host_start t h p command image =
    first (settings_rows t h p ++ load_rows command image)
    (fresh (record { t = t; h = h; p = p }) (session.fresh (load_of command image)))

-- A time that so many pulses cannot have taken: with its spacer none is longer than 90,052,000,000 ps, twice the largest t and the
-- largest h.
unfoldable pub late : ℕ → ℕ → Bool
late pulses time = ltb (pulses * 90052000000) time

-- Settings outside their bounds, or a time that is late.
unfoldable pub time_outside : Host → Bool
time_outside h = either (settings_outside h.settings) (late h.session.pulses h.time)

-- The ticks of the next pulse: its fall, and its rise where it sends a bit.
abbrev pub fall_of : Host → ℕ
fall_of h = (tick h.settings h.time).0

abbrev pub rise_of : Host → Bool → ℕ
rise_of h b = (tick h.settings (h.time + low h.settings b)).0

-- 13: these, or phases that add up to more ticks than the time has. The session's own rows test the rest of the record.
unfoldable pub host_outside : Host → Bool
host_outside h = either (time_outside h) (ltb (fall_of h) (sum h.phases))

-- A step's rows: those of its session come after its own.
abbrev pub host_rows : Host → List ℕ → List Row
host_rows h image = 13 given-when host_outside h ∷ step_rows h.session image

-- A pulse in time: it falls at the record's time and rises a low later, and the next falls a spacer after that. The ticks since the last
-- rise and those of the low are differences of edges; each goes to its phase. Where row 13 lets the record pass, neither is cut at 0
-- (`phases_sum` in proofs/Steps.antt).
abbrev pub timed : Host → Pulse → Sent
timed h p = record {
  host = record {
    settings = h.settings;
    session = p.session;
    time = h.time + low h.settings p.bit + spacer h.settings p.silent;
    phases =
        with_pulse h.phases h.session.place.phase h.session.place.index
        (fall_of h - sum h.phases) (rise_of h p.bit - fall_of h);
  };
  fall = tick h.settings h.time;
  rise = tick h.settings (h.time + low h.settings p.bit);
  risen = h.time + low h.settings p.bit;
}

-- The pulse in time, or the first row that applies.
unfoldable pub host_step : Host → List ℕ → Seen → Answer Sent
host_step h image seen = first (host_rows h image) (timed h (pulse_of h.session image seen))
