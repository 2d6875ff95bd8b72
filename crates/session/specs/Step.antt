-- 01, "What the host sends", without time: a session's start and its steps.
-- Assumes nothing.
use Rattle.std.specs.Prelude.{Bool, List, [], ◌∷◌, ℕ, ◌+◌}
use Rattle.terms.specs.Choice.{when}
use Rattle.terms.specs.Refusals.{Row, Answer, ◌given-when◌, first}
use Rattle.load.specs.Load.{load_rows, load_of, other_image}
use Rattle.load.specs.declared.Load.{Load}
use Rattle.units.specs.declared.Seen.{Seen}
use Rattle.bits.specs.Bits.{sent_bit}
use Rattle.follow.specs.Follow.{opened, next, ends_silent_pair}
use Rattle.place.specs.Phases.{ended}
use Rattle.session.specs.Ranges.{session_outside}
use Rattle.place.specs.declared.Phase.{Phase}
use Rattle.place.specs.declared.Phase.TheVariants.{Calibration}
use Rattle.place.specs.declared.Place.{Place}
use Rattle.session.specs.declared.Pulse.{Pulse}
use Rattle.session.specs.declared.Session.{Session}

-- A session before its first pulse.
abbrev pub fresh : Load → Session
fresh load = record { load = load; place = opened Calibration; pulses = 0; ones = 0; zeros = 0 }

-- The fresh session, or the first of rows 4 to 9 that applies.
unfoldable pub session_start : ℕ → List ℕ → Answer Session
session_start command image = first (load_rows command image) (fresh (load_of command image))

-- A step's rows, in their order.
abbrev pub step_rows : Session → List ℕ → List Row
step_rows s image =
    13 given-when session_outside s
    ∷ 14 given-when ended s.place.phase
    ∷ 5 given-when other_image s.load image
    ∷ []

-- A session with one pulse more, of bit b, that now stands at a place: its counts count what was sent.
abbrev pub counted : Session → Place → Bool → Session
counted s place b = record {
  load = s.load;
  place = place;
  pulses = s.pulses + 1;
  ones = s.ones + when b 1 0;
  zeros = s.zeros + when b 0 1;
}

-- The pulse at a place.
abbrev pub pulse_at : Session → Phase → ℕ → List ℕ → Seen → Pulse
pulse_at s phase i image seen = record {
  bit = sent_bit s.load image phase i;
  silent = ends_silent_pair phase i seen;
  session = counted s (next s.load phase i seen) (sent_bit s.load image phase i);
}

-- The pulse that a step sends.
abbrev pub pulse_of : Session → List ℕ → Seen → Pulse
pulse_of s image seen = pulse_at s s.place.phase s.place.index image seen

-- The pulse, or the first row that applies.
unfoldable pub session_step : Session → List ℕ → Seen → Answer Pulse
session_step s image seen = first (step_rows s image) (pulse_of s image seen)
