-- 02, "One": a serial session's start and its steps.
-- Assumes nothing.
use Rattle.std.specs.Prelude.{Bool, List, [], ◌∷◌, ℕ, Option, None, Some}
use Rattle.terms.specs.Choice.{when, either}
use Rattle.terms.specs.Refusals.{Row, Answer, ◌given-when◌, first}
use Rattle.load.specs.Load.{load_rows, load_of, load_outside, other_image}
use Rattle.load.specs.declared.Load.{Load}
use Rattle.place.specs.Phases.{ended}
use Rattle.range.specs.Ranges.{place_outside}
use Rattle.place.specs.declared.Phase.{Phase}
use Rattle.place.specs.declared.Phase.TheVariants.{Calibration}
use Rattle.place.specs.declared.Place.{Place}
use Rattle.follow.specs.Follow.{opened}
use Rattle.frames.specs.Frames.{byte_of}
use Rattle.packing.specs.Filling.{sent_at}
use Rattle.serial.specs.Replies.{came, wrong_reply, resumed}
use Rattle.packing.specs.declared.Filling.{Filling}
use Rattle.packing.specs.declared.Packing.{Packing}
use Rattle.serial.specs.declared.Serial.{Serial}
use Rattle.serial.specs.declared.Turn.{Turn}

-- A serial session before its first byte.
abbrev pub fresh : Packing → Load → Serial
fresh packing load = record { packing = packing; load = load; place = opened Calibration }

-- The fresh session, or the first of rows 4 to 9 that applies.
unfoldable pub serial_start : Packing → ℕ → List ℕ → Answer Serial
serial_start packing command image = first (load_rows command image) (fresh packing (load_of command image))

-- 13: the load or the place lies outside its range.
unfoldable pub serial_outside : Load → Place → Bool
serial_outside load place = either (load_outside load) (place_outside load place.phase place.index)

-- A step's rows, in their order.
abbrev pub serial_rows : Serial → List ℕ → Option ℕ → List Row
serial_rows s image back =
    13 given-when serial_outside s.load s.place
    ∷ 14 given-when ended s.place.phase
    ∷ 15 given-when wrong_reply s.place.phase s.place.index back
    ∷ 5 given-when other_image s.load image
    ∷ []

-- A session at another place.
abbrev pub moved_to : Serial → Place → Serial
moved_to s place = record { packing = s.packing; load = s.load; place = place }

abbrev pub byte_sent : Serial → Filling → Turn
byte_sent s f = record { sent = Some (byte_of f.frame.lows); serial = moved_to s f.place }

-- From a place on: one byte, or none where the session has ended.
unfoldable pub turn_at : Serial → List ℕ → Phase → ℕ → Turn
turn_at s image phase i =
    when (ended phase)
    (record { sent = None; serial = moved_to s (record { phase = phase; index = i }) })
    (byte_sent s (sent_at s.packing s.load image phase i))

-- What came back is taken first.
abbrev pub resumed_at : Serial → Option ℕ → Place
resumed_at s back = resumed s.load s.place.phase s.place.index (came back)

unfoldable pub turn_of : Serial → List ℕ → Option ℕ → Turn
turn_of s image back = turn_at s image (resumed_at s back).phase (resumed_at s back).index

-- The turn, or the first row that applies.
unfoldable pub serial_step : Serial → List ℕ → Option ℕ → Answer Turn
serial_step s image back = first (serial_rows s image back) (turn_of s image back)
