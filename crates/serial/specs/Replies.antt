-- 02, "One": "Replies arrive as $FE or $FF"; what came back for the byte before is looked at only after a $F9 of 01's steps 3, 4, 7 and 8.
-- Assumes nothing.
use Rattle.std.specs.Prelude.{Bool, false, not, ℕ, eqb, Option, None, Some}
use Rattle.terms.specs.Choice.{when, both}
use Rattle.load.specs.declared.Load.{Load}
use Rattle.units.specs.declared.Seen.{Seen}
use Rattle.units.specs.declared.Seen.TheVariants.{Silence, Zero, One}
use Rattle.place.specs.declared.Phase.{Phase}
use Rattle.place.specs.declared.Place.{Place}
use Rattle.follow.specs.Follow.{next}
use Rattle.serial.specs.Phases.{pending, awaits}

-- $FE is 0, $FF is 1; nothing is silence.
unfoldable pub seen_in : ℕ → Seen
seen_in b = when (eqb b 0xFE) Zero One

abbrev pub came : Option ℕ → Seen
came None = Silence
came (Some b) = seen_in b

-- A byte that is neither.
unfoldable pub other : ℕ → Bool
other b = when (eqb b 0xFE) false (not (eqb b 0xFF))

abbrev pub neither : Option ℕ → Bool
neither None = false
neither (Some b) = other b

-- 15: a reply that is looked at is a byte that is neither.
unfoldable pub wrong_reply : Phase → ℕ → Option ℕ → Bool
wrong_reply phase i back = both (awaits phase i) (neither back)

-- The place from which the next byte is filled: past the second pulse of a pair that is on the wire.
unfoldable pub resumed : Load → Phase → ℕ → Seen → Place
resumed load phase i seen = when (pending phase i) (next load phase i seen) (record { phase = phase; index = i })
