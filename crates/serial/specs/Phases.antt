-- 02, "One": which pairs are on the wire, and which of them await a reply.
-- Assumes nothing.
use Rattle.std.specs.Prelude.{Bool, true, false, not, ℕ}
use Rattle.terms.specs.Choice.{both}
use Rattle.bits.specs.Bits.{pair_bit}
use Rattle.place.specs.declared.Phase.{Phase}
use Rattle.place.specs.declared.Phase.TheVariants.{Calibration, Handshake, Connection, Version, Command, Zeros, Size, Image, Wait, Ended}
use Rattle.packing.specs.Phases.{in_pairs}

-- The pairs of steps 3, 4, 7 and 8 are answered.
abbrev pub answered : Phase → Bool
answered Calibration = false
answered Handshake = false
answered Connection = true
answered (Version v) = true
answered Command = false
answered Zeros = false
answered Size = false
answered Image = false
answered (Wait a) = true
answered (Ended e) = false

-- A pair is on the wire: the record stands at its second pulse.
unfoldable pub pending : Phase → ℕ → Bool
pending phase i = both (in_pairs phase) (not (pair_bit i))

-- One whose reply is looked at.
unfoldable pub awaits : Phase → ℕ → Bool
awaits phase i = both (answered phase) (not (pair_bit i))
