-- 02, "One": which pulses go as pairs, and which are bits of a run.
-- Assumes nothing.
use Rattle.std.specs.Prelude.{Bool, true, false}
use Rattle.place.specs.Phases.{carries}
use Rattle.place.specs.declared.Carries.{Carries}
use Rattle.place.specs.declared.Carries.TheVariants.{Pairs, Bits, Nothing}
use Rattle.place.specs.declared.Phase.{Phase}

-- The phases that carry pairs.
abbrev pub are_pairs : Carries → Bool
are_pairs Pairs = true
are_pairs Bits = false
are_pairs Nothing = false

abbrev pub in_pairs : Phase → Bool
in_pairs phase = are_pairs (carries phase)

-- Those that carry bits. Two that follow each other are one run: between runs there are pairs, and after the last the session ends.
abbrev pub are_bits : Carries → Bool
are_bits Pairs = false
are_bits Bits = true
are_bits Nothing = false

abbrev pub in_bits : Phase → Bool
in_bits phase = are_bits (carries phase)
