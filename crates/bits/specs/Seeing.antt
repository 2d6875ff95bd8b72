-- 01, "Host joined to chip": "The host sees the chip's reply to the first pulse of each pair, otherwise silence".
-- Assumes nothing.
use Rattle.std.specs.Prelude.{ℕ}
use Rattle.terms.specs.Choice.{when}
use Rattle.units.specs.declared.Seen.{Seen}
use Rattle.units.specs.declared.Seen.TheVariants.{Silence}
use Rattle.place.specs.Phases.{carries}
use Rattle.place.specs.declared.Carries.{Carries}
use Rattle.place.specs.declared.Carries.TheVariants.{Pairs, Bits, Nothing}
use Rattle.place.specs.declared.Phase.{Phase}
use Rattle.bits.specs.Bits.{pair_bit}

-- The host sees the reply to the first pulse of a pair in the call that sends the second; elsewhere silence.
unfoldable pub around_first : ℕ → Seen → Seen
around_first i reply = when (pair_bit i) Silence reply

abbrev pub around : Carries → ℕ → Seen → Seen
around Pairs i reply = around_first i reply
around Bits i reply = Silence
around Nothing i reply = Silence

abbrev pub sees : Phase → ℕ → Seen → Seen
sees phase i reply = around (carries phase) i reply
