-- 02, "Four": the smallest distance from the threshold on either side.
-- Assumes nothing.
use Rattle.std.specs.Prelude.{Bool, true, false, not, ℕ, ℤ, pos, negsuc, Option, None, Some}
use Rattle.std.specs.Int.Signed.{lt_z}
use Rattle.terms.specs.Choice.{when, either}
use Rattle.units.specs.declared.Distance.{Distance}
use Rattle.phases.specs.declared.Phase.{Phase}
use Rattle.phases.specs.declared.Phase.TheVariants.{First, Second, Handshake, Answer, Rest, Command, Size, Long, Align, Ended}
use Rattle.margins.specs.declared.Margins.{Margins}
use Rattle.margins.specs.declared.Nearest.{Nearest}

-- The nearest low of a side: none, or its signed distance.
pub data Near : Type 0 where
  none : Near
  at : ℤ → Near

abbrev pub told_margin : Option Distance → Near
told_margin None = none
told_margin (Some d) = at d.0

-- Of both sides.
pub record Told : Type 0 where
  pub one : Near
  pub zero : Near

abbrev pub told : Nearest → Told
told n = record { one = told_margin n.one; zero = told_margin n.zero }

-- Handshake bits, command, size, longs, and every pulse of an alignment are read. "Calibration lows, a reply's pulses .. have no margin."
abbrev pub reads_bit : Phase → Bool
reads_bit First = false
reads_bit (Second d) = false
reads_bit (Handshake k) = true
reads_bit (Answer r) = false
reads_bit (Rest r) = false
reads_bit (Command n bits) = true
reads_bit (Size n bits) = true
reads_bit (Long n k bits) = true
reads_bit (Align a) = true
reads_bit (Ended e) = false

-- The nearer of two to the threshold: on the side of 1, where distances are negative, the greater; on the side of 0 the lesser.
abbrev pub nearer_one : ℤ → ℤ → ℤ
nearer_one near d = when (lt_z near d) d near

abbrev pub nearer_zero : ℤ → ℤ → ℤ
nearer_zero near d = when (lt_z d near) d near

-- A low that was read, kept on the side of its bit.
abbrev pub with_bit : Margins → Bool → ℤ → Margins
with_bit m true d = record { one = record { 0 = nearer_one m.one.0 d }; zero = m.zero }
with_bit m false d = record { one = m.one; zero = record { 0 = nearer_zero m.zero.0 d } }

-- A timely pulse, by the phase that it is heard in.
unfoldable pub with_pulse : Margins → Phase → Bool → ℤ → Margins
with_pulse m phase bit d = when (reads_bit phase) (with_bit m bit d) m

-- Farther than any low: what stands where none was read, the least and the greatest number of 64 bits.
abbrev pub farthest : ℕ
farthest = 9223372036854775807

abbrev pub no_one : ℤ
no_one = negsuc farthest

abbrev pub no_zero : ℤ
no_zero = pos farthest

abbrev pub unread : Margins
unread = record { one = record { 0 = no_one }; zero = record { 0 = no_zero } }

-- What the margins tell: "until a side has been read, the record says that it has none".
unfoldable pub nearest_one : ℤ → Near
nearest_one z = when (lt_z no_one z) (at z) none

unfoldable pub nearest_zero : ℤ → Near
nearest_zero z = when (lt_z z no_zero) (at z) none

abbrev pub nearest : Margins → Told
nearest m = record { one = nearest_one m.one.0; zero = nearest_zero m.zero.0 }

-- 13: a 1's nearest is negative, and a 0's is not.
unfoldable pub margins_outside : Margins → Bool
margins_outside m = either (not (lt_z m.one.0 (pos 0))) (lt_z m.zero.0 (pos 0))
