-- 02, "Six": the ten phases, and the ticks of each.
-- Assumes nothing.
use Rattle.std.specs.Prelude.{ℕ, ◌+◌, ◌-◌, ◌%◌, ◌^◌, List, [], ◌∷◌, ◌==◌, nat_lt, slice_index, Option, None, Some}
use Rattle.terms.specs.Choice.{when}
use Rattle.terms.specs.Refusals.{Answer, refused, taken, ◌given-when◌, first}
use Rattle.lent.specs.Bytes.{total}
use Rattle.units.specs.declared.Ticks.{Ticks}
use Rattle.place.specs.declared.Acknowledgement.{Acknowledgement}
use Rattle.place.specs.declared.Acknowledgement.TheVariants.{Ram, Programming, Verification}
use Rattle.place.specs.declared.Phase.{Phase}
use Rattle.place.specs.declared.Phase.TheVariants.{Calibration, Handshake, Connection, Version, Command, Zeros, Size, Image, Wait, Ended}
use Rattle.ticks.specs.declared.PhaseTicks.{PhaseTicks}

-- The ten in their order, by number. "The 32 zero bits after a wrong version belong to the command phase." A session that has ended is in
-- none of them.
abbrev pub wait_number : Acknowledgement → ℕ
wait_number Ram = 7
wait_number Programming = 8
wait_number Verification = 9

abbrev pub phase_number : Phase → ℕ
phase_number Calibration = 0
phase_number Handshake = 1
phase_number Connection = 2
phase_number (Version v) = 3
phase_number Command = 4
phase_number Zeros = 4
phase_number Size = 5
phase_number Image = 6
phase_number (Wait a) = wait_number a
phase_number (Ended e) = 10

-- Before the first pulse.
abbrev pub none : PhaseTicks
none = record {
  calibration = record { 0 = 0 };
  handshake = record { 0 = 0 };
  connection = record { 0 = 0 };
  version = record { 0 = 0 };
  command = record { 0 = 0 };
  size = record { 0 = 0 };
  image = record { 0 = 0 };
  ram = record { 0 = 0 };
  programming = record { 0 = 0 };
  verification = record { 0 = 0 };
}

-- The ticks of all ten; of the phase of a number; and their sum.
abbrev pub ten : PhaseTicks → List ℕ
ten p =
    p.calibration.0 ∷ p.handshake.0 ∷ p.connection.0 ∷ p.version.0 ∷ p.command.0 ∷ p.size.0 ∷ p.image.0 ∷ p.ram.0
    ∷ p.programming.0 ∷ p.verification.0 ∷ []

abbrev pub ticks_of : PhaseTicks → ℕ → ℕ
ticks_of p n = slice_index (ten p) n

unfoldable pub sum : PhaseTicks → ℕ
sum p = total (ten p)

-- What is left of a count once another is taken away; 13 where that is more.
unfoldable pub rest_of : ℕ → ℕ → Answer ℕ
rest_of away count = first (13 given-when nat_lt count away ∷ []) (count - away)

-- The spacer before a fall: the ticks since the last rise, which is the ten's sum; 13 where they add up past the fall.
abbrev pub spacer_before : PhaseTicks → ℕ → Answer ℕ
spacer_before p fall = rest_of (sum p) fall

abbrev pub told_spacer : Option Ticks → Answer ℕ
told_spacer None = refused 13
told_spacer (Some ticks) = taken ticks.0

-- More ticks for the phase of a number. A sum that does not fit keeps its lowest 64 bits.
abbrev pub more : ℕ → ℕ → ℕ
more x y = (x + y) % 2 ^ 64

unfoldable pub added : PhaseTicks → ℕ → ℕ → PhaseTicks
added p n x = record {
  calibration = when (n == 0) (record { 0 = more p.calibration.0 x }) p.calibration;
  handshake = when (n == 1) (record { 0 = more p.handshake.0 x }) p.handshake;
  connection = when (n == 2) (record { 0 = more p.connection.0 x }) p.connection;
  version = when (n == 3) (record { 0 = more p.version.0 x }) p.version;
  command = when (n == 4) (record { 0 = more p.command.0 x }) p.command;
  size = when (n == 5) (record { 0 = more p.size.0 x }) p.size;
  image = when (n == 6) (record { 0 = more p.image.0 x }) p.image;
  ram = when (n == 7) (record { 0 = more p.ram.0 x }) p.ram;
  programming = when (n == 8) (record { 0 = more p.programming.0 x }) p.programming;
  verification = when (n == 9) (record { 0 = more p.verification.0 x }) p.verification;
}

-- Which phase has the spacer before a pulse: the pulse's own; but where the pulse is the first of its phase, the phase before, which runs to
-- this fall. That is the one of the number before (`onwards` in sessions/specs/Sessions.antt). Before the first pulse of all there is none,
-- and calibration has its 0 ticks.
unfoldable pub holder : ℕ → ℕ → ℕ
holder own index = when (index == 0) (own - 1) own

-- After a pulse: the spacer before it goes to its holder, and its low to its own phase.
abbrev pub with_pulse : PhaseTicks → Phase → ℕ → ℕ → ℕ → PhaseTicks
with_pulse p phase index spacer low = added (added p (holder (phase_number phase) index) spacer) (phase_number phase) low
