-- 01, row 13 of "Refusal numbers": the ranges of a phase, as docs/RECORDS.md has them.
-- Assumes nothing.
use Rattle.std.specs.Prelude.{Bool, false, ℕ, ltb, leb, eqb}
use Rattle.terms.specs.Choice.{either}
use Rattle.phases.specs.declared.Acknowledgement.{Acknowledgement}
use Rattle.phases.specs.declared.Acknowledgement.TheVariants.{Stored, Programmed, Verified, Failed}
use Rattle.phases.specs.declared.Ending.{Ending}
use Rattle.phases.specs.declared.Ending.TheVariants.{Launched, Booted, Shut, Off}
use Rattle.phases.specs.declared.Phase.{Phase}
use Rattle.phases.specs.declared.Phase.TheVariants.{First, Second, Handshake, Answer, Rest, Command, Size, Long, Align, Ended}
use Rattle.phases.specs.declared.Reply.{Reply}
use Rattle.phases.specs.declared.Reply.TheVariants.{Connection, Acknowledging}

-- The least command that comes to an acknowledgement: programming and verification are for commands 2 and 3.
abbrev pub least_acknowledged : Acknowledgement → ℕ
least_acknowledged Stored = 1
least_acknowledged Programmed = 2
least_acknowledged Verified = 2
least_acknowledged Failed = 1

abbrev pub acknowledgement_outside : ℕ → Acknowledgement → Bool
acknowledgement_outside command a = ltb command (least_acknowledged a)

-- The least that comes to an ending. Until the command is known it is 0.
abbrev pub least_after : Ending → ℕ
least_after Launched = 1
least_after Booted = 0
least_after Shut = 0
least_after Off = 1

-- Draws 1 to 250.
unfoldable pub draw_outside : ℕ → Bool
draw_outside k = either (eqb k 0) (ltb 250 k)

-- 258 bits of the connection.
abbrev pub reply_outside : ℕ → Reply → Bool
reply_outside command (Connection k) = ltb 257 k
reply_outside command (Acknowledging a) = acknowledgement_outside command a

-- Size and longs come after a command of 1 to 3; each has 32 bits.
unfoldable pub size_outside : ℕ → ℕ → Bool
size_outside command n = either (ltb command 1) (ltb 31 n)

-- There are as many longs as the size says.
unfoldable pub long_outside : ℕ → ℕ → ℕ → ℕ → Bool
long_outside command size k n = either (leb size k) (size_outside command n)

-- A phase that a chip with this command and size does not have. A first low is no time-out.
abbrev pub phase_outside : ℕ → ℕ → Phase → Bool
phase_outside command size First = false
phase_outside command size (Second d) = ltb 374999 d.0
phase_outside command size (Handshake k) = draw_outside k
phase_outside command size (Answer r) = reply_outside command r
phase_outside command size (Rest r) = reply_outside command r
phase_outside command size (Command n bits) = ltb 31 n
phase_outside command size (Size n bits) = size_outside command n
phase_outside command size (Long n k bits) = long_outside command size k.0 n
phase_outside command size (Align a) = acknowledgement_outside command a
phase_outside command size (Ended e) = ltb command (least_after e)
