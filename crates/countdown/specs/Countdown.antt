-- 02, "Two": one countdown over waits and lows.
-- Assumes nothing.
use Rattle.std.specs.Prelude.{Bool, true, false, not, ℕ, ◌+◌, ◌-◌, leb, ltb, eqb}
use Rattle.terms.specs.Choice.{when, either}
use Rattle.phases.specs.declared.Phase.{Phase}
use Rattle.phases.specs.declared.Phase.TheVariants.{First, Second, Handshake, Answer, Rest, Command, Size, Long, Align, Ended}

-- Waits and lows both draw on it, and a total that reaches it is a time-out.
unfoldable pub late : ℕ → ℕ → ℕ → Bool
late left wait low = leb left (wait + low)

-- What they leave of it; nothing exactly where the pulse is late (`late_drawn` in proofs/Late.antt).
abbrev pub drawn : ℕ → ℕ → ℕ → ℕ
drawn left wait low = left - wait - low

-- The chip aligns.
abbrev pub aligns : Phase → Bool
aligns First = false
aligns (Second d) = false
aligns (Handshake k) = false
aligns (Answer r) = false
aligns (Rest r) = false
aligns (Command n bits) = false
aligns (Size n bits) = false
aligns (Long n k bits) = false
aligns (Align a) = true
aligns (Ended e) = false

-- Set again to 250,000, or not.
unfoldable pub anew : Bool → ℕ → ℕ
anew starts left = when starts 250000 left

-- What is left before the next pulse, by the phase that a pulse was heard in and the one that it leads to: set again at the start of each
-- 32-bit value, of each alignment and of each reply.
abbrev pub counting : Phase → Phase → ℕ → ℕ
counting from First left = left
counting from (Second d) left = left
counting from (Handshake k) left = left
counting from (Answer r) left = 250000
counting from (Rest r) left = left
counting from (Command n bits) left = anew (eqb n 0) left
counting from (Size n bits) left = anew (eqb n 0) left
counting from (Long n k bits) left = anew (eqb n 0) left
counting from (Align a) left = anew (not (aligns from)) left
counting from (Ended e) left = left

-- The most that can be left: 375,000 loops for calibration and handshake together, less the first low once that is read; 250,000 after them.
-- A first low of 375,000 or more was late: it leaves nothing, and no chip has such a phase.
abbrev pub most_left : Phase → ℕ
most_left First = 375000
most_left (Second d) = 375000 - d.0
most_left (Handshake k) = 375000
most_left (Answer r) = 250000
most_left (Rest r) = 250000
most_left (Command n bits) = 250000
most_left (Size n bits) = 250000
most_left (Long n k bits) = 250000
most_left (Align a) = 250000
most_left (Ended e) = 375000

-- 13: nothing is left, or more than the phase can have.
unfoldable pub left_outside : Phase → ℕ → Bool
left_outside phase left = either (eqb left 0) (ltb (most_left phase) left)
