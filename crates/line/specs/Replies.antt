-- 01, "What the chip does": "Replies" and "Acknowledging".
-- Assumes nothing.
use Rattle.std.specs.Prelude.{Bool, true, false, ℕ, ◌+◌, ltb, eqb}
use Rattle.terms.specs.Choice.{when}
use Rattle.sequence.specs.Sequence.{draw}
use Rattle.units.specs.declared.Seen.{Seen}
use Rattle.units.specs.declared.Seen.TheVariants.{Zero, One}
use Rattle.phases.specs.declared.Acknowledgement.{Acknowledgement}
use Rattle.phases.specs.declared.Acknowledgement.TheVariants.{Stored, Programmed, Verified, Failed}
use Rattle.phases.specs.declared.Reply.{Reply}
use Rattle.phases.specs.declared.Reply.TheVariants.{Connection, Acknowledging}

-- 250 draws, from draw 251 on, then version 1 in 8 bits: bit 250 is 1, and 251 to 257 are 0.
unfoldable pub connection_bit : ℕ → Bool
connection_bit k = when (ltb k 250) (draw (251 + k)) (eqb k 250)

-- Good: reply 0. A failure replies 1 in that place.
abbrev pub acknowledged_bit : Acknowledgement → Bool
acknowledged_bit Stored = false
acknowledged_bit Programmed = false
acknowledged_bit Verified = false
acknowledged_bit Failed = true

abbrev pub reply_bit : Reply → Bool
reply_bit (Connection k) = connection_bit k
reply_bit (Acknowledging a) = acknowledged_bit a

-- A bit as the line shows it.
unfoldable pub shown : Bool → Seen
shown b = when b One Zero
