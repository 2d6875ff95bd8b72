-- 01, "Host joined to chip": what goes before a launch from download.
-- Assumes nothing.
use Rattle.std.specs.Prelude.{Bool, ◌⊎◌, ◌≡◌, ℕ, zero, suc, ◌+◌, ◌^◌, ◌%◌, ◌≤◌, ◌<◌}
use Rattle.terms.specs.Choice.{when}
use Rattle.lent.specs.Bytes.{total}
use Rattle.sequence.specs.Sequence.{draw}
use Rattle.phases.specs.declared.Acknowledgement.TheVariants.{Stored}
use Rattle.phases.specs.declared.Phase.TheVariants.{Answer}
use Rattle.phases.specs.declared.Reply.TheVariants.{Acknowledging}
use Rattle.line.specs.Reading.{threshold_of, reads}
use Rattle.history.specs.History.{State, Played}

-- The value that the first bits spell, low bit first.
unfoldable pub spelled : (ℕ → Bool) → ℕ → ℕ
spelled bits zero = 0
spelled bits (suc n) = spelled bits n + when (bits n) (2 ^ n) 0

-- The bit of a pulse, read by the threshold of lows 1 and 2.
abbrev pub bit_of : (ℕ → ℕ) → ℕ → Bool
bit_of low n = reads (threshold_of (low 1) (low 2)) (low n)

-- The command: lows 769 to 800.
abbrev pub command_of : (ℕ → ℕ) → ℕ
command_of low = spelled (λ (i : ℕ). bit_of low (769 + i)) 32

-- The checksum was good when it was acknowledged: before so many pulses the chip was to answer that with a 0, and all bytes of
-- its RAM summed to 0 modulo 256.
pub record Acknowledged (wait low : ℕ → ℕ) (n : ℕ) : Type 0 where
  pub pulses : ℕ
  pub earlier : pulses < n
  pub state : State
  pub played : Played wait low pulses state
  pub answering : state.chip.receiver.listener.phase ≡ Answer (Acknowledging Stored)
  pub sum : total state.ram % 256 ≡ 0

-- Among so many pulses: 250 matching bits, command 1 or 3, and a checksum of 0.
pub record Download (wait low : ℕ → ℕ) (n : ℕ) : Type 0 where
  pub pulses : 800 ≤ n
  pub handshake : (k : ℕ) → 1 ≤ k → k ≤ 250 → bit_of low (k + 2) ≡ draw k
  pub command : (command_of low ≡ 1) ⊎ (command_of low ≡ 3)
  pub checksum : Acknowledged wait low n
