-- What is known of a chip by its phase, once it has played so many pulses: how many they can be, what was matched, what was spelled,
-- and whether the checksum was good.
-- Assumes nothing.
use mathlib.Core.List.{List}
use mathlib.Core.Path.{◌≡◌}
use Prim.Native.Nat.{ℕ, ◌+◌, ◌-◌, ◌*◌, ◌^◌, ◌%◌, ◌≤◌, ◌<◌}
use Rattle.lent.specs.Bytes.{total}
use Rattle.sequence.specs.Sequence.{draw}
use Rattle.phases.specs.declared.Acknowledgement.{Acknowledgement}
use Rattle.phases.specs.declared.Acknowledgement.TheVariants.{Stored, Programmed, Verified, Failed}
use Rattle.phases.specs.declared.Ending.TheVariants.{Launched, Booted, Shut, Off}
use Rattle.phases.specs.declared.Phase.{Phase}
use Rattle.phases.specs.declared.Phase.TheVariants.{First, Second, Handshake, Answer, Rest, Command, Size, Long, Align, Ended}
use Rattle.phases.specs.declared.Reply.TheVariants.{Connection, Acknowledging}
use Rattle.line.specs.Reading.{threshold_of}
use Rattle.listener.specs.declared.Listener.{Listener}
use Rattle.history.specs.Download.{spelled, bit_of, command_of, Acknowledged}

-- The threshold is that of lows 1 and 2, and by it all draws before a number were matched.
pub record Matched (low : ℕ → ℕ) (threshold k : ℕ) : Type 0 where
  pub calibrated : threshold ≡ threshold_of (low 1) (low 2)
  pub matched : (j : ℕ) → 1 ≤ j → j < k → bit_of low (j + 2) ≡ draw j

-- The handshake before draw k.
pub record Shaking (low : ℕ → ℕ) (n threshold k : ℕ) : Type 0 where
  pub pulses : n ≡ k + 1
  pub least : 1 ≤ k
  pub most : k ≤ 250
  pub before : Matched low threshold k

-- Reply k of the connection, of which so many pulses are played.
pub record Connecting (low : ℕ → ℕ) (n threshold k part : ℕ) : Type 0 where
  pub pulses : n ≡ 252 + k * 2 + part
  pub most : k ≤ 257
  pub shaken : Matched low threshold 251

-- The command, of which some bits are read.
pub record Commanding (low : ℕ → ℕ) (n threshold i bits : ℕ) : Type 0 where
  pub pulses : n ≡ 768 + i
  pub most : i ≤ 31
  pub shaken : Matched low threshold 251
  pub above : bits ≡ spelled (λ (j : ℕ). bit_of low (769 + j)) i * 2 ^ (32 - i)

-- The command is known.
pub record Commanded (low : ℕ → ℕ) (n threshold command : ℕ) : Type 0 where
  pub pulses : 800 ≤ n
  pub shaken : Matched low threshold 251
  pub is : command ≡ command_of low
  pub least : 1 ≤ command
  pub most : command ≤ 3

-- A launch: not by command 2.
pub record Launching (wait low : ℕ → ℕ) (n threshold command : ℕ) : Type 0 where
  pub commanded : Commanded low n threshold command
  pub other : command ≡ 2 → ⊥
  pub acknowledged : Acknowledged wait low n

module _ (wait low : ℕ → ℕ) where
  -- Before a good checksum is answered RAM sums to 0, and after that it was acknowledged.
  abbrev pub Summed : ℕ → List ℕ → Acknowledgement → Type 0
  Summed n ram Stored = total ram % 256 ≡ 0
  Summed n ram Programmed = Acknowledged wait low n
  Summed n ram Verified = Acknowledged wait low n
  Summed n ram Failed = Unit {0}

  abbrev pub Answered : ℕ → Acknowledgement → Type 0
  Answered n Stored = Acknowledged wait low n
  Answered n Programmed = Acknowledged wait low n
  Answered n Verified = Acknowledged wait low n
  Answered n Failed = Unit {0}

  abbrev pub Known : ℕ → List ℕ → ℕ → ℕ → Phase → Type 0
  Known n ram t c First = n ≡ 0
  Known n ram t c (Second d) = (n ≡ 1) × (d.0 ≡ low 1)
  Known n ram t c (Handshake k) = Shaking low n t k
  Known n ram t c (Answer (Connection k)) = Connecting low n t k 0
  Known n ram t c (Answer (Acknowledging a)) = Commanded low n t c × Summed n ram a
  Known n ram t c (Rest (Connection k)) = Connecting low n t k 1
  Known n ram t c (Rest (Acknowledging a)) = Commanded low n t c × Answered n a
  Known n ram t c (Command i bits) = Commanding low n t i bits
  Known n ram t c (Size i bits) = Commanded low n t c
  Known n ram t c (Long i k bits) = Commanded low n t c
  Known n ram t c (Align a) = Commanded low n t c × Summed n ram a
  Known n ram t c (Ended Launched) = Launching wait low n t c
  Known n ram t c (Ended Booted) = Unit {0}
  Known n ram t c (Ended Shut) = Unit {0}
  Known n ram t c (Ended Off) = Unit {0}

  abbrev pub KnownOf : ℕ → List ℕ → Listener → Type 0
  KnownOf n ram l = Known n ram l.threshold.0 l.command l.phase
