-- 02, "Seven": the bytes that steps send for a run are the fewest that spell it.
-- Assumes nothing.
use Rattle.std.specs.Prelude.{Bool, true, false, List, [], ◌∷◌, ◌≡◌, ℕ, suc, ◌≤◌, ◌<◌, Option, Some}
use Rattle.terms.specs.Refusals.{taken}
use Rattle.follow.specs.Follow.{opened}
use Rattle.place.specs.declared.Phase.{Phase}
use Rattle.packing.specs.Fewest.{Least}
use Rattle.packing.specs.Phases.{in_bits}
use Rattle.packing.specs.Runs.{Run}
use Rattle.packing.specs.declared.Packing.TheVariants.{Fewest}
use Rattle.serial.specs.Step.{resumed_at, serial_start, serial_step}
use Rattle.serial.specs.declared.Serial.{Serial}
use Rattle.serial.specs.declared.Turn.{Turn}
use Rattle.spelling.specs.Spelling.{serials, SameBits}

-- Call n is lent the image `lent n`, and told that `back n` came back.
module _ (x : Serial) (lent : ℕ → List ℕ) (back : ℕ → Option ℕ) where
  -- Each call from one number up to another is taken, and sends its byte.
  pub data Sends : ℕ → List ℕ → ℕ → Type 0 where
    silent : (n : ℕ) → Sends n [] n
    sends : (n : ℕ) (byte : ℕ) (bytes : List ℕ) (end : ℕ)
        → serial_step (serials x lent back n) (lent n) (back n) ≡ taken (record { sent = Some byte; serial = serials x lent back (suc n) })
        → Sends (suc n) bytes end → Sends n (byte ∷ bytes) end

  -- The calls from n on send a run by the fewest bytes; the call after them sends no bit of it.
  pub record RunSent (n : ℕ) (bits : List Bool) : Type 0 where
    pub bytes : List ℕ
    pub end : ℕ
    pub sent : Sends n bytes end
    pub over : in_bits (resumed_at (serials x lent back end) (back end)).phase ≡ false
    pub least : Least bits bytes

  -- Call n is taken, and begins a run.
  pub record Begins (n : ℕ) (image : List ℕ) (bits : List Bool) : Type 0 where
    pub first : Phase
    pub run : Run (serials x lent back n).load image first bits
    pub there : resumed_at (serials x lent back n) (back n) ≡ opened first
    pub turn : Turn
    pub taken_so : serial_step (serials x lent back n) (lent n) (back n) ≡ taken turn

  -- Call n is one of those that send a run.
  pub record InRun (image : List ℕ) (n : ℕ) : Type 0 where
    pub bits : List Bool
    pub first : ℕ
    pub begins : Begins first image bits
    pub run : RunSent first bits
    pub from : first ≤ n
    pub before : n < run.end

-- Whatever record the calls begin with, and whatever comes back; the same image is lent from the run's first call on.
abbrev pub EveryRunSent : Type 0
EveryRunSent =
    (x : Serial) (lent : ℕ → List ℕ) (back : ℕ → Option ℕ) (n : ℕ) (image : List ℕ) (bits : List Bool)
    → (serials x lent back n).packing ≡ Fewest → Begins x lent back n image bits → ((m : ℕ) → n ≤ m → lent m ≡ image)
    → RunSent x lent back n bits

-- In a whole session that is lent the image of its start, each call that sends bits and no pair is one of a run.
abbrev pub EveryCall : Type 0
EveryCall =
    (command : ℕ) (image : List ℕ) (x : Serial) (back : ℕ → Option ℕ) → serial_start Fewest command image ≡ taken x
    → (whole : SameBits x (λ (n : ℕ). image) back command image) (n : ℕ) → n < whole.calls
    → in_bits (resumed_at (serials x (λ (m : ℕ). image) back n) (back n)).phase ≡ true → InRun x (λ (m : ℕ). image) back image n
