-- 02, "Four": the lows of a history that were read as bits, and the nearest of them on each side of the threshold.
-- Assumes nothing.
use Rattle.std.specs.Prelude.{Bool, true, false, List, [], ◌∷◌, ◌⊎◌, ◌≡◌, ℕ, ◌+◌, ◌≤◌, ℤ, nat_abs}
use Rattle.terms.specs.Choice.{when}
use Rattle.line.specs.Reading.{reads, distance_of}
use Rattle.countdown.specs.Countdown.{late}
use Rattle.margins.specs.Margins.{Near, none, at, reads_bit, nearest}
use Rattle.receiver.specs.declared.Receiver.{Receiver}
use Rattle.history.specs.History.{State, Played, started, stepped}

-- Distances from the threshold: of the lows that were read as 1, and of those that were read as 0.
pub record Distances : Type 0 where
  pub ones : List ℤ
  pub zeros : List ℤ

-- One low more, on the side of its bit.
abbrev pub with_low : Bool → ℤ → Distances → Distances
with_low true d l = record { ones = d ∷ l.ones; zeros = l.zeros }
with_low false d l = record { ones = l.ones; zeros = d ∷ l.zeros }

-- One pulse more. One that times out has no margin, and neither has one that is not read as a bit.
unfoldable pub with_pulse : Receiver → ℕ → ℕ → Distances → Distances
with_pulse r wait low l =
    when (late r.left.0 wait low) l
    (when (reads_bit r.listener.phase) (with_low (reads r.listener.threshold.0 low) (distance_of r.listener.threshold.0 low) l) l)

-- Those of a whole history.
unfoldable pub distances : {wait low : ℕ → ℕ} {n : ℕ} {s : State} → Played wait low n s → Distances
distances (started ram eeprom fault c e) = record { ones = []; zeros = [] }
distances {wait} {low} (stepped n s r ram eeprom p e) = with_pulse s.chip.receiver (wait (n + 1)) (low (n + 1)) (distances p)

-- A distance is one of these.
unfoldable pub Among : ℤ → List ℤ → Type 0
Among d [] = ⊥
Among d (e ∷ l) = (d ≡ e) ⊎ Among d l

-- None of these is nearer to the threshold.
unfoldable pub NoneNearer : ℤ → List ℤ → Type 0
NoneNearer d [] = Unit {0}
NoneNearer d (e ∷ l) = (nat_abs d ≤ nat_abs e) × NoneNearer d l

-- The nearest of these, or none where there are none.
abbrev pub NearestOf : List ℤ → Near → Type 0
NearestOf l none = l ≡ []
NearestOf l (at d) = Among d l × NoneNearer d l

-- After any history from a fresh chip the record tells the nearest low of those that were read on each side, and none exactly where none
-- was.
pub record EveryMargin : Type 0 where
  pub one : (wait low : ℕ → ℕ) (n : ℕ) (s : State) (p : Played wait low n s)
      → NearestOf (distances p).ones (nearest s.chip.receiver.margins).one
  pub zero : (wait low : ℕ → ℕ) (n : ℕ) (s : State) (p : Played wait low n s)
      → NearestOf (distances p).zeros (nearest s.chip.receiver.margins).zero
