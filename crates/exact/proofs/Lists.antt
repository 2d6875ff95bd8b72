-- What each part of the planned session sends, as a list, and what follows it.
-- Assumes nothing.
use mathlib.Core.Bool.{Bool, true, false}
use mathlib.Core.List.{List, [], ◌∷◌, ◌++◌}
use mathlib.Core.Path.{◌≡◌, refl, sym, ap, ◌∙◌}
use Prim.Native.Nat.{ℕ, zero, suc, ◌+◌, ◌*◌, ◌^◌, ◌<◌}
use native.Mathlib.Omega.{arith}
use native.Mathlib.Nat.{add-zero}
use lib.Dec.{eqb}
use Rattle.terms.specs.Choice.{when}
use Rattle.terms.proofs.Tests.{when_true}
use Rattle.sequence.specs.Sequence.{draw}
use Rattle.units.specs.declared.Seen.{Seen}
use Rattle.units.specs.declared.Seen.TheVariants.{Zero, One}
use Rattle.follow.specs.Follow.{shows}
use Rattle.place.specs.declared.Acknowledgement.{Acknowledgement}
use Rattle.place.specs.declared.Ending.{Ending}
use Rattle.place.specs.declared.Ending.TheVariants.{Lost}
use Rattle.place.specs.declared.Phase.{Phase}
use Rattle.place.specs.declared.Phase.TheVariants.{Wait}
use Rattle.ticks.specs.Ticks.{phase_number, wait_number}
use Rattle.sessions.specs.Spelled.{Mark, Part, over, pair, silent_pair, bits, by, connection, version, wait}
use Rattle.exact.specs.Good.{Answered}

-- A pulse of phase k with an ordinary spacer; bits, pairs, and a wait whose second pair is answered.
abbrev pub plain : ℕ → Bool → Mark
plain k b = record { bit = b; silent = false; phase = k }

unfoldable pub bit_marks : ℕ → (ℕ → Bool) → ℕ → ℕ → List Mark
bit_marks k bit i zero = []
bit_marks k bit i (suc left) = plain k (bit i) ∷ bit_marks k bit (i + 1) left

unfoldable pub pair_marks : ℕ → ℕ → List Mark
pair_marks k zero = []
pair_marks k (suc left) = plain k true ∷ plain k false ∷ pair_marks k left

abbrev pub wait_marks : ℕ → List Mark
wait_marks k = plain k true ∷ record { bit = false; silent = true; phase = k } ∷ plain k true ∷ plain k false ∷ []

-- Bits that go by their number alone.
pub bits_are : (phase : Phase) (bit : ℕ → Bool) (left i n : ℕ) (rest : Part)
    → (bits phase (λ m k. bit k) i left rest n).pulses ≡ bit_marks (phase_number phase) bit i left ++ (rest (n + left)).pulses
unfolding bits bit_marks
bits_are phase bit zero i n rest = ap (λ (m : ℕ). (rest m).pulses) (sym (add-zero n))
bits_are phase bit (suc left) i n rest =
    let is : n + 1 + left ≡ n + suc left = omega arith in
    ap (λ (l : List Mark). plain (phase_number phase) (bit i) ∷ l)
    (bits_are phase bit left (i + 1) (n + 1) rest
    ∙ ap (λ (m : ℕ). bit_marks (phase_number phase) bit (i + 1) left ++ (rest m).pulses) is)

module _ (seen : ℕ → Seen) where
  pub connection_is : (left k n : ℕ) (rest : Part) → ((j : ℕ) → j < left → shows (seen (n + 1 + j * 2)) (draw (k + j)) ≡ true)
      → (connection seen k left rest n).pulses ≡ pair_marks 2 left ++ (rest (n + left * 2)).pulses
  unfolding connection pair_marks
  connection_is zero k n rest good = ap (λ (m : ℕ). (rest m).pulses) (omega arith)
  connection_is (suc left) k n rest good =
      let at : n + 1 ≡ n + 1 + 0 * 2 = omega arith in
      let number : k ≡ k + 0 = omega arith in
      let here : shows (seen (n + 1)) (draw k) ≡ true =
      ap (λ (m : ℕ). shows (seen m) (draw k)) at ∙ ap (λ (m : ℕ). shows (seen (n + 1 + 0 * 2)) (draw m)) number ∙ good 0 (omega arith) in
      let more = connection_is left (k + 1) (n + 1 + 1) rest
      (λ j h.
      let at : n + 1 + 1 + 1 + j * 2 ≡ n + 1 + suc j * 2 = omega arith in
      let number : k + 1 + j ≡ k + suc j = omega arith in
      ap (λ (m : ℕ). shows (seen m) (draw (k + 1 + j))) at ∙ ap (λ (m : ℕ). shows (seen (n + 1 + suc j * 2)) (draw m)) number
      ∙ good (suc j) (omega (arith, h))) in
      let is : n + 1 + 1 + left * 2 ≡ n + suc left * 2 = omega arith in
      ap (λ (p : Part). plain 2 true ∷ plain 2 false ∷ (p (n + 1 + 1)).pulses) (when_true _ _ here)
      ∙ ap (λ (l : List Mark). plain 2 true ∷ plain 2 false ∷ l) (more ∙ ap (λ (m : ℕ). pair_marks 2 left ++ (rest m).pulses) is)

  version_zeros : (left i v n : ℕ) (wrong good : Part) → ((j : ℕ) → j < left → seen (n + 1 + j * 2) ≡ Zero)
      → (version seen i left v wrong good n).pulses ≡ pair_marks 3 left ++ (when (eqb v 1) good wrong (n + left * 2)).pulses
  unfolding version pair_marks
  version_zeros zero i v n wrong good zero_seen = ap (λ (m : ℕ). (when (eqb v 1) good wrong m).pulses) (omega arith)
  version_zeros (suc left) i v n wrong good zero_seen =
      let at : n + 1 ≡ n + 1 + 0 * 2 = omega arith in
      let here : seen (n + 1) ≡ Zero = ap seen at ∙ zero_seen 0 (omega arith) in
      let more = version_zeros left (i + 1) v (n + 1 + 1) wrong good
      (λ j h.
      let at : n + 1 + 1 + 1 + j * 2 ≡ n + 1 + suc j * 2 = omega arith in
      ap seen at ∙ zero_seen (suc j) (omega (arith, h))) in
      let is : n + 1 + 1 + left * 2 ≡ n + suc left * 2 = omega arith in
      ap
      (λ (s : Seen).
      plain 3 true ∷ plain 3 false
      ∷ (by s (over Lost) (version seen (i + 1) left v wrong good) (version seen (i + 1) left (v + 2 ^ i) wrong good) (n + 1 + 1)).pulses)
      here
      ∙ ap (λ (l : List Mark). plain 3 true ∷ plain 3 false ∷ l)
      (more ∙ ap (λ (m : ℕ). pair_marks 3 left ++ (when (eqb v 1) good wrong m).pulses) is)

  pub version_is : (n : ℕ) (wrong good : Part) → seen (n + 1) ≡ One → ((j : ℕ) → j < 7 → seen (n + 3 + j * 2) ≡ Zero)
      → (version seen 0 8 0 wrong good n).pulses ≡ pair_marks 3 8 ++ (good (n + 16)).pulses
  unfolding version pair_marks
  version_is n wrong good one zeros =
      let more = version_zeros 7 1 (0 + 2 ^ 0) (n + 1 + 1) wrong good
      (λ j h. let at : n + 1 + 1 + 1 + j * 2 ≡ n + 3 + j * 2 = omega arith in ap seen at ∙ zeros j h) in
      let is : n + 1 + 1 + 7 * 2 ≡ n + 16 = omega arith in
      ap
      (λ (s : Seen).
      plain 3 true ∷ plain 3 false
      ∷ (by s (over Lost) (version seen 1 7 0 wrong good) (version seen 1 7 (0 + 2 ^ 0) wrong good) (n + 1 + 1)).pulses)
      one
      ∙ ap (λ (l : List Mark). plain 3 true ∷ plain 3 false ∷ l)
      (more ∙ ap (λ (p : Part). pair_marks 3 7 ++ (p (n + 1 + 1 + 7 * 2)).pulses) (when_true good wrong refl)
      ∙ ap (λ (m : ℕ). pair_marks 3 7 ++ (good m).pulses) is)

  pub wait_is : (a : Acknowledgement) (left n : ℕ) (bad : Ending) (good : Part) → Answered seen n
      → (wait seen a (suc (suc left)) bad good n).pulses ≡ wait_marks (wait_number a) ++ (good (n + 4)).pulses
  unfolding wait
  wait_is a left n bad good answered =
      let k = wait_number a in
      let second : seen (n + 1 + 1 + 1) ≡ Zero =
      let is : n + 1 + 1 + 1 ≡ n + 3 = omega arith in ap seen is ∙ answered.answers in
      let four : n + 1 + 1 + 1 + 1 ≡ n + 4 = omega arith in
      ap (λ (s : Seen). (by s (silent_pair (Wait a) (wait seen a (suc left) bad good)) (pair (Wait a) good) (pair (Wait a) (over bad)) n).pulses)
      answered.aligns
      ∙ ap
      (λ (s : Seen).
      plain k true ∷ record { bit = false; silent = true; phase = k }
      ∷ (by s (silent_pair (Wait a) (wait seen a left bad good)) (pair (Wait a) good) (pair (Wait a) (over bad)) (n + 1 + 1)).pulses)
      second
      ∙ ap (λ (m : ℕ). wait_marks k ++ (good m).pulses) four
