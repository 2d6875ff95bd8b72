-- The tests of rows 5 to 9 as 01's sentences: each holds exactly when its sentence does.
-- Assumes nothing.
use mathlib.Core.Bool.{true}
use mathlib.Core.List.{List}
use mathlib.Core.Logic.{◌⊎◌, ◌↔◌}
use mathlib.Core.Path.{◌≡◌}
use Prim.Native.Nat.{ℕ, ◌+◌, ◌%◌, ◌<◌}
use lib.ListN.{length}
use Rattle.terms.proofs.Tests.{either_says, less_true, differ_true}
use Rattle.lent.specs.Bytes.{word_at, total}
use Rattle.load.specs.Image.{bad_length, other_length, other_start, bad_stack, other_sum}

pub bad_length_says : (n : ℕ) → (bad_length n ≡ true) ↔ ((n < 16) ⊎ ((32760 < n) ⊎ (n % 4 ≡ 0 → ⊥)))
unfolding bad_length
bad_length_says n = either_says _ _ (less_true n 16) (either_says _ _ (less_true 32760 n) (differ_true (n % 4) 0))

module _ (image : List ℕ) where
  pub other_length_says : (other_length image ≡ true) ↔ (word_at image 8 ≡ length image → ⊥)
  unfolding other_length
  other_length_says = differ_true _ _

  pub other_start_says : (other_start image ≡ true) ↔ (word_at image 6 ≡ 16 → ⊥)
  unfolding other_start
  other_start_says = differ_true _ _

  pub bad_stack_says : (bad_stack image ≡ true)
      ↔ ((word_at image 10 % 4 ≡ 0 → ⊥) ⊎ ((word_at image 10 < length image + 8) ⊎ (32768 < word_at image 10)))
  unfolding bad_stack
  bad_stack_says = either_says _ _ (differ_true _ _) (either_says _ _ (less_true _ _) (less_true _ _))

  pub other_sum_says : (other_sum image ≡ true) ↔ (total image % 256 ≡ 20 → ⊥)
  unfolding other_sum
  other_sum_says = differ_true _ _
