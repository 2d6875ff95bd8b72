-- What is known of a load that a start takes.
-- Assumes nothing.
use mathlib.Core.List.{List}
use mathlib.Core.Path.{◌≡◌}
use Prim.Native.Nat.{ℕ, ◌+◌, ◌%◌, ◌≤◌}
use lib.ListN.{length}
use Rattle.lent.specs.Bytes.{word_at, total}

-- What a good image is.
pub record Good (image : List ℕ) : Type 0 where
  pub long : 16 ≤ length image
  pub short : length image ≤ 32760
  pub whole : length image % 4 ≡ 0
  pub named : word_at image 8 ≡ length image
  pub started : word_at image 6 ≡ 16
  pub aligned : word_at image 10 % 4 ≡ 0
  pub above : length image + 8 ≤ word_at image 10
  pub inside : word_at image 10 ≤ 32768
  pub summed : total image % 256 ≡ 20

-- The command is one of the four, and its image is good unless it is command 0, which has none.
pub record Known (command : ℕ) (image : List ℕ) : Type 0 where
  pub known : command ≤ 3
  pub good : (command ≡ 0 → ⊥) → Good image
