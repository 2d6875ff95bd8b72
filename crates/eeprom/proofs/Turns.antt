-- The first bytes of one memory over those of another: they keep its length, and all of them leave nothing of it.
-- Assumes nothing.
use mathlib.Core.List.{List, ◌++◌, append-nil}
use mathlib.Core.Path.{◌≡◌, ◌∙◌}
use Prim.Native.Nat.{ℕ, ◌≤◌}
use native.Mathlib.Nat.{min-eq_left}
use native.Mathlib.Omega.{arith}
use lib.ListN.{length, take, drop, length-append, length-take, length-drop, drop_of_length-le}
use lib.Seq.{take-length}

module _ (from to : List ℕ) where
  pub copied_length : (n : ℕ) → n ≤ length from → n ≤ length to → length (take n from ++ drop n to) ≡ length to
  copied_length n f t =
      let front : length (take n from) ≡ n = length-take n from ∙ min-eq_left f in
      omega (arith, length-append (take n from) (drop n to), length-drop n to)

  pub copied_whole : length to ≡ length from → take (length from) from ++ drop (length from) to ≡ from
  copied_whole e =
      let past : length to ≤ length from = omega arith in
      rw (take-length from, drop_of_length-le to past) (append-nil from)
