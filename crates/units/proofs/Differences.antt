-- The difference of two counts: what it is where the one is less and where it is not.
-- Assumes nothing.
use mathlib.Core.Bool.{Bool, true, false}
use mathlib.Core.Path.{◌≡◌, refl, sym, ap, subst}
use Prim.Native.Nat.{ℕ, zero, suc, ◌-◌, ◌≤◌, ◌<◌}
use native.Mathlib.Omega.{arith}
use lib.Dec.{ltb}
use lib.IntN.{ℤ, pos, negsuc}
use borrow.Author.Tests.{ltb-true, ltb-false, lt-ltb, le-ltb}
use Rattle.units.specs.Units.{difference}

difference_below : (a b : ℕ) → a < b → difference a b ≡ negsuc (b - suc a)
unfolding difference
difference_below a zero h = absurd (omega (arith, h))
difference_below a (suc b) h = rw (lt-ltb a (suc b) h) refl

difference_above : (a b : ℕ) → b ≤ a → difference a b ≡ pos (a - b)
unfolding difference
difference_above a zero h = ap pos (omega arith)
difference_above a (suc b) h = rw (le-ltb a (suc b) h) refl

module _ (a b : ℕ) where
  -- Whether the one is less, and the difference, are decided together: what holds in both cases holds of them.
  module _ (P : Bool → ℤ → Type 0) (below : a < b → P true (negsuc (b - suc a))) (above : b ≤ a → P false (pos (a - b))) where
    by_test : (t : Bool) → ltb a b ≡ t → P (ltb a b) (difference a b)
    by_test true e =
        let h = ltb-true a b e in
        subst (λ (t : Bool). P t (difference a b)) (sym e) (subst (P true) (sym (difference_below a b h)) (below h))
    by_test false e =
        let h = ltb-false a b e in
        subst (λ (t : Bool). P t (difference a b)) (sym e) (subst (P false) (sym (difference_above a b h)) (above h))

    pub difference_elim : P (ltb a b) (difference a b)
    difference_elim = by_test (ltb a b) refl
