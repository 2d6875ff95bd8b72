-- The law of tables: a test that antt computes at every place of a table is the table's rule.
-- Assumes nothing.
use mathlib.Core.Bool.{Bool, true, false}
use mathlib.Core.Path.{◌≡◌, refl}
use Prim.Native.Nat.{ℕ, zero, suc, ◌<◌}
use native.Mathlib.Nat.{not-suc-le-zero}
use native.Mathlib.Omega.{arith}
use lib.Dec.{eqb}
use borrow.Author.Tests.{eqb-true, eqb-false}
use Rattle.terms.specs.Choice.{both}
use Rattle.terms.proofs.Tests.{both_true}

-- The test holds at every place below n.
abbrev pub below : (ℕ → Bool) → ℕ → Bool
below f zero = true
below f (suc n) = both (f n) (below f n)

at_last : (f : ℕ → Bool) (n k : ℕ) (b : Bool) → eqb k n ≡ b → k < suc n → f n ≡ true → (k < n → f k ≡ true) → f k ≡ true
at_last f n k true e h t rest = rw (eqb-true k n e) t
at_last f n k false e h t rest = let ne : k ≡ n → ⊥ = eqb-false k n e in rest (omega arith)

pub at : (f : ℕ → Bool) (n : ℕ) → below f n ≡ true → (k : ℕ) → k < n → f k ≡ true
at f zero t k h = absurd (not-suc-le-zero h)
at f (suc n) t k h =
    let parts = (both_true (f n) (below f n)).0 t in
    at_last f n k (eqb k n) refl h parts.0 (at f n parts.1 k)
