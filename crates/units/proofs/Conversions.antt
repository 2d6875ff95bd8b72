-- What the conversions mean: a count of loops is the largest that lasts no longer than its ticks, and longs and bytes turn into
-- each other.
-- Assumes nothing.
use mathlib.Core.Bool.{Bool, true, false}
use mathlib.Core.Path.{◌≡◌, refl}
use Prim.Native.Nat.{ℕ, ◌*◌, ◌/◌, ◌%◌, ◌≤◌, ◌<◌, ◌^◌, ◌-◌, min}
use native.Mathlib.Nat.{le-div_iff_mul-le, mul-zero}
use native.Mathlib.Omega.{arith}
use lib.Dec.{eqb}
use mathlib.Core.Logic.{inl, inr}
use Rattle.std.proofs.lemmas.Bool.{cases_lt}
use borrow.Author.Tests.{eq-eqb, ne_eqb, eqb-true, eqb-false}
use Rattle.terms.proofs.Tests.{when_true, when_false}
use Rattle.units.specs.Units.{most, longs_in, bytes_in, loops_in}

module _ (ticks p l : ℕ) where
  pub no_length : l ≡ 0 → loops_in ticks p l ≡ most
  unfolding loops_in
  no_length e = when_true _ _ (eq-eqb l 0 e)

  pub some_length : (l ≡ 0 → ⊥) → loops_in ticks p l ≡ min (ticks * p / l) most
  unfolding loops_in
  some_length n = when_false _ _ (ne_eqb l 0 n)

  lasts_at : (b : Bool) → eqb l 0 ≡ b → loops_in ticks p l * l ≤ ticks * p
  lasts_at true e = let z : l ≡ 0 = eqb-true l 0 e in rw (z, mul-zero) (omega arith)
  lasts_at false e =
      let n : 0 < l = omega (arith, eqb-false l 0 e) in
      rw (some_length (eqb-false l 0 e))
      ((le-div_iff_mul-le {k = l} n).0 (omega arith))

  pub loops_last : loops_in ticks p l * l ≤ ticks * p
  loops_last = lasts_at (eqb l 0) refl

  largest_at : (b : Bool) → eqb l 0 ≡ b → (c : ℕ) → c ≤ most → c * l ≤ ticks * p → c ≤ loops_in ticks p l
  largest_at true e c h k = rw (no_length (eqb-true l 0 e)) h
  largest_at false e c h k =
      let n : 0 < l = omega (arith, eqb-false l 0 e) in
      let d : c ≤ ticks * p / l = (le-div_iff_mul-le {k = l} n).1 k in
      rw (some_length (eqb-false l 0 e)) (omega arith)

  pub loops_largest : (c : ℕ) → c ≤ most → c * l ≤ ticks * p → c ≤ loops_in ticks p l
  loops_largest = largest_at (eqb l 0) refl

-- What stands for all that 64 bits don't hold is more loops than 32 bits hold, too.
pub loops_capped : (n l : ℕ) → (l ≡ 0 → ⊥) → l < 2 ^ 32 → min (min n (2 ^ 64 - 1) / l) most ≡ min (n / l) most
loops_capped n l z h =
    let p : 0 < l = omega arith in
    elim (cases_lt n (2 ^ 64)) [
      | inl s ↦ let e : min n (2 ^ 64 - 1) ≡ n = omega arith in rw e
      | inr s ↦
          let e : min n (2 ^ 64 - 1) ≡ 2 ^ 64 - 1 = omega arith in
          let m : most ≤ (2 ^ 64 - 1) / l = (le-div_iff_mul-le {k = l} p).1 (omega arith) in
          let k : most ≤ n / l = (le-div_iff_mul-le {k = l} p).1 (omega arith) in
          rw e (omega arith)
    ]

pub longs_of_bytes : (longs : ℕ) → longs ≤ most → longs_in (bytes_in longs) ≡ longs
longs_of_bytes longs h = omega arith

pub bytes_of_longs : (bytes : ℕ) → bytes % 4 ≡ 0 → bytes / 4 ≤ most → bytes_in (longs_in bytes) ≡ bytes
bytes_of_longs bytes e h = omega arith
