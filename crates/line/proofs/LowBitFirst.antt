-- Shifted in from the top, 32 bits spell their value low bit first: after some of them what they spell stands above what is left of the
-- value before. And the bits of a value spell it.
-- Assumes nothing.
use mathlib.Core.Bool.{Bool, true, false}
use mathlib.Core.Path.{◌≡◌, refl, sym, ap, ◌∙◌}
use Prim.Native.Nat.{ℕ, zero, suc, ◌+◌, ◌*◌, ◌^◌, ◌/◌, ◌%◌, ◌<◌}
use native.Mathlib.Nat.{add-mul, div-eq_of_lt, div-one, mod-one, mod-eq_of_lt, mul_assoc, pow-suc}
use native.Mathlib.Numerals.{add-one}
use native.Mathlib.Omega.{arith}
use lib.Dec.{eqb}
use lib.Pow.{mod-pow-add, pow-add, shr-shr}
use borrow.Author.Tests.{eqb-true, eqb-false}
use Rattle.terms.specs.Choice.{when}
use Rattle.sequence.specs.Sequence.{bit}
use Rattle.line.specs.LowBitFirst.{spelled, shifted_in, LowBitFirst}
use Rattle.line.specs.Reading.{grown}

-- A bit more.
module _ (a s n m v : ℕ) (places : n + m ≡ 31) (above : v ≡ a + s * 2 ^ suc m) where
  halved : v / 2 ≡ a / 2 + s * 2 ^ m
  halved =
      let twice : s * 2 ^ suc m ≡ s * 2 ^ m * 2 = ap (λ (x : ℕ). s * x) (pow-suc 2 m) ∙ sym (mul_assoc s (2 ^ m) 2) in
      omega (arith, above, twice)

  top : 2 ^ n * 2 ^ m ≡ 2147483648
  top = sym (pow-add 2 n m) ∙ ap (λ (x : ℕ). 2 ^ x) places

  grown_above : (b : Bool) → grown v b ≡ a / 2 + (s + when b (2 ^ n) 0) * 2 ^ m
  unfolding grown when
  grown_above true = let spread = add-mul s (2 ^ n) (2 ^ m) in omega (arith, halved, top, spread)
  grown_above false = omega (arith, halved)

module _ (value : ℕ) (bits : ℕ → Bool) where
  shifted_above : (n m : ℕ) → n + m ≡ 32 → shifted_in value bits n ≡ value / 2 ^ n + spelled bits n * 2 ^ m
  unfolding shifted_in spelled
  shifted_above zero m e = let whole = div-one value in omega (arith, whole)
  shifted_above (suc n) m e =
      grown_above (value / 2 ^ n) (spelled bits n) n m (shifted_in value bits n) (omega (arith, e))
      (shifted_above n (suc m) (omega (arith, e)))
      (bits n)
      ∙ ap (λ (x : ℕ). x + (spelled bits n + when (bits n) (2 ^ n) 0) * 2 ^ m) (shr-shr value n 1 ∙ ap (λ (i : ℕ). value / 2 ^ i) (add-one n))

pub low_bit_first : LowBitFirst
low_bit_first value bits small =
    let none : value / 4294967296 ≡ 0 = div-eq_of_lt small in
    let all = shifted_above value bits 32 0 refl in
    omega (arith, none, all)

-- Of a value one bit more.
module _ (x n : ℕ) where
  bit_more : (b : Bool) → eqb (bit n x) 1 ≡ b → x % 2 ^ n + when b (2 ^ n) 0 ≡ x / 2 ^ n % 2 * 2 ^ n + x % 2 ^ n
  unfolding when
  bit_more true e =
      let one : x / 2 ^ n % 2 ≡ 1 = eqb-true _ _ e in
      rw one (omega arith)
  bit_more false e =
      let other : x / 2 ^ n % 2 ≡ 1 → ⊥ = eqb-false _ _ e in
      let none : x / 2 ^ n % 2 ≡ 0 = omega (arith, other) in
      rw none (omega arith)

pub bits_spell : (x n : ℕ) → spelled (λ (i : ℕ). eqb (bit i x) 1) n ≡ x % 2 ^ n
unfolding spelled
bits_spell x zero = sym (mod-one x)
bits_spell x (suc n) =
    let next : 1 + n ≡ suc n = omega arith in
    ap (λ (v : ℕ). v + when (eqb (bit n x) 1) (2 ^ n) 0) (bits_spell x n)
    ∙ bit_more x n (eqb (bit n x) 1) refl
    ∙ sym (mod-pow-add x 1 n)
    ∙ ap (λ (i : ℕ). x % 2 ^ i) next

pub value_spelled : (x : ℕ) → x < 4294967296 → spelled (λ (i : ℕ). eqb (bit i x) 1) 32 ≡ x
value_spelled x small = bits_spell x 32 ∙ mod-eq_of_lt small
