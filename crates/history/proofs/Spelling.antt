-- Shifted in from the top, 32 bits spell their value low bit first: after some of them the value so far stands above as many zeros
-- as bits are to come.
-- Assumes nothing.
use mathlib.Core.Bool.{Bool, true, false}
use mathlib.Core.Path.{◌≡◌, sym, ap, ◌∙◌}
use Prim.Native.Nat.{ℕ, suc, ◌+◌, ◌*◌, ◌^◌, ◌/◌}
use native.Mathlib.Nat.{add-mul, add-zero, mul_assoc, pow-suc}
use native.Mathlib.Omega.{arith}
use lib.Pow.{pow-add}
use Rattle.terms.specs.Choice.{when}
use Rattle.line.specs.Reading.{grown}

module _ (s n m v : ℕ) (places : n + m ≡ 31) (above : v ≡ s * 2 ^ suc m) where
  halved : v / 2 ≡ s * 2 ^ m
  halved =
      let twice : v ≡ s * 2 ^ m * 2 = above ∙ ap (λ (x : ℕ). s * x) (pow-suc 2 m) ∙ sym (mul_assoc s (2 ^ m) 2) in
      omega (arith, twice)

  top : 2 ^ n * 2 ^ m ≡ 2147483648
  top = sym (pow-add 2 n m) ∙ ap (λ (x : ℕ). 2 ^ x) places

  pub grown_above : (bit : Bool) → grown v bit ≡ (s + when bit (2 ^ n) 0) * 2 ^ m
  unfolding grown when
  grown_above true = ap (λ (x : ℕ). x + 2147483648) halved ∙ ap (λ (x : ℕ). s * 2 ^ m + x) (sym top) ∙ sym (add-mul s (2 ^ n) (2 ^ m))
  grown_above false = add-zero (v / 2) ∙ halved ∙ ap (λ (x : ℕ). x * 2 ^ m) (sym (add-zero s))
