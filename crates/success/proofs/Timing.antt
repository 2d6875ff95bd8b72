-- Timing: a leg's ticks differ from its exact length by less than a tick, its loops from its ticks by less than a loop; so the threshold
-- tells 1 from 0 where t is at least five loops and four ticks.
-- Assumes nothing.
use mathlib.Core.Bool.{Bool, true, false}
use mathlib.Core.Path.{◌≡◌, ap, ◌∙◌}
use Prim.Native.Nat.{ℕ, ◌+◌, ◌-◌, ◌*◌, ◌/◌, ◌%◌, ◌≤◌, ◌<◌}
use native.Mathlib.Nat.{add-mul, div-add-mod', lt_of_mul-lt-mul_right, mod-lt}
use native.Mathlib.Omega.{arith}
use borrow.Author.Tests.{lt-ltb, le-ltb}
use Rattle.line.specs.Reading.{threshold_of, reads}
use Rattle.success.specs.Success.{May, Margin}

-- Two lengths differ by less than a third.
pub record Near (d x y : ℕ) : Type 0 where
  pub above : y < x + d
  pub below : x < y + d

-- The ticks of a leg that starts at a and lasts d.
pub ticks_near : (p a d : ℕ) → 0 < p → Near p d (((a + d) / p - a / p) * p)
ticks_near p a d some =
    let first : a / p * p + a % p ≡ a = div-add-mod' a p in
    let second : (a + d) / p * p + (a + d) % p ≡ a + d = div-add-mod' (a + d) p in
    let left : a % p < p = mod-lt a some in
    let right : (a + d) % p < p = mod-lt (a + d) some in
    let next : ((a + d) / p + 1) * p ≡ (a + d) / p * p + 1 * p = add-mul ((a + d) / p) 1 p in
    let short : a / p * p < ((a + d) / p + 1) * p = omega (arith, first, second, right, next) in
    let order : a / p < (a + d) / p + 1 = lt_of_mul-lt-mul_right p short in
    let whole : (a + d) / p ≡ a / p + ((a + d) / p - a / p) = omega (arith, order) in
    let parts : (a + d) / p * p ≡ a / p * p + ((a + d) / p - a / p) * p = ap (λ (x : ℕ). x * p) whole ∙ add-mul (a / p) ((a + d) / p - a / p) p in
    record { above = omega (arith, first, second, left, parts); below = omega (arith, first, second, right, parts) }

-- The loops of a leg that lasts d.
pub loops_near : (p l d ticks c : ℕ) → Near p d (ticks * p) → May p l ticks c → Near (l + p) d (c * l)
loops_near p l d ticks c n m =
    record { above = omega (arith, n.above, m.above); below = omega (arith, n.below, m.below) }

-- A bit whose low lasts t or twice that, and what it may measure as.
module _ (t p l : ℕ) (margin : Margin t p l) where
  abbrev pub lasting : Bool → ℕ
  lasting true = t * 1000
  lasting false = 2 * (t * 1000)

  abbrev pub Low : Bool → ℕ → Type 0
  Low b x = Near (l + p) (lasting b) (x * l)

  -- By the threshold of two calibration lows every low is read as its bit.
  pub read_right : (d₁ d₂ x : ℕ) (b : Bool) → Low true d₁ → Low false d₂ → Low b x → reads (threshold_of d₁ d₂) x ≡ b
  read_right d₁ d₂ x true n₁ n₂ n =
      let both : (d₁ + d₂) * l ≡ d₁ * l + d₂ * l = add-mul d₁ d₂ l in
      let twice : (x + x + 1) * l ≡ x * l + x * l + l = omega arith in
      let scaled : (x + x + 1) * l < (d₁ + d₂) * l = omega (arith, both, twice, n₁.below, n₂.below, n.above, margin) in
      let less : x + x + 1 < d₁ + d₂ = lt_of_mul-lt-mul_right l scaled in
      let above : x < threshold_of d₁ d₂ = omega (arith, less) in
      lt-ltb x (threshold_of d₁ d₂) above
  read_right d₁ d₂ x false n₁ n₂ n =
      let both : (d₁ + d₂) * l ≡ d₁ * l + d₂ * l = add-mul d₁ d₂ l in
      let twice : (x + x + 2) * l ≡ x * l + x * l + 2 * l = omega arith in
      let scaled : (d₁ + d₂) * l < (x + x + 2) * l = omega (arith, both, twice, n₁.above, n₂.above, n.below, margin) in
      let less : d₁ + d₂ < x + x + 2 = lt_of_mul-lt-mul_right l scaled in
      let most : threshold_of d₁ d₂ ≤ x = omega (arith, less) in
      le-ltb x (threshold_of d₁ d₂) most
