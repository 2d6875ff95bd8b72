-- One pulse of a budget: where so many of the longest legs fit into it, and no more were drawn than so many, the next is no time-out.
-- Assumes nothing.
use mathlib.Core.Path.{◌≡◌}
use Prim.Native.Nat.{ℕ, ◌+◌, ◌-◌, ◌*◌, ◌≤◌, ◌<◌}
use native.Mathlib.Nat.{add-mul, lt_of_mul-lt-mul_right, mul-le-mul_right}
use native.Mathlib.Omega.{arith}

-- Of a budget in loops of l ps, into which `most` legs are to fit, `drawn` are drawn, each with the error of two measurements, and so much
-- is left.
pub record On (l p budget most leg drawn left : ℕ) : Type 0 where
  pub few : drawn + 1 ≤ most
  pub within : left ≤ budget
  pub paced : (budget - left) * l ≤ drawn * (leg + 2 * (l + p))

module _ (l p budget most leg : ℕ) (fits : most * (leg + 2 * (l + p)) ≤ budget * l) where
  abbrev m : ℕ
  m = leg + 2 * (l + p)

  module _ (wait low dw dl : ℕ) (w : wait * l < dw + (l + p)) (d : low * l < dl + (l + p)) (short : dw + dl ≤ leg) (drawn left : ℕ)
      (on : On l p budget most leg drawn left) where
    spent : (budget - left + wait + low) * l < (drawn + 1) * m
    spent =
        let one : (budget - left + wait + low) * l ≡ (budget - left + wait) * l + low * l = add-mul (budget - left + wait) low l in
        let two : (budget - left + wait) * l ≡ (budget - left) * l + wait * l = add-mul (budget - left) wait l in
        let three : (drawn + 1) * m ≡ drawn * m + 1 * m = add-mul drawn 1 m in
        omega (arith, one, two, three, on.paced, w, d, short)

    pub on_time : wait + low < left
    on_time =
        let more : (drawn + 1) * m ≤ most * m = mul-le-mul_right m on.few in
        let scaled : (budget - left + wait + low) * l < budget * l = omega (arith, spent, more, fits) in
        let less : budget - left + wait + low < budget = lt_of_mul-lt-mul_right l scaled in
        omega (arith, less, on.within)

    pub on_next : drawn + 1 + 1 ≤ most → On l p budget most leg (drawn + 1) (left - wait - low)
    on_next more =
        let t = on_time in
        let same : budget - (left - wait - low) ≡ budget - left + wait + low = omega (arith, t, on.within) in
        record { few = more; within = omega (arith, on.within); paced = rw same (omega (arith, spent)) }

-- A budget that was set again.
pub on_fresh : (l p budget most leg drawn : ℕ) → drawn + 1 ≤ most → On l p budget most leg drawn budget
on_fresh l p budget most leg drawn h =
    let none : budget - budget ≡ 0 = omega arith in
    record { few = h; within = omega arith; paced = rw none (omega arith) }
