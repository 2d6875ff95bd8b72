-- A pulse is late exactly where its wait and its low leave nothing.
-- Assumes nothing.
use mathlib.Core.Bool.{Bool, true, false}
use mathlib.Core.Path.{◌≡◌, sym, ap, ◌∙◌}
use Prim.Native.Nat.{ℕ, ◌+◌}
use native.Mathlib.Omega.{arith}
use lib.Dec.{eqb}
use borrow.Author.Tests.{le-leb, lt-leb, eqb-true, eqb-false}
use Rattle.countdown.specs.Countdown.{late, drawn}

late_so : (left wait low : ℕ) (b : Bool) → eqb (drawn left wait low) 0 ≡ b → late left wait low ≡ b
unfolding late
late_so left wait low true e = let none = eqb-true (drawn left wait low) 0 e in le-leb left (wait + low) (omega (arith, none))
late_so left wait low false e = let some = eqb-false (drawn left wait low) 0 e in lt-leb left (wait + low) (omega (arith, some))

pub late_drawn : (left wait low : ℕ) {rest : ℕ} {b : Bool} → rest ≡ drawn left wait low → eqb rest 0 ≡ b → late left wait low ≡ b
late_drawn left wait low e h = late_so left wait low _ (ap (λ (x : ℕ). eqb x 0) (sym e) ∙ h)
