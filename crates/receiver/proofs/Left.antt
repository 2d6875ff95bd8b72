-- What is left stays at least 1, and at most what the phase can have.
-- Assumes nothing.
use mathlib.Core.Bool.{Bool, false, not}
use mathlib.Core.Path.{◌≡◌, sym, ap, subst}
use Prim.Native.Nat.{ℕ, ◌+◌, ◌≤◌}
use native.Mathlib.Omega.{arith}
use lib.Dec.{eqb}
use borrow.Author.Tests.{ne_eqb}
use Rattle.terms.specs.Choice.{when}
use Rattle.terms.proofs.Tests.{when_true, when_false}
use Rattle.phases.specs.declared.Phase.{Phase}
use Rattle.phases.specs.declared.Phase.TheVariants.{First, Second, Handshake, Answer, Rest, Command, Size, Long, Align, Ended}
use Rattle.countdown.specs.Countdown.{aligns, anew, counting, most_left}
use Rattle.receiver.proofs.Going.{Goes, calibrating, shaking, shaken, resting, commanding, sizing, storing, aligning, to_answer, to_command, to_size, to_long, to_align, to_end}

pub goes_on : (n left : ℕ) → anew (eqb (n + 1) 0) left ≡ left
unfolding anew
goes_on n left = when_false _ _ (ne_eqb (n + 1) 0 (λ e. omega (arith, e)))

pub set_anew : (p : Phase) (left : ℕ) → aligns p ≡ false → anew (not (aligns p)) left ≡ 250000
unfolding anew
set_anew p left e = when_true _ _ (ap not e)

pub most_most : (p : Phase) → most_left p ≤ 375000
most_most First = omega arith
most_most (Second d) = omega arith
most_most (Handshake k) = omega arith
most_most (Answer r) = omega arith
most_most (Rest r) = omega arith
most_most (Command n v) = omega arith
most_most (Size n v) = omega arith
most_most (Long n k v) = omega arith
most_most (Align a) = omega arith
most_most (Ended e) = omega arith

-- So much may be left.
abbrev pub May : ℕ → ℕ → Type 0
May most left = (1 ≤ left) × (left ≤ most)

module _ (low : ℕ) (bit : Bool) (left rest : ℕ) (some : 1 ≤ rest) (drawn : rest + low ≤ left) where
  pub left_kept : (p q : Phase) → Goes low bit p q → left ≤ most_left p → May (most_left q) (counting p q rest)
  unfolding anew when
  left_kept _ _ calibrating h = (some, omega (arith, drawn, h))
  left_kept _ _ (shaking d) h = (some, omega (arith, drawn, h))
  left_kept _ _ (shaken k e) h = (some, omega (arith, drawn, h))
  left_kept _ _ (resting r) h = (some, omega (arith, drawn, h))
  left_kept _ _ (commanding n v w e) h = subst (May 250000) (sym (goes_on n rest)) (some, omega (arith, drawn, h))
  left_kept _ _ (sizing n v w e) h = subst (May 250000) (sym (goes_on n rest)) (some, omega (arith, drawn, h))
  left_kept _ _ (storing n v w k e) h = subst (May 250000) (sym (goes_on n rest)) (some, omega (arith, drawn, h))
  left_kept _ _ (aligning a e) h = (some, omega (arith, drawn, h))
  left_kept _ _ (to_answer p r) h = (omega arith, omega arith)
  left_kept _ _ (to_command p) h = (omega arith, omega arith)
  left_kept _ _ (to_size p) h = (omega arith, omega arith)
  left_kept _ _ (to_long p k) h = (omega arith, omega arith)
  left_kept _ _ (to_align p a e) h = subst (May 250000) (sym (set_anew p rest e)) (omega arith, omega arith)
  left_kept _ _ (to_end p e) h = let most = most_most p in (some, omega (arith, drawn, h, most))
