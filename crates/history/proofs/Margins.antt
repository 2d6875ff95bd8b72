-- After any history from a fresh chip the margins tell the nearest of the lows that were read on each side: by the pulses in their order.
-- Assumes nothing.
use mathlib.Core.Bool.{Bool, true, false, true≢false}
use mathlib.Core.List.{List, [], ◌∷◌}
use mathlib.Core.Logic.{inl, inr}
use mathlib.Core.Path.{◌≡◌, refl, sym, subst, ◌∙◌}
use Prim.Native.Nat.{ℕ, suc, ◌+◌, ◌-◌, ◌≤◌, ◌<◌}
use native.Mathlib.Nat.{le_refl}
use native.Mathlib.Omega.{arith}
use lib.Dec.{ltb}
use lib.IntN.{ℤ, pos, negsuc, nat_abs}
use lib.Signed.{lt_z}
use borrow.Author.Tests.{ltb-true, ltb-false, lt-ltb, le-ltb, leb-false}
use Rattle.terms.specs.Choice.{when}
use Rattle.terms.proofs.Tests.{when_true, when_false}
use Rattle.line.specs.Reading.{reads, distance_of}
use Rattle.line.proofs.Distances.{distance_elim}
use Rattle.countdown.specs.Countdown.{late}
use Rattle.margins.specs.Margins.{Near, none, at, reads_bit, nearer_one, nearer_zero, with_bit, farthest, nearest_one, nearest_zero, nearest}
use Rattle.margins.specs.Margins as margins
use Rattle.margins.specs.declared.Margins.{Margins}
use Rattle.margins.proofs.Sides.{Sides}
use Rattle.receiver.specs.Hears.{hears}
use Rattle.receiver.specs.declared.Received.{Received}
use Rattle.receiver.specs.declared.Receiver.{Receiver}
use Rattle.receiver.proofs.Left.{most_most}
use Rattle.chip.specs.declared.Chip.{Chip}
use Rattle.chip.proofs.Reached.{chip_kept}
use Rattle.chip.proofs.Steps.{step_taken}
use Rattle.chip.proofs.Within.{Timed}
use Rattle.history.specs.History.{State, Played, started, stepped}
use Rattle.history.specs.Margins.{Distances, with_low, with_pulse, distances, Among, NoneNearer, NearestOf, EveryMargin}
use Rattle.history.proofs.Launched.{start_fresh}

-- The margins tell the nearest of these on each side.
record Holds (m : Margins) (l : Distances) : Type 0 where
  one : NearestOf l.ones (nearest m).one
  zero : NearestOf l.zeros (nearest m).zero

-- What holds on both branches of two choices by one test holds of the choices.
when_both : {A B : Type 0} (P : A → B → Type 0) (t : Bool) {x x' : A} {y y' : B} → (t ≡ true → P x y) → (t ≡ false → P x' y')
    → P (when t x x') (when t y y')
unfolding when
when_both P true f g = f refl
when_both P false f g = g refl

none_nearer : (d z : ℤ) (l : List ℤ) → nat_abs d ≤ nat_abs z → NoneNearer z l → NoneNearer d l
unfolding NoneNearer
none_nearer d z [] h n = tt
none_nearer d z (e ∷ l) h n = let m = n.0 in (omega (arith, h, m), none_nearer d z l h n.1)

-- One side of the threshold, its distances by their size. No low is as far as the one that stands for none.
module _ (signed : ℕ → ℤ) (sizes : (k j : ℕ) → k ≤ j → nat_abs (signed k) ≤ nat_abs (signed j)) where
  abbrev side : ℕ → Near
  side j = when (ltb j farthest) (at (signed j)) none

  module _ (k : ℕ) (near : k < farthest) (l : List ℤ) where
    -- Nearer than all before it: the first, or nearer than the nearest of them.
    takes : NoneNearer (signed k) l → NearestOf (signed k ∷ l) (side k)
    unfolding Among NoneNearer
    takes n = subst (NearestOf (signed k ∷ l)) (sym (when_true _ _ (lt-ltb k _ near))) (inl refl, (le_refl (nat_abs (signed k)), n))

    keeps : (j : ℕ) → j ≤ k → NearestOf l (at (signed j)) → NearestOf (signed k ∷ l) (side j)
    unfolding Among NoneNearer
    keeps j h n =
        subst (NearestOf (signed k ∷ l)) (sym (when_true _ _ (lt-ltb j _ (omega (arith, h, near))))) (inr n.0, (sizes j k h, n.1))

    -- One low more, and the nearer of it and of the nearest before.
    module _ (j : ℕ) where
      with_some : NearestOf l (at (signed j)) → (t : Bool) → ltb k j ≡ t
          → NearestOf (signed k ∷ l) (side (when t k j))
      unfolding when
      with_some n true e =
          let less = ltb-true k j e in
          takes (none_nearer (signed k) (signed j) l (sizes k j (omega (arith, less))) n.1)
      with_some n false e = keeps j (ltb-false k j e) n

      with_none : farthest ≤ j → l ≡ [] → NearestOf (signed k ∷ l) (side (when (ltb k j) k j))
      unfolding NoneNearer
      with_none h e =
          subst (λ (x : ℕ). NearestOf (signed k ∷ l) (side x)) (sym (when_true _ _ (lt-ltb k j (omega (arith, near, h)))))
          (takes (subst (NoneNearer (signed k)) (sym e) tt))

      by_far : (t : Bool) → ltb j farthest ≡ t → NearestOf l (side j) → NearestOf (signed k ∷ l) (side (when (ltb k j) k j))
      by_far true e n = with_some (subst (NearestOf l) (when_true _ _ e) n) (ltb k j) refl
      by_far false e n = with_none (ltb-false j farthest e) (subst (NearestOf l) (when_false _ _ e) n)

      one_more : NearestOf l (side j) → NearestOf (signed k ∷ l) (side (when (ltb k j) k j))
      one_more = by_far (ltb j farthest) refl

      -- As the margins tell it of the nearer distance.
      module _ (told : ℤ → Near) (tells : (x : ℕ) → told (signed x) ≡ side x) where
        by_nearer : (t : Bool) → NearestOf (signed k ∷ l) (side (when t k j)) → NearestOf (signed k ∷ l) (told (when t (signed k) (signed j)))
        unfolding when
        by_nearer true n = subst (NearestOf (signed k ∷ l)) (sym (tells k)) n
        by_nearer false n = subst (NearestOf (signed k ∷ l)) (sym (tells j)) n

        low_told : NearestOf l (told (signed j)) → NearestOf (signed k ∷ l) (told (when (ltb k j) (signed k) (signed j)))
        low_told n = by_nearer (ltb k j) (one_more (subst (NearestOf l) (tells j) n))

one_holds : (k : ℕ) → k < farthest → (l : List ℤ) (z : ℤ) → lt_z z (pos 0) ≡ true → NearestOf l (nearest_one z)
    → NearestOf (negsuc k ∷ l) (nearest_one (nearer_one z (negsuc k)))
unfolding nearest_one
one_holds k near l (pos j) s n = absurd (true≢false (sym s ∙ le-ltb j 0 (omega arith)))
one_holds k near l (negsuc j) s n = low_told negsuc (λ a b h. omega (arith, h)) k near l j nearest_one (λ x. refl) n

zero_holds : (k : ℕ) → k < farthest → (l : List ℤ) (z : ℤ) → lt_z z (pos 0) ≡ false → NearestOf l (nearest_zero z)
    → NearestOf (pos k ∷ l) (nearest_zero (nearer_zero z (pos k)))
unfolding nearest_zero
zero_holds k near l (negsuc j) s n = absurd (true≢false s)
zero_holds k near l (pos j) s n = low_told pos (λ a b h. h) k near l j nearest_zero (λ x. refl) n

-- A timely low that is read: less than what was left, by a threshold in its range.
module _ (m : Margins) (s : Sides m) (l : Distances) (h : Holds m l) where
  low_holds : (t low : ℕ) → t ≤ 187499 → low < 375000
      → Holds (with_bit m (reads t low) (distance_of t low)) (with_low (reads t low) (distance_of t low) l)
  low_holds t low most timely =
      distance_elim t low (λ (b : Bool) (z : ℤ). Holds (with_bit m b z) (with_low b z l))
      (λ e. record { one = one_holds (t - suc low) (omega (arith, most)) l.ones m.one.0 s.one h.one; zero = h.zero })
      (λ e. record { one = h.one; zero = zero_holds (low - t) (omega (arith, timely)) l.zeros m.zero.0 s.zero h.zero })

pulse_holds : (r : Receiver) (wait low : ℕ) (l : Distances) → Timed r → Holds r.margins l → Holds (hears r wait low).margins (with_pulse r wait low l)
unfolding hears margins.with_pulse with_pulse late
pulse_holds r wait low l t h =
    when_both (λ (x : Received) (y : Distances). Holds x.margins y) (late r.left.0 wait low)
    (λ e. h)
    (λ e.
    let timely : wait + low < r.left.0 = leb-false r.left.0 (wait + low) e in
    let left = t.left.1 in
    let most = most_most r.listener.phase in
    when_both Holds (reads_bit r.listener.phase)
    (λ f. low_holds r.margins t.margins l h r.listener.threshold.0 low t.within.timely (omega (arith, timely, left, most)))
    (λ f. h))

-- A whole history. A step that was not refused had a record within its ranges.
module _ (wait low : ℕ → ℕ) where
  margins_hold : (n : ℕ) (s : State) (p : Played wait low n s) → Holds s.chip.receiver.margins (distances p)
  unfolding distances nearest_one nearest_zero when
  margins_hold _ _ (started ram eeprom fault c e) =
      subst (λ (x : Chip). Holds x.receiver.margins (record { ones = []; zeros = [] })) (sym (start_fresh ram eeprom fault c e))
      (record { one = refl; zero = refl })
  margins_hold _ _ (stepped n s r ram eeprom p e) =
      let step = step_taken s.chip s.ram s.eeprom (wait (n + 1)) (low (n + 1)) r ram eeprom e in
      let before = (chip_kept s.chip).0 step.passed.1.1.0 in
      subst (λ (x : Chip). Holds x.receiver.margins (with_pulse s.chip.receiver (wait (n + 1)) (low (n + 1)) (distances p))) (sym step.chip_after)
      (pulse_holds s.chip.receiver (wait (n + 1)) (low (n + 1)) (distances p) before.within (margins_hold n s p))

pub every_margin : EveryMargin
every_margin = record {
  one = λ wait low n s p. (margins_hold wait low n s p).one;
  zero = λ wait low n s p. (margins_hold wait low n s p).zero;
}
