-- The turns of a byte's filling: a bit joins it and it goes on, or it is closed and stays so.
-- Assumes nothing.
use mathlib.Core.Bool.{Bool, true, false}
use mathlib.Core.List.{List}
use mathlib.Core.Path.{◌≡◌, refl, sym, ap, ◌∙◌}
use Prim.Native.Nat.{ℕ, zero, suc, ◌+◌, ◌-◌, ◌≤◌}
use native.Mathlib.Nat.{zero-add}
use native.Mathlib.Numerals.{add-one}
use native.Mathlib.Omega.{arith}
use Rattle.terms.specs.Choice.{when}
use Rattle.terms.proofs.Tests.{when_true, when_false}
use Rattle.load.specs.declared.Load.{Load}
use Rattle.bits.specs.Bits.{sent_bit}
use Rattle.follow.specs.Follow.{onward}
use Rattle.place.specs.declared.Place.{Place}
use Rattle.frames.specs.Frames.{empty, fits, with}
use Rattle.frames.specs.declared.Frame.{Frame}
use Rattle.packing.specs.Filling.{most, goes_on, at_first, joined, Open, closed, kept, tried, more, filled_to, filled}
use Rattle.packing.specs.declared.Packing.{Packing}
use Rattle.packing.specs.declared.Packing.TheVariants.{One, Three, Fewest}

pub some_most : (packing : Packing) → 1 ≤ most packing
some_most One = omega arith
some_most Three = omega arith
some_most Fewest = omega arith

module _ (packing : Packing) (load : Load) (image : List ℕ) (start : Place) where
  abbrev after : ℕ → Open
  after n = filled_to packing load image n (at_first start)

  abbrev on : Frame → Place → Open
  on frame place = record { frame = frame; place = place; going = true }

  one_more : (n : ℕ) → after (n + 1) ≡ more packing load image (after n)
  unfolding filled_to
  one_more n = ap after (add-one n)

  -- A byte that goes on after n turns, and its next bit.
  module _ (n : ℕ) (frame : Frame) (place : Place) (so_far : on frame place ≡ after n) (b : Bool)
      (next : b ≡ sent_bit load image place.phase place.index) where
    turned : tried packing load (on frame place) b ≡ after (n + 1)
    unfolding more when
    turned =
        ap (tried packing load (on frame place)) next ∙ ap (more packing load image) so_far ∙ sym (one_more n)

    joins : (f : Frame) (to : Place) → fits frame b ≡ true → f ≡ with frame b → to ≡ onward load place.phase place.index
        → joined packing f to ≡ after (n + 1)
    unfolding tried
    joins f to e q r =
        ap (λ (x : Frame). joined packing x to) q ∙ ap (joined packing (with frame b)) r ∙ sym (when_true _ _ e) ∙ turned

    pub goes_on_lem : (f : Frame) (to : Place) → fits frame b ≡ true → f ≡ with frame b → to ≡ onward load place.phase place.index
        → goes_on packing to ≡ true → on f to ≡ after (n + 1)
    goes_on_lem f to e q r going =
        ap (λ (x : Bool). record { frame = f; place = to; going = x }) (sym going) ∙ joins f to e q r

    misfits : fits frame b ≡ false → closed (on frame place) ≡ after (n + 1)
    unfolding tried
    misfits e = sym (when_false _ _ e) ∙ turned

  -- A byte that doesn't go on stays as it is.
  stays : (f : Open) (k : ℕ) → f ≡ after k → f.going ≡ false → (j : ℕ) → f ≡ after (j + k)
  unfolding filled_to more
  stays f k e q zero = e ∙ ap after (sym (zero-add k))
  stays f k e q (suc j) =
      let same : suc j + k ≡ suc (j + k) = omega arith in
      sym (when_false _ _ q) ∙ ap (more packing load image) (stays f k e q j) ∙ ap after (sym same)

  -- Turns that are counted from the second bit on.
  goes_back : (k : ℕ) → filled_to packing load image k (after 1) ≡ after (k + 1)
  unfolding filled_to
  goes_back zero = refl
  goes_back (suc k) =
      let same : suc (k + 1) ≡ suc k + 1 = omega arith in
      ap (more packing load image) (goes_back k) ∙ ap after same

  pub from_first : (first : Open) (n : ℕ) → first ≡ after 1 → 1 ≤ n → filled_to packing load image (n - 1) first ≡ after n
  from_first first n e h =
      let count : n - 1 + 1 ≡ n = omega (arith, h) in
      ap (filled_to packing load image (n - 1)) e ∙ goes_back (n - 1) ∙ ap after count

  over : (f : Open) (k all : ℕ) → f ≡ after k → f.going ≡ false → k ≤ all → all ≡ most packing → kept f ≡ filled packing load image start
  unfolding filled
  over f k all e q h m =
      let count : (all - k) + k ≡ most packing = omega (arith, h, m) in
      ap kept (stays f k e q (all - k) ∙ ap after count)

  -- The three ways in which it ends: all turns are taken, the next bit doesn't fit, or its run is over.
  pub all_taken : (n all : ℕ) (frame : Frame) (place : Place) → on frame place ≡ after n → n ≤ all → all ≤ n → all ≡ most packing
      → kept (on frame place) ≡ filled packing load image start
  unfolding filled
  all_taken n all frame place e h k m =
      let same : n ≡ most packing = omega (arith, h, k, m) in
      ap kept (e ∙ ap after same)

  module _ (n all : ℕ) (frame : Frame) (place : Place) (so_far : on frame place ≡ after n) (b : Bool)
      (next : b ≡ sent_bit load image place.phase place.index) (h : n + 1 ≤ all) (m : all ≡ most packing) where
    pub bit_misfits : fits frame b ≡ false → kept (on frame place) ≡ filled packing load image start
    bit_misfits e = over (closed (on frame place)) (n + 1) all (misfits n frame place so_far b next e) refl h m

    pub run_over : (f : Frame) (to : Place) → fits frame b ≡ true → f ≡ with frame b → to ≡ onward load place.phase place.index
        → goes_on packing to ≡ false → kept (on f to) ≡ filled packing load image start
    run_over f to e q r going = over (joined packing f to) (n + 1) all (joins n frame place so_far b next f to e q r) going h m

  -- The first bit always fits.
  first_fits : (b : Bool) → fits empty b ≡ true
  unfolding fits
  first_fits true = refl
  first_fits false = refl

  module _ (b : Bool) (is : b ≡ sent_bit load image start.phase start.index) (f : Frame) (to : Place) (q : f ≡ with empty b)
      (r : to ≡ onward load start.phase start.index) where
    pub begins : goes_on packing to ≡ true → on f to ≡ after 1
    unfolding filled_to
    begins going = goes_on_lem 0 empty start refl b is f to (first_fits b) q r going

    pub alone : goes_on packing to ≡ false → kept (on f to) ≡ filled packing load image start
    unfolding filled_to
    alone going = run_over 0 (most packing) empty start refl b is (some_most packing) refl f to (first_fits b) q r going
