-- Three bits always fit a byte, so that of a value each byte holds three but the last, which has two.
-- Assumes nothing.
use mathlib.Core.Bool.{Bool, true}
use mathlib.Core.List.{List}
use mathlib.Core.Path.{◌≡◌, refl, sym, ap, ◌∙◌}
use Prim.Native.Nat.{ℕ, ◌+◌, ◌*◌, ◌≤◌, ◌<◌}
use native.Mathlib.Omega.{arith}
use borrow.Author.Tests.{lt-ltb, le-ltb, le-leb}
use Rattle.terms.specs.Choice.{either}
use Rattle.terms.proofs.Tests.{when_true, when_false}
use Rattle.load.specs.declared.Load.{Load}
use Rattle.bits.specs.Bits.{sent_bit}
use Rattle.follow.specs.Follow.{opened, after, onward}
use Rattle.place.specs.Phases.{places}
use Rattle.place.specs.declared.Phase.{Phase}
use Rattle.place.specs.declared.Place.{Place}
use Rattle.frames.specs.Frames.{width, empty, fits, with}
use Rattle.frames.specs.declared.Frame.{Frame}
use Rattle.frames.proofs.Spells.{with_used}
use Rattle.packing.specs.Filling.{goes_on, at_first, filled_to, filled, sent_at}
use Rattle.packing.specs.Phases.{in_bits}
use Rattle.packing.specs.Values.{EveryValue}
use Rattle.packing.specs.declared.Filling.{Filling}
use Rattle.packing.specs.declared.Packing.TheVariants.{Three}
use Rattle.packing.proofs.Fills.{begins, goes_on_lem, all_taken, run_over}
use Rattle.packing.proofs.Full.{at_most_three}
use Rattle.packing.proofs.Phases.{plain}

module _ (f : Frame) (b : Bool) (room : f.used + 3 ≤ 10) where
  third_fits : fits f b ≡ true
  unfolding fits
  third_fits = let most = at_most_three b in le-leb (f.used + width b) 10 (omega (arith, most, room))

  third_used : (with f b).used ≤ f.used + 3
  third_used = let most = at_most_three b in let used = with_used f b third_fits in omega (arith, most, used)

module _ (load : Load) (image : List ℕ) (phase : Phase) (bits : in_bits phase ≡ true) (value : places load phase ≡ 32) where
  abbrev here : ℕ → Place
  here i = record { phase = phase; index = i }

  abbrev bit : ℕ → Bool
  bit i = sent_bit load image phase i

  next_here : (i : ℕ) → i + 1 < 32 → here (i + 1) ≡ onward load phase i
  unfolding onward
  next_here i h = sym (when_true _ _ (lt-ltb (i + 1) (places load phase) (omega (arith, h, value))))

  past : opened (after load phase) ≡ onward load phase 31
  unfolding onward
  past = sym (when_false _ _ (le-ltb (31 + 1) (places load phase) (omega (arith, value))))

  going : (i : ℕ) → goes_on Three (here (i + 1)) ≡ true
  unfolding goes_on either
  going i = rw (lt-ltb 0 (i + 1) (omega arith)) refl

  whole : (i : ℕ) → (sent_at Three load image phase i).place ≡ (filled Three load image (here i)).place
  unfolding sent_at
  whole i = ap (λ (f : Filling). f.place) (when_false _ _ (plain phase bits).bits)

  module _ (i : ℕ) where
    abbrev one : Frame
    one = with empty (bit i)

    abbrev two : Frame
    two = with one (bit (i + 1))

    abbrev three : Frame
    three = with two (bit (i + 1 + 1))

    one_used : one.used ≤ 3
    one_used = third_used empty (bit i) (omega arith)

    two_used : two.used ≤ 6
    two_used = let used = third_used one (bit (i + 1)) (omega (arith, one_used)) in omega (arith, used, one_used)

    -- After n bits the byte is open, and stands at a place.
    abbrev Stands : ℕ → Frame → ℕ → Type 0
    Stands n frame at = record { frame = frame; place = here at; going = true } ≡ filled_to Three load image n (at_first (here i))

    first : i + 1 < 32 → Stands 1 one (i + 1)
    first h = begins Three load image (here i) (bit i) refl one (here (i + 1)) refl (next_here i h) (going i)

    second : i + 1 + 1 < 32 → Stands 2 two (i + 1 + 1)
    second h =
        goes_on_lem Three load image (here i) 1 one (here (i + 1)) (first (omega (arith, h))) (bit (i + 1)) refl two (here (i + 1 + 1))
        (third_fits one (bit (i + 1)) (omega (arith, one_used))) refl (next_here (i + 1) h) (going (i + 1))

    third : i + 1 + 1 + 1 < 32 → Stands 3 three (i + 1 + 1 + 1)
    third h =
        goes_on_lem Three load image (here i) 2 two (here (i + 1 + 1)) (second (omega (arith, h))) (bit (i + 1 + 1)) refl three (here (i + 1 + 1 + 1))
        (third_fits two (bit (i + 1 + 1)) (omega (arith, two_used))) refl (next_here (i + 1 + 1) h) (going (i + 1 + 1))

    three_on : i + 1 + 1 + 1 < 32 → here (i + 1 + 1 + 1) ≡ (filled Three load image (here i)).place
    three_on h =
        ap (λ (f : Filling). f.place)
        (all_taken Three load image (here i) 3 3 three (here (i + 1 + 1 + 1)) (third h) (omega arith) (omega arith) refl)

  last_two : opened (after load phase) ≡ (filled Three load image (here 30)).place
  unfolding goes_on either
  last_two =
      ap (λ (f : Filling). f.place)
      (run_over Three load image (here 30) 1 3 (one 30) (here 31) (first 30 (omega arith)) (bit 31) refl (omega arith) refl
      (two 30) (opened (after load phase)) (third_fits (one 30) (bit 31) (omega (arith, one_used 30))) refl past refl)

pub every_value : EveryValue
every_value load image phase bits value = record {
  ten = λ k h.
      let at : k * 3 + 1 + 1 + 1 ≡ (k + 1) * 3 = omega arith in
      whole load image phase bits value (k * 3)
      ∙ sym (three_on load image phase bits value (k * 3) (omega (arith, h)))
      ∙ ap (λ (i : ℕ). record { phase = phase; index = i }) at;
  eleventh = whole load image phase bits value 30 ∙ sym (last_two load image phase bits value);
}
