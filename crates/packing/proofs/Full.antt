-- A byte of a run, by every packing: the bits that it holds lead from its place to the next byte's; and where it might go on, it has as
-- many bits as it may, or no room for the next one.
-- Assumes nothing.
use mathlib.Core.Bool.{Bool, true, false, true≢false, false≢true}
use mathlib.Core.List.{List, [], ◌∷◌, ◌++◌, map}
use mathlib.Core.Logic.{◌⊎◌, inl, inr}
use mathlib.Core.Path.{◌≡◌, refl, sym, ap, ◌∙◌}
use Prim.Native.Nat.{ℕ, zero, suc, ◌+◌, ◌≤◌, ◌<◌}
use native.Mathlib.Omega.{arith}
use lib.ListN.{length, length-append}
use borrow.Author.Tests.{leb-false}
use Rattle.terms.proofs.Tests.{when_elim, either_true}
use Rattle.load.specs.declared.Load.{Load}
use Rattle.follow.specs.Follow.{onward}
use Rattle.place.specs.declared.Place.{Place}
use Rattle.frames.specs.Frames.{width, empty, fits, with, byte_of}
use Rattle.frames.specs.LowRuns.{low_runs, run}
use Rattle.frames.specs.declared.Frame.{Frame}
use Rattle.frames.specs.Spells.{laid, widths}
use Rattle.frames.proofs.Spells.{fits_room, with_used, two_each, frame_spells}
use Rattle.packing.specs.Phases.{in_bits}
use Rattle.packing.specs.Filling.{most, goes_on, at_first, Open, joined, closed, kept, tried, more, filled_to, filled, sent_at}
use Rattle.packing.specs.declared.Filling.{Filling}
use Rattle.packing.specs.declared.Packing.{Packing}
use Rattle.packing.specs.declared.Packing.TheVariants.{Fewest}
use Rattle.packing.proofs.Fills.{some_most}
use Rattle.packing.proofs.Phases.{plain, goes_in_bits}
use Rattle.packing.proofs.Shortest.{widths_append}
use Rattle.packing.proofs.Walks.{bit_at, Walks, stays, walks, walks_append}

laid_more : (f : Frame) (bits : List Bool) (b : Bool) → laid f (bits ++ (b ∷ [])) ≡ with (laid f bits) b
unfolding laid
laid_more f [] b = refl
laid_more f (c ∷ bits) b = laid_more (with f c) bits b

widths_more : (bits : List Bool) (b : Bool) → widths (bits ++ (b ∷ [])) ≡ widths bits + width b
unfolding widths
widths_more bits b = let all = widths_append bits (b ∷ []) in omega (arith, all)

pub at_most_three : (b : Bool) → width b ≤ 3
at_most_three true = omega arith
at_most_three false = omega arith

at_least_two : (b : Bool) → 2 ≤ width b
at_least_two true = omega arith
at_least_two false = omega arith

not_empty : (bits : List Bool) (b : Bool) → 10 < widths bits + width b → 1 ≤ length bits
unfolding widths
not_empty [] b h = absurd (omega (arith, h, at_most_three b))
not_empty (c ∷ bits) b h = omega arith

-- The shared fact, for a list that isn't empty.
pub some_spell : (bits : List Bool) → 1 ≤ length bits → widths bits ≤ 10 → low_runs (byte_of (laid empty bits).lows) ≡ map run bits
some_spell [] h w = absurd (omega (arith, h))
some_spell (b ∷ bits) h w = frame_spells b bits w

module _ (packing : Packing) (load : Load) (image : List ℕ) (p : Place) (on : in_bits p.phase ≡ true) where
  abbrev wide : List Bool → Place → Type 0
  wide bits q = 10 < widths bits + width (bit_at load image q)

  -- After n turns.
  record Holds (n : ℕ) (f : Open) : Type 0 where
    bits : List Bool
    frame : f.frame ≡ laid empty bits
    used : f.frame.used ≡ widths bits
    room : widths bits ≤ 10
    way : Walks load image p bits f.place
    goes : f.going ≡ true → in_bits f.place.phase ≡ true
    count : f.going ≡ true → length bits ≡ n
    some : f.going ≡ false → 1 ≤ length bits
    full : f.going ≡ false → goes_on packing f.place ≡ true → wide bits f.place

  module _ (n : ℕ) (f : Open) (x : Holds n f) (going : f.going ≡ true) where
    abbrev b : Bool
    b = bit_at load image f.place

    abbrev to : Place
    to = onward load f.place.phase f.place.index

    joins : fits f.frame b ≡ true → Holds (suc n) (joined packing (with f.frame b) to)
    joins e =
        let all = x.bits ++ (b ∷ []) in
        let more : widths all ≡ widths x.bits + width b = widths_more x.bits b in
        let room = fits_room f.frame b e in
        let many : length all ≡ length x.bits + 1 = length-append x.bits (b ∷ []) in
        record {
          bits = all;
          frame = ap (λ (y : Frame). with y b) x.frame ∙ sym (laid_more empty x.bits b);
          used = with_used f.frame b e ∙ omega (arith, x.used, more);
          room = omega (arith, room, x.used, more);
          way = walks_append load image p f.place to x.bits (b ∷ []) x.way (walks f.place [] to (x.goes going) (stays to));
          goes = goes_in_bits load packing f.place.phase f.place.index (x.goes going);
          count = λ q. omega (arith, many, x.count going);
          some = λ q. omega (arith, many);
          full = λ q r. absurd (true≢false (sym r ∙ q));
        }

    closes : fits f.frame b ≡ false → Holds (suc n) (closed f)
    unfolding fits
    closes e =
        let over = leb-false (f.frame.used + width b) 10 e in
        let more : wide x.bits f.place = omega (arith, over, x.used) in
        record {
          bits = x.bits;
          frame = x.frame;
          used = x.used;
          room = x.room;
          way = x.way;
          goes = λ q. absurd (false≢true q);
          count = λ q. absurd (false≢true q);
          some = λ q. not_empty x.bits b more;
          full = λ q r. more;
        }

  rests : (n : ℕ) (f : Open) → Holds n f → f.going ≡ false → Holds (suc n) f
  rests n f x off = record {
    bits = x.bits;
    frame = x.frame;
    used = x.used;
    room = x.room;
    way = x.way;
    goes = x.goes;
    count = λ q. absurd (true≢false (sym q ∙ off));
    some = x.some;
    full = x.full;
  }

  more_holds : (n : ℕ) (f : Open) → Holds n f → Holds (suc n) (more packing load image f)
  unfolding more tried
  more_holds n f x =
      when_elim (Holds (suc n)) f.going _ _
      (λ going. when_elim (Holds (suc n)) (fits f.frame (bit_at load image f.place)) _ _ (joins n f x going) (closes n f x going))
      (rests n f x)

  to_holds : (n : ℕ) → Holds n (filled_to packing load image n (at_first p))
  unfolding filled_to laid widths
  to_holds zero = record {
    bits = [];
    frame = refl;
    used = refl;
    room = omega arith;
    way = stays p;
    goes = λ q. on;
    count = λ q. refl;
    some = λ q. absurd (true≢false q);
    full = λ q. absurd (true≢false q);
  }
  to_holds (suc n) = more_holds n _ (to_holds n)

  -- The whole byte.
  pub record Byte (f : Filling) : Type 0 where
    pub bits : List Bool
    pub some : 1 ≤ length bits
    pub room : widths bits ≤ 10
    pub runs : low_runs (byte_of f.frame.lows) ≡ map run bits
    pub way : Walks load image p bits f.place
    pub ends : goes_on packing f.place ≡ true → (length bits ≡ most packing) ⊎ wide bits f.place

  by_bits : (n : ℕ) (f : Open) (x : Holds n f) → 1 ≤ length x.bits
      → (goes_on packing f.place ≡ true → (length x.bits ≡ most packing) ⊎ wide x.bits f.place) → Byte (kept f)
  by_bits n f x some ends = record {
    bits = x.bits;
    some = some;
    room = x.room;
    runs = ap (λ (y : Frame). low_runs (byte_of y.lows)) x.frame ∙ some_spell x.bits some x.room;
    way = x.way;
    ends = ends;
  }

  by_going : (f : Open) (x : Holds (most packing) f) (g : Bool) → f.going ≡ g → Byte (kept f)
  by_going f x true e = by_bits (most packing) f x (omega (arith, x.count e, some_most packing)) (λ goes. inl (x.count e))
  by_going f x false e = by_bits (most packing) f x (x.some e) (λ goes. inr (x.full e goes))

  pub filled_byte : Byte (filled packing load image p)
  unfolding filled
  filled_byte =
      let f = filled_to packing load image (most packing) (at_first p) in
      let x = by_going f (to_holds (most packing)) f.going refl in
      record { bits = x.bits; some = x.some; room = x.room; runs = x.runs; way = x.way; ends = x.ends }

  pub whole_byte : Byte (sent_at packing load image p.phase p.index)
  unfolding sent_at
  whole_byte = when_elim Byte _ _ _ (λ e. absurd (true≢false (sym e ∙ (plain p.phase on).bits))) (λ e. filled_byte)

-- By the third packing the next bit never has room: five bits use all of a byte.
pub full_byte : (load : Load) (image : List ℕ) (p : Place) (on : in_bits p.phase ≡ true) (f : Filling) (x : Byte Fewest load image p on f)
    → in_bits f.place.phase ≡ true → 10 < widths x.bits + width (bit_at load image f.place)
unfolding goes_on
full_byte load image p on f x goes = elim (x.ends ((either_true _ _).1 (inr goes))) [
  | inl five ↦ omega (arith, five, two_each x.bits, at_least_two (bit_at load image f.place))
  | inr h ↦ h
]
