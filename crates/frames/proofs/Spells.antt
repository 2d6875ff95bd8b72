-- Every frame spells its bits: one test over all bits that fit.
-- Assumes nothing.
use mathlib.Core.Bool.{Bool, true, false, false≢true}
use mathlib.Core.List.{List, [], ◌∷◌, ◌++◌, map, append-nil, append_assoc}
use mathlib.Core.Path.{◌≡◌, refl, sym, ap, ap₂, ◌∙◌, subst}
use Prim.Native.Nat.{ℕ, zero, suc, ◌+◌, ◌*◌, ◌≤◌}
use native.Mathlib.Omega.{arith}
use lib.Dec.{eqb, leb}
use lib.ListN.{length}
use borrow.Author.Tests.{eqb-true, leb-true, le-leb}
use Rattle.terms.specs.Choice.{when, both}
use Rattle.terms.proofs.Tests.{both_true, when_true}
use Rattle.frames.specs.Frames.{width, fits, with}
use Rattle.frames.specs.LowRuns.{levels, runs, low_runs, run}
use Rattle.frames.specs.Spells.{laid, byte_with, widths, EveryFrame}
use Rattle.frames.specs.declared.Frame.{Frame}

-- A bit that fits is within ten bit times, and uses its own.
module _ (f : Frame) (b : Bool) (e : fits f b ≡ true) where
  pub fits_room : f.used + width b ≤ 10
  unfolding fits
  fits_room = omega (arith, leb-true (f.used + width b) _ e)

  pub with_used : (with f b).used ≡ f.used + width b
  unfolding with
  with_used = ap (λ (x : Frame). x.used) (when_true _ _ e)

-- The bytes that 02 names: a pair, a 0 and a 1 by one bit a byte, five ones.
pair_byte : byte_with (true ∷ false ∷ []) ≡ 0xF9
unfolding laid with fits when
pair_byte = refl

zero_byte : byte_with (false ∷ []) ≡ 0xFE
unfolding laid with fits when
zero_byte = refl

one_byte : byte_with (true ∷ []) ≡ 0xFF
unfolding laid with fits when
one_byte = refl

five_byte : byte_with (true ∷ true ∷ true ∷ true ∷ true ∷ []) ≡ 0x55
unfolding laid with fits when
five_byte = refl

unfoldable same : List ℕ → List ℕ → Bool
same [] [] = true
same [] (y ∷ ys) = false
same (x ∷ xs) [] = false
same (x ∷ xs) (y ∷ ys) = both (eqb x y) (same xs ys)

same_true : (xs ys : List ℕ) → same xs ys ≡ true → xs ≡ ys
unfolding same
same_true [] [] e = refl
same_true [] (y ∷ ys) e = absurd (false≢true e)
same_true (x ∷ xs) [] e = absurd (false≢true e)
same_true (x ∷ xs) (y ∷ ys) e =
    let p = (both_true (eqb x y) (same xs ys)).0 e in
    ap₂ (λ (a : ℕ) (l : List ℕ). a ∷ l) (eqb-true x y p.0) (same_true xs ys p.1)

-- Bits that fit are spelled by their byte.
unfoldable good : List Bool → Bool
good bits = when (leb (widths bits) 10) (same (low_runs (byte_with bits)) (map run bits)) true

-- So are all that begin with these, and have at most so many more.
unfoldable tested : ℕ → List Bool → Bool
tested zero bits = good bits
tested (suc n) bits = both (good bits) (both (tested n (bits ++ (true ∷ []))) (tested n (bits ++ (false ∷ []))))

all_spell : (b : Bool) → tested 4 (b ∷ []) ≡ true
unfolding tested good same laid with fits widths levels runs low_runs when both
all_spell true = refl
all_spell false = refl

now_good : (n : ℕ) (bits : List Bool) → tested n bits ≡ true → good bits ≡ true
unfolding tested
now_good zero bits e = e
now_good (suc n) bits e = ((both_true (good bits) _).0 e).0

one_more : (n : ℕ) (bits : List Bool) (b : Bool) → tested (suc n) bits ≡ true → tested n (bits ++ (b ∷ [])) ≡ true
unfolding tested
one_more n bits true e = ((both_true _ _).0 ((both_true (good bits) _).0 e).1).0
one_more n bits false e = ((both_true _ _).0 ((both_true (good bits) _).0 e).1).1

tested_good : (n : ℕ) (bits rest : List Bool) → length rest ≤ n → tested n bits ≡ true → good (bits ++ rest) ≡ true
tested_good n bits [] h e = subst (λ (l : List Bool). good l ≡ true) (sym (append-nil bits)) (now_good n bits e)
tested_good zero bits (b ∷ rest) h e = absurd (omega (arith, h))
tested_good (suc n) bits (b ∷ rest) h e =
    subst (λ (l : List Bool). good l ≡ true) (append_assoc bits (b ∷ []) rest)
    (tested_good n (bits ++ (b ∷ [])) rest (omega (arith, h)) (one_more n bits b e))

pub two_each : (bits : List Bool) → 2 * length bits ≤ widths bits
unfolding widths
two_each [] = omega arith
two_each (true ∷ bits) = omega (arith, two_each bits)
two_each (false ∷ bits) = omega (arith, two_each bits)

-- A byte's low runs are those of the bits that it was filled with, one at least.
pub frame_spells : (b : Bool) (bits : List Bool) → widths (b ∷ bits) ≤ 10
    → low_runs (byte_with (b ∷ bits)) ≡ map run (b ∷ bits)
unfolding good
frame_spells b bits h =
    let many = two_each (b ∷ bits) in
    let few : length bits ≤ 4 = omega (arith, many, h) in
    let right = tested_good 4 (b ∷ []) bits few (all_spell b) in
    same_true _ _ (sym (when_true _ _ (le-leb (widths (b ∷ bits)) 10 h)) ∙ right)

pub every_frame : EveryFrame
every_frame = record { zero = zero_byte; one = one_byte; pair = pair_byte; five_ones = five_byte; spells = frame_spells }
