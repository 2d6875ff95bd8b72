-- Digit after digit: what a text spells after a number is what its rest spells after that number with one digit more.
-- Assumes nothing.
use mathlib.Core.Bool.{Bool, true, false}
use mathlib.Core.List.{List, [], ◌∷◌}
use Rattle.std.specs.Char.{is_ascii_digit}
use Rattle.std.specs.Prelude.{Option, None, Some, Result, Ok, Err}
use Rattle.std.specs.Result.{OkIff, result_ok}
use mathlib.Core.Path.{◌≡◌, refl}
use Prim.Native.Nat.{ℕ, suc, ◌+◌, ◌≤◌, ◌<◌}
use native.Mathlib.Numerals.{add-one}
use native.Mathlib.Omega.{arith}
use lib.Dec.{ltb, leb}
use lib.ListN.{length, get_or, drop}
use lib.Seq.{drop-cons, drop-length}
use borrow.Author.Tests.{ltb-false, le-ltb, lt-ltb}
use Rattle.terms.specs.Choice.{when, both}
use Rattle.figures.specs.Figures.{is_digit, all_digits, grown, value_from, number_from, with_digit}

-- The library's test of a digit.
pub digit_is : (byte : ℕ) → is_ascii_digit byte ≡ is_digit byte
unfolding is_digit both
digit_is byte = decide (leb 48 byte) refl where
  decide : (b : Bool) → leb 48 byte ≡ b → is_ascii_digit byte ≡ is_digit byte
  decide true e = rw e refl
  decide false e = rw e refl

-- A number where it fits.
pub fits_or_none : {E : Type 0} (n : ℕ) (r : Result ℕ E) → OkIff r (n < 4294967296) n → result_ok r ≡ when (ltb n 4294967296) (Some n) None
unfolding when
fits_or_none n (Ok m) p = rw (lt-ltb n 4294967296 p.0, p.1) refl
fits_or_none n (Err e) p = let large : 4294967296 ≤ n = omega (arith, p) in rw (le-ltb n 4294967296 large) refl

-- More digits make no value smaller.
value_grows : (value : ℕ) (text : List ℕ) → value ≤ value_from value text
unfolding value_from
value_grows value [] = omega arith
value_grows value (byte ∷ text) = let rest = value_grows (grown value byte) text in omega (arith, rest)

-- The second test fails.
neither : (b : Bool) → both b false ≡ false
unfolding both
neither true = refl
neither false = refl

-- What the rest of a text makes of the number before it.
abbrev pub onward : Option ℕ → List ℕ → Option ℕ
onward None text = None
onward (Some value) text = number_from value text

module _ (value byte : ℕ) (text : List ℕ) where
  by_tests : (d s : Bool) → is_digit byte ≡ d → ltb (grown value byte) 4294967296 ≡ s
      → number_from value (byte ∷ text) ≡ onward (with_digit value byte) text
  unfolding number_from all_digits value_from with_digit when both
  by_tests false s d e = rw d refl
  by_tests true true d e = rw (d, e) refl
  by_tests true false d e =
      let grows = value_grows (grown value byte) text in
      let reached = ltb-false (grown value byte) 4294967296 e in
      let large : ltb (value_from (grown value byte) text) 4294967296 ≡ false =
      le-ltb (value_from (grown value byte) text) 4294967296 (omega (arith, grows, reached)) in
      rw (d, e, large, neither (all_digits text)) refl

  one_digit : number_from value (byte ∷ text) ≡ onward (with_digit value byte) text
  one_digit = by_tests (is_digit byte) (ltb (grown value byte) 4294967296) refl refl

-- The same at a place in a text.
pub at_digit : (value at : ℕ) (text : List ℕ) → at < length text
    → number_from value (drop at text) ≡ onward (with_digit value (get_or text at 0)) (drop (at + 1) text)
at_digit value at text h = rw (add-one at, drop-cons text at 0 h) (one_digit value (get_or text at 0) (drop (suc at) text))

-- No digit is left.
pub at_end : (value : ℕ) (text : List ℕ) → value < 4294967296 → number_from value (drop (length text) text) ≡ Some value
unfolding number_from all_digits value_from when both
at_end value text fits = rw (drop-length text, lt-ltb value 4294967296 fits) refl
