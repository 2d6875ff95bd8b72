-- The line that starts at a place of a text ends there or behind it, and not past the text's end. No line starts past that.
-- Assumes nothing.
use mathlib.Core.List.{List, [], ◌∷◌}
use mathlib.Core.Path.{◌≡◌, refl}
use Prim.Native.Nat.{ℕ, zero, suc, ◌+◌, ◌-◌, ◌≤◌}
use native.Mathlib.Numerals.{add-one}
use native.Mathlib.Omega.{arith}
use lib.Dec.{eqb}
use lib.ListN.{length, take, drop, length-drop}
use Rattle.terms.proofs.Tests.{when_elim}
use Rattle.cases.specs.Cases.{until_newline, line_end, next_line, line_start, line_bytes, line_place}

until_within : (text : List ℕ) → until_newline text ≤ length text
unfolding until_newline
until_within [] = omega arith
until_within (byte ∷ text) =
    let rest = until_within text in
    when_elim (λ n. n ≤ length (byte ∷ text)) (eqb byte 10) 0 (until_newline text + 1) (λ e. omega arith) (λ e. omega (arith, rest))

module _ (text : List ℕ) (from : ℕ) where
  pub end_behind : from ≤ line_end text from
  unfolding line_end
  end_behind = omega arith

  pub end_within : from ≤ length text → line_end text from ≤ length text
  unfolding line_end
  end_within h = let rest = until_within (drop from text) in omega (arith, h, rest, length-drop from text)

pub start_within : (text : List ℕ) (n : ℕ) → line_start text n ≤ length text
unfolding line_start next_line
start_within text zero = omega arith
start_within text (suc n) = omega arith

-- The line after one, by its number.
pub start_next : (text : List ℕ) (n : ℕ) → next_line text (line_start text n) ≡ line_start text (n + 1)
unfolding line_start
start_next text n = rw (add-one n) refl

-- A part from a line's start to its end is the line.
module _ (place : ℕ × ℕ) (text : List ℕ) (n start end : ℕ) (s : start ≡ line_start text n) (e : end ≡ line_end text start) where
  pub line_here : (take (end - start) (drop start text) ≡ line_bytes text n) × ((place.0, start + place.1) ≡ line_place place text n)
  unfolding line_bytes line_place line_end
  line_here =
      let long : end - start ≡ until_newline (drop start text) = omega (arith, e) in
      let at : start + place.1 ≡ place.1 + start = omega arith in
      (rw (long, s) refl, rw (at, s) refl)
