-- At a place of a text each definition goes by the byte there: it ends there, or goes on behind it. Past the end nothing is left.
-- Assumes nothing.
use mathlib.Core.Bool.{Bool, true, false, ◌&&◌}
use mathlib.Core.List.{List, [], ◌∷◌}
use mathlib.Core.Path.{◌≡◌, refl, sym, ◌∙◌}
use Prim.Native.Nat.{ℕ, ◌+◌, ◌-◌, ◌≤◌, ◌<◌, max}
use native.Mathlib.Nat.{add-zero}
use native.Mathlib.Numerals.{add-one}
use native.Mathlib.Omega.{arith}
use lib.Dec.{eqb, leb, ltb}
use lib.ListN.{length, get_or, take, drop, drop_of_length-le, length-drop}
use lib.Seq.{drop-cons, take_all}
use borrow.Author.Tests.{eq-eqb, ne_eqb, ltb-true, ltb-false}
use Rattle.std.specs.Char.{is_ascii_digit}
use Rattle.std.specs.Cmp.Lexicographic.{pointwise}
use Rattle.terms.specs.Choice.{when, both}
use Rattle.terms.proofs.Refusals.{row_given, row_passed}
use Rattle.terms.proofs.Tests.{when_true, when_false}
use Rattle.cases.specs.Cases.{until_newline, line_end, starts_with, behind, is_digit, starts_with_digit, grown, value_from, number_from}

-- The library compares the bytes of words.
word_more : (b m n : Bool) → m ≡ n → (b && m) ≡ both b n
unfolding both
word_more true m n e = e
word_more false m n e = refl

pub words_are : (text words : List ℕ) → pointwise eqb (take (length words) text) words ≡ starts_with text words
unfolding starts_with
words_are text [] = refl
words_are [] (word ∷ words) = refl
words_are (byte ∷ text) (word ∷ words) = word_more (eqb byte word) _ _ (words_are text words)

-- The library's test of a digit.
pub digit_is : (byte : ℕ) → is_ascii_digit byte ≡ is_digit byte
unfolding is_digit both
digit_is byte = decide (leb 48 byte) refl where
  decide : (b : Bool) → leb 48 byte ≡ b → is_ascii_digit byte ≡ is_digit byte
  decide true e = rw e refl
  decide false e = rw e refl

module _ (text : List ℕ) (at : ℕ) where
  pub end_past : length text ≤ at → at ≡ line_end text at
  unfolding line_end until_newline
  end_past past = rw (drop_of_length-le text past) (sym (add-zero at))

  pub number_past : length text ≤ at → (fresh : Bool) (words : List ℕ) (otherwise : ℕ) → otherwise ≡ number_from fresh (drop at text) words otherwise
  unfolding number_from
  number_past past fresh words otherwise = rw (drop_of_length-le text past) refl

  pub value_past : length text ≤ at → (value : ℕ) → value ≡ value_from value (drop at text)
  unfolding value_from
  value_past past value = rw (drop_of_length-le text past) refl

  module _ (within : at < length text) where
    here : drop at text ≡ get_or text at 0 ∷ drop (at + 1) text
    here = rw (add-one at) (drop-cons text at 0 within)

    pub end_here : get_or text at 0 ≡ 10 → at ≡ line_end text at
    unfolding line_end until_newline
    end_here e = rw (here, when_true 0 (until_newline (drop (at + 1) text) + 1) (eq-eqb _ 10 e)) (sym (add-zero at))

    pub end_later : (get_or text at 0 ≡ 10 → ⊥) → line_end text (at + 1) ≡ line_end text at
    unfolding line_end until_newline
    end_later ne = rw (here, when_false 0 (until_newline (drop (at + 1) text) + 1) (ne_eqb _ 10 ne)) (omega arith)

    module _ (value : ℕ) where
      pub value_here : is_digit (get_or text at 0) ≡ false → value ≡ value_from value (drop at text)
      unfolding value_from
      value_here d = rw here (row_passed _ _ _ _ d refl)

      pub value_later : is_digit (get_or text at 0) ≡ true → value_from (grown value (get_or text at 0)) (drop (at + 1) text) ≡ value_from value (drop at text)
      unfolding value_from
      value_later d = rw here (row_given _ _ _ _ d refl)

    module _ (fresh : Bool) (words : List ℕ) where
      module _ (otherwise : ℕ) (rest : List ℕ) (e : rest ≡ behind fresh (take (length text - at) (drop at text)) words) where
        left : take (length text - at) (drop at text) ≡ drop at text
        left = take_all _ _ (omega (arith, length-drop at text))

        number_at : number_from fresh (drop at text) words otherwise
            ≡ when (starts_with_digit rest) (value_from 0 rest) (number_from (eqb (get_or text at 0) 32) (drop (at + 1) text) words otherwise)
        unfolding number_from
        number_at = rw (e, left, here) refl

        pub number_here : starts_with_digit rest ≡ true → value_from 0 rest ≡ number_from fresh (drop at text) words otherwise
        number_here d = row_given _ _ _ _ d refl ∙ sym number_at

        pub number_later : starts_with_digit rest ≡ false
            → number_from (eqb (get_or text at 0) 32) (drop (at + 1) text) words otherwise ≡ number_from fresh (drop at text) words otherwise
        number_later d = row_passed _ _ _ _ d refl ∙ sym number_at

-- Where no newline is met, the line ends with the text, or at its own place past that.
module _ (text : List ℕ) (from at : ℕ) (behind_from : from ≤ at) (within : from ≤ length text → at ≤ length text) (out : length text ≤ at) where
  pub end_reached : line_end text at ≡ line_end text from → max from (length text) ≡ line_end text from
  end_reached e = decide (ltb from (length text)) refl where
    decide : (b : Bool) → ltb from (length text) ≡ b → max from (length text) ≡ line_end text from
    decide true t =
        let less = ltb-true from (length text) t in
        let there : max from (length text) ≡ at = omega (arith, less, within (omega (arith, less)), out) in
        there ∙ end_past text at out ∙ e
    decide false f =
        let past = ltb-false from (length text) f in
        let here : max from (length text) ≡ from = omega (arith, past) in
        here ∙ end_past text from past
