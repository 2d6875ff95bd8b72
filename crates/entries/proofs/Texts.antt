-- How far the blanks of a text, its first word and its content go: counted as the library counts them, and seen from a place of the text.
-- Assumes nothing.
use mathlib.Core.Bool.{Bool, true, false, not, cond, ◌&&◌}
use mathlib.Core.List.{List, [], ◌∷◌}
use mathlib.Core.Path.{◌≡◌, refl, sym, ◌∙◌}
use Prim.Native.Nat.{ℕ, zero, suc, ◌+◌, ◌-◌, ◌≤◌, ◌<◌}
use native.Mathlib.Nat.{add-zero, zero-add}
use native.Mathlib.Numerals.{add-one}
use native.Mathlib.Omega.{arith}
use lib.ListN.{length, get_or, take, drop, drop_of_length-le, length-drop}
use lib.Seq.{drop-cons}
use denote.Param.Members.{Mut}
use denote.Ref.{Bor}
use Rattle.std.proofs.Common.{Iter}
use Rattle.std.proofs.iter.Yields.{fronts}
use Rattle.std.proofs.lemmas.Iterator.{YieldsList-from_slice}
use Rattle.std.proofs.lemmas.Iterator.Consumers.{YieldsList-at, count_from_yields_List}
use Rattle.std.proofs.lemmas.Iterator.Search.{YieldsList-from_take_while}
use Rattle.std.proofs.lemmas.List.Folds.{length-prefix_len}
use Rattle.std.specs.declared.iter.TakeWhile.{TakeWhile}
use Rattle.std.specs.Fn.{CalledAt}
use Rattle.std.specs.Slice.Iter.{iter_rest}
use Rattle.std.specs.Iterator.{Drains}
use Rattle.std.specs.Iterator.Adapters.{take_while_source, take_while_callee, take_while_done, take_while_steps}
use Rattle.std.specs.List.{prefix_len, list_all}
use Rattle.terms.specs.Choice.{when, both}
use Rattle.terms.proofs.Tests.{when_true, when_false, when_elim}
use Rattle.entries.specs.Entries.{ends_content, content_length, content_of, is_blank, blanks, until_blank, skipped, word_end, word_start, word_in, word_bytes, word_place, may_be_named, is_name}

-- The library counts the bytes that a text starts with and that pass a test, or asks whether all do.
blank_more : (b : Bool) (m n : ℕ) → m ≡ n → cond b (1 + m) 0 ≡ when b (n + 1) 0
unfolding when
blank_more true m n e = omega (arith, e)
blank_more false m n e = refl

pub blanks_counted : (text : List ℕ) → prefix_len is_blank text ≡ blanks text
unfolding blanks
blanks_counted [] = refl
blanks_counted (byte ∷ text) = blank_more (is_blank byte) _ _ (blanks_counted text)

other_more : (b : Bool) (m n : ℕ) → m ≡ n → cond (not b) (1 + m) 0 ≡ when b 0 (n + 1)
unfolding when
other_more true m n e = refl
other_more false m n e = omega (arith, e)

pub others_counted : (text : List ℕ) → prefix_len (λ b. not (is_blank b)) text ≡ until_blank text
unfolding until_blank
others_counted [] = refl
others_counted (byte ∷ text) = other_more (is_blank byte) _ _ (others_counted text)

named_more : (b m n : Bool) → m ≡ n → (b && m) ≡ both b n
unfolding both
named_more true m n e = e
named_more false m n e = refl

pub names_tested : (name : List ℕ) → list_all may_be_named name ≡ is_name name
unfolding is_name
names_tested [] = refl
names_tested (byte ∷ name) = named_more (may_be_named byte) _ _ (names_tested name)

-- What `count` says of the bytes that a text starts with and that pass a test.
pub front_counted : {F : Type 0} {g : Mut F (Bor (Bor ℕ) × Unit {0}) Bool} {f : F} (test : ℕ → Bool) (text : List ℕ)
    (i : Iter ℕ) (s : TakeWhile (Iter ℕ) F) (r : ℕ)
    → (xs : List (Bor ℕ)) × Drains (take_while_steps fronts g) s xs × (r ≡ length xs)
    → iter_rest i ≡ text → take_while_source s ≡ i → take_while_callee s ≡ f → take_while_done s ≡ false
    → ((x : Bor ℕ) (b : Bool) (q : F) → CalledAt g f x b q → (q ≡ f) × (b ≡ test x.now))
    → r ≡ prefix_len test text
front_counted {g = g} test text i s r ran rest taken callee done calls =
    count_from_yields_List s r ran
    (YieldsList-from_take_while g test (YieldsList-at taken (YieldsList-from_slice text rest)) callee done calls)
    ∙ length-prefix_len test text

-- Where the content ends, seen from a place.
unfoldable pub content_end : List ℕ → ℕ → ℕ
content_end line at = at + content_length (drop at line)

pub content_first : (line : List ℕ) → content_end line 0 ≡ content_length line
unfolding content_end
content_first line = zero-add (content_length line)

module _ (text : List ℕ) (at : ℕ) where
  pub content_past : length text ≤ at → at ≡ content_end text at
  unfolding content_end content_length
  content_past past = rw (drop_of_length-le text past) (sym (add-zero at))

  module _ (within : at < length text) where
    here : drop at text ≡ get_or text at 0 ∷ drop (at + 1) text
    here = rw (add-one at) (drop-cons text at 0 within)

    pub content_here : ends_content (get_or text at 0) (length text - (at + 1)) ≡ true → at ≡ content_end text at
    unfolding content_end content_length
    content_here e =
        let over : ends_content (get_or text at 0) (length (drop (at + 1) text)) ≡ true = rw (length-drop (at + 1) text) e in
        rw (here, when_true 0 (content_length (drop (at + 1) text) + 1) over) (sym (add-zero at))

    pub content_later : ends_content (get_or text at 0) (length text - (at + 1)) ≡ false → content_end text (at + 1) ≡ content_end text at
    unfolding content_end content_length
    content_later e =
        let on : ends_content (get_or text at 0) (length (drop (at + 1) text)) ≡ false = rw (length-drop (at + 1) text) e in
        rw (here, when_false 0 (content_length (drop (at + 1) text) + 1) on) (omega arith)

-- No place of these lies past the text's end.
pub content_within : (line : List ℕ) → content_length line ≤ length line
unfolding content_length
content_within [] = omega arith
content_within (byte ∷ line) =
    let rest = content_within line in
    when_elim (λ n. n ≤ length (byte ∷ line)) (ends_content byte (length line)) 0 (content_length line + 1) (λ e. omega arith) (λ e. omega (arith, rest))

pub blanks_within : (text : List ℕ) → blanks text ≤ length text
unfolding blanks
blanks_within [] = omega arith
blanks_within (byte ∷ text) =
    let rest = blanks_within text in
    when_elim (λ n. n ≤ length (byte ∷ text)) (is_blank byte) (blanks text + 1) 0 (λ e. omega (arith, rest)) (λ e. omega arith)

pub until_within : (text : List ℕ) → until_blank text ≤ length text
unfolding until_blank
until_within [] = omega arith
until_within (byte ∷ text) =
    let rest = until_within text in
    when_elim (λ n. n ≤ length (byte ∷ text)) (is_blank byte) 0 (until_blank text + 1) (λ e. omega arith) (λ e. omega (arith, rest))

module _ (text : List ℕ) (from : ℕ) where
  pub skipped_past : length text ≤ from → from ≡ skipped text from
  unfolding skipped blanks
  skipped_past h = rw (drop_of_length-le text h) omega arith

  pub end_past : length text ≤ from → from ≡ word_end text from
  unfolding word_end until_blank
  end_past h = rw (drop_of_length-le text h) omega arith

  pub end_behind : from ≤ word_end text from
  unfolding word_end
  end_behind = omega arith

  module _ (h : from ≤ length text) where
    pub end_within : word_end text from ≤ length text
    unfolding word_end
    end_within = let rest = until_within (drop from text) in omega (arith, h, rest, length-drop from text)

    skip_within : skipped text from ≤ length text
    unfolding skipped
    skip_within = let rest = blanks_within (drop from text) in omega (arith, h, rest, length-drop from text)

pub start_within : (text : List ℕ) (n : ℕ) → word_start text n ≤ length text
unfolding word_start
start_within text zero = skip_within text 0 (omega arith)
start_within text (suc n) = skip_within text _ (end_within text (word_start text n) (start_within text n))

-- The first word, and the one after another.
pub start_first : (text : List ℕ) → skipped text 0 ≡ word_start text 0
unfolding word_start
start_first text = refl

pub start_next : (text : List ℕ) (n : ℕ) → skipped text (word_end text (word_start text n)) ≡ word_start text (n + 1)
unfolding word_start
start_next text n = rw (add-one n) refl

-- A part of the content from a word's start to its end is the word.
module _ (line : List ℕ) (n : ℕ) (place : ℕ × ℕ) (text : List ℕ) (there : ℕ × ℕ) (start end : ℕ) (t : text ≡ content_of line) (p : there ≡ place) (s : start ≡ word_start text n) (e : end ≡ word_end text start) where
  pub word_here : (take (end - start) (drop start text) ≡ word_bytes line n) × ((there.0, start + there.1) ≡ word_place place line n)
  unfolding word_bytes word_place word_in word_end
  word_here =
      let long : end - start ≡ until_blank (drop start text) = omega (arith, e) in
      let at : start + there.1 ≡ there.1 + start = omega arith in
      (rw (long, s, t) refl, rw (at, p, s, t) refl)
