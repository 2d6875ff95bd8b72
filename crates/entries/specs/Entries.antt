-- A line of a settings file: NAME T H P, apart by blanks; what follows a # is a comment.
-- Assumes nothing.
use Rattle.std.specs.Prelude.{Bool, true, not, Option, None, Some, Result, Ok, Err, List, [], ◌∷◌, ℕ, zero, suc, ◌+◌, eqb, leb, ltb, length, take, drop}
use Rattle.terms.specs.Choice.{when, both, either}
use Rattle.figures.specs.Figures.{figure_of}
use Rattle.entries.specs.declared.Bench.{Bench}
use Rattle.entries.specs.declared.Cause.{Cause}
use Rattle.entries.specs.declared.Cause.TheVariants.{Fewer, More, LongName, OtherName, T, H, P}

-- A byte ends a line's content: a #, byte 35, or a carriage return, byte 13, that no byte follows.
unfoldable pub ends_content : ℕ → ℕ → Bool
ends_content byte following = either (eqb byte 35) (both (eqb byte 13) (eqb following 0))

-- How many bytes stand before the first that ends the content; all of them where none does.
unfoldable pub content_length : List ℕ → ℕ
content_length [] = 0
content_length (byte ∷ line) = when (ends_content byte (length line)) 0 (content_length line + 1)

unfoldable pub content_of : List ℕ → List ℕ
content_of line = take (content_length line) line

-- The blanks are the space, byte 32, and the tab, byte 9.
unfoldable pub is_blank : ℕ → Bool
is_blank byte = either (eqb byte 32) (eqb byte 9)

-- How many blanks a text starts with, and how many bytes that are none.
unfoldable pub blanks : List ℕ → ℕ
blanks [] = 0
blanks (byte ∷ text) = when (is_blank byte) (blanks text + 1) 0

unfoldable pub until_blank : List ℕ → ℕ
until_blank [] = 0
until_blank (byte ∷ text) = when (is_blank byte) 0 (until_blank text + 1)

-- From a place of a text on: the first place without a blank, and the first with one; the text's end where there is none. A place past
-- the end is its own.
unfoldable pub skipped : List ℕ → ℕ → ℕ
skipped text from = from + blanks (drop from text)

unfoldable pub word_end : List ℕ → ℕ → ℕ
word_end text from = from + until_blank (drop from text)

-- Where a word starts, by its number from 0 on; at the text's end where there is no such word.
unfoldable pub word_start : List ℕ → ℕ → ℕ
word_start text zero = skipped text 0
word_start text (suc n) = skipped text (word_end text (word_start text n))

-- Word n of a text, which is empty where there is none.
unfoldable pub word_in : List ℕ → ℕ → List ℕ
word_in text n = take (until_blank (drop (word_start text n) text)) (drop (word_start text n) text)

-- Word n of a line's content, and where it lies: a line lies at a place of a block.
unfoldable pub word_bytes : List ℕ → ℕ → List ℕ
word_bytes line n = word_in (content_of line) n

unfoldable pub word_place : ℕ × ℕ → List ℕ → ℕ → ℕ × ℕ
word_place place line n = (place.0, place.1 + word_start (content_of line) n)

unfoldable pub no_word : List ℕ → ℕ → Bool
no_word line n = eqb (length (word_bytes line n)) 0

-- A name has the bytes of A to Z, a to z, 0 to 9, dot, underscore and hyphen.
unfoldable pub is_between : ℕ → ℕ → ℕ → Bool
is_between low high byte = both (leb low byte) (leb byte high)

unfoldable pub may_be_named : ℕ → Bool
may_be_named byte =
    either (is_between 65 90 byte)
    (either (is_between 97 122 byte)
    (either (is_between 48 57 byte)
    (either (eqb byte 46)
    (either (eqb byte 95)
    (eqb byte 45)))))

unfoldable pub is_name : List ℕ → Bool
is_name [] = true
is_name (byte ∷ name) = both (may_be_named byte) (is_name name)

-- The figures in their order: the first that is no number is what is wrong.
unfoldable pub setting_of : Option ℕ → Option ℕ → Option ℕ → Result (Option Bench) Cause
setting_of None h p = Err T
setting_of (Some t) None p = Err H
setting_of (Some t) (Some h) None = Err P
setting_of (Some t) (Some h) (Some p) = Ok (Some (record { t = t; h = h; p = p }))

-- What a line is, by the first that applies: it has no word, not four words, more than four, or another name than one of at most 12 bytes
-- that may be named.
unfoldable pub entry_of : List ℕ → Result (Option Bench) Cause
entry_of line =
    when (no_word line 0) (Ok None)
    (when (no_word line 3) (Err Fewer)
    (when (not (no_word line 4)) (Err More)
    (when (ltb 12 (length (word_bytes line 0))) (Err LongName)
    (when (not (is_name (word_bytes line 0))) (Err OtherName)
    (setting_of (figure_of (word_bytes line 1)) (figure_of (word_bytes line 2)) (figure_of (word_bytes line 3)))))))
