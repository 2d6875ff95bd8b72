-- 01, rows 4 to 9 of "Refusal numbers": a command with its image.
-- Assumes nothing.
use Rattle.std.specs.Prelude.{Bool, false, not, List, [], ◌∷◌, ℕ, ltb, eqb, length}
use Rattle.terms.specs.Choice.{when, either}
use Rattle.terms.specs.Refusals.{Row, Answer, ◌given-when◌, first}
use Rattle.load.specs.Image.{bad_length, other_length, other_start, bad_stack, other_sum}
use Rattle.load.specs.declared.Load.{Load}

-- The rows that look at the image.
abbrev pub image_rows : List ℕ → List Row
image_rows image =
    5 given-when bad_length (length image)
    ∷ 6 given-when other_length image
    ∷ 7 given-when other_start image
    ∷ 8 given-when bad_stack image
    ∷ 9 given-when other_sum image
    ∷ []

-- 4: the command is above 3. For command 0 the image is not looked at.
abbrev pub load_rows : ℕ → List ℕ → List Row
load_rows command image = 4 given-when ltb 3 command ∷ when (eqb command 0) [] (image_rows image)

-- The command with the length of its image: 0 for command 0, which has none.
abbrev pub load_of : ℕ → List ℕ → Load
load_of command image = record { command = command; length = record { 0 = when (eqb command 0) 0 (length image) } }

-- The load, or the first row that applies.
unfoldable pub accepted : ℕ → List ℕ → Answer Load
accepted command image = first (load_rows command image) (load_of command image)

-- 13: a load that no start hands out. Its command is above 3, or its length is not 0 for command 0, or else no image's length.
unfoldable pub load_outside : Load → Bool
load_outside l =
    either (ltb 3 l.command) (when (eqb l.command 0) (not (eqb l.length.0 0)) (bad_length l.length.0))

-- 5, at a step: the image's length isn't the one at the start. For command 0 the image is not looked at.
unfoldable pub other_image : Load → List ℕ → Bool
other_image load image = when (eqb load.command 0) false (not (eqb (length image) load.length.0))
