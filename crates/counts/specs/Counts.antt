-- The batch report: what a planned session sends of each phase, counted without time. It is 01's session ("What the host sends") with a chip
-- that answers the second pair of each wait with 0.
-- Assumes nothing.
use Rattle.std.specs.Prelude.{Bool, List, [], ◌∷◌, map, ℕ, zero, suc, ◌+◌, ◌-◌, ◌*◌, ◌/◌, eqb, length}
use Rattle.terms.specs.Choice.{when}
use Rattle.terms.specs.Refusals.{Answer, first}
use Rattle.lent.specs.Bytes.{total}
use Rattle.sequence.specs.Sequence.{draw}
use Rattle.load.specs.Load.{load_rows}
use Rattle.bits.specs.Bits.{value_bit}
use Rattle.counts.specs.declared.Counts.{Counts}
use Rattle.counts.specs.declared.Plan.{Plan}

-- The ones among so many bits, from bit i on.
unfoldable pub ones_from : (ℕ → Bool) → ℕ → ℕ → ℕ
ones_from bit i zero = 0
ones_from bit i (suc n) = when (bit i) 1 0 + ones_from bit (i + 1) n

-- The ones of a byte, of a value of 32 bits, of an image.
abbrev pub byte_ones : ℕ → ℕ
byte_ones b = ones_from (value_bit b) 0 8

abbrev pub value_ones : ℕ → ℕ
value_ones v = ones_from (value_bit v) 0 32

abbrev pub image_ones : List ℕ → ℕ
image_ones image = total (map byte_ones image)

-- Nothing; so many bits, of which so many are ones, no more than there are (`ones_most`, `image_most` in proofs/Ones.antt); so many pairs of
-- the bits 1, 0; a wait whose first pair is silent and whose second is answered.
abbrev pub none : Counts
none = record { ones = 0; zeros = 0; spacers = 0; silent = 0 }

abbrev pub bits_with : ℕ → ℕ → Counts
bits_with n ones = record { ones = ones; zeros = n - ones; spacers = n; silent = 0 }

abbrev pub pairs_of : ℕ → Counts
pairs_of n = record { ones = n; zeros = n; spacers = n * 2; silent = 0 }

abbrev pub answered : Counts
answered = record { ones = 2; zeros = 2; spacers = 3; silent = 1 }

-- Without the spacer after the last pulse; it is taken from phases that have one.
abbrev pub unspaced : Counts → Counts
unspaced c = record { ones = c.ones; zeros = c.zeros; spacers = c.spacers - 1; silent = c.silent }

-- By the command: what command 0 has of a phase, what command 1 has, and what 2 and 3 have.
abbrev pub by : ℕ → Counts → Counts → Counts → Counts
by command zeroth first others = when (eqb command 0) zeroth (when (eqb command 1) first others)

-- The plan that goes on so after the four phases that every command has: the pair of calibration, draws 1 to 250, 250 pairs for the
-- chip's draws, 8 for its version.
abbrev pub after_version : Counts → Counts → Counts → Counts → Counts → Counts → Plan
after_version command size image ram programming verification = record {
  calibration = pairs_of 1;
  handshake = bits_with 250 (ones_from draw 1 250);
  connection = pairs_of 250;
  version = pairs_of 8;
  command = command;
  size = size;
  image = image;
  ram = ram;
  programming = programming;
  verification = verification;
}

-- Each phase has the spacer after its last pulse, the session's last phase does not.
unfoldable pub planned : ℕ → List ℕ → Plan
planned command image =
    let commanded = bits_with 32 (value_ones command) in
    let sized = bits_with 32 (value_ones (length image / 4)) in
    let loaded = bits_with (length image * 8) (image_ones image) in
    after_version (by command (unspaced commanded) commanded commanded) (by command none sized sized) (by command none loaded loaded)
    (by command none (unspaced answered) answered) (by command none none answered) (by command none none (unspaced answered))

-- The plan, or the first row that applies.
unfoldable pub counted : ℕ → List ℕ → Answer Plan
counted command image = first (load_rows command image) (planned command image)

-- The ten phases in their order, and the sum of a figure over them.
abbrev pub phases_of : Plan → List Counts
phases_of p =
    p.calibration ∷ p.handshake ∷ p.connection ∷ p.version ∷ p.command ∷ p.size ∷ p.image ∷ p.ram ∷ p.programming
    ∷ p.verification ∷ []

unfoldable pub sum_of : (Counts → ℕ) → Plan → ℕ
sum_of f p = total (map f (phases_of p))

-- The bits 1 of all phases, and the bits 0.
abbrev pub ones_of : Plan → ℕ
ones_of p = sum_of (λ (c : Counts). c.ones) p

abbrev pub zeros_of : Plan → ℕ
zeros_of p = sum_of (λ (c : Counts). c.zeros) p
