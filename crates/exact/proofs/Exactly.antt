-- The plan is the ten lists' counts without the last spacer, so that its sums are the session's edges.
-- Assumes nothing.
use mathlib.Core.Bool.{Bool, true, false}
use mathlib.Core.List.{List, [], ◌∷◌, ◌++◌, map}
use mathlib.Core.Path.{◌≡◌, refl, sym, ap, ◌∙◌}
use Prim.Native.Nat.{ℕ, zero, suc, ◌+◌, ◌-◌, ◌*◌, ◌/◌, ◌≤◌}
use native.Mathlib.Nat.{suc-mul}
use native.Mathlib.Omega.{arith}
use lib.Dec.{eqb}
use lib.ListN.{length, get_or, take}
use Rattle.terms.specs.Choice.{when}
use Rattle.lent.specs.Bytes.{total}
use Rattle.sequence.specs.Sequence.{draw}
use Rattle.settings.specs.declared.Settings.{Settings}
use Rattle.bits.specs.Bits.{value_bit, image_bit}
use Rattle.sessions.specs.Legs.{legs, edge}
use Rattle.sessions.specs.Phases.{calls_before}
use Rattle.sessions.specs.Sessions.{unsent, ones, zeros}
use Rattle.sessions.specs.Spelled.{Mark, spelled}
use Rattle.units.specs.declared.Seen.{Seen}
use Rattle.counts.specs.Counts.{ones_from, value_ones, image_ones, none, bits_with, pairs_of, answered, unspaced, planned, phases_of, sum_of}
use Rattle.counts.specs.declared.Counts.{Counts}
use Rattle.times.specs.Times.{lasting, old_lasting}
use Rattle.exact.specs.Exact.{pulses_of, legs_of, up_to, last_phase, Exact, EveryPlan}
use Rattle.exact.specs.Good.{Good}
use Rattle.exact.proofs.Counting.{whole_with, whole, counted}
use Rattle.exact.proofs.Edges.{Closes, closes_after, long_flat, ones_flat, zeros_flat, opens_at, lasts_flat, cut_flat, some_pulse, ends_short, cut_ends, old_most, old_least, calls_are, phase_opens}
use Rattle.exact.proofs.Lasts.{cut}
use Rattle.exact.proofs.Lists.{plain, bit_marks, pair_marks, wait_marks}
use Rattle.counts.proofs.Ones.{ones_most, image_most}
use Rattle.exact.proofs.Planned.{flat, onward, parts, pulses_are}

-- The last pulse of the ten lists.
wait_closes : (k : ℕ) → Closes (wait_marks k)
wait_closes k = record { init = plain k true ∷ record { bit = false; silent = true; phase = k } ∷ plain k true ∷ []; k = k; bit = false; is = refl }

bits_close : (k : ℕ) (bit : ℕ → Bool) (n i : ℕ) → Closes (bit_marks k bit i (suc n))
unfolding bit_marks
bits_close k bit zero i = record { init = []; k = k; bit = bit i; is = refl }
bits_close k bit (suc n) i = closes_after (plain k (bit i) ∷ []) _ (bits_close k bit n (i + 1))

-- Nothing after it.
closes_alone : (p : List Mark) → Closes p → Closes (p ++ [])
closes_alone p c = record { init = c.init; k = c.k; bit = c.bit; is = append_none p ∙ c.is } where
  append_none : (p : List Mark) → p ++ [] ≡ p
  append_none [] = refl
  append_none (m ∷ p) = ap (λ (l : List Mark). m ∷ l) (append_none p)

onward_closes : (a b : Bool) (commands sized loaded : List Mark) → Closes commands → Closes (commands ++ flat (onward a b sized loaded))
unfolding flat when
onward_closes true b commands sized loaded c = closes_alone commands c
onward_closes false true commands sized loaded c =
    closes_after commands _ (closes_after sized _ (closes_after loaded _ (closes_alone (wait_marks 7) (wait_closes 7))))
onward_closes false false commands sized loaded c =
    closes_after commands _ (closes_after sized _ (closes_after loaded _
    (closes_after (wait_marks 7) _ (closes_after (wait_marks 8) _ (closes_alone (wait_marks 9) (wait_closes 9))))))

parts_close : (command : ℕ) (image : List ℕ) → Closes (flat (parts command image))
unfolding parts flat
parts_close command image =
    closes_after (pair_marks 0 1) _ (closes_after (bit_marks 1 draw 1 250) _ (closes_after (pair_marks 2 250) _ (closes_after (pair_marks 3 8) _
    (onward_closes (eqb command 0) (eqb command 1) (bit_marks 4 (value_bit command) 0 32) (bit_marks 5 (value_bit (length image / 4)) 0 32)
    (bit_marks 6 (image_bit image) 0 (length image * 8)) (bits_close 4 (value_bit command) 31 0)))))

-- A list up to where two differ.
take_same : (a b c : List ℕ) (q : ℕ) → q ≤ length a → take q (a ++ b) ≡ take q (a ++ c)
take_same [] b c zero h = none b ∙ sym (none c) where
  none : (l : List ℕ) → take 0 l ≡ []
  none [] = refl
  none (x ∷ l) = refl
take_same [] b c (suc q) h = absurd (omega (arith, h))
take_same (x ∷ a) b c zero h = refl
take_same (x ∷ a) b c (suc q) h = ap (λ (l : List ℕ). x ∷ l) (take_same a b c q (omega (arith, h)))

-- The plan by the same two tests, with the ones of the command.
module _ (x : ℕ) (sized loaded : Counts) where
  abbrev commanded : Counts
  commanded = bits_with 32 x

  abbrev plan_with : Bool → Bool → List Counts
  plan_with a b =
      pairs_of 1 ∷ bits_with 250 (ones_from draw 1 250) ∷ pairs_of 250 ∷ pairs_of 8 ∷ when a (unspaced commanded) (when b commanded commanded)
      ∷ when a none (when b sized sized) ∷ when a none (when b loaded loaded) ∷ when a none (when b (unspaced answered) answered)
      ∷ when a none (when b none answered) ∷ when a none (when b none (unspaced answered)) ∷ []

  abbrev wholly : Bool → Bool → List Counts
  wholly a b = whole_with a b commanded sized loaded

  -- No spacer counts as a pulse.
  same_pulses : (a b : Bool) → map pulses_of (plan_with a b) ≡ map pulses_of (wholly a b)
  unfolding when
  same_pulses true b = refl
  same_pulses false true = refl
  same_pulses false false = refl

  same_ones : (a b : Bool) → map (λ (c : Counts). c.ones) (plan_with a b) ≡ map (λ (c : Counts). c.ones) (wholly a b)
  unfolding when
  same_ones true b = refl
  same_ones false true = refl
  same_ones false false = refl

  same_zeros : (a b : Bool) → map (λ (c : Counts). c.zeros) (plan_with a b) ≡ map (λ (c : Counts). c.zeros) (wholly a b)
  unfolding when
  same_zeros true b = refl
  same_zeros false true = refl
  same_zeros false false = refl

  -- Up to the last phase nothing differs.
  same_up_to : (f : Counts → ℕ) (a b : Bool) (q : ℕ) → q ≤ when a 4 (when b 7 9) → up_to f (plan_with a b) q ≡ up_to f (wholly a b) q
  unfolding when up_to
  same_up_to f true b q h =
      ap total (take_same (f (pairs_of 1) ∷ f (bits_with 250 (ones_from draw 1 250)) ∷ f (pairs_of 250) ∷ f (pairs_of 8) ∷ []) _ _ q h)
  same_up_to f false true q h =
      ap total
      (take_same
      (f (pairs_of 1) ∷ f (bits_with 250 (ones_from draw 1 250)) ∷ f (pairs_of 250) ∷ f (pairs_of 8) ∷ f commanded ∷ f sized ∷ f loaded ∷ [])
      _ _ q h)
  same_up_to f false false q h =
      ap total
      (take_same
      (f (pairs_of 1) ∷ f (bits_with 250 (ones_from draw 1 250)) ∷ f (pairs_of 250) ∷ f (pairs_of 8) ∷ f commanded ∷ f sized ∷ f loaded
      ∷ f answered ∷ f answered ∷ [])
      _ _ q h)

  -- A figure in which a spacer comes to y: the last one is short of it.
  module _ (f : Counts → ℕ) (y : ℕ) (less : (n : ℕ) (c : Counts) → c.spacers ≡ suc n → f (unspaced c) + y ≡ f c) where
    one_short : (a b : Bool) → total (map f (plan_with a b)) + y ≡ total (map f (wholly a b))
    unfolding when total
    one_short true b = omega (arith, less 31 commanded refl)
    one_short false true = omega (arith, less 2 answered refl)
    one_short false false = omega (arith, less 2 answered refl)

-- One spacer less.
one_less : (n k y : ℕ) → k ≡ suc n → (k - 1) * y + y ≡ k * y
one_less n k y e =
    let is : k - 1 ≡ n = omega (arith, e) in
    ap (λ (x : ℕ). x * y + y) is ∙ sym (suc-mul n y) ∙ ap (λ (x : ℕ). x * y) (sym e)

module _ (s : Settings) where
  lasting_less : (n : ℕ) (c : Counts) → c.spacers ≡ suc n → lasting s (unspaced c) + s.h ≡ lasting s c
  unfolding lasting
  lasting_less n c e = omega (arith, one_less n c.spacers s.h e)

  old_less : (n : ℕ) (c : Counts) → c.spacers ≡ suc n → old_lasting s (unspaced c) + s.h / 1000 ≡ old_lasting s c
  unfolding old_lasting
  old_less n c e = omega (arith, one_less n c.spacers (s.h / 1000) e)

legs_less : (n : ℕ) (c : Counts) → c.spacers ≡ suc n → legs_of (unspaced c) + 1 ≡ legs_of c
legs_less n c e = omega (arith, e)

-- Each pulse of the ten lists has two legs.
bits_legs : (n x : ℕ) → x ≤ n → legs_of (bits_with n x) ≡ 2 * pulses_of (bits_with n x)
bits_legs n x h = omega (arith, h)

two_legs : (x : ℕ) (sized loaded : Counts) → x ≤ 32 → legs_of sized ≡ 2 * pulses_of sized → legs_of loaded ≡ 2 * pulses_of loaded → (a b : Bool)
    → total (map legs_of (wholly x sized loaded a b)) ≡ 2 * total (map pulses_of (wholly x sized loaded a b))
unfolding when total
two_legs x sized loaded h s l true b = omega (arith, bits_legs 250 (ones_from draw 1 250) (ones_most draw 1 250), bits_legs 32 x h)
two_legs x sized loaded h s l false true = omega (arith, bits_legs 250 (ones_from draw 1 250) (ones_most draw 1 250), bits_legs 32 x h, s, l)
two_legs x sized loaded h s l false false = omega (arith, bits_legs 250 (ones_from draw 1 250) (ones_most draw 1 250), bits_legs 32 x h, s, l)

-- So for the plan of a command with its image.
module _ (s : Settings) (command : ℕ) (image : List ℕ) where
  abbrev plan : List Counts
  plan = phases_of (planned command image)

  abbrev sizes : Counts
  sizes = bits_with 32 (value_ones (length image / 4))

  abbrev loads : Counts
  loads = bits_with (length image * 8) (image_ones image)

  abbrev x : ℕ
  x = value_ones command

  abbrev a : Bool
  a = eqb command 0

  abbrev b : Bool
  b = eqb command 1

  abbrev marks : List Mark
  marks = flat (parts command image)

  -- A sum over the plan, by what it is over the lists.
  sum_is : (f : Counts → ℕ) → sum_of f (planned command image) ≡ total (map f (plan_with x sizes loads a b))
  unfolding sum_of planned
  sum_is f = refl

  pub plan_pulses : sum_of pulses_of (planned command image) ≡ total (map pulses_of (whole command image))
  plan_pulses = sum_is pulses_of ∙ ap total (same_pulses x sizes loads a b)

  plan_short : (f : Counts → ℕ) (y : ℕ) → ((n : ℕ) (c : Counts) → c.spacers ≡ suc n → f (unspaced c) + y ≡ f c)
      → sum_of f (planned command image) + y ≡ total (map f (whole command image))
  plan_short f y less = ap (λ (n : ℕ). n + y) (sum_is f) ∙ one_short x sizes loads f y less a b

  pulses_so : length marks ≡ sum_of pulses_of (planned command image)
  pulses_so = long_flat (parts command image) (whole command image) 0 (counted command image) ∙ sym plan_pulses

  abbrev closing : Closes marks
  closing = parts_close command image

  ends_so : edge s marks (2 * length marks - 1) ≡ 1000 * sum_of (lasting s) (planned command image)
  ends_so =
      let all = lasts_flat s (parts command image) (whole command image) 0 (counted command image) in
      omega (arith, ends_short s marks closing, all, plan_short (lasting s) s.h (lasting_less s))

  old_so : cut (take (2 * length marks - 1) (legs s marks)) ≡ sum_of (old_lasting s) (planned command image)
  old_so =
      let all = cut_flat s (parts command image) (whole command image) 0 (counted command image) in
      omega (arith, cut_ends s marks closing, all, plan_short (old_lasting s) (s.h / 1000) (old_less s))

  legs_so : 2 * length marks - 1 ≡ sum_of legs_of (planned command image)
  legs_so =
      let two =
      two_legs x sizes loads (ones_most (value_bit command) 0 32) (bits_legs 32 (value_ones (length image / 4)) (ones_most (value_bit (length image / 4)) 0 32))
      (bits_legs (length image * 8) (image_ones image) (image_most image)) a b in
      omega (arith, pulses_so, plan_pulses, two, plan_short legs_of 1 legs_less, some_pulse s marks closing)

  pulses_up_to : (q : ℕ) → up_to pulses_of plan q ≡ up_to pulses_of (whole command image) q
  unfolding up_to planned
  pulses_up_to q = ap (λ (l : List ℕ). total (take q l)) (same_pulses x sizes loads a b)

  opens_so : (q : ℕ) → q ≤ last_phase command → edge s marks (2 * up_to pulses_of plan q) ≡ 1000 * up_to (lasting s) plan q
  unfolding last_phase planned
  opens_so q h =
      ap (λ (n : ℕ). edge s marks (2 * n)) (pulses_up_to q)
      ∙ opens_at s (parts command image) (whole command image) 0 (counted command image) q
      ∙ ap (λ (n : ℕ). 1000 * n) (sym (same_up_to x sizes loads (lasting s) a b q h))

  phases_so : (q : ℕ) → calls_before (λ k. (get_or marks k unsent).phase) (length marks) q ≡ up_to pulses_of plan q
  phases_so q =
      let all : q - 0 ≡ q = omega arith in
      calls_are unsent q marks
      ∙ phase_opens (parts command image) (whole command image) 0 (counted command image) q
      ∙ ap (up_to pulses_of (whole command image)) all
      ∙ sym (pulses_up_to q)

  module _ (seen : ℕ → Seen) (good : Good command (length image) seen) where
    are : (spelled command (length image) (λ n. image) seen).pulses ≡ marks
    are = pulses_are command image seen good

    exact : Exact s command image seen
    exact =
        let all = counted command image in
        record {
          pulses = ap length are ∙ pulses_so;
          counted_ones =
              ap ones are ∙ ones_flat (parts command image) (whole command image) 0 all
              ∙ sym (sum_is (λ (c : Counts). c.ones) ∙ ap total (same_ones x sizes loads a b));
          counted_zeros =
              ap zeros are ∙ zeros_flat (parts command image) (whole command image) 0 all
              ∙ sym (sum_is (λ (c : Counts). c.zeros) ∙ ap total (same_zeros x sizes loads a b));
          phases = λ q. ap (λ (l : List Mark). calls_before (λ k. (get_or l k unsent).phase) (length l) q) are ∙ phases_so q;
          opens = λ q h. ap (λ (l : List Mark). edge s l (2 * up_to pulses_of plan q)) are ∙ opens_so q h;
          ends = ap (λ (l : List Mark). edge s l (2 * length l - 1)) are ∙ ends_so;
          all_legs = ap (λ (l : List Mark). 2 * length l - 1) are ∙ legs_so;
          old = ap (λ (l : List Mark). cut (take (2 * length l - 1) (legs s l))) are ∙ old_so;
          old_below = omega (arith, old_most s marks closing, ends_so, old_so);
          old_short = omega (arith, old_least s marks closing, ends_so, old_so, legs_so);
        }

pub every_plan : EveryPlan
every_plan = exact
