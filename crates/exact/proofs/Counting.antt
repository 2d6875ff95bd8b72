-- The lists count what the plan says, each with the spacer after its last pulse.
-- Assumes nothing.
use mathlib.Core.Bool.{Bool, true, false}
use mathlib.Core.List.{List, [], ◌∷◌}
use mathlib.Core.Path.{◌≡◌, refl, ap, ◌∙◌}
use Prim.Native.Nat.{ℕ, zero, suc, ◌+◌, ◌*◌, ◌/◌, ◌≤◌}
use native.Mathlib.Omega.{arith}
use lib.Dec.{ltb, eqb}
use lib.ListN.{length}
use Rattle.terms.specs.Choice.{when}
use Rattle.terms.proofs.Tests.{when_elim}
use Rattle.sequence.specs.Sequence.{draw}
use Rattle.bits.specs.Bits.{value_bit, image_bit}
use Rattle.sessions.specs.Spelled.{Mark}
use Rattle.counts.specs.Counts.{ones_from, value_ones, image_ones, none, bits_with, pairs_of, answered}
use Rattle.counts.specs.declared.Counts.{Counts}
use Rattle.exact.proofs.Lasts.{count_one, plus, count, same}
use Rattle.exact.proofs.Lists.{plain, bit_marks, pair_marks, wait_marks}
use Rattle.counts.proofs.Ones.{ones_most, image_ones_lem}
use Rattle.exact.proofs.Planned.{parts}

-- What the lists count.
one_more : (k : ℕ) (b : Bool) (n x : ℕ) → x ≤ n → plus (count_one (plain k b)) (bits_with n x) ≡ bits_with (suc n) (when b 1 0 + x)
unfolding when
one_more k true n x h =
    same (plus (count_one (plain k true)) (bits_with n x)) (bits_with (suc n) (1 + x)) (omega arith) (omega arith) (omega arith) (omega arith)
one_more k false n x h =
    same (plus (count_one (plain k false)) (bits_with n x)) (bits_with (suc n) (0 + x)) (omega arith) (omega arith) (omega arith) (omega arith)

bit_marks_lem : (k : ℕ) (bit : ℕ → Bool) (n i : ℕ) → count (bit_marks k bit i n) ≡ bits_with n (ones_from bit i n)
unfolding count bit_marks ones_from
bit_marks_lem k bit zero i = refl
bit_marks_lem k bit (suc n) i =
    ap (plus (count_one (plain k (bit i)))) (bit_marks_lem k bit n (i + 1))
    ∙ one_more k (bit i) n (ones_from bit (i + 1) n) (ones_most bit (i + 1) n)

one_pair : (k n : ℕ) → plus (count_one (plain k true)) (plus (count_one (plain k false)) (pairs_of n)) ≡ pairs_of (suc n)
unfolding when
one_pair k n =
    same (plus (count_one (plain k true)) (plus (count_one (plain k false)) (pairs_of n))) (pairs_of (suc n))
    (omega arith) (omega arith) (omega arith) (omega arith)

pair_marks_lem : (k n : ℕ) → count (pair_marks k n) ≡ pairs_of n
unfolding count pair_marks
pair_marks_lem k zero = refl
pair_marks_lem k (suc n) =
    ap (λ (c : Counts). plus (count_one (plain k true)) (plus (count_one (plain k false)) c)) (pair_marks_lem k n) ∙ one_pair k n

wait_marks_lem : (k : ℕ) → count (wait_marks k) ≡ answered
unfolding count when
wait_marks_lem k = refl

-- The pulses of phases before phase q.
unfoldable pub pulses_below : ℕ → List Mark → ℕ
pulses_below q [] = 0
pulses_below q (m ∷ marks) = when (ltb m.phase q) 1 0 + pulses_below q marks

-- All of a list is of phase k, and it counts so much.
pub record In (k : ℕ) (p : List Mark) (c : Counts) : Type 0 where
  pub within : (q : ℕ) → pulses_below q p ≡ when (ltb k q) (length p) 0
  pub counts : count p ≡ c

one_below : (b : Bool) (n x : ℕ) → x ≡ when b n 0 → when b 1 0 + x ≡ when b (suc n) 0
unfolding when
one_below true n x e = omega (arith, e)
one_below false n x e = omega (arith, e)

none_below : (k q : ℕ) → ◌≡◌ {A = ℕ} 0 (when (ltb k q) 0 0)
none_below k q = when_elim (λ (x : ℕ). 0 ≡ x) (ltb k q) 0 0 (λ e. refl) (λ e. refl)

bits_within : (k : ℕ) (bit : ℕ → Bool) (n i q : ℕ) → pulses_below q (bit_marks k bit i n) ≡ when (ltb k q) (length (bit_marks k bit i n)) 0
unfolding pulses_below bit_marks
bits_within k bit zero i q = none_below k q
bits_within k bit (suc n) i q = one_below (ltb k q) (length (bit_marks k bit (i + 1) n)) _ (bits_within k bit n (i + 1) q)

pairs_within : (k n q : ℕ) → pulses_below q (pair_marks k n) ≡ when (ltb k q) (length (pair_marks k n)) 0
unfolding pulses_below pair_marks
pairs_within k zero q = none_below k q
pairs_within k (suc n) q =
    one_below (ltb k q) (suc (length (pair_marks k n))) _ (one_below (ltb k q) (length (pair_marks k n)) _ (pairs_within k n q))

wait_within : (k q : ℕ) → pulses_below q (wait_marks k) ≡ when (ltb k q) (length (wait_marks k)) 0
unfolding pulses_below
wait_within k q =
    one_below (ltb k q) 3 _ (one_below (ltb k q) 2 _ (one_below (ltb k q) 1 _ (one_below (ltb k q) 0 0 (none_below k q))))

bits_in : (k : ℕ) (bit : ℕ → Bool) (i n : ℕ) → In k (bit_marks k bit i n) (bits_with n (ones_from bit i n))
bits_in k bit i n = record { within = bits_within k bit n i; counts = bit_marks_lem k bit n i }

pairs_in : (k n : ℕ) → In k (pair_marks k n) (pairs_of n)
pairs_in k n = record { within = pairs_within k n; counts = pair_marks_lem k n }

wait_in : (k : ℕ) → In k (wait_marks k) answered
wait_in k = record { within = wait_within k; counts = wait_marks_lem k }

-- A phase that a command has not.
abbrev pub absent : Bool → Counts → Counts
absent b c = when b none c

unless_in : (b : Bool) {k : ℕ} {p : List Mark} {c : Counts} → In k p c → In k (when b [] p) (absent b c)
unfolding when pulses_below count
unless_in true {k} i = record { within = none_below k; counts = refl }
unless_in false i = i

-- Lists that count what a table says, one after the other, each of the next phase.
pub data Counted : ℕ → List (List Mark) → List Counts → Type 0 where
  nothing : (k : ℕ) → Counted k [] []
  also : (k : ℕ) (p : List Mark) (c : Counts) (ps : List (List Mark)) (cs : List Counts) → In k p c → Counted (suc k) ps cs
      → Counted k (p ∷ ps) (c ∷ cs)

-- The ten, by whether the command is 0, and whether it is 1; then of a command with its image.
abbrev pub whole_with : Bool → Bool → Counts → Counts → Counts → List Counts
whole_with a b commanded sized loaded =
    pairs_of 1 ∷ bits_with 250 (ones_from draw 1 250) ∷ pairs_of 250 ∷ pairs_of 8 ∷ commanded ∷ absent a sized ∷ absent a loaded ∷ absent a answered
    ∷ absent a (absent b answered) ∷ absent a (absent b answered) ∷ []

abbrev pub whole : ℕ → List ℕ → List Counts
whole command image =
    whole_with (eqb command 0) (eqb command 1) (bits_with 32 (value_ones command)) (bits_with 32 (value_ones (length image / 4)))
    (bits_with (length image * 8) (image_ones image))

pub counted : (command : ℕ) (image : List ℕ) → Counted 0 (parts command image) (whole command image)
unfolding parts
counted command image =
    let a = eqb command 0 in
    let b = eqb command 1 in
    let loaded : In 6 (bit_marks 6 (image_bit image) 0 (length image * 8)) (bits_with (length image * 8) (image_ones image)) =
    record {
      within = bits_within 6 (image_bit image) (length image * 8) 0;
      counts = bit_marks_lem 6 (image_bit image) (length image * 8) 0 ∙ ap (bits_with (length image * 8)) (image_ones_lem image);
    } in
    also 0 _ _ _ _ (pairs_in 0 1)
    (also 1 _ _ _ _ (bits_in 1 draw 1 250)
    (also 2 _ _ _ _ (pairs_in 2 250)
    (also 3 _ _ _ _ (pairs_in 3 8)
    (also 4 _ _ _ _ (bits_in 4 (value_bit command) 0 32)
    (also 5 _ _ _ _ (unless_in a (bits_in 5 (value_bit (length image / 4)) 0 32))
    (also 6 _ _ _ _ (unless_in a loaded)
    (also 7 _ _ _ _ (unless_in a (wait_in 7))
    (also 8 _ _ _ _ (unless_in a (unless_in b (wait_in 8)))
    (also 9 _ _ _ _ (unless_in a (unless_in b (wait_in 9))) (nothing 10))))))))))
