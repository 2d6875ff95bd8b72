-- Draws by their numbers: where draw k stands in the table, that draws repeat after 255, and that the handshake and the connection
-- are draws 1 to 250 and 251 to 500, one run.
-- Assumes nothing.
use mathlib.Core.Bool.{Bool}
use mathlib.Core.List.{List, ◌∷◌, ◌++◌}
use mathlib.Core.Path.{◌≡◌, refl, sym, ap, ◌∙◌}
use Prim.Native.Nat.{ℕ, zero, suc, ◌+◌, ◌%◌, ◌<◌}
use native.Mathlib.Nat.{zero-add, add-zero, le_of_suc-le-suc, not-suc-le-zero}
use native.Mathlib.Omega.{arith}
use lib.Dec.{eqb}
use lib.ListN.{length, get_or}
use Rattle.sequence.specs.Sequence.{bit, state, draw, draws, handshake, connection}
use Rattle.sequence.proofs.Orbit.{state_place}

-- Bit 0 of a state, as a test.
abbrev odd : ℕ → Bool
odd s = eqb (bit 0 s) 1

pub draw_place : (k : ℕ) → draw k ≡ eqb (bit 0 (state ((k % 255 + 254) % 255))) 1
unfolding draw
draw_place zero = refl
draw_place (suc n) =
    let place : n % 255 ≡ (suc n % 255 + 254) % 255 = omega arith in
    ap odd (state_place n ∙ ap state place)

pub draw_same : (j k : ℕ) → j % 255 ≡ k % 255 → draw j ≡ draw k
draw_same j k e = draw_place j ∙ ap (λ (r : ℕ). odd (state ((r + 254) % 255))) e ∙ sym (draw_place k)

pub draw_repeats : (k : ℕ) → draw (k + 255) ≡ draw k
draw_repeats k = let same : (k + 255) % 255 ≡ k % 255 = omega arith in draw_same (k + 255) k same

pub length_draws : (k n : ℕ) → length (draws k n) ≡ n
unfolding draws
length_draws k zero = refl
length_draws k (suc n) = ap suc (length_draws (k + 1) n)

pub get_or_draws : (k n i : ℕ) (d : Bool) → i < n → get_or (draws k n) i d ≡ draw (k + i)
unfolding draws
get_or_draws k zero i d h = absurd (not-suc-le-zero h)
get_or_draws k (suc n) zero d h = rw add-zero
get_or_draws k (suc n) (suc i) d h =
    let place : k + 1 + i ≡ k + suc i = omega arith in
    get_or_draws (k + 1) n i d (le_of_suc-le-suc h) ∙ ap draw place

pub draws_append : (k m n : ℕ) → draws k (m + n) ≡ draws k m ++ draws (k + m) n
unfolding draws
draws_append k zero n = rw (zero-add, add-zero)
draws_append k (suc m) n =
    let count : suc m + n ≡ suc (m + n) = omega arith in
    let place : k + 1 + m ≡ k + suc m = omega arith in
    rw (count, ← place) (ap (λ (l : List Bool). draw k ∷ l) (draws_append (k + 1) m n))

pub one_run : handshake ++ connection ≡ draws 1 500
one_run = sym (draws_append 1 250 250)
