-- The states are the tap rule's orbit from the seed, and its period is 255.
-- Assumes nothing.
use mathlib.Core.Bool.{Bool, true, not}
use mathlib.Core.List.{List}
use mathlib.Core.Path.{◌≡◌, refl, sym, ap, ◌∙◌}
use Prim.Native.Nat.{ℕ, zero, suc, ◌+◌, ◌*◌, ◌/◌, ◌%◌, ◌-◌, ◌<◌}
use native.Mathlib.Nat.{add-zero, add-suc, zero-add, zero-mul, add_comm}
use native.Mathlib.Omega.{arith}
use lib.Dec.{eqb}
use lib.ListN.{get_or}
use borrow.Author.Tests.{eqb-true, eqb-false, not-true}
use Rattle.terms.specs.Choice.{both}
use Rattle.terms.proofs.Tables.{below, at}
use Rattle.sequence.specs.Sequence.{advanced, state}

-- What is tested over the whole table: entry k + 1 follows from entry k by the tap rule, and the first from the last.
unfoldable pub follows : List ℕ → ℕ → Bool
follows table k = eqb (get_or table ((k + 1) % 255) 0) (advanced (get_or table k 0))

-- A table that starts at the seed and passes the test has the orbit's states in their order.
module _ (table : List ℕ) (seed : get_or table 0 0 ≡ 0x50) (test : below (follows table) 255 ≡ true) where
  step : (k : ℕ) → k < 255 → get_or table ((k + 1) % 255) 0 ≡ advanced (get_or table k 0)
  unfolding follows
  step k h = eqb-true _ _ (at (follows table) 255 test k h)

  turn : (n : ℕ) → get_or table (n % 255) 0 ≡ state n
  unfolding state
  turn zero = seed
  turn (suc n) =
      let place : suc n % 255 ≡ (n % 255 + 1) % 255 = omega arith in
      ap (λ (m : ℕ). get_or table m 0) place ∙ step (n % 255) (omega arith) ∙ ap advanced (turn n)

  pub orbit : (n : ℕ) → n < 255 → get_or table n 0 ≡ state n
  orbit n h =
      let place : n ≡ n % 255 = omega arith in
      ap (λ (m : ℕ). get_or table m 0) place ∙ turn n

-- Equal states have equal successors, however far on.
on : (a b j : ℕ) → state a ≡ state b → state (a + j) ≡ state (b + j)
unfolding state
on a b zero e = rw (add-zero a, add-zero b) e
on a b (suc j) e = rw (add-suc a j, add-suc b j) (ap advanced (on a b j e))

back_at_seed : state 255 ≡ state 0
unfolding state advanced
back_at_seed = refl

pub state_repeats : (n : ℕ) → state (n + 255) ≡ state n
state_repeats n =
    ap state (add_comm n 255) ∙ on 255 0 n back_at_seed ∙ ap state (zero-add n)

turns : (n q : ℕ) → state (n + q * 255) ≡ state n
turns n zero = rw (zero-mul, add-zero)
turns n (suc q) =
    let one : n + suc q * 255 ≡ n + q * 255 + 255 = omega arith in
    ap state one ∙ state_repeats (n + q * 255) ∙ turns n q

pub state_place : (n : ℕ) → state n ≡ state (n % 255)
state_place n =
    let parts : n ≡ n % 255 + n / 255 * 255 = omega arith in
    ap state parts ∙ turns (n % 255) (n / 255)

-- Not the seed again after k + 1 advances.
away : ℕ → Bool
away k = not (eqb (state (k + 1)) 0x50)

all_away : below away 254 ≡ true
unfolding away both state advanced
all_away = refl

-- No two states of one turn are the same, wherever the turn begins: the period is no shorter.
pub state_differs : (n m : ℕ) → 0 < m → m < 255 → state (n + m) ≡ state n → ⊥
unfolding away state
state_differs n m pos small e =
    let turned : state (n + m + n * 254) ≡ state (n + n * 254) = on (n + m) n (n * 254) e in
    let left : n + m + n * 254 ≡ m + n * 255 = omega arith in
    let right : n + n * 254 ≡ 0 + n * 255 = omega arith in
    let seed : state m ≡ state 0 = sym (turns m n) ∙ ap state (sym left) ∙ turned ∙ ap state right ∙ turns 0 n in
    let far : not (eqb (state (m - 1 + 1)) 0x50) ≡ true = at away 254 all_away (m - 1) (omega arith) in
    let same : m - 1 + 1 ≡ m = omega arith in
    eqb-false (state m) 0x50 (not-true _ (rw same at far)) seed
