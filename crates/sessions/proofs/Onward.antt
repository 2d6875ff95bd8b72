-- Where a pulse leads: on within its phase, or from its last pulse to what follows; in a phase of pairs, from a pair's first to its second.
-- Assumes nothing.
use mathlib.Core.Bool.{true, false}
use mathlib.Core.List.{List}
use mathlib.Core.Path.{◌≡◌, refl, ap, ◌∙◌}
use Prim.Native.Nat.{ℕ, zero, suc, ◌+◌, ◌*◌, ◌%◌, ◌<◌}
use native.Mathlib.Omega.{arith}
use borrow.Author.Tests.{lt-ltb, le-ltb, eq-eqb, ne_eqb}
use Rattle.terms.proofs.Tests.{when_true, when_false, when_elim}
use Rattle.load.specs.declared.Load.{Load}
use Rattle.units.specs.declared.Seen.{Seen}
use Rattle.bits.specs.Bits.{pair_bit, sent_bit}
use Rattle.follow.specs.Follow.{opened, after, onward, after_pair, next, ends_silent_pair}
use Rattle.place.specs.Phases.{places, ended}
use Rattle.place.specs.declared.Phase.{Phase}
use Rattle.place.specs.declared.Place.{Place}

pub first_bit : (j : ℕ) → pair_bit (j * 2) ≡ true
first_bit j = eq-eqb (j * 2 % 2) 0 (omega arith)

pub second_bit : (j : ℕ) → pair_bit (j * 2 + 1) ≡ false
second_bit j = ne_eqb ((j * 2 + 1) % 2) 0 (λ e. omega (arith, e))

module _ (load : Load) where
  -- A place of a phase that has pulses left, or after its last the first of what follows.
  abbrev pub within : Phase → ℕ → ℕ → Place
  within phase i zero = opened (after load phase)
  within phase i (suc left) = record { phase = phase; index = i }

  -- A phase in which what is seen doesn't count, and one of pairs.
  pub record Plain (phase : Phase) : Type 0 where
    pub on : ended phase ≡ false
    pub onwards : (i : ℕ) (s : Seen) → after_pair load phase i s ≡ onward load phase i
    pub quiet : (i : ℕ) (s : Seen) → ends_silent_pair phase i s ≡ false

  pub record Paired (phase : Phase) : Type 0 where
    pub on : ended phase ≡ false
    pub bits : (image : List ℕ) (i : ℕ) → sent_bit load image phase i ≡ pair_bit i
    pub quiet : (i : ℕ) (s : Seen) → pair_bit i ≡ true → ends_silent_pair phase i s ≡ false

  module _ (phase : Phase) where
    pub onward_last : (i : ℕ) → i + 1 ≡ places load phase → onward load phase i ≡ opened (after load phase)
    unfolding onward
    onward_last i e = when_false _ _ (le-ltb (i + 1) (places load phase) (omega (arith, e)))

    onward_more : (i : ℕ) → i + 1 < places load phase → onward load phase i ≡ record { phase = phase; index = i + 1 }
    unfolding onward
    onward_more i h = when_true _ _ (lt-ltb (i + 1) (places load phase) h)

    onward_within : (left i : ℕ) → i + suc left ≡ places load phase → onward load phase i ≡ within phase (i + 1) left
    onward_within zero i e = onward_last i (omega (arith, e))
    onward_within (suc left) i e = onward_more i (omega (arith, e))

    pub onward_pair : (left j : ℕ) → j * 2 + 2 + left * 2 ≡ places load phase
        → onward load phase (j * 2 + 1) ≡ within phase ((j + 1) * 2) left
    onward_pair zero j e = onward_last (j * 2 + 1) (omega (arith, e))
    onward_pair (suc left) j e =
        let index : j * 2 + 1 + 1 ≡ (j + 1) * 2 = omega arith in
        onward_more (j * 2 + 1) (omega (arith, e)) ∙ ap (λ (i : ℕ). record { phase = phase; index = i }) index

    pub next_plain : Plain phase → (left i : ℕ) (s : Seen) → i + suc left ≡ places load phase
        → next load phase i s ≡ within phase (i + 1) left
    unfolding next
    next_plain plain left i s e =
        when_elim (λ (at : Place). at ≡ onward load phase i) (pair_bit i) _ _ (λ b. refl) (λ b. plain.onwards i s)
        ∙ onward_within left i e

    pub next_first : (j : ℕ) (s : Seen) → j * 2 + 1 < places load phase
        → next load phase (j * 2) s ≡ record { phase = phase; index = j * 2 + 1 }
    unfolding next
    next_first j s h = when_true _ _ (first_bit j) ∙ onward_more (j * 2) h

    pub next_second : (j : ℕ) (s : Seen) → next load phase (j * 2 + 1) s ≡ after_pair load phase (j * 2 + 1) s
    unfolding next
    next_second j s = when_false _ _ (second_bit j)
