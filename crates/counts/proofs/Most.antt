-- No count of a plan is above 262,080, eight for each byte of the longest image.
-- Assumes nothing.
use mathlib.Core.List.{List, [], ◌∷◌}
use mathlib.Core.Path.{◌≡◌, sym, subst}
use Prim.Native.Nat.{ℕ, ◌*◌, ◌/◌, ◌≤◌}
use native.Mathlib.Omega.{arith}
use lib.Dec.{eqb}
use lib.ListN.{length}
use borrow.Author.Tests.{eqb-false}
use Rattle.terms.specs.Choice.{when}
use Rattle.terms.specs.Refusals.{taken}
use Rattle.terms.proofs.Tests.{when_elim}
use Rattle.bits.specs.Bits.{value_bit}
use Rattle.counts.specs.Counts.{none, bits_with, pairs_of, answered, unspaced, by, planned, counted, phases_of}
use Rattle.counts.specs.declared.Counts.{Counts}
use Rattle.counts.specs.declared.Plan.{Plan}
use Rattle.counts.proofs.Ones.{ones_most, image_most}
use Rattle.counts.proofs.Plans.{loaded, image_short, counted_load}

-- What holds of each phase.
abbrev pub Every : (Counts → Type 0) → List Counts → Type 0
Every P [] = Unit {0}
Every P (c ∷ cs) = P c × Every P cs

pub record Most (c : Counts) : Type 0 where
  pub ones : c.ones ≤ 262080
  pub zeros : c.zeros ≤ 262080
  pub spacers : c.spacers ≤ 262080
  pub silent : c.silent ≤ 1

bits_most : (n ones : ℕ) → n ≤ 262080 → ones ≤ n → Most (bits_with n ones)
bits_most n ones h le = record { ones = omega arith; zeros = omega arith; spacers = h; silent = omega arith }

pairs_most : (n : ℕ) → n ≤ 250 → Most (pairs_of n)
pairs_most n h = record { ones = omega arith; zeros = omega arith; spacers = omega arith; silent = omega arith }

unspaced_most : (c : Counts) → Most c → Most (unspaced c)
unspaced_most c m = record { ones = m.ones; zeros = m.zeros; spacers = omega (arith, m.spacers); silent = m.silent }

none_most : Most none
none_most = record { ones = omega arith; zeros = omega arith; spacers = omega arith; silent = omega arith }

answered_most : Most answered
answered_most = record { ones = omega arith; zeros = omega arith; spacers = omega arith; silent = omega arith }

by_most : (command : ℕ) (zeroth first others : Counts) → Most zeroth → ((command ≡ 0 → ⊥) → Most first) → ((command ≡ 0 → ⊥) → Most others)
    → Most (by command zeroth first others)
by_most command zeroth first others z f o =
    when_elim Most (eqb command 0) zeroth (when (eqb command 1) first others) (λ e. z)
    (λ e. when_elim Most (eqb command 1) first others (λ y. f (eqb-false command 0 e)) (λ y. o (eqb-false command 0 e)))

module _ (command : ℕ) (image : List ℕ) where
  planned_most : ((command ≡ 0 → ⊥) → length image ≤ 32760) → Every Most (phases_of (planned command image))
  unfolding planned
  planned_most short =
      let value : (v : ℕ) → Most (bits_with 32 _) = λ v. bits_most 32 _ (omega arith) (ones_most (value_bit v) 0 32) in
      let bytes : (command ≡ 0 → ⊥) → Most (loaded command image) =
      λ some. bits_most (length image * 8) _ (omega (arith, short some)) (image_most image) in (
        pairs_most 1 (omega arith),
        (
          bits_most 250 _ (omega arith) (ones_most _ 1 250),
          (
            pairs_most 250 (omega arith),
            (
              pairs_most 8 (omega arith),
              (
                by_most command _ _ _ (unspaced_most _ (value command)) (λ some. value command) (λ some. value command),
                (
                  by_most command _ _ _ none_most (λ some. value (length image / 4)) (λ some. value (length image / 4)),
                  (
                    by_most command _ _ _ none_most bytes bytes,
                    (
                      by_most command _ _ _ none_most (λ some. unspaced_most _ answered_most) (λ some. answered_most),
                      (
                        by_most command _ _ _ none_most (λ some. none_most) (λ some. answered_most),
                        (by_most command _ _ _ none_most (λ some. none_most) (λ some. unspaced_most _ answered_most), tt),
                      ),
                    ),
                  ),
                ),
              ),
            ),
          ),
        ),
      )

  pub counted_most : (p : Plan) → counted command image ≡ taken p → Every Most (phases_of p)
  counted_most p e =
      let load = counted_load command image p e in
      subst (λ (q : Plan). Every Most (phases_of q)) (sym load.1) (planned_most (image_short command image load.0))
