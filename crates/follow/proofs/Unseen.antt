-- A phase in which what is seen does not count.
-- Assumes nothing.
use mathlib.Core.Path.{◌≡◌}
use Prim.Native.Nat.{ℕ}
use Rattle.terms.proofs.Tests.{when_elim}
use Rattle.load.specs.declared.Load.{Load}
use Rattle.units.specs.declared.Seen.{Seen}
use Rattle.place.specs.declared.Phase.{Phase}
use Rattle.place.specs.declared.Place.{Place}
use Rattle.bits.specs.Bits.{pair_bit}
use Rattle.follow.specs.Follow.{onward, after_pair, next}

module _ (load : Load) (i : ℕ) (seen : Seen) {r : Place} {p q : Phase} (e : p ≡ q) (h : onward load q i ≡ after_pair load q i seen)
    (k : r ≡ onward load p i) where
  unseen_pair : r ≡ after_pair load p i seen
  unseen_pair = rw (e, ← h, ← e) k

  pub unseen : r ≡ next load p i seen
  unfolding next
  unseen = when_elim (λ (x : Place). r ≡ x) (pair_bit i) _ _ (λ b. k) (λ b. unseen_pair)
