-- Laws of RAM: what is done to it keeps its length; and the flag longs of a D of 4 and of 0 (01, P9 and P10).
-- Assumes nothing.
use Rattle.std.proofs.Common.{◌≡◌, ℕ, ◌+◌, ◌≤◌, ◌<◌, List, ◌∷◌, ◌++◌, length, take, drop, refl, ◌∙◌, arith, length-append, length-drop, length-take, le-leb, leb-true}
use native.Mathlib.Nat.{min-eq_left}
use lib.ListN.{length-replicate}
use borrow.Author.Tests.{lt-leb}
use Rattle.terms.proofs.Tests.{when_true, when_false, when_elim}
use Rattle.ram.specs.Ram.{long_bytes, stored, zeroed, flag_stored, flagged_below, flagged}

module _ (at v : ℕ) (ram : List ℕ) where
  -- Where it fits, the four bytes are replaced; elsewhere nothing is.
  pub stored_whole : at + 4 ≤ length ram → stored at v ram ≡ take at ram ++ long_bytes v ++ drop (at + 4) ram
  unfolding stored
  stored_whole h = when_true _ _ (le-leb _ _ h)

  pub stored_past : length ram < at + 4 → stored at v ram ≡ ram
  unfolding stored
  stored_past h = when_false _ _ (lt-leb _ _ h)

long_length : (at v : ℕ) (ram : List ℕ) → at + 4 ≤ length ram → length (take at ram ++ long_bytes v ++ drop (at + 4) ram) ≡ length ram
long_length at v ram h =
    let front : length (take at ram) ≡ at = length-take at ram ∙ min-eq_left (omega arith) in
    simp (length-append, length-drop) (omega arith)

pub stored_length : (at v : ℕ) (ram : List ℕ) → length (stored at v ram) ≡ length ram
unfolding stored
stored_length at v ram =
    when_elim (λ (l : List ℕ). length l ≡ length ram) _ _ _ (λ e. long_length at v ram (leb-true _ _ e)) (λ e. refl)

-- A load that ends past the memory is not zeroed at all.
pub zeroed_length : (at : ℕ) (ram : List ℕ) → length (zeroed at ram) ≡ length ram
unfolding zeroed
zeroed_length at ram = simp (length-append, length-take, length-replicate) (omega arith)

pub flag_stored_length : (at : ℕ) (ram : List ℕ) → length (flag_stored at ram) ≡ length ram
unfolding flag_stored
flag_stored_length at ram =
    when_elim (λ (l : List ℕ). length l ≡ length ram) _ _ _ (λ e. stored_length at _ ram) (λ e. refl)

pub flagged_length : (ram : List ℕ) → length (flagged ram) ≡ length ram
unfolding flagged
flagged_length ram = flag_stored_length _ _ ∙ flag_stored_length _ ram

-- 01, P10: for a D of 0 nothing is stored, since D - 4 and D - 8 are 65,532 and 65,528.
pub flags_of_0 : (ram : List ℕ) → flagged_below 0 ram ≡ ram
unfolding flag_stored
flags_of_0 ram = when_false _ _ refl ∙ when_false _ _ refl

-- 01, P9: for a D of 4 it is stored at 0 and nowhere else.
pub flags_of_4 : (ram : List ℕ) → 4 ≤ length ram → flagged_below 4 ram ≡ 255 ∷ 255 ∷ 249 ∷ 255 ∷ drop 4 ram
unfolding flag_stored stored
flags_of_4 ram h = when_false _ _ refl ∙ when_true _ _ refl ∙ when_true _ _ (le-leb _ _ h)
