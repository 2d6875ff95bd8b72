-- Each pulse adds its low and its spacer to the edges before it, and its bit to the counts.
-- Assumes nothing.
use mathlib.Core.List.{List, [], ◌∷◌, map}
use mathlib.Core.Path.{◌≡◌, refl, ap, ◌∙◌}
use Prim.Native.Nat.{ℕ, zero, suc, ◌+◌, ◌*◌, ◌≤◌, ◌<◌}
use native.Mathlib.Nat.{not-suc-le-zero, le_of_suc-le-suc}
use native.Mathlib.Omega.{arith}
use lib.ListN.{length, get_or, take}
use Rattle.terms.specs.Choice.{when}
use Rattle.lent.specs.Bytes.{total}
use Rattle.settings.specs.declared.Settings.{Settings}
use Rattle.host.specs.Time.{low, spacer}
use Rattle.sessions.specs.Legs.{legs, edge}
use Rattle.sessions.specs.Sessions.{ones, zeros}
use Rattle.sessions.specs.Spelled.{Mark}

module _ (s : Settings) where
  edge_past : (m : Mark) (marks : List Mark) (k : ℕ)
      → edge s (m ∷ marks) (suc (suc k)) ≡ low s m.bit + (spacer s m.silent + edge s marks k)
  unfolding edge total
  edge_past m marks k = refl

  -- The edges of the second pulse on, by those of the pulses after the first.
  fall_past : (m : Mark) (marks : List Mark) (n : ℕ)
      → edge s (m ∷ marks) (2 * suc n) ≡ low s m.bit + (spacer s m.silent + edge s marks (2 * n))
  fall_past m marks n =
      let two : 2 * suc n ≡ suc (suc (2 * n)) = omega arith in
      ap (edge s (m ∷ marks)) two ∙ edge_past m marks (2 * n)

  rise_past : (m : Mark) (marks : List Mark) (n : ℕ)
      → edge s (m ∷ marks) (2 * suc n + 1) ≡ low s m.bit + (spacer s m.silent + edge s marks (2 * n + 1))
  rise_past m marks n =
      let two : 2 * suc n + 1 ≡ suc (suc (2 * n + 1)) = omega arith in
      ap (edge s (m ∷ marks)) two ∙ edge_past m marks (2 * n + 1)

  pub rise_after : (marks : List Mark) (n : ℕ) (d : Mark) → n < length marks
      → edge s marks (2 * n + 1) ≡ edge s marks (2 * n) + low s (get_or marks n d).bit
  unfolding edge total
  rise_after [] n d h = absurd (not-suc-le-zero h)
  rise_after (m ∷ marks) zero d h = omega arith
  rise_after (m ∷ marks) (suc n) d h =
      omega (arith, rise_after marks n d (le_of_suc-le-suc h), fall_past m marks n, rise_past m marks n)

  pub fall_after : (marks : List Mark) (n : ℕ) (d : Mark) → n < length marks
      → edge s marks (2 * suc n) ≡ edge s marks (2 * n + 1) + spacer s (get_or marks n d).silent
  unfolding edge total
  fall_after [] n d h = absurd (not-suc-le-zero h)
  fall_after (m ∷ marks) zero d h = omega arith
  fall_after (m ∷ marks) (suc n) d h =
      omega (arith, fall_after marks n d (le_of_suc-le-suc h), fall_past m marks (suc n), rise_past m marks n)

pub edge_first : (s : Settings) (marks : List Mark) → edge s marks 0 ≡ 0
unfolding edge total
edge_first s [] = refl
edge_first s (m ∷ marks) = refl

-- Times don't go back.
taken_more : (l : List ℕ) (k : ℕ) → total (take k l) ≤ total (take (suc k) l)
unfolding total
taken_more [] zero = omega arith
taken_more [] (suc k) = omega arith
taken_more (x ∷ l) zero = omega arith
taken_more (x ∷ l) (suc k) = omega (arith, taken_more l k)

pub edge_on : (s : Settings) (marks : List Mark) (k : ℕ) → edge s marks k ≤ edge s marks (suc k)
unfolding edge
edge_on s marks k = taken_more (legs s marks) k

-- A sum over the first pulses, and one more.
total_more : (f : Mark → ℕ) (marks : List Mark) (n : ℕ) (d : Mark) → n < length marks
    → total (map f (take (suc n) marks)) ≡ total (map f (take n marks)) + f (get_or marks n d)
unfolding total
total_more f [] n d h = absurd (not-suc-le-zero h)
total_more f (m ∷ marks) zero d h = omega arith
total_more f (m ∷ marks) (suc n) d h = omega (arith, total_more f marks n d (le_of_suc-le-suc h))

pub ones_more : (marks : List Mark) (n : ℕ) (d : Mark) → n < length marks
    → ones (take (suc n) marks) ≡ ones (take n marks) + when (get_or marks n d).bit 1 0
unfolding ones
ones_more = total_more (λ (m : Mark). when m.bit 1 0)

pub zeros_more : (marks : List Mark) (n : ℕ) (d : Mark) → n < length marks
    → zeros (take (suc n) marks) ≡ zeros (take n marks) + when (get_or marks n d).bit 0 1
unfolding zeros
zeros_more = total_more (λ (m : Mark). when m.bit 0 1)
