-- Where the phases of some lists open, how many calls go before them, and where the last pulse ends.
-- Assumes nothing.
use mathlib.Core.Bool.{Bool, true, false}
use mathlib.Core.List.{List, [], ◌∷◌, ◌++◌, append_assoc, map}
use mathlib.Core.Path.{◌≡◌, refl, sym, ap, ◌∙◌}
use Prim.Native.Nat.{ℕ, zero, suc, ◌+◌, ◌-◌, ◌*◌, ◌/◌, ◌≤◌, ◌<◌}
use native.Mathlib.Omega.{arith}
use lib.Dec.{ltb}
use lib.ListN.{length, get_or, take, length-append, length-take}
use borrow.Author.Tests.{ltb-true, ltb-false}
use Rattle.terms.specs.Choice.{when}
use Rattle.terms.proofs.Tests.{when_true, when_false}
use Rattle.lent.specs.Bytes.{total}
use Rattle.settings.specs.declared.Settings.{Settings}
use Rattle.host.specs.Time.{spacer}
use Rattle.sessions.specs.Legs.{legs, edge}
use Rattle.sessions.specs.Phases.{calls_before}
use Rattle.sessions.specs.Sessions.{ones, zeros}
use Rattle.sessions.specs.Spelled.{Mark}
use Rattle.counts.specs.declared.Counts.{Counts}
use Rattle.times.specs.Times.{lasting, old_lasting}
use Rattle.exact.specs.Exact.{pulses_of, up_to}
use Rattle.exact.proofs.Counting.{pulses_below, Counted, nothing, also}
use Rattle.exact.proofs.Lasts.{cut, count, marks_last, old_is, cut_most, cut_short}
use Rattle.exact.proofs.Lists.{plain}
use Rattle.exact.proofs.Planned.{flat}

-- As many pulses as ones and zeros.
one_pulse : (b : Bool) → when b 1 0 + when b 0 1 ≡ 1
unfolding when
one_pulse true = refl
one_pulse false = refl

long : (marks : List Mark) → length marks ≡ pulses_of (count marks)
unfolding count
long [] = refl
long (m ∷ marks) = omega (arith, long marks, one_pulse m.bit)

-- A figure of some pulses that adds up, over lists one after the other.
module _ (f : List Mark → ℕ) (g : Counts → ℕ) (none : f [] ≡ 0) (joins : (p r : List Mark) → f (p ++ r) ≡ f p + f r)
    (is : (p : List Mark) → f p ≡ g (count p)) where
  pub all_add : (ps : List (List Mark)) (cs : List Counts) (k : ℕ) → Counted k ps cs → f (flat ps) ≡ total (map g cs)
  unfolding flat total
  all_add _ _ k (nothing _) = none
  all_add _ _ k (also _ p c ps cs i all) = omega (arith, joins p (flat ps), is p, ap g i.counts, all_add ps cs (suc k) all)

pub long_flat : (ps : List (List Mark)) (cs : List Counts) (k : ℕ) → Counted k ps cs → length (flat ps) ≡ total (map pulses_of cs)
long_flat = all_add length pulses_of refl length-append long

-- Ones and zeros.
ones_join : (p r : List Mark) → ones (p ++ r) ≡ ones p + ones r
unfolding ones total
ones_join [] r = omega arith
ones_join (m ∷ p) r = omega (arith, ones_join p r)

ones_are : (p : List Mark) → ones p ≡ (count p).ones
unfolding ones total count
ones_are [] = refl
ones_are (m ∷ p) = omega (arith, ones_are p)

zeros_join : (p r : List Mark) → zeros (p ++ r) ≡ zeros p + zeros r
unfolding zeros total
zeros_join [] r = omega arith
zeros_join (m ∷ p) r = omega (arith, zeros_join p r)

zeros_are : (p : List Mark) → zeros p ≡ (count p).zeros
unfolding zeros total count
zeros_are [] = refl
zeros_are (m ∷ p) = omega (arith, zeros_are p)

pub ones_flat : (ps : List (List Mark)) (cs : List Counts) (k : ℕ) → Counted k ps cs → ones (flat ps) ≡ total (map (λ (c : Counts). c.ones) cs)
unfolding ones total
ones_flat = all_add ones (λ (c : Counts). c.ones) refl ones_join ones_are

pub zeros_flat : (ps : List (List Mark)) (cs : List Counts) (k : ℕ) → Counted k ps cs → zeros (flat ps) ≡ total (map (λ (c : Counts). c.zeros) cs)
unfolding zeros total
zeros_flat = all_add zeros (λ (c : Counts). c.zeros) refl zeros_join zeros_are

-- A sum up to phase q, phase by phase.
up_to_more : (f : Counts → ℕ) (c : Counts) (cs : List Counts) (q : ℕ) → up_to f (c ∷ cs) (suc q) ≡ f c + up_to f cs q
unfolding up_to total
up_to_more f c cs q = refl

up_to_nothing : (f : Counts → ℕ) (q : ℕ) → up_to f [] q ≡ 0
unfolding up_to total
up_to_nothing f zero = refl
up_to_nothing f (suc q) = refl

up_to_first : (f : Counts → ℕ) (cs : List Counts) → up_to f cs 0 ≡ 0
unfolding up_to total
up_to_first f [] = refl
up_to_first f (c ∷ cs) = refl

module _ (s : Settings) where
  -- Edges past a list of pulses.
  edge_past : (p r : List Mark) (j : ℕ) → edge s (p ++ r) (2 * length p + j) ≡ total (legs s p) + edge s r j
  unfolding edge total
  edge_past [] r j = let is : 2 * 0 + j ≡ j = omega arith in omega (arith, ap (λ (x : ℕ). total (take x (legs s r))) is)
  edge_past (m ∷ p) r j =
      let is : 2 * suc (length p) + j ≡ suc (suc (2 * length p + j)) = omega arith in
      ap (λ (x : ℕ). total (take x (legs s (m ∷ (p ++ r))))) is ∙ omega (arith, edge_past p r j)

  edge_nothing : (k : ℕ) → edge s [] k ≡ 0
  unfolding edge total
  edge_nothing zero = refl
  edge_nothing (suc k) = refl

  edge_first : (marks : List Mark) → edge s marks 0 ≡ 0
  unfolding edge total
  edge_first [] = refl
  edge_first (m ∷ marks) = refl

  pub opens_at : (ps : List (List Mark)) (cs : List Counts) (k : ℕ) → Counted k ps cs → (q : ℕ)
      → edge s (flat ps) (2 * up_to pulses_of cs q) ≡ 1000 * up_to (lasting s) cs q
  unfolding flat
  opens_at ps cs k all zero =
      ap (λ (n : ℕ). edge s (flat ps) (2 * n)) (up_to_first pulses_of cs) ∙ edge_first (flat ps) ∙ ap (λ (n : ℕ). 1000 * n) (sym (up_to_first (lasting s) cs))
  opens_at _ _ k (nothing _) (suc q) = edge_nothing _ ∙ ap (λ (n : ℕ). 1000 * n) (sym (up_to_nothing (lasting s) (suc q)))
  opens_at _ _ k (also _ p c ps cs i all) (suc q) =
      let size : pulses_of c ≡ length p = ap pulses_of (sym i.counts) ∙ sym (long p) in
      let lasts : total (legs s p) ≡ 1000 * lasting s c = marks_last s p ∙ ap (λ (x : Counts). 1000 * lasting s x) i.counts in
      let twice : 2 * up_to pulses_of (c ∷ cs) (suc q) ≡ 2 * length p + 2 * up_to pulses_of cs q = omega (arith, up_to_more pulses_of c cs q, size) in
      ap (edge s (p ++ flat ps)) twice ∙ edge_past p (flat ps) (2 * up_to pulses_of cs q)
      ∙ omega (arith, lasts, opens_at ps cs (suc k) all q, up_to_more (lasting s) c cs q)

  pub edge_all : (marks : List Mark) → edge s marks (2 * length marks) ≡ total (legs s marks)
  unfolding edge total
  edge_all [] = refl
  edge_all (m ∷ marks) =
      let is : 2 * suc (length marks) ≡ suc (suc (2 * length marks)) = omega arith in
      ap (λ (x : ℕ). total (take x (legs s (m ∷ marks)))) is ∙ omega (arith, edge_all marks)

  legs_join : (p r : List Mark) → total (legs s (p ++ r)) ≡ total (legs s p) + total (legs s r)
  unfolding total
  legs_join [] r = omega arith
  legs_join (m ∷ p) r = omega (arith, legs_join p r)

  pub lasts_flat : (ps : List (List Mark)) (cs : List Counts) (k : ℕ) → Counted k ps cs → total (legs s (flat ps)) ≡ 1000 * total (map (lasting s) cs)
  unfolding flat total
  lasts_flat _ _ k (nothing _) = refl
  lasts_flat _ _ k (also _ p c ps cs i all) =
      let lasts : total (legs s p) ≡ 1000 * lasting s c = marks_last s p ∙ ap (λ (x : Counts). 1000 * lasting s x) i.counts in
      omega (arith, legs_join p (flat ps), lasts, lasts_flat ps cs (suc k) all)

  cut_join : (p r : List Mark) → cut (legs s (p ++ r)) ≡ cut (legs s p) + cut (legs s r)
  unfolding total
  cut_join [] r = omega arith
  cut_join (m ∷ p) r = omega (arith, cut_join p r)

  pub cut_flat : (ps : List (List Mark)) (cs : List Counts) (k : ℕ) → Counted k ps cs → cut (legs s (flat ps)) ≡ total (map (old_lasting s) cs)
  unfolding total
  cut_flat = all_add (λ p. cut (legs s p)) (old_lasting s) refl cut_join (old_is s)

-- The last pulse ends no silent pair: its spacer is h.
pub record Closes (marks : List Mark) : Type 0 where
  pub init : List Mark
  pub k : ℕ
  pub bit : Bool
  pub is : marks ≡ init ++ (plain k bit ∷ [])

pub closes_after : (p r : List Mark) → Closes r → Closes (p ++ r)
closes_after p r c = record {
  init = p ++ c.init;
  k = c.k;
  bit = c.bit;
  is = ap (λ (l : List Mark). p ++ l) c.is ∙ sym (append_assoc p c.init (plain c.k c.bit ∷ []));
}

module _ (s : Settings) (marks : List Mark) (c : Closes marks) where
  abbrev n : ℕ
  n = length c.init

  abbrev closing : List Mark
  closing = plain c.k c.bit ∷ []

  counted_all : length marks ≡ n + 1
  counted_all = ap length c.is ∙ length-append c.init closing

  pub some_pulse : 0 < length marks
  some_pulse = omega (arith, counted_all)

  last_pulse : edge s closing 2 ≡ edge s closing 1 + 1000 * s.h
  unfolding edge total spacer when
  last_pulse = omega arith

  pub ends_short : edge s marks (2 * length marks - 1) + 1000 * s.h ≡ total (legs s marks)
  ends_short =
      let odd : 2 * length marks - 1 ≡ 2 * n + 1 = omega (arith, counted_all) in
      let even : 2 * length marks ≡ 2 * n + 2 = omega (arith, counted_all) in
      let at : (j : ℕ) → edge s marks (2 * n + j) ≡ total (legs s c.init) + edge s closing j =
      λ j. ap (λ (l : List Mark). edge s l (2 * n + j)) c.is ∙ edge_past s c.init closing j in
      omega (arith, ap (edge s marks) odd, ap (edge s marks) even, at 1, at 2, last_pulse, edge_all s marks)

  cut_past : (p r : List Mark) (j : ℕ) → cut (take (2 * length p + j) (legs s (p ++ r))) ≡ cut (legs s p) + cut (take j (legs s r))
  unfolding total
  cut_past [] r j = let is : 2 * 0 + j ≡ j = omega arith in omega (arith, ap (λ (x : ℕ). cut (take x (legs s r))) is)
  cut_past (m ∷ p) r j =
      let is : 2 * suc (length p) + j ≡ suc (suc (2 * length p + j)) = omega arith in
      ap (λ (x : ℕ). cut (take x (legs s (m ∷ (p ++ r))))) is ∙ omega (arith, cut_past p r j)

  last_cut : cut (take 1 (legs s closing)) + s.h / 1000 ≡ cut (legs s closing)
  unfolding total spacer when
  last_cut = omega arith

  pub cut_ends : cut (take (2 * length marks - 1) (legs s marks)) + s.h / 1000 ≡ cut (legs s marks)
  cut_ends =
      let odd : 2 * length marks - 1 ≡ 2 * n + 1 = omega (arith, counted_all) in
      let here : cut (take (2 * n + 1) (legs s marks)) ≡ cut (legs s c.init) + cut (take 1 (legs s closing)) =
      ap (λ (l : List Mark). cut (take (2 * n + 1) (legs s l))) c.is ∙ cut_past c.init closing 1 in
      let all : cut (legs s marks) ≡ cut (legs s c.init) + cut (legs s closing) =
      ap (λ (l : List Mark). cut (legs s l)) c.is ∙ cut_join s c.init closing in
      omega (arith, ap (λ (x : ℕ). cut (take x (legs s marks))) odd, here, all, last_cut)

  two_legs : (marks : List Mark) → length (legs s marks) ≡ 2 * length marks
  two_legs [] = refl
  two_legs (m ∷ marks) = omega (arith, two_legs marks)

  -- The old bench's figure of all legs but the last spacer.
  abbrev old : ℕ
  old = cut (take (2 * length marks - 1) (legs s marks))

  pub old_most : old * 1000000 ≤ edge s marks (2 * length marks - 1)
  unfolding edge
  old_most = cut_most (take (2 * length marks - 1) (legs s marks))

  pub old_least : edge s marks (2 * length marks - 1) < (old + (2 * length marks - 1)) * 1000000
  unfolding edge
  old_least =
      let k = 2 * length marks - 1 in
      let fits : length (take k (legs s marks)) ≡ k = simp (length-take) (omega (arith, two_legs marks, some_pulse)) in
      let less = cut_short (take k (legs s marks)) (omega (arith, fits, some_pulse)) in
      omega (arith, less, fits)

-- The calls before each phase.
calls_shift : (f : ℕ → ℕ) (q n : ℕ) → calls_before f (suc n) q ≡ when (ltb (f 0) q) 1 0 + calls_before (λ k. f (suc k)) n q
unfolding calls_before
calls_shift f q zero = omega arith
calls_shift f q (suc n) = omega (arith, calls_shift f q n)

pub calls_are : (d : Mark) (q : ℕ) (marks : List Mark) → calls_before (λ k. (get_or marks k d).phase) (length marks) q ≡ pulses_below q marks
unfolding pulses_below calls_before
calls_are d q [] = refl
calls_are d q (m ∷ marks) = calls_shift (λ k. (get_or (m ∷ marks) k d).phase) q (length marks) ∙ omega (arith, calls_are d q marks)

below_join : (q : ℕ) (a b : List Mark) → pulses_below q (a ++ b) ≡ pulses_below q a + pulses_below q b
unfolding pulses_below
below_join q [] b = omega arith
below_join q (m ∷ a) b = omega (arith, below_join q a b)

pub phase_opens : (ps : List (List Mark)) (cs : List Counts) (k : ℕ) → Counted k ps cs → (q : ℕ) → pulses_below q (flat ps) ≡ up_to pulses_of cs (q - k)
unfolding flat pulses_below
phase_opens _ _ k (nothing _) q = sym (up_to_nothing pulses_of (q - k))
phase_opens _ _ k (also _ p c ps cs i all) q =
    let size : pulses_of c ≡ length p = ap pulses_of (sym i.counts) ∙ sym (long p) in
    below_join q p (flat ps) ∙ decide (ltb k q) refl size (i.within q) (phase_opens ps cs (suc k) all q) where
      decide : (b : Bool) → ltb k q ≡ b → pulses_of c ≡ length p → pulses_below q p ≡ when (ltb k q) (length p) 0
          → pulses_below q (flat ps) ≡ up_to pulses_of cs (q - suc k) → pulses_below q p + pulses_below q (flat ps) ≡ up_to pulses_of (c ∷ cs) (q - k)
      decide true x size here rest =
          let h = ltb-true k q x in
          let is : q - k ≡ suc (q - suc k) = omega (arith, h) in
          omega (arith, size, here, rest, when_true (length p) 0 x, ap (up_to pulses_of (c ∷ cs)) is, up_to_more pulses_of c cs (q - suc k))
      decide false x size here rest =
          let h = ltb-false k q x in
          let none : q - k ≡ 0 = omega (arith, h) in
          let none' : q - suc k ≡ 0 = omega (arith, h) in
          omega (
            arith,
            here,
            rest,
            when_false (length p) 0 x,
            ap (up_to pulses_of (c ∷ cs)) none,
            ap (up_to pulses_of cs) none',
            up_to_first pulses_of (c ∷ cs),
            up_to_first pulses_of cs,
          )
