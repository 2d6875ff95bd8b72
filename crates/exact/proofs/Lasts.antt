-- What some pulses count, and how long they last with all their spacers.
-- Assumes nothing.
use mathlib.Core.Bool.{Bool, true, false}
use mathlib.Core.List.{List, [], ◌∷◌, map}
use mathlib.Core.Path.{◌≡◌, ap, ap₂, ◌∙◌}
use Prim.Native.Nat.{ℕ, ◌+◌, ◌*◌, ◌/◌, ◌≤◌, ◌<◌, max}
use native.Mathlib.Omega.{arith}
use native.Mathlib.Nat.{add-mul}
use lib.ListN.{length}
use Rattle.terms.specs.Choice.{when}
use Rattle.lent.specs.Bytes.{total}
use Rattle.settings.specs.declared.Settings.{Settings}
use Rattle.host.specs.Time.{low, spacer}
use Rattle.sessions.specs.Legs.{legs}
use Rattle.sessions.specs.Spelled.{Mark}
use Rattle.counts.specs.Counts.{none}
use Rattle.times.specs.Times.{lasting, old_lasting}
use Rattle.counts.specs.declared.Counts.{Counts}

-- The old bench: each leg cut to whole us, then added.
abbrev pub cut : List ℕ → ℕ
cut ls = total (map (λ (x : ℕ). x / 1000000) ls)

-- One pulse with its spacer, and some.
abbrev pub count_one : Mark → Counts
count_one m = record {
  ones = when m.bit 1 0;
  zeros = when m.bit 0 1;
  spacers = when m.silent 0 1;
  silent = when m.silent 1 0;
}

abbrev pub plus : Counts → Counts → Counts
plus a b = record {
  ones = a.ones + b.ones;
  zeros = a.zeros + b.zeros;
  spacers = a.spacers + b.spacers;
  silent = a.silent + b.silent;
}

unfoldable pub count : List Mark → Counts
count [] = none
count (m ∷ marks) = plus (count_one m) (count marks)

pub same : (a b : Counts) → a.ones ≡ b.ones → a.zeros ≡ b.zeros → a.spacers ≡ b.spacers → a.silent ≡ b.silent → a ≡ b
same a b o z s l =
    ap₂ (λ (x y : ℕ). record { ones = x; zeros = y; spacers = a.spacers; silent = a.silent }) o z
    ∙ ap₂ (λ (x y : ℕ). record { ones = b.ones; zeros = b.zeros; spacers = x; silent = y }) s l

module _ (s : Settings) where
  lasting_plus : (a b : Counts) → lasting s (plus a b) ≡ lasting s a + lasting s b
  unfolding lasting
  lasting_plus a b =
      let t = add-mul (a.ones + 2 * a.zeros) (b.ones + 2 * b.zeros) s.t in
      let h = add-mul a.spacers b.spacers s.h in
      let l = add-mul a.silent b.silent (max s.h 10000000) in
      let two : a.ones + b.ones + 2 * (a.zeros + b.zeros) ≡ (a.ones + 2 * a.zeros) + (b.ones + 2 * b.zeros) = omega arith in
      omega (arith, t, h, l, ap (λ (x : ℕ). x * s.t) two)

  lasting_none : 0 ≡ 1000 * lasting s none
  unfolding lasting
  lasting_none = omega arith

  one_lasts : (bit silent : Bool) → low s bit + spacer s silent
      ≡ 1000 * lasting s (count_one (record { bit = bit; silent = silent; phase = 0 }))
  unfolding lasting low spacer when
  one_lasts true true = omega arith
  one_lasts true false = omega arith
  one_lasts false true = omega arith
  one_lasts false false = omega arith

  pub marks_last : (marks : List Mark) → total (legs s marks) ≡ 1000 * lasting s (count marks)
  unfolding count total
  marks_last [] = lasting_none
  marks_last (m ∷ marks) =
      omega (arith, one_lasts m.bit m.silent, marks_last marks, lasting_plus (count_one m) (count marks))

  old_plus : (a b : Counts) → old_lasting s (plus a b) ≡ old_lasting s a + old_lasting s b
  unfolding old_lasting
  old_plus a b =
      omega (
        arith,
        add-mul a.ones b.ones (s.t / 1000),
        add-mul a.zeros b.zeros (2 * s.t / 1000),
        add-mul a.spacers b.spacers (s.h / 1000),
        add-mul a.silent b.silent (max s.h 10000000 / 1000),
      )

  old_none : 0 ≡ old_lasting s none
  unfolding old_lasting
  old_none = omega arith

  old_one : (bit silent : Bool) → low s bit / 1000000 + spacer s silent / 1000000
      ≡ old_lasting s (count_one (record { bit = bit; silent = silent; phase = 0 }))
  unfolding old_lasting low spacer when
  old_one true true = omega arith
  old_one true false = omega arith
  old_one false true = omega arith
  old_one false false = omega arith

  pub old_is : (marks : List Mark) → cut (legs s marks) ≡ old_lasting s (count marks)
  unfolding count total
  old_is [] = old_none
  old_is (m ∷ marks) = omega (arith, old_one m.bit m.silent, old_is marks, old_plus (count_one m) (count marks))

-- Never above the exact sum, and short of it by less than one us a leg.
pub cut_most : (ls : List ℕ) → cut ls * 1000000 ≤ total ls
unfolding total
cut_most [] = omega arith
cut_most (x ∷ ls) = omega (arith, cut_most ls)

pub cut_short : (ls : List ℕ) → 0 < length ls → total ls < (cut ls + length ls) * 1000000
unfolding total
cut_short [] h = absurd (omega (arith, h))
cut_short (x ∷ []) h = omega arith
cut_short (x ∷ (y ∷ ls)) h = omega (arith, cut_short (y ∷ ls) (omega arith))
