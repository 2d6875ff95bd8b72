-- Reading a number group by group: what stands before a place, and the number of what follows it, is the number of the whole.
-- Assumes nothing.
use mathlib.Core.Bool.{Bool, true, false}
use mathlib.Core.List.{List, [], ◌∷◌}
use mathlib.Core.Path.{◌≡◌, refl, sym, ap, ◌∙◌}
use Prim.Native.Nat.{ℕ, zero, suc, ◌+◌, ◌-◌, ◌*◌, ◌^◌, ◌≤◌, ◌<◌}
use native.Mathlib.Nat.{pow-suc, add-mul, mul_assoc, mul_comm, mul-le-mul_left}
use native.Mathlib.Numerals.{add-one}
use native.Mathlib.Omega.{arith}
use borrow.Author.Tests.{le-leb, lt-leb, eq-eqb, ne_eqb, eqb-false}
use lib.Dec.{eqb, ltb}
use Rattle.std.specs.Prelude.{Ok, Err}
use lib.ListN.{length, get_or, drop, length-drop, drop_of_length-le}
use lib.Seq.{drop-cons}
use Rattle.terms.specs.Choice.{when}
use Rattle.terms.proofs.Tests.{when_true, when_false}
use Rattle.numbers.specs.Numbers.{Reading, found, bad, above, longer, number, below, number_in, placed, limited, number_at}
use Rattle.numbers.specs.declared.NoNumber.TheVariants.{End, Bad}
use Rattle.numbers.proofs.Back.{number_one, number_more}

-- Groups that are worth `value`, below what is read after them.
abbrev pub grown : ℕ → ℕ → Reading → Reading
grown value scale (found v rest) = when (eqb v 0) bad (found (value + v * scale) rest)
grown value scale bad = bad

longer_grown : (low : ℕ) (x : Reading) → longer low x ≡ grown low 128 x
unfolding above
longer_grown low (found v rest) = refl
longer_grown low bad = refl

worth : (value scale low v : ℕ) → value + (low + v * 128) * scale ≡ value + low * scale + v * (scale * 128)
worth value scale low v =
    let a : (low + v * 128) * scale ≡ low * scale + v * 128 * scale = add-mul low (v * 128) scale in
    let b : v * 128 * scale ≡ v * (128 * scale) = mul_assoc v 128 scale in
    let c : v * (128 * scale) ≡ v * (scale * 128) = ap (λ (x : ℕ). v * x) (mul_comm 128 scale) in
    omega (arith, a, b, c)

grown_by : (value scale low v : ℕ) (rest : List ℕ) (t : Bool) → eqb v 0 ≡ t
    → grown value scale (when t bad (found (low + v * 128) rest)) ≡ when t bad (found (value + low * scale + v * (scale * 128)) rest)
unfolding when
grown_by value scale low v rest true e = refl
grown_by value scale low v rest false e =
    let some : v ≡ 0 → ⊥ = eqb-false v 0 e in
    let more : low + v * 128 ≡ 0 → ⊥ = λ z. some (omega (arith, z)) in
    when_false _ _ (ne_eqb (low + v * 128) 0 more) ∙ ap (λ (n : ℕ). found n rest) (worth value scale low v)

grown_longer : (value scale low : ℕ) (x : Reading) → grown value scale (longer low x) ≡ grown (value + low * scale) (scale * 128) x
unfolding above
grown_longer value scale low (found v rest) = grown_by value scale low v rest (eqb v 0) refl
grown_longer value scale low bad = refl

number_none : (g : ℕ) → number g [] ≡ bad
unfolding number
number_none zero = refl
number_none (suc g) = refl

module _ (g : ℕ) (trace : List ℕ) (at : ℕ) where
  -- What a loop that reads group after group has at each turn.
  pub record Going (value scale next left : ℕ) : Type 0 where
    pub inside : next ≤ length trace
    pub fits : value < scale
    pub whole : scale * 128 ^ left ≡ 128 ^ g
    pub reads : grown value scale (number left (drop next trace)) ≡ number g (drop at trace)

  pub going_first : (first left : ℕ) → at < length trace → first ≡ get_or trace at 0 → 128 ≤ first → first < 256 → left + 1 ≡ g
      → Going (first - 128) 128 (at + 1) left
  going_first first left h e high byte l = record {
    inside = omega arith;
    fits = omega arith;
    whole = mul_comm 128 (128 ^ left) ∙ sym (pow-suc 128 left) ∙ ap (λ (n : ℕ). 128 ^ n) (sym (add-one left) ∙ l);
    reads =
        let split : drop at trace ≡ first ∷ drop (at + 1) trace = rw (add-one, e) (drop-cons trace at 0 h) in
        sym (longer_grown (first - 128) (number left (drop (at + 1) trace)))
        ∙ sym (number_more left first (drop (at + 1) trace) high)
        ∙ ap (λ (b : List ℕ). number (suc left) b) (sym split)
        ∙ ap (λ (n : ℕ). number n (drop at trace)) (sym (add-one left) ∙ l);
  }

  module _ (value scale next left : ℕ) (k : Going value scale next left) where
    pub going_over : left ≤ 0 → number g (drop at trace) ≡ bad
    unfolding number
    going_over h = let z : left ≡ 0 = omega arith in sym (rw z at k.reads)

    pub going_cut : length trace ≤ next → number g (drop at trace) ≡ bad
    going_cut h = sym k.reads ∙ ap (grown value scale) (ap (number left) (drop_of_length-le trace h) ∙ number_none left)

    -- A group's part, and all that is read before it, is below the next group's scale.
    part_fits : (group : ℕ) → group < 128 → group * scale + value < scale * 128
    part_fits group h =
        let a : group * scale ≡ scale * group = mul_comm group scale in
        let less : group ≤ 127 = omega arith in
        let b : scale * group ≤ scale * 127 = mul-le-mul_left scale less in
        omega (arith, a, b, k.fits)

    module _ (some : 0 < left) where
      module _ (group : ℕ) (h : next < length trace) (e : group ≡ get_or trace next 0) where
        split : drop next trace ≡ group ∷ drop (next + 1) trace
        split = rw (add-one, e) (drop-cons trace next 0 h)

        read : number left (drop next trace) ≡ number (suc (left - 1)) (group ∷ drop (next + 1) trace)
        read =
            let one : left ≡ left - 1 + 1 = omega arith in
            ap (number left) split ∙ ap (λ (n : ℕ). number n (group ∷ drop (next + 1) trace)) (one ∙ add-one (left - 1))

        pub going_zero : group ≡ 0 → number g (drop at trace) ≡ bad
        going_zero z =
            let low : group < 128 = omega arith in
            sym k.reads ∙ ap (grown value scale) (read ∙ number_one (left - 1) group (drop (next + 1) trace) low)
            ∙ when_true _ _ (eq-eqb group 0 z)

        pub going_last : (group ≡ 0 → ⊥) → group < 128 → number g (drop at trace) ≡ found (value + group * scale) (drop (next + 1) trace)
        going_last z low =
            sym k.reads ∙ ap (grown value scale) (read ∙ number_one (left - 1) group (drop (next + 1) trace) low)
            ∙ when_false _ _ (ne_eqb group 0 z)

        pub going_more : 128 ≤ group → group < 256 → Going (value + (group - 128) * scale) (scale * 128) (next + 1) (left - 1)
        going_more high byte = record {
          inside = omega arith;
          fits = let p = part_fits (group - 128) (omega arith) in omega (arith, p);
          whole =
              let one : suc (left - 1) ≡ left = sym (add-one (left - 1)) ∙ omega arith in
              mul_assoc scale 128 (128 ^ (left - 1))
              ∙ ap (λ (n : ℕ). scale * n) (mul_comm 128 (128 ^ (left - 1)) ∙ sym (pow-suc 128 (left - 1)) ∙ ap (λ (n : ℕ). 128 ^ n) one)
              ∙ k.whole;
          reads =
              sym (grown_longer value scale (group - 128) (number (left - 1) (drop (next + 1) trace)))
              ∙ ap (grown value scale) (sym (number_more (left - 1) group (drop (next + 1) trace) high) ∙ sym read)
              ∙ k.reads;
        }

-- What is answered.
placed_below : (v size : ℕ) (rest : List ℕ) (t : Bool) → placed size (when t (found v rest) bad)
    ≡ when t (Ok (record { value = v; next = record { 0 = size - length rest } })) (Err Bad)
unfolding when
placed_below v size rest true = refl
placed_below v size rest false = refl

module _ (g m : ℕ) (trace : List ℕ) (at : ℕ) where
  pub at_end : length trace ≤ at → Err End ≡ number_at g m trace at
  unfolding number_at
  at_end h = sym (when_true _ _ (le-leb (length trace) at h))

  module _ (h : at < length trace) where
    pub at_bad : number g (drop at trace) ≡ bad → Err Bad ≡ number_at g m trace at
    unfolding number_at number_in
    at_bad e = sym (when_false _ _ (lt-leb (length trace) at h) ∙ ap (λ (x : Reading). placed (length trace) (below m x)) e)

    pub at_found : (v next : ℕ) → next ≤ length trace → number g (drop at trace) ≡ found v (drop next trace)
        → limited m v next ≡ number_at g m trace at
    unfolding number_at number_in
    at_found v next k e =
        let past : length trace - length (drop next trace) ≡ next = omega (arith, length-drop next trace) in
        sym (when_false _ _ (lt-leb (length trace) at h)
        ∙ ap (λ (x : Reading). placed (length trace) (below m x)) e
        ∙ placed_below v (length trace) (drop next trace) (ltb v m)
        ∙ ap (λ (n : ℕ). limited m v n) past)
