-- A file judged number after number: what is left of it, and whether a wait is open, give the judgement of the whole.
-- Assumes nothing.
use mathlib.Core.Bool.{Bool, true, false, not}
use mathlib.Core.List.{List, [], ◌∷◌}
use mathlib.Core.Path.{◌≡◌, refl, sym, ap, ◌∙◌}
use Prim.Native.Nat.{ℕ, suc, ◌+◌, ◌%◌, ◌≤◌, ◌<◌}
use native.Mathlib.Omega.{arith}
use lib.Dec.{eqb}
use lib.ListN.{length, drop, drop_of_length-le}
use Rattle.terms.specs.Choice.{when}
use Rattle.terms.specs.Refusals.{refused, taken, ◌given-when◌, first}
use Rattle.terms.proofs.Tests.{when_true, when_false}
use Rattle.numbers.specs.Numbers.{groups, bound, number_at}
use Rattle.numbers.specs.declared.Number.{Number}
use Rattle.numbers.specs.declared.NoNumber.{NoNumber}
use Rattle.numbers.specs.declared.NoNumber.TheVariants.{End, Bad}
use Rattle.std.specs.Prelude.{Result, Ok, Err}
use Rattle.trace.specs.Traces.{Numbers, good, faulty, after, numbers_in, is_faulty, list_of, is_odd, unmarked, numbers_of, judgement, pending, verdict}
use Rattle.trace.proofs.Files.{in_none, in_more, value_read, bad_here, not_end}

abbrev one : Bool → ℕ
one true = 1
one false = 0

pending_odd : (b : Bool) (ns : List ℕ) → pending b ns ≡ not (eqb ((length ns + one b) % 2) 0)
pending_odd true [] = refl
pending_odd false [] = refl
pending_odd true (n ∷ ns) =
    let e : (suc (length ns) + 1) % 2 ≡ (length ns + 0) % 2 = omega arith in
    pending_odd false ns ∙ sym (ap (λ (k : ℕ). not (eqb k 0)) e)
pending_odd false (n ∷ ns) =
    let e : (suc (length ns) + 0) % 2 ≡ (length ns + 1) % 2 = omega arith in
    pending_odd true ns ∙ sym (ap (λ (k : ℕ). not (eqb k 0)) e)

pub odd_pending : (ns : List ℕ) → is_odd ns ≡ pending false ns
odd_pending ns = let e : length ns % 2 ≡ (length ns + 0) % 2 = omega arith in ap (λ (k : ℕ). not (eqb k 0)) e ∙ sym (pending_odd false ns)

verdict_after : (b : Bool) (v : ℕ) (x : Numbers) → verdict b (after v x) ≡ verdict (not b) x
verdict_after b v (good ns) = refl
verdict_after b v faulty = refl

verdict_rows : (x : Numbers) → first (18 given-when is_faulty x ∷ 19 given-when is_odd (list_of x) ∷ []) tt ≡ verdict false x
unfolding when
verdict_rows (good ns) = ap (λ (t : Bool). when t (refused 19) (taken tt)) (odd_pending ns)
verdict_rows faulty = refl

module _ (trace : List ℕ) where
  -- What the loop has at each turn.
  pub record Judging (at : ℕ) (b : Bool) : Type 0 where
    pub inside : at ≤ length trace
    pub verdict_so : verdict b (numbers_in groups bound (drop at trace)) ≡ verdict false (numbers_of trace)

  pub judging_first : 1 ≤ length trace → Judging 1 false
  judging_first h = record { inside = h; verdict_so = refl }

  module _ (at : ℕ) (b : Bool) (k : Judging at b) where
    judging_done : length trace ≤ at → when b (refused 19) (taken tt) ≡ verdict false (numbers_of trace)
    judging_done h =
        sym (ap (verdict b) (ap (numbers_in groups bound) (drop_of_length-le trace h) ∙ in_none groups bound)) ∙ k.verdict_so

    pub judging_waits : length trace ≤ at → b ≡ true → refused 19 ≡ verdict false (numbers_of trace)
    judging_waits h e = sym (when_true _ _ e) ∙ judging_done h

    pub judging_over : length trace ≤ at → b ≡ false → taken tt ≡ verdict false (numbers_of trace)
    judging_over h e = sym (when_false _ _ e) ∙ judging_done h

    module _ (h : at < length trace) (r : Result Number NoNumber) (p : r ≡ number_at groups bound trace at) where
      pub judging_more : (n : Number) → r ≡ Ok n → Judging n.next.0 (not b)
      judging_more n e =
          let read = value_read groups bound trace at h r p n e in
          record {
            inside = read.inside;
            verdict_so =
                sym (verdict_after b n.value (numbers_in groups bound (drop n.next.0 trace)))
                ∙ sym (ap (verdict b) (in_more groups bound (drop at trace) n.value (drop n.next.0 trace) read.is))
                ∙ k.verdict_so;
          }

      pub judging_on : (n : Number) → r ≡ Ok n → (at < n.next.0) × (n.next.0 ≤ length trace)
      judging_on n e = let read = value_read groups bound trace at h r p n e in (read.forward, read.inside)

      pub judging_none : (e : NoNumber) → r ≡ Err e → refused 18 ≡ verdict false (numbers_of trace)
      judging_none Bad e = sym (ap (verdict b) (bad_here groups bound trace at h r p e)) ∙ k.verdict_so
      judging_none End e = absurd (not_end groups bound trace at h r p e)

  pub marked : unmarked trace ≡ false → judgement trace ≡ verdict false (numbers_of trace)
  unfolding judgement
  marked e = when_false _ _ e ∙ verdict_rows (numbers_of trace)
