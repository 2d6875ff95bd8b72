-- Each public call has one answer, since what it tells can be turned back, and writing leaves one buffer. `Post` is the promise that is
-- generated from the call's contract.
-- Assumes nothing.
use mathlib.Core.List.{List}
use mathlib.Core.Path.{◌≡◌, refl, sym, ap, ◌∙◌}
use Prim.Native.Nat.{ℕ}
use Rattle.std.specs.Prelude.{Result, Ok, Err}
use Rattle.terms.specs.Refusals.{Answer, refused, taken}
use Rattle.terms.specs.declared.Refusal.{Refusal}
use Rattle.terms.proofs.Answers.{OneAnswer, OneOutcome, back, back_told, told_one, one_told}
use Rattle.units.specs.declared.Bytes.{Bytes}
use Rattle.trace.specs.Traces.{Left, told_wrote}
use Rattle.trace.proofs.judge.Kinds as judge_kinds
use Rattle.trace.proofs.judge.Reads as judge
use Rattle.trace.proofs.write.Kinds as write_kinds
use Rattle.trace.proofs.write.Reads as write

pub judge_one : OneAnswer judge_kinds.ps judge_kinds.r judge.Post
judge_one κs a r₁ r₂ e₁ e₂ p q = told_one r₁ r₂ p q

abbrev back_wrote : Answer ℕ → Result Bytes Refusal
back_wrote (refused n) = back (refused n)
back_wrote (taken n) = Ok (record { 0 = n })

pub back_told_wrote : (r : Result Bytes Refusal) → back_wrote (told_wrote r) ≡ r
back_told_wrote (Err r) = back_told (Err r)
back_told_wrote (Ok n) = refl

pub write_one : OneOutcome write_kinds.ps write_kinds.r write.Post {X = Result Bytes Refusal × List ℕ} (λ κs r e. (r, e.1.0.now))
write_one κs a r₁ r₂ e₁ e₂ p q =
    let same = p ∙ sym q in
    λ i. (one_told told_wrote back_wrote back_told_wrote r₁ r₂ (ap (λ (l : Left). l.answer) same) refl i, (same i).buffer)
