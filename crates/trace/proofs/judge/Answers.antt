-- `trace::judge` looks at the mark, then at the numbers.
-- Assumes nothing.
use mathlib.Core.Path.{◌≡◌, sym, ◌∙◌}
use lib.ListN.{length, get_or, get_or-eq_default}
use native.Mathlib.Omega.{arith}
use Prim.Native.Nat.{◌≤◌}
use Rattle.std.proofs.lemmas.Grind.{common_steps}
use Rattle.terms.proofs.Tests.{when_true}
use Rattle.terms.proofs.Refusals.{differs, agrees}
use Rattle.trace.specs.Traces.{judgement}
use Rattle.trace.proofs.Judging.{marked}
use Rattle.trace.proofs.judge.Goals as goal
use Rattle.trace.proofs.judge.Goals.{then-is_empty-via-then-is_empty, then-is_empty-via-else-is_empty+then-trace-ne1}

pub returns-then-is_empty : goal.returns-then-is_empty
unfolding judgement
returns-then-is_empty c =
    let bytes = c.args.trace.now in
    elim c.then-is_empty.branch [
      | then-is_empty-via-then-is_empty w ↦
          let none : length bytes ≤ 0 = grind (arith, common_steps, c.is_empty.ensures, w.if-is_empty.true) in
          let zero : get_or bytes 0 0 ≡ 0 = get_or-eq_default bytes 0 none in
          sym (when_true _ _ (differs (get_or bytes 0 0) 1 (λ e. omega (arith, zero, e))))
      | then-is_empty-via-else-is_empty+then-trace-ne1 w ↦ sym (when_true _ _ (differs _ _ w.if-trace-ne1.true))
    ]

pub returns : goal.returns
returns c = c.pairs.ensures ∙ sym (marked c.args.trace.now (agrees _ _ c.if-trace-ne1.false))
