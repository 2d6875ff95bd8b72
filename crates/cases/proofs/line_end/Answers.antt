-- `cases::line_end`: the line ends, seen from each place that is reached, where it ends from the first.
-- Assumes nothing.
use mathlib.Core.Path.{refl, ◌∙◌}
use Rattle.cases.proofs.Places.{end_here, end_later, end_reached}
use Rattle.cases.proofs.line_end.Goals as goal

pub loop-at-init : goal.loop-at-init
loop-at-init c = refl

pub returns-then-text-at-eq10 : goal.returns-then-text-at-eq10
returns-then-text-at-eq10 c = end_here _ _ c.loop-at-test.true c.if-text-at-eq10.true ∙ c.loop-at.invariant

pub loop-at-preserved : goal.loop-at-preserved
loop-at-preserved c = end_later _ _ c.loop-at-test.true c.if-text-at-eq10.false ∙ c.loop-at.invariant

pub returns : goal.returns
returns c =
    let l = c.loop-at in
    c.max.ensures ∙ end_reached c.args.text.now c.args.from l.at l.auto.at l.auto.at-end c.loop-at-test.false l.invariant
