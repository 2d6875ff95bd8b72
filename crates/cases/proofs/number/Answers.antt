-- `cases::number`: what is left of the line has the number that all of it has.
-- Assumes nothing.
use mathlib.Core.Path.{◌∙◌}
use Rattle.terms.proofs.Refusals.{answered}
use Rattle.cases.proofs.Places.{number_past, number_here, number_later}
use Rattle.cases.proofs.number.Goals as goal

pub returns-then-starts_with_digit : goal.returns-then-starts_with_digit
returns-then-starts_with_digit c =
    c.value.ensures
    ∙ number_here _ _ c.loop-at-test.true _ _ _ _ c.behind-behind.ensures (answered _ _ _ c.starts_with_digit.ensures c.if-starts_with_digit.true)
    ∙ c.loop-at.invariant

pub loop-at-preserved : goal.loop-at-preserved
loop-at-preserved c =
    number_later _ _ c.loop-at-test.true _ _ _ _ c.behind-behind.ensures (answered _ _ _ c.starts_with_digit.ensures c.if-starts_with_digit.false)
    ∙ c.loop-at.invariant

pub returns : goal.returns
returns c = number_past _ _ c.loop-at-test.false _ _ _ ∙ c.loop-at.invariant
