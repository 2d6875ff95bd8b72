-- `cases::value`: the number so far, with the digits from the place that is reached, is the number of all digits.
-- Assumes nothing.
use mathlib.Core.Path.{sym, ◌∙◌}
use Rattle.cases.proofs.Places.{digit_is, value_past, value_here, value_later}
use Rattle.cases.proofs.value.Goals as goal

pub returns-then-not-is_ascii_digit : goal.returns-then-not-is_ascii_digit
returns-then-not-is_ascii_digit c =
    value_here _ _ c.loop-byte-test.true _ (sym (digit_is _) ∙ sym c.is_ascii_digit.ensures.value ∙ c.if-not-is_ascii_digit.true)
    ∙ c.loop-byte.invariant

pub loop-byte-preserved : goal.loop-byte-preserved
loop-byte-preserved c =
    rw c.with_digit-value.ensures (value_later _ _ c.loop-byte-test.true _ (sym (digit_is _) ∙ sym c.is_ascii_digit.ensures.value ∙ c.if-not-is_ascii_digit.false)
    ∙ c.loop-byte.invariant)

pub returns : goal.returns
returns c = value_past _ _ c.loop-byte-test.false _ ∙ c.loop-byte.invariant
