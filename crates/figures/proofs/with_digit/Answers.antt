-- `figures::with_digit` tells the digits by their bytes, and takes what fits.
-- Assumes nothing.
use mathlib.Core.Path.{sym, ◌∙◌}
use Rattle.terms.proofs.Tests.{when_true, when_false}
use Rattle.figures.specs.Figures.{with_digit}
use Rattle.figures.proofs.Numbers.{digit_is, fits_or_none}
use Rattle.figures.proofs.with_digit.Goals as goal

pub returns-then-not-is_ascii_digit : goal.returns-then-not-is_ascii_digit
unfolding with_digit
returns-then-not-is_ascii_digit c =
    sym (when_false _ _ (sym (digit_is c.args.byte) ∙ sym c.is_ascii_digit.ensures.value ∙ c.if-not-is_ascii_digit.true))

pub returns : goal.returns
unfolding with_digit
returns c =
    let digit = sym (digit_is c.args.byte) ∙ sym c.is_ascii_digit.ensures.value ∙ c.if-not-is_ascii_digit.false in
    rw (← c.from.ensures, ← c.from-2.ensures)
    (c.ok.ensures.value ∙ fits_or_none _ _ c.try_from.ensures ∙ sym (when_true _ _ digit))
