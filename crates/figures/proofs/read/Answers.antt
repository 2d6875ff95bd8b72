-- `figures::read`: what is left of the text, after the number so far, spells what the whole text spells.
-- Assumes nothing.
use mathlib.Core.List.{List}
use mathlib.Core.Path.{◌≡◌, sym, ap, ◌∙◌}
use Prim.Native.Nat.{ℕ, ◌+◌, ◌<◌}
use native.Mathlib.Omega.{arith}
use lib.ListN.{length, drop, get_or}
use Rattle.std.specs.Prelude.{Option, None, Some}
use Rattle.terms.proofs.Tests.{when_true, when_false}
use Rattle.figures.specs.Figures.{figure_of, number_from, with_digit}
use Rattle.figures.proofs.Numbers.{onward, at_digit, at_end}
use Rattle.figures.proofs.read.Goals as goal

pub returns-then-is_empty : goal.returns-then-is_empty
unfolding figure_of
returns-then-is_empty c = sym (when_true _ _ (sym c.is_empty.ensures ∙ c.if-is_empty.true))

-- The text spells what the number so far, with the digit at the place, spells before the rest.
spelled : (text : List ℕ) (value at : ℕ) (more f : Option ℕ)
    → at < length text
    → number_from value (drop at text) ≡ number_from 0 text
    → more ≡ with_digit value (get_or text at 0)
    → more ≡ f
    → onward f (drop (at + 1) text) ≡ number_from 0 text
spelled text value at more f within here grown e =
    ap (λ (f : Option ℕ). onward f (drop (at + 1) text)) (sym e ∙ grown) ∙ sym (at_digit value at text within) ∙ here

pub returns-in_err-value : goal.returns-in_err-value
unfolding figure_of
returns-in_err-value c =
    c.from_residual.ensures
    ∙ spelled c.args.text.now _ _ _ None c.loop-byte-test.true c.loop-byte.invariant.0 c.with_digit.ensures c.in_err-value.was
    ∙ sym (when_false _ _ (sym c.is_empty.ensures ∙ c.if-is_empty.false))

pub loop-byte-preserved : goal.loop-byte-preserved
loop-byte-preserved c = (
  spelled c.args.text.now _ _ _ (Some c.in_ok-value.value) c.loop-byte-test.true c.loop-byte.invariant.0 c.with_digit.ensures c.in_ok-value.was,
  omega arith,
)

pub returns : goal.returns
unfolding figure_of
returns c =
    let text = c.args.text.now in
    let value = c.loop-byte.value in
    let all : length text ≡ c.loop-byte.byte-index = omega arith in
    sym (at_end value text c.loop-byte.invariant.1)
    ∙ ap (λ (n : ℕ). number_from value (drop n text)) all
    ∙ c.loop-byte.invariant.0
    ∙ sym (when_false _ _ (sym c.is_empty.ensures ∙ c.if-is_empty.false))
