-- Each public call has one answer. `Post` is the promise that is generated from the call's contract.
-- Assumes nothing.
use mathlib.Core.Path.{sym, ◌∙◌}
use Rattle.terms.proofs.Answers.{OneAnswer}
use Rattle.countdown.proofs.counting.Kinds as counting_kinds
use Rattle.countdown.proofs.counting.Reads as counting
use Rattle.countdown.proofs.drawn.Kinds as drawn_kinds
use Rattle.countdown.proofs.drawn.Reads as drawn
use Rattle.countdown.proofs.is_outside.Kinds as is_outside_kinds
use Rattle.countdown.proofs.is_outside.Reads as is_outside

pub drawn_one : OneAnswer drawn_kinds.ps drawn_kinds.r drawn.Post
drawn_one κs a r₁ r₂ e₁ e₂ p q = λ i. record { 0 = (p ∙ sym q) i }

pub counting_one : OneAnswer counting_kinds.ps counting_kinds.r counting.Post
counting_one κs a r₁ r₂ e₁ e₂ p q = λ i. record { 0 = (p ∙ sym q) i }

pub is_outside_one : OneAnswer is_outside_kinds.ps is_outside_kinds.r is_outside.Post
is_outside_one κs a r₁ r₂ e₁ e₂ p q = p ∙ sym q
