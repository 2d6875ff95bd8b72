-- Each public call has one answer. `Post` is the promise that is generated from the call's contract.
-- Assumes nothing.
use mathlib.Core.Path.{sym, ◌∙◌}
use Rattle.terms.proofs.Answers.{OneAnswer}
use Rattle.listener.proofs.Heard.settled.Kinds as settled_kinds
use Rattle.listener.proofs.Heard.settled.Reads as settled
use Rattle.listener.proofs.Listener.hears.Kinds as hears_kinds
use Rattle.listener.proofs.Listener.hears.Reads as hears
use Rattle.listener.proofs.Listener.is_outside.Kinds as is_outside_kinds
use Rattle.listener.proofs.Listener.is_outside.Reads as is_outside

pub is_outside_one : OneAnswer is_outside_kinds.ps is_outside_kinds.r is_outside.Post
is_outside_one κs a r₁ r₂ e₁ e₂ p q = p ∙ sym q

pub hears_one : OneAnswer hears_kinds.ps hears_kinds.r hears.Post
hears_one κs a r₁ r₂ e₁ e₂ p q = p ∙ sym q

pub settled_one : OneAnswer settled_kinds.ps settled_kinds.r settled.Post
settled_one κs a r₁ r₂ e₁ e₂ p q = p ∙ sym q
