-- Each public call has one answer, and leaves one thing in what is lent to it. `Post` is the promise that is generated from the call's
-- contract.
-- Assumes nothing.
use Rattle.std.proofs.Common.{ℕ, Bool, List, sym, ◌∙◌}
use Rattle.terms.proofs.Answers.{OneAnswer, OneOutcome, both_fixed}
use Rattle.ram.proofs.finish.Kinds as finish_kinds
use Rattle.ram.proofs.finish.Reads as finish
use Rattle.ram.proofs.is_launchable.Kinds as is_launchable_kinds
use Rattle.ram.proofs.is_launchable.Reads as is_launchable
use Rattle.ram.proofs.store.Kinds as store_kinds
use Rattle.ram.proofs.store.Reads as store

pub store_one : OneOutcome store_kinds.ps store_kinds.r store.Post (λ κs r e. e.0.now)
store_one κs a r₁ r₂ e₁ e₂ p q = p ∙ sym q

pub finish_one : OneOutcome finish_kinds.ps finish_kinds.r finish.Post {X = Bool × List ℕ} (λ κs r e. (r, e.0.now))
finish_one κs a r₁ r₂ e₁ e₂ p q = both_fixed p q

pub is_launchable_one : OneAnswer is_launchable_kinds.ps is_launchable_kinds.r is_launchable.Post
is_launchable_one κs a r₁ r₂ e₁ e₂ p q = p ∙ sym q
