-- Each public call has one answer. `Post` is the promise that is generated from the call's contract.
-- Assumes nothing.
use mathlib.Core.Path.{sym, ◌∙◌}
use Rattle.terms.proofs.Answers.{OneAnswer}
use Rattle.bits.proofs.bit.Kinds as bit_kinds
use Rattle.bits.proofs.bit.Reads as bit
use Rattle.bits.proofs.pair_bit.Kinds as pair_bit_kinds
use Rattle.bits.proofs.pair_bit.Reads as pair_bit_lem
use Rattle.bits.proofs.sees.Kinds as sees_kinds
use Rattle.bits.proofs.sees.Reads as sees

pub bit_one : OneAnswer bit_kinds.ps bit_kinds.r bit.Post
bit_one κs a r₁ r₂ e₁ e₂ p q = p ∙ sym q

pub pair_bit_one : OneAnswer pair_bit_kinds.ps pair_bit_kinds.r pair_bit_lem.Post
pair_bit_one κs a r₁ r₂ e₁ e₂ p q = p ∙ sym q

pub sees_one : OneAnswer sees_kinds.ps sees_kinds.r sees.Post
sees_one κs a r₁ r₂ e₁ e₂ p q = p ∙ sym q
