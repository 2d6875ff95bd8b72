-- Each public call has one answer. `Post` is the promise that is generated from the call's contract.
-- Assumes nothing.
use mathlib.Core.List.{List}
use mathlib.Core.Path.{sym, ◌∙◌}
use Prim.Native.Nat.{ℕ}
use Rattle.terms.proofs.Answers.{OneAnswer, OneOutcome, both_fixed}
use Rattle.cases.proofs.line.Kinds as line_kinds
use Rattle.cases.proofs.line.Reads as line
use Rattle.cases.proofs.number.Kinds as number_kinds
use Rattle.cases.proofs.number.Reads as number

-- Of a line the bytes and the place are fixed; the name under which the bytes are tracked is no part of either.
pub line_one : OneOutcome line_kinds.ps line_kinds.r line.Post {X = (ℕ × ℕ) × List ℕ} (λ κs r e. (r.ref_ptr, r.now))
line_one κs a r₁ r₂ e₁ e₂ p q = both_fixed p q

pub number_one : OneAnswer number_kinds.ps number_kinds.r number.Post
number_one κs a r₁ r₂ e₁ e₂ p q = p ∙ sym q
