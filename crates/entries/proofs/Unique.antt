-- Each public call has one answer. `Post` is the promise that is generated from the call's contract.
-- Assumes nothing.
use mathlib.Core.List.{List}
use mathlib.Core.Path.{sym, ◌∙◌}
use Prim.Native.Nat.{ℕ}
use Rattle.terms.proofs.Answers.{OneAnswer, OneOutcome, both_fixed}
use Rattle.entries.proofs.read.Kinds as read_kinds
use Rattle.entries.proofs.read.Reads as read
use Rattle.entries.proofs.word.Kinds as word_kinds
use Rattle.entries.proofs.word.Reads as word

pub read_one : OneAnswer read_kinds.ps read_kinds.r read.Post
read_one κs a r₁ r₂ e₁ e₂ p q = p ∙ sym q

-- Of a word the bytes and the place are fixed; the name under which the bytes are tracked is no part of either.
pub word_one : OneOutcome word_kinds.ps word_kinds.r word.Post {X = (ℕ × ℕ) × List ℕ} (λ κs r e. (r.ref_ptr, r.now))
word_one κs a r₁ r₂ e₁ e₂ p q = both_fixed p q
