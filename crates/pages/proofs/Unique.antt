-- A page has one answer. `Post` is the promise that is generated from the call's contract: it fixes the bytes and the place; the name
-- under which the bytes are tracked is no part of either.
-- Assumes nothing.
use mathlib.Core.List.{List}
use Prim.Native.Nat.{ℕ}
use Rattle.terms.proofs.Answers.{OneOutcome, both_fixed}
use Rattle.pages.proofs.page.Kinds as page_kinds
use Rattle.pages.proofs.page.Reads as page

pub page_one : OneOutcome page_kinds.ps page_kinds.r page.Post {X = (ℕ × ℕ) × List ℕ} (λ κs r e. (r.ref_ptr, r.now))
page_one κs a r₁ r₂ e₁ e₂ p q = both_fixed p q
