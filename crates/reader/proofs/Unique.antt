-- Each public call has one answer. `Post` is the promise that is generated from the call's contract; a call over a reader has none, and its
-- clauses, kept by two answers, entail that these are the same.
-- Assumes nothing.
use mathlib.Core.Path.{◌≡◌, sym, ◌∙◌}
use seplogic.Ra.Ura.{Ura}
use base.Logic.{SProp, ent}
use prog.Memory.{Memory}
use prog.Routine.{Routine}
use types.Logic.{Logic}
use contract.Lifetimes.{Lfts}
use contract.Conj.{conj, conj_l, conj_r}
use contract.Monad.{Fun, fact, fact_i, fact_use}
use denote.Triple.Clauses.{AtExit}
use denote.Triple.Entry.{Args, Res}
use Rattle.terms.proofs.Answers.{OneAnswer}
use Rattle.reader.specs.contracts.Reader.new as reader_new
use Rattle.reader.specs.contracts.Reader.next as reader_next
use Rattle.reader.specs.contracts.Reader.moved as reader_moved
use Rattle.reader.proofs.read.Kinds as read_kinds
use Rattle.reader.proofs.read.Reads as read

pub read_one : OneAnswer read_kinds.ps read_kinds.r read.Post
read_one κs a r₁ r₂ e₁ e₂ p q = p ∙ sym q

module _ {M : Type 1} {𝓤 : Ura M} (𝓛 : Logic 𝓤) (mem : Memory → SProp 𝓤) (run : Routine → Fun 𝓤) (κs : Lfts 1) where
  both_say : (φ ψ χ : Type 0) → (φ → ψ → χ) → ent 𝓤 (conj 𝓤 (fact 𝓤 φ) (fact 𝓤 ψ)) (fact 𝓤 χ)
  both_say φ ψ χ f =
      fact_use 𝓤 φ (conj_l 𝓤 (fact 𝓤 φ) (fact 𝓤 ψ)) (λ p. fact_use 𝓤 ψ (conj_r 𝓤 (fact 𝓤 φ) (fact 𝓤 ψ)) (λ q. fact_i 𝓤 χ _ (f p q)))

  pub reader_new_one : (a : Args reader_new.signature κs) (r₁ r₂ : Res reader_new.signature κs) (e₁ e₂ : AtExit reader_new.ended κs) →
      ent 𝓤 (conj 𝓤 ((reader_new.clauses 𝓛 mem run κs a).ensures tt r₁ e₁) ((reader_new.clauses 𝓛 mem run κs a).ensures tt r₂ e₂)) (fact 𝓤 (r₁ ≡ r₂))
  reader_new_one a r₁ r₂ e₁ e₂ = both_say _ _ _ (λ p q i. record { trace = (p.0 ∙ sym q.0) i; at = (p.1 ∙ sym q.1) i })

  pub reader_next_one : (a : Args reader_next.signature κs) (r₁ r₂ : Res reader_next.signature κs) (e₁ e₂ : AtExit reader_next.ended κs) →
      ent 𝓤 (conj 𝓤 ((reader_next.clauses 𝓛 mem run κs a).ensures tt r₁ e₁) ((reader_next.clauses 𝓛 mem run κs a).ensures tt r₂ e₂)) (fact 𝓤 (r₁ ≡ r₂))
  reader_next_one a r₁ r₂ e₁ e₂ = both_say _ _ _ (λ p q. p ∙ sym q)

  pub reader_moved_one : (a : Args reader_moved.signature κs) (r₁ r₂ : Res reader_moved.signature κs) (e₁ e₂ : AtExit reader_moved.ended κs) →
      ent 𝓤 (conj 𝓤 ((reader_moved.clauses 𝓛 mem run κs a).ensures tt r₁ e₁) ((reader_moved.clauses 𝓛 mem run κs a).ensures tt r₂ e₂)) (fact 𝓤 (r₁ ≡ r₂))
  reader_moved_one a r₁ r₂ e₁ e₂ = both_say _ _ _ (λ p q i. record { trace = (p.0 ∙ sym q.0) i; at = (p.1 ∙ sym q.1) i })
