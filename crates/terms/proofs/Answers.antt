-- One answer: what it says of a public call that its promise fixes what it answers, and how that follows where the promise goes
-- by what the answer tells.
-- Assumes nothing.
use mathlib.Core.List.{List, [], ◌∷◌}
use mathlib.Core.Path.{◌≡◌, refl, sym, ap, ◌∙◌}
use Prim.Native.Nat.{ℕ}
use lib.ListN.{get_or}
use contract.Lifetimes.{Lfts}
use denote.Triple.Clauses.{AtExit}
use borrow.Fn.Kinds.{ParamKind, ResultKind, Dens, Out, res_t, ended_of}
use Rattle.std.specs.Prelude.{Result, Ok, Err}
use Rattle.terms.specs.Refusals.{Answer, refused, taken, number, told}
use Rattle.terms.specs.declared.Refusal.{Refusal}
use Rattle.terms.specs.declared.Refusal.TheVariants.{UnitTime, Spacer, Tick, Command, Length, NamedLength, Start, Stack, Sum, Ram, Eeprom, Fault}
use Rattle.terms.specs.declared.Refusal.TheVariants.{Record, Ended, Reply, Slow, Mark, Number, LoneWait, Room}

-- No two answers of a call keep its promise: whatever its arguments are, any two that do are the same.
abbrev pub OneAnswer : {n : ℕ} (ps : List (ParamKind n)) (r : ResultKind n) → Out n ps r → Type 0
OneAnswer {n} ps r Post =
    (κs : Lfts n) (a : Dens κs ps) (r₁ r₂ : (res_t r κs).Denot) (e₁ e₂ : AtExit (ended_of n ps r) κs) →
    Post κs a r₁ e₁ → Post κs a r₂ e₂ → r₁ ≡ r₂

-- The same of what a call leaves: its answer and what is lent to it, as it stands at exit, or as much of both as `left` says.
abbrev pub OneOutcome : {n : ℕ} (ps : List (ParamKind n)) (r : ResultKind n) → Out n ps r → {X : Type 0}
    → ((κs : Lfts n) → (res_t r κs).Denot → AtExit (ended_of n ps r) κs → X) → Type 0
OneOutcome {n} ps r Post left =
    (κs : Lfts n) (a : Dens κs ps) (r₁ r₂ : (res_t r κs).Denot) (e₁ e₂ : AtExit (ended_of n ps r) κs) →
    Post κs a r₁ e₁ → Post κs a r₂ e₂ → left κs r₁ e₁ ≡ left κs r₂ e₂

-- The refusal of a number. 0, 20 to 26 and those above 27 are of none.
abbrev pub named : ℕ → Refusal
named n =
    get_or
    (Room
    ∷ UnitTime ∷ Spacer ∷ Tick ∷ Command ∷ Length ∷ NamedLength ∷ Start ∷ Stack ∷ Sum ∷ Ram ∷ Eeprom ∷ Fault ∷ Record ∷ Ended ∷ Reply ∷ Slow
    ∷ Mark ∷ Number ∷ LoneWait ∷ []) n Room

pub named_number : (r : Refusal) → named (number r) ≡ r
named_number UnitTime = refl
named_number Spacer = refl
named_number Tick = refl
named_number Command = refl
named_number Length = refl
named_number NamedLength = refl
named_number Start = refl
named_number Stack = refl
named_number Sum = refl
named_number Ram = refl
named_number Eeprom = refl
named_number Fault = refl
named_number Record = refl
named_number Ended = refl
named_number Reply = refl
named_number Slow = refl
named_number Mark = refl
named_number Number = refl
named_number LoneWait = refl
named_number Room = refl

-- What undoes the telling of an answer.
abbrev pub back : {A : Type 0} → Answer A → Result A Refusal
back (refused n) = Err (named n)
back (taken a) = Ok a

pub back_told : {A : Type 0} (r : Result A Refusal) → back (told r) ≡ r
back_told (Err r) = ap Err (named_number r)
back_told (Ok a) = refl

-- What a call leaves that is lent both memories: its answer, or what that tells, and both.
pub record Leaves (A : Type 0) : Type 0 where
  pub answer : A
  pub ram : List ℕ
  pub eeprom : List ℕ

-- What a call tells fixes what it answered, where the telling has a left inverse; and so with all that it leaves.
module _ {A B : Type 0} (told : A → B) (back : B → A) (back_told : (a : A) → back (told a) ≡ a) where
  pub one_told : (r s : A) {b : B} → told r ≡ b → told s ≡ b → r ≡ s
  one_told r s p q = sym (back_told r) ∙ ap back (p ∙ sym q) ∙ back_told s

  abbrev pub telling : Leaves A → Leaves B
  telling l = record { answer = told l.answer; ram = l.ram; eeprom = l.eeprom }

  pub one_left : (l m : Leaves A) → telling l ≡ telling m → l ≡ m
  one_left l m e i = record {
    answer = one_told l.answer m.answer (ap (λ (x : Leaves B). x.answer) e) refl i;
    ram = (e i).ram;
    eeprom = (e i).eeprom;
  }

-- Two clauses of a promise, each of which fixes its part, fix both.
pub both_fixed : {A B : Type 0} {a a' x : A} {b b' y : B} → (b ≡ y) × (a ≡ x) → (b' ≡ y) × (a' ≡ x) → ◌≡◌ {A = A × B} (a, b) (a', b')
both_fixed p q i = ((p.1 ∙ sym q.1) i, (p.0 ∙ sym q.0) i)

-- Of a call that refuses or hands something back.
pub told_one : {A : Type 0} (r s : Result A Refusal) {b : Answer A} → told r ≡ b → told s ≡ b → r ≡ s
told_one r s p q = one_told told back back_told r s p q
