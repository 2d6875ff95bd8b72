-- What is sent from a place of the session on, pulse for pulse, by the rules of a place.
-- Assumes nothing.
use mathlib.Core.Bool.{Bool, true, false}
use mathlib.Core.List.{List, [], ◌∷◌}
use mathlib.Core.Path.{◌≡◌, refl, sym, ap₂, subst}
use Prim.Native.Nat.{ℕ, ◌+◌}
use Rattle.terms.specs.Choice.{when}
use Rattle.load.specs.declared.Load.{Load}
use Rattle.units.specs.declared.Seen.{Seen}
use Rattle.bits.specs.Bits.{sent_bit}
use Rattle.follow.specs.Follow.{opened, next, ends_silent_pair}
use Rattle.place.specs.Phases.{ended}
use Rattle.place.specs.declared.Ending.{Ending}
use Rattle.place.specs.declared.Phase.{Phase}
use Rattle.place.specs.declared.Phase.TheVariants.{Ended}
use Rattle.place.specs.declared.Place.{Place}
use Rattle.ticks.specs.Ticks.{phase_number}
use Rattle.sessions.specs.Spelled.{Mark, Part, over, sends}

module _ (load : Load) (lent : ℕ → List ℕ) (seen : ℕ → Seen) where
  -- The pulse that call n sends at a place.
  abbrev pub mark_at : ℕ → Phase → ℕ → Mark
  mark_at n phase i = record { bit = sent_bit load (lent n) phase i; silent = ends_silent_pair phase i (seen n); phase = phase_number phase }

  -- From call n on, at a place, these pulses are sent, and then the session has ended so.
  pub data Follows : ℕ → Place → List Mark → Ending → Type 0 where
    stops : (n : ℕ) (e : Ending) → Follows n (opened (Ended e)) [] e
    goes_on : (n : ℕ) (at : Place) (m : Mark) (marks : List Mark) (e : Ending) → ended at.phase ≡ false
        → mark_at n at.phase at.index ≡ m → Follows (n + 1) (next load at.phase at.index (seen n)) marks e
        → Follows n at (m ∷ marks) e

  -- From call n on, at a place, a part is sent.
  pub record From (n : ℕ) (at : Place) (part : Part) : Type 0 where
    pub follows : Follows n at (part n).pulses (part n).ending

  -- What follows, where a pulse is left and where none is.
  pub record GoesOn (n : ℕ) (at : Place) (m : Mark) (marks : List Mark) (e : Ending) : Type 0 where
    pub on : ended at.phase ≡ false
    pub is : mark_at n at.phase at.index ≡ m
    pub rest : Follows (n + 1) (next load at.phase at.index (seen n)) marks e

  pub pulse_left : (n : ℕ) (at : Place) (m : Mark) (marks : List Mark) (e : Ending) → Follows n at (m ∷ marks) e → GoesOn n at m marks e
  pulse_left n at m marks e (goes_on _ _ _ _ _ on is rest) = record { on = on; is = is; rest = rest }

  pub none_left : (n : ℕ) (at : Place) (e : Ending) → Follows n at [] e → at ≡ opened (Ended e)
  none_left n at e (stops _ _) = refl

module _ {load : Load} {lent : ℕ → List ℕ} {seen : ℕ → Seen} where
  -- The same place, said otherwise.
  pub stands_at : {n : ℕ} {p q : Place} {part : Part} → q ≡ p → From load lent seen n p part → From load lent seen n q part
  stands_at {n} {p} {q} {part} e f = subst (λ (at : Place). From load lent seen n at part) (sym e) f

  pub over_sent : (n : ℕ) (e : Ending) → From load lent seen n (opened (Ended e)) (over e)
  over_sent n e = record { follows = stops n e }

  pub pulse_sent : (n : ℕ) (phase : Phase) (i : ℕ) (bit silent : Bool) (rest : Part) → ended phase ≡ false
      → sent_bit load (lent n) phase i ≡ bit → ends_silent_pair phase i (seen n) ≡ silent
      → From load lent seen (n + 1) (next load phase i (seen n)) rest
      → From load lent seen n (record { phase = phase; index = i }) (sends phase bit silent rest)
  pulse_sent n phase i bit silent rest on b s f =
      let same : mark_at load lent seen n phase i ≡ record { bit = bit; silent = silent; phase = phase_number phase } =
      ap₂ (λ (x y : Bool). record { bit = x; silent = y; phase = phase_number phase }) b s in
      record { follows = goes_on n (record { phase = phase; index = i }) _ _ _ on same f.follows }

  -- A choice by the same test on both sides.
  pub choice_sent : {A : Type 0} (place : A → Place) (n : ℕ) (b : Bool) (p q : A) (x y : Part)
      → (b ≡ true → From load lent seen n (place p) x) → (b ≡ false → From load lent seen n (place q) y)
      → From load lent seen n (place (when b p q)) (when b x y)
  unfolding when
  choice_sent place n true p q x y t f = t refl
  choice_sent place n false p q x y t f = f refl
