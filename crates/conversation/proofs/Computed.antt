-- Pulses that can be computed: where a test finds both open before each of them, they lead where they do.
-- Assumes nothing.
use mathlib.Core.Bool.{Bool, true, false, not, false≢true}
use mathlib.Core.List.{List}
use mathlib.Core.Path.{◌≡◌, refl}
use Prim.Native.Nat.{ℕ, zero, suc}
use borrow.Author.Tests.{not-true}
use native.Mathlib.Numerals.{add-one}
use Rattle.terms.specs.Choice.{both}
use Rattle.terms.proofs.Tests.{both_true}
use Rattle.load.specs.declared.Load.{Load}
use Rattle.place.specs.Phases as host
use Rattle.place.specs.declared.Phase as place
use Rattle.phases.specs.Phases as chip
use Rattle.phases.specs.declared.Phase.{Phase}
use Rattle.phases.specs.declared.Phase.TheVariants.{First, Second, Handshake, Answer, Rest, Command, Size, Long, Align, Ended}
use Rattle.listener.specs.Heard.{heard}
use Rattle.listener.specs.declared.Listener.{Listener}
use Rattle.conversation.specs.Conversation.{Talk, talked, waits, are_in_step, Open, Reach, stay, step}
use Rattle.conversation.proofs.Reaching.{counted}

-- The chip is past its calibration and has not ended, and stands in step with the host.
abbrev pub converses : place.Phase → Phase → Bool
converses at First = false
converses at (Second d) = false
converses at (Handshake k) = not (waits at)
converses at (Answer r) = true
converses at (Rest r) = true
converses at (Command n bits) = not (waits at)
converses at (Size n bits) = not (waits at)
converses at (Long n k bits) = not (waits at)
converses at (Align a) = waits at
converses at (Ended e) = false

-- What is said of every phase that converses.
module _ (at : place.Phase) where
  goes_on : (phase : Phase) → converses at phase ≡ true → chip.ended phase ≡ false
  goes_on First e = refl
  goes_on (Second d) e = refl
  goes_on (Handshake k) e = refl
  goes_on (Answer r) e = refl
  goes_on (Rest r) e = refl
  goes_on (Command n bits) e = refl
  goes_on (Size n bits) e = refl
  goes_on (Long n k bits) e = refl
  goes_on (Align a) e = refl
  goes_on (Ended x) e = absurd (false≢true e)

  in_step : (phase : Phase) → converses at phase ≡ true → are_in_step at phase ≡ true
  in_step First e = absurd (false≢true e)
  in_step (Second d) e = absurd (false≢true e)
  in_step (Handshake k) e = e
  in_step (Answer r) e = e
  in_step (Rest r) e = e
  in_step (Command n bits) e = e
  in_step (Size n bits) e = e
  in_step (Long n k bits) e = e
  in_step (Align a) e = e
  in_step (Ended x) e = absurd (false≢true e)

  any_low : (l : Listener) (phase : Phase) → converses at phase ≡ true → (low : ℕ) (bit : Bool) → heard l phase low bit ≡ heard l phase 0 bit
  any_low l First e low bit = absurd (false≢true e)
  any_low l (Second d) e low bit = absurd (false≢true e)
  any_low l (Handshake k) e low bit = refl
  any_low l (Answer r) e low bit = refl
  any_low l (Rest r) e low bit = refl
  any_low l (Command n bits) e low bit = refl
  any_low l (Size n bits) e low bit = refl
  any_low l (Long n k bits) e low bit = refl
  any_low l (Align a) e low bit = refl
  any_low l (Ended x) e low bit = refl

pub open_by : (a : Talk) → host.ended a.place.phase ≡ false → converses a.place.phase a.listener.phase ≡ true → Open a
open_by a p q = record {
  host = p;
  chip = goes_on a.place.phase a.listener.phase q;
  in_step = in_step a.place.phase a.listener.phase q;
  calibrated = any_low a.place.phase a.listener a.listener.phase q;
}

module _ (load : Load) (image : List ℕ) where
  abbrev pub talked_times : ℕ → Talk → Talk
  talked_times zero a = a
  talked_times (suc n) a = talked_times n (talked load image a)

  abbrev pub open_times : ℕ → Talk → Bool
  open_times zero a = true
  open_times (suc n) a =
      both (not (host.ended a.place.phase)) (both (converses a.place.phase a.listener.phase) (open_times n (talked load image a)))

  pub computed : (n : ℕ) (a : Talk) → open_times n a ≡ true → Reach load image n a (talked_times n a)
  computed zero a e = stay a
  computed (suc n) a e =
      let here = (both_true _ _).0 e in
      let there = (both_true _ _).0 here.1 in
      counted (add-one n)
      (step n a (talked_times n (talked load image a)) (open_by a (not-true _ here.0) there.0)
      (computed n (talked load image a) there.1))
