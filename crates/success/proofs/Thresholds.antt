-- After the calibration no pulse changes the threshold.
-- Assumes nothing.
use mathlib.Core.Bool.{Bool}
use mathlib.Core.Path.{◌≡◌, refl, ap}
use Prim.Native.Nat.{ℕ, ◌+◌, ◌/◌}
use native.Mathlib.Omega.{arith}
use Rattle.terms.specs.Choice.{when}
use Rattle.terms.proofs.Tests.{when_elim}
use Rattle.phases.specs.declared.Acknowledgement.{Acknowledgement}
use Rattle.phases.specs.declared.Acknowledgement.TheVariants.{Stored, Programmed, Verified, Failed}
use Rattle.phases.specs.declared.Phase.{Phase}
use Rattle.phases.specs.declared.Phase.TheVariants.{First, Second, Handshake, Answer, Rest, Command, Size, Long, Align, Ended}
use Rattle.phases.specs.declared.Reply.{Reply}
use Rattle.phases.specs.declared.Reply.TheVariants.{Connection, Acknowledging}
use Rattle.listener.specs.Heard.{heard, compared, stored, verified, acknowledged, replied, received_command, received_size, received_long}
use Rattle.listener.specs.Heard.{read_command, read_size, read_long, aligned}
use Rattle.listener.specs.Settled.{failed, settled}
use Rattle.listener.specs.declared.Event.{Event}
use Rattle.listener.specs.declared.Event.TheVariants.{Nothing, Store, Finish, Program, Verify, Launch, Boot}
use Rattle.listener.specs.declared.Heard.{Heard}
use Rattle.listener.specs.declared.Listener.{Listener}

module _ (l : Listener) where
  abbrev Same : Heard → Type 0
  Same h = h.listener.threshold ≡ l.threshold

  either_way : (b : Bool) (x y : Heard) → Same x → Same y → Same (when b x y)
  either_way b x y p q = when_elim Same b x y (λ e. p) (λ e. q)

  acknowledged_same : (a : Acknowledgement) → Same (acknowledged l a)
  unfolding stored verified
  acknowledged_same Stored = either_way _ _ _ refl refl
  acknowledged_same Programmed = refl
  acknowledged_same Verified = either_way _ _ _ refl refl
  acknowledged_same Failed = refl

  replied_same : (r : Reply) → Same (replied l r)
  replied_same (Connection k) = refl
  replied_same (Acknowledging a) = acknowledged_same a

  -- No low counts by its length.
  module _ (low : ℕ) (bit : Bool) where
    pub heard_same : (phase : Phase) → ((x : ℕ) (b : Bool) → heard l phase x b ≡ heard l phase 0 b) → Same (heard l phase low bit)
    unfolding compared read_command received_command read_size received_size read_long received_long aligned
    heard_same First c = refl
    heard_same (Second d) c =
        let two : (d.0 + 2) / 2 ≡ (d.0 + 0) / 2 = ap (λ (h : Heard). h.listener.threshold.0) (c 2 bit) in
        absurd (omega (arith, two))
    heard_same (Handshake k) c = either_way _ _ _ refl refl
    heard_same (Answer r) c = refl
    heard_same (Rest r) c = replied_same r
    heard_same (Command n bits) c = either_way _ _ _ refl (either_way _ _ _ refl (either_way _ _ _ refl refl))
    heard_same (Size n bits) c = either_way _ _ _ refl (either_way _ _ _ refl (either_way _ _ _ refl refl))
    heard_same (Long n k bits) c = either_way _ _ _ refl (either_way _ _ _ refl refl)
    heard_same (Align a) c = either_way _ _ _ refl refl
    heard_same (Ended e) c = refl

failed_same : (l : Listener) (event : Event) → (failed l event).threshold ≡ l.threshold
failed_same l Nothing = refl
failed_same l (Store k long) = refl
failed_same l (Finish k long) = refl
failed_same l Program = refl
failed_same l Verify = refl
failed_same l Launch = refl
failed_same l Boot = refl

pub settled_same : (h : Heard) (good : Bool) → (settled h good).threshold ≡ h.listener.threshold
unfolding settled
settled_same h good =
    when_elim (λ (l : Listener). l.threshold ≡ h.listener.threshold) good h.listener (failed h.listener h.event) (λ e. refl)
    (λ e. failed_same h.listener h.event)
