-- 01, "Host joined to chip": every run ends because the host has ended, and no step of it is refused.
-- Assumes nothing.
use Rattle.std.specs.Prelude.{true, false, List, ◌≡◌, ℕ, zero, suc, ◌≤◌, ◌<◌}
use Rattle.terms.specs.Refusals.{refused, taken}
use Rattle.host.specs.declared.Sent.{Sent}
use Rattle.phases.specs.Phases as chip
use Rattle.joined.specs.Joined.{State, Measuring, listened, sent, pulsed, host_ended, played}

-- So many pulses, one after the other.
unfoldable pub after : Measuring → List ℕ → ℕ → State → State
after measured image zero s = s
after measured image (suc n) s = after measured image n (pulsed measured image s)

-- Neither side refuses the next pulse. A chip that has ended isn't asked.
pub record Unrefused (measured : Measuring) (image : List ℕ) (s : State) : Type 0 where
  pub pulse : Sent
  pub by_host : sent image s ≡ taken pulse
  pub by_chip : chip.ended s.chip.receiver.listener.phase ≡ false → (n : ℕ) → (listened measured s pulse).answer ≡ refused n → ⊥

-- Within the budget the host ends; until then no step is refused, and a run is these pulses.
pub record Ends (measured : Measuring) (image : List ℕ) (most : ℕ) (s : State) : Type 0 where
  pub pulses : ℕ
  pub few : pulses ≤ most
  pub before : (n : ℕ) → n < pulses → host_ended (after measured image n s) ≡ false
  pub unrefused : (n : ℕ) → n < pulses → Unrefused measured image (after measured image n s)
  pub ended : host_ended (after measured image pulses s) ≡ true
  pub run : played measured image most s ≡ after measured image pulses s
