-- 02, "Three": "Demand 2's chip rules apply to the replay." It is the chip's own steps over the pulses in their order, none of them refused,
-- and none after the ending.
-- Assumes nothing.
use Rattle.std.specs.Prelude.{false, List, ◌≡◌, ℕ, zero, suc, ◌+◌, ◌*◌, ◌≤◌, ◌<◌, length, get_or}
use Rattle.terms.specs.Refusals.{refused, taken, first}
use Rattle.units.specs.Units.{loops_of}
use Rattle.phases.specs.Phases.{ended}
use Rattle.eeprom.specs.declared.Fault.{Fault}
use Rattle.chip.specs.Step.{fresh, chip_step}
use Rattle.trace.specs.Traces.{list_of, numbers_of}
use Rattle.replay.specs.Replay.{State, state, listened, Left, finished, replay_rows, replay_of}

-- Pulse n of a trace, from 0, has the numbers 2n, its wait, and 2n + 1, its low. Both are below 2^32, so that they are loops as they stand.
abbrev pub wait_of : List ℕ → ℕ → ℕ
wait_of ns n = loops_of (get_or ns (n * 2) 0)

abbrev pub low_of : List ℕ → ℕ → ℕ
low_of ns n = loops_of (get_or ns (n * 2 + 1) 0)

-- So many pulses, one after the other.
unfoldable pub after : List ℕ → ℕ → State → State
after ns zero s = s
after ns (suc n) s = listened (after ns n s) (wait_of ns n) (low_of ns n)

-- What a replay leaves that starts so: after some of the pulses, each of which the chip takes before it has ended; a chip that has not
-- ended was played them all.
pub record Plays (ns : List ℕ) (s : State) (l : Left) : Type 0 where
  pub pulses : ℕ
  pub few : pulses * 2 ≤ length ns
  pub before : (n : ℕ) → n < pulses → ended (after ns n s).chip.receiver.listener.phase ≡ false
  pub unrefused : (n : ℕ) → n < pulses → (k : ℕ)
      → (chip_step (after ns n s).chip (after ns n s).ram (after ns n s).eeprom (wait_of ns n) (low_of ns n)).answer ≡ refused k → ⊥
  pub over : ended (after ns pulses s).chip.receiver.listener.phase ≡ false → pulses * 2 ≡ length ns
  pub left : l ≡ finished (after ns pulses s)

-- Every replay that is not refused.
abbrev pub EveryReplay : Type 0
EveryReplay =
    (trace : List ℕ) (fault : Fault) (ram eeprom ns : List ℕ)
    → first (replay_rows trace fault ram eeprom) (list_of (numbers_of trace)) ≡ taken ns
    → Plays ns (state (fresh fault) ram eeprom) (replay_of trace fault ram eeprom)
