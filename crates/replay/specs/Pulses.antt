-- The pulse at a place of a trace, as the code reads it: a wait, and the number after it.
-- Assumes nothing.
use Rattle.std.specs.Prelude.{List, ℕ, Option, None, Some, Result, Ok, Err}
use Rattle.units.specs.Units.{loops_of}
use Rattle.numbers.specs.Numbers.{groups, bound, number_at}
use Rattle.numbers.specs.declared.Number.{Number}
use Rattle.numbers.specs.declared.NoNumber.{NoNumber}
use Rattle.replay.specs.declared.pulses.Pulse.{Pulse}

abbrev pub recorded : Number → Number → Option Pulse
recorded wait low =
    Some (record { wait = record { 0 = loops_of wait.value }; low = record { 0 = loops_of low.value }; next = low.next })

abbrev pub with_low : Number → Result Number NoNumber → Option Pulse
with_low wait (Err e) = None
with_low wait (Ok low) = recorded wait low

abbrev pub pulse_of : List ℕ → Number → Option Pulse
pulse_of trace wait = with_low wait (number_at groups bound trace wait.next.0)

abbrev pub with_wait : List ℕ → Result Number NoNumber → Option Pulse
with_wait trace (Err e) = None
with_wait trace (Ok wait) = pulse_of trace wait

abbrev pub pulse_at : List ℕ → ℕ → Option Pulse
pulse_at trace at = with_wait trace (number_at groups bound trace at)
