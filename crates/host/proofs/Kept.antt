-- A start hands out a host within its ranges, and each step keeps it there.
-- Assumes nothing.
use mathlib.Core.Bool.{false}
use mathlib.Core.List.{List}
use mathlib.Core.Path.{◌≡◌, refl, sym, subst}
use Prim.Native.Nat.{ℕ, ◌+◌, ◌*◌, ◌/◌, ◌≤◌}
use native.Mathlib.Omega.{arith}
use borrow.Author.Tests.{le-ltb}
use Rattle.terms.specs.Refusals.{taken}
use Rattle.terms.proofs.Refusals.{clear_taken, taken_exactly}
use Rattle.terms.proofs.Tests.{either_false}
use Rattle.lent.specs.Bytes.{total}
use Rattle.settings.proofs.Exactly.{settings_within}
use Rattle.session.specs.Step.{step_rows, pulse_of, session_step}
use Rattle.session.proofs.Kept as kept
use Rattle.session.proofs.Within.{Within}
use Rattle.ticks.specs.Ticks.{sum}
use Rattle.units.specs.declared.Seen.{Seen}
use Rattle.host.specs.Step.{host_start, late, time_outside, host_outside, host_rows, timed, host_step}
use Rattle.host.specs.Time.{low, spacer}
use Rattle.host.specs.declared.Host.{Host}
use Rattle.host.specs.declared.Sent.{Sent}
use Rattle.host.proofs.Legs.{low_most, spacer_most, not_late, tick_on}
use Rattle.host.proofs.Starts.{start_gives}
use Rattle.host.proofs.Steps.{fits, in_time, some_tick, phases_sum}

-- A host whose own fields and whose session lie within their ranges.
pub record Kept (h : Host) : Type 0 where
  pub own : host_outside h ≡ false
  pub within : Within h.session

pub start_keeps : (t h p command : ℕ) (image : List ℕ) (x : Host) → host_start t h p command image ≡ taken x → Kept x
unfolding host_outside time_outside late sum total
start_keeps t h p command image x e =
    let gives = start_gives t h p command image x e in
    subst Kept (sym gives.0) (record {
      own =
          (either_false _ _).1 (
            (either_false _ _).1 ((settings_within (record { t = t; h = h; p = p })).1 gives.1, refl),
            le-ltb (0 / p) 0 (omega arith),
          );
      within = kept.fresh_keeps command image gives.2;
    })

pub step_keeps : (x : Host) (image : List ℕ) (seen : Seen) (s : Sent) → host_step x image seen ≡ taken s → Kept s.host
unfolding host_step host_outside time_outside late session_step
step_keeps x image seen s e =
    let pulse = pulse_of x.session image seen in
    let passed = (taken_exactly (timed x pulse) s (host_rows x image)).0 e in
    let fit = fits x passed.0.0 in
    let early = not_late x.session.pulses x.time (in_time x passed.0.0) in
    let soon : x.time + low x.settings pulse.bit + spacer x.settings pulse.silent ≤ (x.session.pulses + 1) * 90052000000 =
    omega (arith, early, low_most x.settings fit pulse.bit, spacer_most x.settings fit pulse.silent) in
    let sent = clear_taken pulse (step_rows x.session image) passed.0.1 in
    let rise = x.time + low x.settings pulse.bit in
    let fall = rise + spacer x.settings pulse.silent in
    let ticks : sum (timed x pulse).host.phases ≤ fall / x.settings.p =
    omega (
      arith,
      phases_sum x passed.0.0 image seen pulse sent,
      tick_on rise fall x.settings.p (some_tick x passed.0.0) (omega arith),
    ) in
    subst (λ (y : Sent). Kept y.host) (sym passed.1) (record {
      own =
          (either_false _ _).1 (
            (either_false _ _).1 ((settings_within x.settings).1 fit, le-ltb _ _ soon),
            le-ltb _ _ ticks,
          );
      within = kept.step_keeps x.session image seen pulse sent;
    })
