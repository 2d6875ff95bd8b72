-- A host in its ranges steps exactly as its session does, with time beside it, and its sums fit.
-- Assumes nothing.
use mathlib.Core.Bool.{Bool, true, false}
use mathlib.Core.List.{List, [], ◌∷◌}
use mathlib.Core.Logic.{inl, inr}
use mathlib.Core.Path.{◌≡◌, sym, ap, ◌∙◌}
use Prim.Native.Nat.{ℕ, ◌+◌, ◌-◌, ◌≤◌, ◌<◌}
use native.Mathlib.Nat.{div-le_self}
use native.Mathlib.Omega.{arith}
use lib.Dec.{ltb}
use borrow.Author.Tests.{ltb-false}
use Rattle.terms.specs.Refusals.{Row, Answer, refused, taken, ◌given-when◌}
use Rattle.terms.proofs.Refusals.{refused_exactly, refused_alike, taken_alike, taken_exactly}
use Rattle.terms.proofs.Tests.{when_true, when_false, either_true, either_false}
use Rattle.settings.proofs.Exactly.{Fit, settings_within}
use Rattle.session.specs.Step.{step_rows, pulse_of, session_step}
use Rattle.session.specs.declared.Pulse.{Pulse}
use Rattle.session.proofs.Within.{pulses_most}
use Rattle.place.specs.declared.Phase.{Phase}
use Rattle.ticks.specs.Ticks.{phase_number, sum, ticks_of, rest_of, spacer_before, holder, with_pulse}
use Rattle.ticks.specs.declared.PhaseTicks.{PhaseTicks}
use Rattle.ticks.proofs.Sums.{share, Fits, phase_number_lem, pulse_sum, pulse_ticks}
use Rattle.units.specs.declared.Seen.{Seen}
use Rattle.host.specs.Step.{late, time_outside, fall_of, rise_of, host_outside, timed, host_step}
use Rattle.host.specs.Time.{low, spacer, tick}
use Rattle.host.specs.declared.Host.{Host}
use Rattle.host.specs.declared.Sent.{Sent}
use Rattle.host.proofs.Legs.{low_most, spacer_most, not_late, tick_on}

pub step_outside : (h : Host) (image : List ℕ) (seen : Seen) → host_outside h ≡ true → host_step h image seen ≡ refused 13
unfolding host_step
step_outside h image seen e = when_true _ _ e

-- The settings and the time are tested before the phases.
pub outside_time : (h : Host) → time_outside h ≡ true → host_outside h ≡ true
unfolding host_outside
outside_time h e = (either_true _ _).1 (inl e)

module _ (h : Host) (timely : time_outside h ≡ false) where
  pub fits_time : Fit h.settings.t h.settings.h h.settings.p
  unfolding time_outside
  fits_time = (settings_within h.settings).0 ((either_false _ _).0 timely).0

  pub some_p : 0 < h.settings.p
  some_p = omega (arith, fits_time.p_within.0)

  -- Then the phases decide: they have no spacer before the fall, or this one.
  abbrev phase_row : List Row
  phase_row = 13 given-when ltb (fall_of h) (sum h.phases) ∷ []

  pub phases_past : (n : ℕ) → spacer_before h.phases (fall_of h) ≡ refused n → host_outside h ≡ true
  unfolding host_outside rest_of
  phases_past n e = elim ((refused_exactly (fall_of h - sum h.phases) n phase_row).0 e) [
    | inl p ↦ (either_true _ _).1 (inr p.1)
    | inr p ↦ absurd p.1
  ]

  pub phases_left : (spacer : ℕ) → spacer_before h.phases (fall_of h) ≡ taken spacer
      → (host_outside h ≡ false) × (spacer ≡ fall_of h - sum h.phases)
  unfolding host_outside rest_of
  phases_left spacer e =
      let passed = (taken_exactly (fall_of h - sum h.phases) spacer phase_row).0 e in
      ((either_false _ _).1 (timely, passed.0.0), passed.1)

module _ (h : Host) (fine : host_outside h ≡ false) where
  timely : time_outside h ≡ false
  unfolding host_outside
  timely = ((either_false _ _).0 fine).0

  pub fits : Fit h.settings.t h.settings.h h.settings.p
  fits = fits_time h timely

  pub in_time : late h.session.pulses h.time ≡ false
  unfolding time_outside
  in_time = ((either_false _ _).0 timely).1

  -- The phases add up to no more ticks than the time has.
  not_past : sum h.phases ≤ fall_of h
  unfolding host_outside
  not_past = ltb-false (fall_of h) (sum h.phases) ((either_false _ _).0 fine).1

  pub some_tick : 0 < h.settings.p
  some_tick = omega (arith, fits.p_within.0)

  pub fall_rise : (b : Bool) → fall_of h ≤ rise_of h b
  fall_rise b = tick_on h.time (h.time + low h.settings b) h.settings.p some_tick (omega arith)

  module _ (image : List ℕ) (seen : Seen) where
    pub step_refused : (n : ℕ) → session_step h.session image seen ≡ refused n → host_step h image seen ≡ refused n
    unfolding session_step host_step
    step_refused n e = when_false _ _ fine ∙ refused_alike (step_rows h.session image) (pulse_of h.session image seen) _ n e

    pub step_sent : (p : Pulse) → session_step h.session image seen ≡ taken p → host_step h image seen ≡ taken (timed h p)
    unfolding session_step host_step
    step_sent p e =
        let q = taken_alike (step_rows h.session image) (pulse_of h.session image seen) (timed h (pulse_of h.session image seen)) p e in
        when_false _ _ fine ∙ q.0 ∙ ap (λ (x : Pulse). taken (timed h x)) (sym q.1)

    -- A step is sent by the longest session at most, so that its time is bounded.
    pub time_most : (p : Pulse) → session_step h.session image seen ≡ taken p → h.time ≤ 23806326824000000
    unfolding session_step
    time_most p e =
        let within = ((taken_exactly (pulse_of h.session image seen) p (step_rows h.session image)).0 e).0.0 in
        omega (arith, not_late h.session.pulses h.time in_time, pulses_most h.session within)

    -- The ticks of a pulse fit, and each goes to its phase.
    module _ (p : Pulse) (e : session_step h.session image seen ≡ taken p) where
      abbrev phase : Phase
      phase = h.session.place.phase

      abbrev index : ℕ
      index = h.session.place.index

      on : phase_number phase < 10
      unfolding session_step
      on = phase_number_lem phase ((taken_exactly (pulse_of h.session image seen) p (step_rows h.session image)).0 e).0.1.0

      risen : rise_of h p.bit ≤ 23806378824000000
      risen =
          omega (
            arith,
            div-le_self (h.time + low h.settings p.bit) h.settings.p,
            time_most p e,
            low_most h.settings fits p.bit,
          )

      fit_all : Fits (sum h.phases + (fall_of h - sum h.phases) + (rise_of h p.bit - fall_of h))
      fit_all = omega (arith, not_past, fall_rise p.bit, risen)

      pub phases_sum : sum (timed h p).host.phases ≡ rise_of h p.bit
      phases_sum =
          let all = pulse_sum h.phases phase index (fall_of h - sum h.phases) (rise_of h p.bit - fall_of h) on fit_all in
          omega (arith, all, not_past, fall_rise p.bit)

      pub phases_each : (k : ℕ) → ticks_of (timed h p).host.phases k
          ≡ ticks_of h.phases k
          + share k (holder (phase_number phase) index) (fall_of h - sum h.phases)
          + share k (phase_number phase) (rise_of h p.bit - fall_of h)
      phases_each = pulse_ticks h.phases phase index (fall_of h - sum h.phases) (rise_of h p.bit - fall_of h) on fit_all

-- What a step answers, by what its calls say.
module _ (h : Host) (image : List ℕ) (seen : Seen) where
  pub late_refused : true ≡ time_outside h → refused 13 ≡ host_step h image seen
  late_refused e = sym (step_outside h image seen (outside_time h (sym e)))

  module _ (timely : time_outside h ≡ false) where
    pub past_refused : refused 13 ≡ spacer_before h.phases (fall_of h) → refused 13 ≡ host_step h image seen
    past_refused e = sym (step_outside h image seen (phases_past h timely 13 (sym e)))

    module _ (left : ℕ) (spaced : taken left ≡ spacer_before h.phases (fall_of h)) where
      passed : (host_outside h ≡ false) × (left ≡ fall_of h - sum h.phases)
      passed = phases_left h timely left (sym spaced)

      pub session_refused : (n : ℕ) → refused n ≡ session_step h.session image seen → refused n ≡ host_step h image seen
      session_refused n e = sym (step_refused h passed.0 image seen n (sym e))

      module _ (p : Pulse) (e : taken p ≡ session_step h.session image seen) where
        pub times_fit : h.time + low h.settings p.bit + spacer h.settings p.silent ≤ 23806416876000000
        times_fit =
            let fit = fits h passed.0 in
            omega (arith, time_most h passed.0 image seen p (sym e), low_most h.settings fit p.bit, spacer_most h.settings fit p.silent)

        pub all_sent : (phases : PhaseTicks)
            → phases ≡ with_pulse h.phases h.session.place.phase h.session.place.index left (rise_of h p.bit - fall_of h)
            → ◌≡◌ {A = Answer Sent}
            (taken (record {
              host = record {
                settings = h.settings;
                session = p.session;
                time = h.time + low h.settings p.bit + spacer h.settings p.silent;
                phases = phases;
              };
              fall = tick h.settings h.time;
              rise = tick h.settings (h.time + low h.settings p.bit);
              risen = h.time + low h.settings p.bit;
            }))
            (host_step h image seen)
        all_sent phases q = rw (q, passed.1) (sym (step_sent h passed.0 image seen p (sym e)))
