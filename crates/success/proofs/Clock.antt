-- The clock of a run: from the exact time of the last rise, each leg's ticks, and so its loops, are near its length; and the chip's
-- countdown is paced.
-- Assumes nothing.
use mathlib.Core.Bool.{Bool, true, false, true≢false}
use mathlib.Core.List.{List}
use mathlib.Core.Path.{◌≡◌, refl, sym, ap, ◌∙◌, subst}
use Prim.Native.Nat.{ℕ, ◌+◌, ◌-◌, ◌*◌, ◌/◌, ◌%◌, ◌≤◌, ◌<◌}
use native.Mathlib.Omega.{arith}
use lib.Dec.{eqb}
use borrow.Author.Tests.{lt-leb}
use Rattle.terms.specs.Choice.{when}
use Rattle.terms.proofs.Tests.{when_elim, when_false}
use Rattle.units.specs.declared.Seen.{Seen}
use Rattle.load.specs.declared.Load.{Load}
use Rattle.settings.specs.declared.Settings.{Settings}
use Rattle.settings.proofs.Exactly.{Fit}
use Rattle.bits.specs.Bits.{sent_bit}
use Rattle.follow.specs.Follow.{next, ends_silent_pair}
use Rattle.host.specs.Time.{low, spacer}
use Rattle.place.specs.declared.Phase as host_phase
use Rattle.phases.specs.Phases as chip
use Rattle.phases.specs.declared.Phase.{Phase}
use Rattle.phases.specs.declared.Phase.TheVariants.{First, Second, Handshake, Answer, Rest, Command, Size, Long, Align, Ended}
use Rattle.line.specs.Reading.{reads, distance_of}
use Rattle.listener.specs.Heard.{heard}
use Rattle.listener.specs.Settled.{settled}
use Rattle.listener.specs.declared.Heard.{Heard}
use Rattle.countdown.specs.Countdown.{late, aligns, counting}
use Rattle.margins.specs.Margins.{with_pulse}
use Rattle.margins.specs.declared.Margins.{Margins}
use Rattle.receiver.specs.Hears.{hears, counted}
use Rattle.receiver.proofs.Going.{Then, heard_then, settled_goes, settled_counts}
use Rattle.chip.specs.Work.{done}
use Rattle.conversation.specs.Conversation.{waits, are_in_step, bit_of}
use Rattle.bits.specs.Seeing.{sees}
use Rattle.joined.specs.Joined.{State, Measuring, waited, lasted, pulsed, host_ended}
use Rattle.joined.proofs.Sound.{shot}
use Rattle.success.specs.Success.{May, Loop, Margin}
use Rattle.success.proofs.Countdown.{within_pair, silent_waits, leg_of, Paced, leg_short, paced_timely, paced_on}
use Rattle.success.proofs.Simulation.{talk_of, Meets, wait_of, low_of, after_it, pulsed_so, Clocking}
use Rattle.success.proofs.Timing.{Near, ticks_near, loops_near, lasting, Low}

module _ (t h p l : ℕ) (fit : Fit t h p) (loop : Loop l) (margin : Margin t p l)
    (measured : Measuring) (may : (n ticks : ℕ) → ticks * p < 90001000000 → May p l ticks (measured n ticks)) where
  abbrev pub figures : Settings
  figures = record { t = t; h = h; p = p }

  -- The last rise was at `rose` ps, and the next fall comes a spacer later: h, but in a wait.
  pub record Clocked (s : State) : Type 0 where
    pub settings : s.host.settings ≡ figures
    pub rose : ℕ
    pub space : ℕ
    pub at : s.rise ≡ rose / p
    pub next : s.host.time ≡ rose + space
    pub short : space ≤ 10000000000
    pub close : host_ended s ≡ false → waits s.host.session.place.phase ≡ false → space ≤ h * 1000
    pub paced : Paced t h p l fit loop s.chip.receiver.listener.phase s.host.session.place.index s.chip.receiver.left.0

  -- Every leg is measured near its length.
  leg_near : (n a d : ℕ) → d ≤ 10000000000 → Near (l + p) d (measured n ((a + d) / p - a / p) * l)
  leg_near n a d short =
      let near = ticks_near p a d (omega (arith, fit.p_within.0)) in
      let brief : ((a + d) / p - a / p) * p < 90001000000 = omega (arith, near.above, short, fit.p_within.1) in
      loops_near p l d ((a + d) / p - a / p) (measured n ((a + d) / p - a / p)) near (may n ((a + d) / p - a / p) brief)

  wait_near : (n a d : ℕ) → d ≤ 10000000000 → waited measured n ((a + d) / p - a / p) * l < d + (l + p)
  unfolding waited
  wait_near n a d short =
      when_elim (λ (c : ℕ). c * l < d + (l + p)) (eqb n 0) 0 (measured (n * 2) ((a + d) / p - a / p)) (λ e. omega (arith, loop.0))
      (λ e. (leg_near (n * 2) a d short).above)

  -- A low is at most two unit times, and a spacer at most 10 ms; where no silent pair ended it is h.
  low_most : (b : Bool) → low figures b ≤ 2 * t * 1000
  unfolding low when
  low_most true = omega arith
  low_most false = omega arith

  spacer_most : (b : Bool) → spacer figures b ≤ 10000000000
  unfolding spacer when
  spacer_most true = omega (arith, fit.paced)
  spacer_most false = omega (arith, fit.paced)

  spacer_close : (b : Bool) → (b ≡ true → ⊥) → spacer figures b ≤ h * 1000
  unfolding spacer when
  spacer_close true e = absurd (e refl)
  spacer_close false e = omega arith

  lasting_low : (b : Bool) → low figures b ≡ lasting t p l margin b
  unfolding low when
  lasting_low true = refl
  lasting_low false = omega arith

  module _ (image : List ℕ) (load : Load) (s : State) (m : Meets measured image load s) (going : host_ended s ≡ false)
      (listens : chip.ended s.chip.receiver.listener.phase ≡ false)
      (step : are_in_step s.host.session.place.phase s.chip.receiver.listener.phase ≡ true) (c : Clocked s) where
    abbrev phase : host_phase.Phase
    phase = s.host.session.place.phase

    abbrev i : ℕ
    i = s.host.session.place.index

    abbrev seen : Seen
    seen = sees phase i s.reply

    -- The bit that is sent, and whether it ends a silent pair.
    abbrev bit : Bool
    bit = sent_bit s.host.session.load image phase i

    abbrev silent : Bool
    silent = ends_silent_pair phase i seen

    bit_same : bit ≡ bit_of load image (talk_of s)
    bit_same = ap (λ (x : Load). sent_bit x image phase i) m.loaded

    wait_ticks_lem : (shot measured image s m.sound going).fall.0 - s.rise ≡ (c.rose + c.space) / p - c.rose / p
    wait_ticks_lem =
        ap (λ (x : Settings). s.host.time / x.p - s.rise) c.settings
        ∙ ap (λ (x : ℕ). x / p - s.rise) c.next
        ∙ ap (λ (x : ℕ). (c.rose + c.space) / p - x) c.at

    low_ticks_lem : (shot measured image s m.sound going).rise.0 - (shot measured image s m.sound going).fall.0
        ≡ (s.host.time + low figures bit) / p - s.host.time / p
    low_ticks_lem = ap (λ (x : Settings). (s.host.time + low x bit) / x.p - s.host.time / x.p) c.settings

    low_brief : low figures bit ≤ 10000000000
    low_brief = omega (arith, low_most bit, fit.t_within.1)

    abbrev wait_loops_lem : ℕ
    wait_loops_lem = wait_of measured image load s m going listens

    abbrev low_loops_lem : ℕ
    low_loops_lem = low_of measured image load s m going listens

    wait_above : wait_loops_lem * l < c.space + (l + p)
    wait_above =
        subst (λ (x : ℕ). waited measured s.host.session.pulses x * l < c.space + (l + p)) (sym wait_ticks_lem)
        (wait_near s.host.session.pulses c.rose c.space c.short)

    low_near : Near (l + p) (low figures bit) (low_loops_lem * l)
    low_near =
        subst (λ (x : ℕ). Near (l + p) (low figures bit) (lasted measured s.host.session.pulses x * l)) (sym low_ticks_lem)
        (leg_near (s.host.session.pulses * 2 + 1) s.host.time (low figures bit) low_brief)

    low_measured : Low t p l margin (bit_of load image (talk_of s)) low_loops_lem
    low_measured =
        subst (λ (b : Bool). Low t p l margin b low_loops_lem) bit_same
        (subst (λ (d : ℕ). Near (l + p) d (low_loops_lem * l)) (lasting_low bit) low_near)

    -- The chip before the pulse, and what is left.
    abbrev from : Phase
    from = s.chip.receiver.listener.phase

    abbrev left : ℕ
    left = s.chip.receiver.left.0

    legs : c.space + low figures bit ≤ leg_of t h p l fit loop from
    legs = leg_short t h p l fit loop c.space (low figures bit) (low_most bit) c.short phase (c.close going) from step

    in_time : wait_loops_lem + low_loops_lem < left
    in_time =
        paced_timely t h p l fit loop wait_loops_lem low_loops_lem c.space (low figures bit) wait_above low_near.above i left from listens legs
        c.paced

    timely : late left wait_loops_lem low_loops_lem ≡ false
    unfolding late
    timely = lt-leb left (wait_loops_lem + low_loops_lem) in_time

    -- What is then heard, and what the chip is after its work.
    abbrev read : Bool
    read = reads s.chip.receiver.listener.threshold.0 low_loops_lem

    abbrev h' : Heard
    h' = heard s.chip.receiver.listener from low_loops_lem read

    abbrev rest : ℕ
    rest = left - wait_loops_lem - low_loops_lem

    abbrev kept : Margins
    kept = with_pulse s.chip.receiver.margins from read (distance_of s.chip.receiver.listener.threshold.0 low_loops_lem)

    pulsed_timely : pulsed measured image s ≡ after_it measured image load s m going listens (counted h' from rest kept)
    unfolding hears
    pulsed_timely =
        pulsed_so measured image load s m going listens
        ∙ ap (after_it measured image load s m going listens) (when_false _ _ timely)

    abbrev good : Bool
    good = (done s.chip.fault h'.event s.ram s.eeprom).done.good

    abbrev j : ℕ
    j = (next s.host.session.load phase i seen).index

    -- Where the chip aligns, the host waits.
    aligned_waits : (p : Phase) → aligns p ≡ true → are_in_step phase p ≡ true → waits phase ≡ true
    aligned_waits First a e = absurd (true≢false (sym a))
    aligned_waits (Second d) a e = absurd (true≢false (sym a))
    aligned_waits (Handshake k) a e = absurd (true≢false (sym a))
    aligned_waits (Answer r) a e = absurd (true≢false (sym a))
    aligned_waits (Rest r) a e = absurd (true≢false (sym a))
    aligned_waits (Command n v) a e = absurd (true≢false (sym a))
    aligned_waits (Size n v) a e = absurd (true≢false (sym a))
    aligned_waits (Long n k v) a e = absurd (true≢false (sym a))
    aligned_waits (Align x) a e = e
    aligned_waits (Ended x) a e = absurd (true≢false (sym a))

    module _ (right : aligns from ≡ true → read ≡ bit_of load image (talk_of s)) where
      pair : aligns from ≡ true → read ≡ true → (i % 2 ≡ 0) × (j % 2 ≡ 1)
      pair a e =
          within_pair s.host.session.load image i seen phase (aligned_waits from a step) m.sound.kept.within.stands.short
          (bit_same ∙ sym (right a) ∙ e)

      goes : Then low_loops_lem read from h'
      goes = heard_then s.chip.receiver.listener low_loops_lem read from

      paced_next : Paced t h p l fit loop (settled h' good).phase j (counting from h'.listener.phase rest)
      paced_next =
          subst (Paced t h p l fit loop (settled h' good).phase j) (settled_counts low_loops_lem read from h' good goes rest)
          (paced_on t h p l fit loop wait_loops_lem low_loops_lem c.space (low figures bit) wait_above low_near.above i left read j from
          (settled h' good).phase (settled_goes low_loops_lem read from h' good goes) pair legs c.paced)

      goes_on : Clocked (pulsed measured image s)
      goes_on =
          subst Clocked (sym pulsed_timely) (record {
            settings = c.settings;
            rose = s.host.time + low figures bit;
            space = spacer figures silent;
            at = ap (λ (x : Settings). (s.host.time + low x bit) / x.p) c.settings;
            next = ap (λ (x : Settings). s.host.time + low x bit + spacer x silent) c.settings;
            short = spacer_most silent;
            close = λ going' aloud. spacer_close silent (λ e.
                true≢false (sym (silent_waits s.host.session.load image i seen phase e going') ∙ aloud));
            paced = paced_next;
          })

    pub clock : Clocking measured image load (Low t p l margin) Clocked s m going listens
    clock = record { timely = timely; low = low_measured; next = goes_on }
