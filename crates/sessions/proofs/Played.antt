-- A host that stands where the session begins sends it whole: each call keeps the host at the list's next pulse, at the time at which
-- that pulse falls, with the counts of the pulses before it.
-- Assumes nothing.
use mathlib.Core.Bool.{Bool, false, true≢false}
use mathlib.Core.List.{List, ◌∷◌}
use mathlib.Core.Logic.{◌⊎◌, inl, inr}
use mathlib.Core.Path.{◌≡◌, refl, sym, ap, ap₂, ◌∙◌, subst}
use Prim.Native.Nat.{ℕ, zero, suc, ◌+◌, ◌-◌, ◌*◌, ◌/◌, ◌≤◌, ◌<◌}
use native.Mathlib.Nat.{div-mul-le_self, lt-div-mul-add, zero-div}
use native.Mathlib.Numerals.{add-one}
use native.Mathlib.Omega.{arith}
use lib.ListN.{take, drop}
use lib.Seq.{drop-cons, drop-length}
use Rattle.terms.specs.Choice.{when}
use Rattle.terms.specs.Refusals.{Answer, refused, taken}
use Rattle.terms.proofs.Refusals.{clear_taken}
use Rattle.terms.proofs.Tests.{when_true, when_false}
use Rattle.load.specs.Load.{other_image}
use Rattle.load.specs.declared.Load.{Load}
use Rattle.settings.specs.declared.Settings.{Settings}
use Rattle.units.specs.declared.Seen.{Seen}
use Rattle.units.specs.declared.Ticks.{Ticks}
use Rattle.bits.specs.Bits.{sent_bit}
use Rattle.follow.specs.Follow.{opened, next}
use Rattle.place.specs.Phases.{image_pulses, ended}
use Rattle.range.specs.Ranges.{before}
use Rattle.place.specs.declared.Phase.TheVariants.{Ended}
use Rattle.place.specs.declared.Place.{Place}
use Rattle.session.specs.Step.{step_rows, pulse_of, session_step}
use Rattle.session.specs.declared.Pulse.{Pulse}
use Rattle.session.proofs.Within.{session_within, pulses_most}
use Rattle.host.specs.Step.{fall_of, rise_of, timed, host_step}
use Rattle.host.specs.Time.{low, spacer, tick}
use Rattle.host.specs.declared.Host.{Host}
use Rattle.host.specs.declared.Sent.{Sent}
use Rattle.host.proofs.Kept.{Kept, step_keeps}
use Rattle.host.proofs.Legs.{tick_on}
use Rattle.host.proofs.Steps.{fits, step_sent, step_refused, phases_sum, phases_each}
use Rattle.ticks.specs.Ticks.{none, phase_number, ticks_of, sum, holder}
use Rattle.ticks.specs.declared.PhaseTicks.{PhaseTicks}
use Rattle.ticks.proofs.Sums.{share, holder_first, holder_own, none_ticks}
use Rattle.sessions.specs.Phases.{calls_before, last_rise, stamp}
use Rattle.sessions.specs.Sessions.{ones, zeros, unsent, session, many, pulse, edge, falls, rises, phase_at, Sends}
use Rattle.sessions.specs.Spelled.{Mark, Spelled}
use Rattle.sessions.proofs.Edges.{edge_first, edge_on, rise_after, fall_after, ones_more, zeros_more}
use Rattle.sessions.proofs.Moves.{Moves, stops, opens, stays, next_moves}
use Rattle.sessions.proofs.Runs.{Adds, Keeps, runs, none_before}
use Rattle.sessions.proofs.Follows.{Follows, GoesOn, pulse_left, none_left}

module _ (s : Settings) (load : Load) (size : ℕ) (lent : ℕ → List ℕ) (seen : ℕ → Seen)
    (same : (n : ℕ) → other_image load (lent n) ≡ false) where
  abbrev whole : Spelled
  whole = session s load.command size lent seen

  abbrev count : ℕ
  count = many s load.command size lent seen

  abbrev mark : ℕ → Mark
  mark = pulse s load.command size lent seen

  abbrev time : ℕ → ℕ
  time = edge s load.command size lent seen

  abbrev falling : ℕ → ℕ
  falling = falls s load.command size lent seen

  abbrev rising : ℕ → ℕ
  rising = rises s load.command size lent seen

  abbrev phasing : ℕ → ℕ
  phasing = phase_at s load.command size lent seen

  -- The host before call n.
  pub record At (n : ℕ) (x : Host) : Type 0 where
    pub kept : Kept x
    pub set : x.settings ≡ s
    pub loaded : x.session.load ≡ load
    pub left : Follows load lent seen n x.session.place (drop n whole.pulses) whole.ending
    pub falls : x.time ≡ time (2 * n)
    pub counted : x.session.pulses ≡ n
    pub counted_ones : x.session.ones ≡ ones (take n whole.pulses)
    pub counted_zeros : x.session.zeros ≡ zeros (take n whole.pulses)
    pub summed : sum x.phases ≡ last_rise rising n

  -- One call.
  module _ (n : ℕ) (x : Host) (at : At n x) (h : n < count) where
    abbrev place : Place
    place = x.session.place

    abbrev sending : Pulse
    sending = pulse_of x.session (lent n) (seen n)

    goes : GoesOn load lent seen n place (mark n) (drop (suc n) whole.pulses) whole.ending
    goes =
        let more : drop n whole.pulses ≡ mark n ∷ drop (suc n) whole.pulses = drop-cons whole.pulses n _ h in
        pulse_left load lent seen n place (mark n) _ _
        (subst (λ (marks : List Mark). Follows load lent seen n place marks whole.ending) more at.left)

    session_sends : session_step x.session (lent n) (seen n) ≡ taken sending
    unfolding session_step
    session_sends =
        let image : other_image x.session.load (lent n) ≡ false = ap (λ (l : Load). other_image l (lent n)) at.loaded ∙ same n in
        clear_taken sending (step_rows x.session (lent n)) ((session_within x.session).1 at.kept.within, (goes.on, (image, tt)))

    host_sends : host_step x (lent n) (seen n) ≡ taken (timed x sending)
    host_sends = step_sent x at.kept.own (lent n) (seen n) sending session_sends

    same_bit : sending.bit ≡ (mark n).bit
    same_bit = ap (λ (l : Load). sent_bit l (lent n) place.phase place.index) at.loaded ∙ ap (λ (m : Mark). m.bit) goes.is

    same_silent : sending.silent ≡ (mark n).silent
    same_silent = ap (λ (m : Mark). m.silent) goes.is

    risen : x.time + low x.settings sending.bit ≡ time (2 * n + 1)
    risen =
        let lasts : low x.settings sending.bit ≡ low s (mark n).bit =
        ap (λ (y : Settings). low y sending.bit) at.set ∙ ap (low s) same_bit in
        omega (arith, at.falls, lasts, rise_after s whole.pulses n unsent h)

    falls_next : x.time + low x.settings sending.bit + spacer x.settings sending.silent ≡ time (2 * suc n)
    falls_next =
        let lasts : spacer x.settings sending.silent ≡ spacer s (mark n).silent =
        ap (λ (y : Settings). spacer y sending.silent) at.set ∙ ap (spacer s) same_silent in
        omega (arith, risen, lasts, fall_after s whole.pulses n unsent h)

    place_next : sending.session.place ≡ next load place.phase place.index (seen n)
    place_next = ap (λ (l : Load). next l place.phase place.index (seen n)) at.loaded

    left_next : Follows load lent seen (suc n) sending.session.place (drop (suc n) whole.pulses) whole.ending
    left_next =
        subst (λ (m : ℕ). Follows load lent seen m sending.session.place (drop (suc n) whole.pulses) whole.ending) (add-one n)
        (subst (λ (q : Place). Follows load lent seen (n + 1) q (drop (suc n) whole.pulses) whole.ending) (sym place_next) goes.rest)

    same_phase : phase_number place.phase ≡ phasing n
    same_phase = ap (λ (m : Mark). m.phase) goes.is

    -- The ticks of the pulse are those of its edges.
    fall_tick : fall_of x ≡ falling n
    fall_tick = ap (λ (y : Settings). x.time / y.p) at.set ∙ ap (λ (y : ℕ). y / s.p) at.falls

    rise_tick : rise_of x sending.bit ≡ rising n
    rise_tick = ap (λ (y : Settings). (x.time + low x.settings sending.bit) / y.p) at.set ∙ ap (λ (y : ℕ). y / s.p) risen

    summed_next : sum (timed x sending).host.phases ≡ rising n
    summed_next = phases_sum x at.kept.own (lent n) (seen n) sending session_sends ∙ rise_tick

    shared : (q : ℕ) → ticks_of (timed x sending).host.phases q
        ≡ ticks_of x.phases q
        + share q (holder (phase_number place.phase) place.index) (falling n - last_rise rising n)
        + share q (phase_number place.phase) (rising n - falling n)
    shared q =
        phases_each x at.kept.own (lent n) (seen n) sending session_sends q
        ∙ ap₂ (λ (gap low : ℕ).
        ticks_of x.phases q + share q (holder (phase_number place.phase) place.index) gap + share q (phase_number place.phase) low)
        (ap₂ (λ (a b : ℕ). a - b) fall_tick at.summed) (ap₂ (λ (a b : ℕ). a - b) rise_tick fall_tick)

    at_next : At (suc n) (timed x sending).host
    at_next = record {
      kept = step_keeps x (lent n) (seen n) (timed x sending) host_sends;
      set = at.set;
      loaded = at.loaded;
      left = left_next;
      falls = falls_next;
      counted = ap (λ (k : ℕ). k + 1) at.counted ∙ add-one n;
      counted_ones =
          ap (λ (k : ℕ). k + when sending.bit 1 0) at.counted_ones
          ∙ ap (λ (b : Bool). ones (take n whole.pulses) + when b 1 0) same_bit
          ∙ sym (ones_more whole.pulses n _ h);
      counted_zeros =
          ap (λ (k : ℕ). k + when sending.bit 0 1) at.counted_zeros
          ∙ ap (λ (b : Bool). zeros (take n whole.pulses) + when b 0 1) same_bit
          ∙ sym (zeros_more whole.pulses n _ h);
      summed = summed_next;
    }

  -- All calls: the hosts one after the other. One that refuses stays as it is.
  abbrev handed : Host → Answer Sent → Host
  handed x (refused k) = x
  handed x (taken r) = r.host

  module _ (x : Host) (start : At 0 x) where
    abbrev hosts : ℕ → Host
    hosts zero = x
    hosts (suc n) = handed (hosts n) (host_step (hosts n) (lent n) (seen n))

    abbrev last : Host
    last = hosts count

    hosts_suc : (n : ℕ) (at : At n (hosts n)) (h : n < count) → hosts (suc n) ≡ (timed (hosts n) (sending n (hosts n) at h)).host
    hosts_suc n at h = ap (handed (hosts n)) (host_sends n (hosts n) at h)

    hosts_at : (n : ℕ) → n ≤ count → At n (hosts n)
    hosts_at zero h = start
    hosts_at (suc n) h =
        let at = hosts_at n (omega (arith, h)) in
        subst (At (suc n)) (sym (hosts_suc n at h)) (at_next n (hosts n) at h)

    module _ (n : ℕ) (h : n < count) where
      here : At n (hosts n)
      here = hosts_at n (omega (arith, h))

      abbrev now_sending : Pulse
      now_sending = sending n (hosts n) here h

      next_host : (timed (hosts n) now_sending).host ≡ hosts (n + 1)
      next_host = sym (hosts_suc n here h) ∙ ap hosts (sym (add-one n))

      step_is : host_step (hosts n) (lent n) (seen n)
          ≡ taken (record {
            host = hosts (n + 1);
            fall = tick s (time (2 * n));
            rise = tick s (time (2 * n + 1));
            risen = time (2 * n + 1);
          })
      step_is =
          let ticks : (a b : ℕ) → a ≡ b → tick (hosts n).settings a ≡ tick s b =
          λ a b e. ap (λ (y : Settings). tick y a) here.set ∙ ap (tick s) e in
          let sent = timed (hosts n) now_sending in
          let by : Host → Ticks → Ticks → ℕ → Answer Sent = λ host fall rise risen.
          taken (record { host = host; fall = fall; rise = rise; risen = risen }) in
          let rise = risen n (hosts n) here h in
          host_sends n (hosts n) here h
          ∙ ap (λ (y : Host). by y sent.fall sent.rise sent.risen) next_host
          ∙ ap (λ (y : Ticks). by (hosts (n + 1)) y sent.rise sent.risen) (ticks _ _ here.falls)
          ∙ ap (λ (y : Ticks). by (hosts (n + 1)) (tick s (time (2 * n))) y sent.risen) (ticks _ _ rise)
          ∙ ap (by (hosts (n + 1)) (tick s (time (2 * n))) (tick s (time (2 * n + 1)))) rise

      pulse_is : session_step (hosts n).session (lent n) (seen n)
          ≡ taken (record { bit = (mark n).bit; silent = (mark n).silent; session = (hosts (n + 1)).session })
      pulse_is =
          let sent = now_sending in
          session_sends n (hosts n) here h
          ∙ ap (λ (b : Bool). taken (record { bit = b; silent = sent.silent; session = sent.session })) (same_bit n (hosts n) here h)
          ∙ ap (λ (b : Bool). taken (record { bit = (mark n).bit; silent = b; session = sent.session })) (same_silent n (hosts n) here h)
          ∙ ap (λ (y : Host). taken (record { bit = (mark n).bit; silent = (mark n).silent; session = y.session })) next_host

    at_last : At count last
    at_last = hosts_at count (omega arith)

    ends : last.session.place ≡ opened (Ended whole.ending)
    ends =
        none_left load lent seen count last.session.place whole.ending
        (subst (λ (marks : List Mark). Follows load lent seen count last.session.place marks whole.ending)
        (drop-length whole.pulses) at_last.left)

    refuses : (image : List ℕ) (seen' : Seen) → host_step last image seen' ≡ refused 14
    unfolding session_step
    refuses image seen' =
        step_refused last at_last.kept.own image seen' 14
        (when_false _ _ ((session_within last.session).1 at_last.kept.within)
        ∙ when_true _ _ (ap (λ (q : Place). ended q.phase) ends))

    -- No more pulses than can be before an ended session's place.
    few : count ≤ 832 + image_pulses load + 1450
    few =
        let most : before last.session.load last.session.place.phase + last.session.place.index
        ≡ 832 + image_pulses load + 1450 + 0 =
        ap (λ (q : Place). before last.session.load q.phase + q.index) ends
        ∙ ap (λ (l : Load). before l (Ended whole.ending) + 0) at_last.loaded in
        omega (arith, at_last.counted, at_last.kept.within.stands.sent, most)

    some_tick : 0 < s.p
    some_tick = subst (λ (y : Settings). 0 < y.p) start.set (omega (arith, (fits x start.kept.own).p_within.0))

    -- The ten phases.
    abbrev standing : ℕ → ℕ
    standing n = phase_number (hosts n).session.place.phase

    abbrev index : ℕ → ℕ
    index n = (hosts n).session.place.index

    abbrev holding : ℕ → ℕ
    holding n = holder (standing n) (index n)

    abbrev lasting : ℕ → ℕ → ℕ
    lasting n q = ticks_of (hosts n).phases q

    stands_in : (n : ℕ) → n < count → standing n ≡ phasing n
    stands_in n h = same_phase n (hosts n) (here n h) h

    -- From a call to the next one: the session has not ended.
    moves : (n : ℕ) → suc n < count → Moves (standing n) (hosts (suc n)).session.place
    moves n h =
        let before : n < count = omega (arith, h) in
        let at = here n before in
        let there : (hosts (suc n)).session.place ≡ next load (hosts n).session.place.phase (index n) (seen n) =
        ap (λ (y : Host). y.session.place) (hosts_suc n at before) ∙ place_next n (hosts n) at before in
        subst (Moves (standing n)) (sym there)
        (next_moves load (hosts n).session.place.phase (index n) (seen n) (goes n (hosts n) at before).on)

    goes_on : (n : ℕ) → n < count → ended (hosts n).session.place.phase ≡ false
    goes_on n h = (goes n (hosts n) (here n h) h).on

    onwards : (n : ℕ) → n + 1 < count → (phasing (n + 1) ≡ phasing n + 1) ⊎ (phasing (n + 1) ≡ phasing n)
    onwards n h =
        let later : suc n < count = omega (arith, h) in
        let this = stands_in n (omega (arith, h)) in
        let next = stands_in (suc n) later ∙ ap phasing (sym (add-one n)) in
        elim (moves n later) [
          | stops e ↦ absurd (true≢false (sym e ∙ goes_on (suc n) later))
          | opens i e ↦ inl (omega (arith, e, this, next))
          | stays i e ↦ inr (omega (arith, e, this, next))
        ]

    keeps : (n : ℕ) → suc n < count → Keeps phasing holding n
    keeps n h =
        let this = stands_in n (omega (arith, h)) in
        let next = stands_in (suc n) h in
        elim (moves n h) [
          | stops e ↦ absurd (true≢false (sym e ∙ goes_on (suc n) h))
          | opens i e ↦ record {
            held = omega (arith, holder_first (standing (suc n)) (index (suc n)) i, e, this);
            onwards = omega (arith, e, this, next);
          }
          | stays i e ↦ record {
            held = holder_own (standing (suc n)) (index (suc n)) i ∙ e ∙ this;
            onwards = omega (arith, e, this, next);
          }
        ]

    adding : (n : ℕ) → n < count → Adds phasing holding falling rising lasting n
    adding n h = record {
      adds = λ q.
          ap (λ (y : Host). ticks_of y.phases q) (hosts_suc n (here n h) h)
          ∙ shared n (hosts n) (here n h) h q
          ∙ ap (λ (k : ℕ). lasting n q + share q (holding n) (falling n - last_rise rising n) + share q k (rising n - falling n)) (stands_in n h);
    }

    first_fall : falling 0 ≡ 0
    first_fall = ap (λ (y : ℕ). y / s.p) (edge_first s whole.pulses) ∙ zero-div s.p

    falls_rises : (n : ℕ) → falling n ≤ rising n
    falls_rises n =
        tick_on (time (2 * n)) (time (2 * n + 1)) s.p some_tick
        (omega (arith, edge_on s whole.pulses (2 * n), ap time (add-one (2 * n))))

    rises_falls : (n : ℕ) → rising n ≤ falling (suc n)
    rises_falls n =
        let two : 2 * suc n ≡ suc (2 * n + 1) = omega arith in
        tick_on (time (2 * n + 1)) (time (2 * suc n)) s.p some_tick (omega (arith, edge_on s whole.pulses (2 * n + 1), ap time two))

    module _ (empty : x.phases ≡ none) where
      runs_on : (n q : ℕ) → n ≤ count
          → stamp falling rising n (calls_before phasing n q) + lasting n q ≡ stamp falling rising n (calls_before phasing n (q + 1))
      runs_on n q h =
          let to = ap (λ (k : ℕ). stamp falling rising n (calls_before phasing n k)) (add-one q) in
          let run = runs phasing holding falling rising lasting first_fall (λ k. ap (λ (p : PhaseTicks). ticks_of p k) empty ∙ none_ticks k)
          falls_rises rises_falls n (λ k b. keeps k (omega (arith, b, h))) (λ k b. adding k (omega (arith, b, h))) q in
          omega (arith, run, to)

      runs_none : (n q : ℕ) → n ≤ count → ((k : ℕ) → k < n → phasing k ≡ q → ⊥) → lasting n q ≡ 0
      runs_none n q h none =
          let same = ap (stamp falling rising n) (ap (calls_before phasing n) (add-one q) ∙ none_before phasing n q none) in
          omega (arith, runs_on n q h, same)

    pub plays : load.length.0 ≤ size → x.phases ≡ none → Sends s load.command size lent seen x
    plays short empty = record {
      hosts = hosts;
      first = refl;
      steps = step_is;
      pulses = pulse_is;
      going = λ n h. (goes n (hosts n) (here n h) h).on;
      ending = ap (λ (q : Place). q.phase) ends;
      closed = refuses;
      counted = λ n h. (hosts_at n h).counted;
      counted_ones = λ n h. (hosts_at n h).counted_ones;
      counted_zeros = λ n h. (hosts_at n h).counted_zeros;
      stands = stands_in;
      onwards = onwards;
      phases_sum = λ n h. (hosts_at n h).summed;
      phases_each = runs_on empty;
      phases_none = runs_none empty;
      not_late = λ k. div-mul-le_self (time k) s.p;
      early = λ k. lt-div-mul-add some_tick;
      bound = omega (arith, few, short);
      longest = omega (arith, at_last.counted, pulses_most last.session ((session_within last.session).1 at_last.kept.within));
    }
