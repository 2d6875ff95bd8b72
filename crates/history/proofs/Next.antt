-- Each pulse keeps what is known of the chip: by its phase, whether the pulse times out or is read, and whether its work goes well.
-- Assumes nothing.
use mathlib.Core.Bool.{Bool, true, false}
use mathlib.Core.Path.{◌≡◌, refl, sym, ap, ◌∙◌, subst}
use Prim.Native.Nat.{ℕ, ◌+◌, ◌-◌, ◌*◌, ◌^◌, ◌≤◌, ◌<◌}
use native.Mathlib.Nat.{mul-one}
use native.Mathlib.Omega.{arith}
use lib.Dec.{ltb, eqb}
use borrow.Author.Tests.{ltb-true, ltb-false, eqb-true, eqb-false}
use Rattle.terms.specs.Choice.{when}
use Rattle.terms.proofs.Tests.{when_elim}
use Rattle.sequence.specs.Sequence.{draw}
use Rattle.units.specs.declared.Longs.{Longs}
use Rattle.units.specs.declared.Seen.{Seen}
use Rattle.units.specs.declared.Seen.TheVariants.{Silence}
use Rattle.phases.specs.declared.Acknowledgement.{Acknowledgement}
use Rattle.phases.specs.declared.Acknowledgement.TheVariants.{Stored, Programmed, Verified, Failed}
use Rattle.phases.specs.declared.Ending.{Ending}
use Rattle.phases.specs.declared.Ending.TheVariants.{Launched, Booted, Shut, Off}
use Rattle.phases.specs.declared.Phase.{Phase}
use Rattle.phases.specs.declared.Phase.TheVariants.{First, Second, Handshake, Answer, Rest, Command, Size, Long, Align, Ended}
use Rattle.phases.specs.declared.Reply.TheVariants.{Connection, Acknowledging}
use Rattle.listener.specs.Heard.{with_threshold, with_command, with_size, led, booting, launching, shutting, agree, after_draw, compared, after_connection, stored, verified, acknowledged, received_command, received_size, received_long, read_command, read_size, read_long, aligned, heard}
use Rattle.listener.specs.Heard as said
use Rattle.listener.specs.Settled.{failed, settled}
use Rattle.receiver.specs.Hears.{hears}
use Rattle.receiver.specs.declared.Received.{Received}
use Rattle.receiver.specs.Late.{late_acknowledgement, after_late}
use Rattle.line.specs.Reading.{threshold_of, reads, grown}
use Rattle.listener.specs.declared.Event.{Event}
use Rattle.listener.specs.declared.Event.TheVariants.{Nothing, Store, Finish, Program, Verify}
use Rattle.listener.specs.declared.Heard.{Heard}
use Rattle.listener.specs.declared.Listener.{Listener}
use Rattle.chip.specs.Work.{Worked, done}
use Rattle.history.specs.Download.{spelled, bit_of, Acknowledged}
use Rattle.history.specs.History.{State, Played}
use Rattle.history.proofs.Known.{Matched, Shaking, Connecting, Commanding, Commanded, Summed, Answered, Known, KnownOf}
use Rattle.history.proofs.Later.{agree_same, later, since, matched_more, read_more}

module _ (wait low : ℕ → ℕ) (n : ℕ) (s : State) (played : Played wait low n s) where
  -- The work, and what is then to be known.
  abbrev work : Event → Worked
  work event = done s.chip.fault event s.ram s.eeprom

  abbrev pub Next : Heard → Type 0
  Next h = KnownOf wait low (n + 1) (work h.event).ram (settled h (work h.event).done.good)

  well_or_not : (h : Heard) → ((work h.event).done.good ≡ true → KnownOf wait low (n + 1) (work h.event).ram h.listener)
      → ((work h.event).done.good ≡ false → KnownOf wait low (n + 1) (work h.event).ram (failed h.listener h.event))
      → Next h
  unfolding settled
  well_or_not h t f = when_elim (KnownOf wait low (n + 1) (work h.event).ram) _ _ _ t f

  -- No work.
  idle : (l : Listener) (phase : Phase) (reply : Seen) → Known wait low (n + 1) s.ram l.threshold.0 l.command phase
      → Next (led l phase Nothing reply)
  idle l phase reply k = well_or_not (led l phase Nothing reply) (λ e. k) (λ e. k)

  boots : (l : Listener) → Next (booting l)
  boots l = well_or_not (booting l) (λ e. tt) (λ e. tt)

  shuts : (l : Listener) → Next (shutting l)
  shuts l = idle l (Ended Shut) Silence tt

  module _ (l : Listener) where
    abbrev t : ℕ
    t = l.threshold.0

    abbrev c : ℕ
    c = l.command

    abbrev Here : Phase → Type 0
    Here phase = Known wait low n s.ram t c phase

    abbrev There : Phase → Type 0
    There phase = Known wait low (n + 1) s.ram t c phase

    summed_on : (a : Acknowledgement) → Summed wait low n s.ram a → Summed wait low (n + 1) s.ram a
    summed_on Stored k = k
    summed_on Programmed k = since wait low n k
    summed_on Verified k = since wait low n k
    summed_on Failed k = tt

    launches : Commanded low n t c → (c ≡ 2 → ⊥) → Acknowledged wait low n → Next (launching l)
    launches k o a =
        well_or_not (launching l)
        (λ e. record { commanded = later low n t c k; other = o; acknowledged = since wait low n a })
        (λ e. tt)

    after_draw_lem : (k : ℕ) → Shaking low n t k → bit_of low (k + 2) ≡ draw k → There (after_draw k)
    unfolding after_draw
    after_draw_lem k h p =
        let sent : n ≡ k + 1 = h.pulses in
        let most : k ≤ 250 = h.most in
        let more = matched_more low t k h.before p in
        when_elim There (ltb k 250) (Handshake (k + 1)) (Answer (Connection 0))
        (λ e.
        let below : k < 250 = ltb-true k 250 e in
        record { pulses = omega (arith, sent); least = omega arith; most = omega (arith, below); before = more })
        (λ e.
        let above : 250 ≤ k = ltb-false k 250 e in
        let last : k + 1 ≡ 251 = omega (arith, above, most) in
        record {
          pulses = omega (arith, sent, last);
          most = omega arith;
          shaken = subst (Matched low t) last more;
        })

    handshake : (k : ℕ) → Shaking low n t k → Next (compared l k (reads t (low (n + 1))))
    unfolding compared
    handshake k h =
        let sent : n ≡ k + 1 = h.pulses in
        let here : n + 1 ≡ k + 2 = omega (arith, sent) in
        let bit : reads t (low (n + 1)) ≡ bit_of low (k + 2) =
        ap (λ (x : ℕ). reads t (low x)) here ∙ ap (λ (x : ℕ). reads x (low (k + 2))) h.before.calibrated in
        when_elim Next (agree (reads t (low (n + 1))) (draw k)) (said.quiet l (after_draw k)) (booting l)
        (λ e. idle l (after_draw k) Silence (after_draw_lem k h (sym bit ∙ agree_same _ _ e)))
        (λ e. boots l)

    connection : (k : ℕ) → Connecting low n t k 1 → There (after_connection k)
    unfolding after_connection spelled
    connection k h =
        let sent : n ≡ 252 + k * 2 + 1 = h.pulses in
        let most : k ≤ 257 = h.most in
        when_elim There (ltb k 257) (Answer (Connection (k + 1))) (Command 0 0)
        (λ e.
        let below : k < 257 = ltb-true k 257 e in
        record { pulses = omega (arith, sent); most = omega (arith, below); shaken = h.shaken })
        (λ e.
        let above : 257 ≤ k = ltb-false k 257 e in
        record { pulses = omega (arith, sent, above, most); most = omega arith; shaken = h.shaken; above = refl })

    acknowledges : (a : Acknowledgement) → Commanded low n t c → Answered wait low n a → Next (acknowledged l a)
    unfolding stored verified
    acknowledges Stored k a =
        when_elim Next (eqb c 1) (launching l) (led l (Align Programmed) Program Silence)
        (λ e. let one : c ≡ 1 = eqb-true c 1 e in launches k (λ two. omega (arith, one, two)) a)
        (λ e.
        well_or_not (led l (Align Programmed) Program Silence)
        (λ g. (later low n t c k, since wait low n a))
        (λ g. (later low n t c k, tt)))
    acknowledges Programmed k a =
        well_or_not (led l (Align Verified) Verify Silence)
        (λ g. (later low n t c k, since wait low n a))
        (λ g. (later low n t c k, tt))
    acknowledges Verified k a =
        when_elim Next (eqb c 2) (shutting l) (launching l)
        (λ e. shuts l)
        (λ e. launches k (eqb-false c 2 e) a)
    acknowledges Failed k a = shuts l

    command : (i bits : ℕ) → Commanding low n t i bits → Next (read_command l i (grown bits (reads t (low (n + 1)))))
    unfolding read_command received_command
    command i bits k =
        let sent : n ≡ 768 + i = k.pulses in
        let most : i ≤ 31 = k.most in
        let v = grown bits (reads t (low (n + 1))) in
        let more : v ≡ spelled (λ (j : ℕ). bit_of low (769 + j)) (i + 1) * 2 ^ (31 - i) = read_more low n t i bits k in
        when_elim Next (ltb i 31) (said.quiet l (Command (i + 1) v)) (received_command l v)
        (λ e.
        let below : i < 31 = ltb-true i 31 e in
        let zeros : 31 - i ≡ 32 - (i + 1) = omega arith in
        idle l (Command (i + 1) v) Silence (record {
          pulses = omega (arith, sent);
          most = omega (arith, below);
          shaken = k.shaken;
          above = more ∙ ap (λ (x : ℕ). spelled (λ (j : ℕ). bit_of low (769 + j)) (i + 1) * 2 ^ x) zeros;
        }))
        (λ e.
        let above : 31 ≤ i = ltb-false i 31 e in
        let last : i ≡ 31 = omega (arith, above, most) in
        when_elim Next (eqb v 0) (shutting l) (when (ltb 3 v) (shutting l) (said.quiet (with_command l v) (Size 0 0)))
        (λ z. shuts l)
        (λ z.
        let some : v ≡ 0 → ⊥ = eqb-false v 0 z in
        when_elim Next (ltb 3 v) (shutting l) (said.quiet (with_command l v) (Size 0 0))
        (λ b. shuts l)
        (λ b.
        let few : v ≤ 3 = ltb-false 3 v b in
        idle (with_command l v) (Size 0 0) Silence (record {
          pulses = omega (arith, sent, last);
          shaken = k.shaken;
          is = more ∙ ap (λ (x : ℕ). spelled (λ (j : ℕ). bit_of low (769 + j)) (x + 1) * 2 ^ (31 - x)) last ∙ mul-one _;
          least = omega (arith, some);
          most = few;
        }))))

    size : (i v : ℕ) → Commanded low n t c → Next (read_size l i v)
    unfolding read_size received_size
    size i v k =
        let on = later low n t c k in
        when_elim Next (ltb i 31) (said.quiet l (Size (i + 1) v)) (received_size l v)
        (λ e. idle l (Size (i + 1) v) Silence on)
        (λ e.
        when_elim Next (eqb v 0) (said.quiet l (Ended Off))
        (when (ltb 8192 v) (said.quiet l (Ended Off)) (said.quiet (with_size l v) (Long 0 (record { 0 = 0 }) 0)))
        (λ z. idle l (Ended Off) Silence tt)
        (λ z.
        when_elim Next (ltb 8192 v) (said.quiet l (Ended Off)) (said.quiet (with_size l v) (Long 0 (record { 0 = 0 }) 0))
        (λ b. idle l (Ended Off) Silence tt)
        (λ b. idle (with_size l v) (Long 0 (record { 0 = 0 }) 0) Silence on)))

    long : (k : Longs) (i v : ℕ) → Commanded low n t c → Next (read_long l k i v)
    unfolding read_long received_long
    long k i v h =
        let on = later low n t c h in
        when_elim Next (ltb i 31) (said.quiet l (Long (i + 1) k v)) (received_long l k v)
        (λ e. idle l (Long (i + 1) k v) Silence on)
        (λ e.
        when_elim Next (ltb (k.0 + 1) l.size.0)
        (led l (Long 0 (record { 0 = k.0 + 1 }) 0) (Store k v) Silence)
        (led l (Align Stored) (Finish k v) Silence)
        (λ m. well_or_not (led l (Long 0 (record { 0 = k.0 + 1 }) 0) (Store k v) Silence) (λ g. on) (λ g. on))
        (λ m. well_or_not (led l (Align Stored) (Finish k v) Silence) (λ g. (on, eqb-true _ _ g)) (λ g. (on, tt))))

    aligns : (a : Acknowledgement) (bit : Bool) → Here (Align a) → Next (aligned l a bit)
    unfolding aligned
    aligns a bit k =
        when_elim Next bit (said.quiet l (Align a)) (said.quiet l (Answer (Acknowledging a)))
        (λ e. idle l (Align a) Silence (later low n t c k.0, summed_on a k.1))
        (λ e. idle l (Answer (Acknowledging a)) Silence (later low n t c k.0, summed_on a k.1))

    answers : (a : Acknowledgement) → s.chip.receiver.listener.phase ≡ Answer (Acknowledging a) → Summed wait low n s.ram a → Answered wait low (n + 1) a
    answers Stored e k = record { pulses = n; earlier = omega arith; state = s; played = played; answering = e; sum = k }
    answers Programmed e k = since wait low n k
    answers Verified e k = since wait low n k
    answers Failed e k = tt

    ends : (e : Ending) → Here (Ended e) → There (Ended e)
    ends Launched k =
        record { commanded = later low n t c k.commanded; other = k.other; acknowledged = since wait low n k.acknowledged }
    ends Booted k = tt
    ends Shut k = tt
    ends Off k = tt

    -- A pulse that is read.
    heard_next : (phase : Phase) → s.chip.receiver.listener.phase ≡ phase → Here phase
        → Next (heard l phase (low (n + 1)) (reads t (low (n + 1))))
    heard_next First e k =
        let one : n + 1 ≡ 1 = omega (arith, k) in
        idle l (Second (record { 0 = low (n + 1) })) Silence (one, ap low one)
    heard_next (Second d) e k =
        let one : n ≡ 1 = k.0 in
        let two : n + 1 ≡ 2 = omega (arith, one) in
        idle (with_threshold l (threshold_of d.0 (low (n + 1)))) (Handshake 1) Silence (record {
          pulses = two;
          least = omega arith;
          most = omega arith;
          before = record {
            calibrated = ap (λ (x : ℕ). threshold_of x (low (n + 1))) k.1 ∙ ap (λ (x : ℕ). threshold_of (low 1) (low x)) two;
            matched = λ j a b. absurd (omega (arith, a, b));
          };
        })
    heard_next (Handshake k) e h = handshake k h
    heard_next (Answer (Connection k)) e h =
        let sent : n ≡ 252 + k * 2 + 0 = h.pulses in
        idle l (Rest (Connection k)) _ (record { pulses = omega (arith, sent); most = h.most; shaken = h.shaken })
    heard_next (Answer (Acknowledging a)) e h = idle l (Rest (Acknowledging a)) _ (later low n t c h.0, answers a e h.1)
    heard_next (Rest (Connection k)) e h = idle l (after_connection k) Silence (connection k h)
    heard_next (Rest (Acknowledging a)) e h = acknowledges a h.0 h.1
    heard_next (Command i bits) e h = command i bits h
    heard_next (Size i bits) e h = size i _ h
    heard_next (Long i k bits) e h = long k i _ h
    heard_next (Align a) e h = aligns a _ h
    heard_next (Ended x) e h = idle l (Ended x) Silence (ends x h)

    -- One that times out.
    late_acknowledged : (a : Acknowledgement) → Commanded low n t c → Next (said.quiet l (late_acknowledgement a))
    late_acknowledged Stored k = shuts l
    late_acknowledged Programmed k = idle l (Align Failed) Silence (later low n t c k, tt)
    late_acknowledged Verified k = idle l (Align Failed) Silence (later low n t c k, tt)
    late_acknowledged Failed k = shuts l

    late_next : (phase : Phase) → Here phase → Next (after_late l phase)
    late_next First k = boots l
    late_next (Second d) k = boots l
    late_next (Handshake k) h = boots l
    late_next (Answer (Connection k)) h = shuts l
    late_next (Answer (Acknowledging a)) h = late_acknowledged a h.0
    late_next (Rest (Connection k)) h = shuts l
    late_next (Rest (Acknowledging a)) h = late_acknowledged a h.0
    late_next (Command i bits) h = boots l
    late_next (Size i bits) h = boots l
    late_next (Long i k bits) h = boots l
    late_next (Align a) h = boots l
    late_next (Ended x) h = idle l (Ended x) Silence (ends x h)

  pub next : KnownOf wait low n s.ram s.chip.receiver.listener → Next (hears s.chip.receiver (wait (n + 1)) (low (n + 1))).heard
  unfolding hears
  next k =
      let l = s.chip.receiver.listener in
      when_elim (λ (r : Received). Next r.heard) _ _ _ (λ e. late_next l l.phase k) (λ e. heard_next l l.phase refl k)
