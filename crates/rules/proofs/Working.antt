-- Where a pulse leads with its work done: silently, with a reply, to a boot or a launch, or with other bytes in a memory.
-- Assumes nothing.
use mathlib.Core.Bool.{Bool, true, false}
use mathlib.Core.List.{List, ◌++◌}
use mathlib.Core.Path.{◌≡◌, refl, sym, ap, ◌∙◌}
use Prim.Native.Nat.{ℕ, ◌+◌, ◌*◌, ◌%◌, ◌≤◌, ◌<◌}
use native.Mathlib.Omega.{arith}
use lib.Dec.{eqb}
use lib.ListN.{take, drop}
use borrow.Author.Tests.{eq-eqb, ne_eqb, lt-ltb, le-ltb}
use Rattle.terms.specs.Choice.{when}
use Rattle.terms.specs.Refusals.{taken}
use Rattle.terms.proofs.Tests.{when_true, when_false}
use Rattle.units.specs.Line.{Line, bit, told}
use Rattle.units.specs.declared.Longs.{Longs}
use Rattle.units.specs.declared.Seen.TheVariants.{Silence}
use Rattle.lent.specs.Bytes.{total}
use Rattle.sequence.specs.Sequence.{draw}
use Rattle.ram.specs.Ram.{sums_to_zero, launches}
use Rattle.phases.specs.Phases.{ended}
use Rattle.phases.specs.declared.Acknowledgement.TheVariants.{Stored, Programmed, Verified, Failed}
use Rattle.phases.specs.declared.Phase.{Phase}
use Rattle.phases.specs.declared.Phase.TheVariants.{Answer, Rest, Long, Align}
use Rattle.phases.specs.declared.Reply.{Reply}
use Rattle.phases.specs.declared.Reply.TheVariants.{Acknowledging}
use Rattle.line.specs.Reading.{grown}
use Rattle.line.specs.Replies.{reply_bit, shown}
use Rattle.listener.specs.Heard.{quiet, booting, launching, led, agree, after_draw, compared, stored, received_long, read_long, heard}
use Rattle.listener.specs.Settled.{settled}
use Rattle.listener.specs.declared.Event.TheVariants.{Nothing, Store, Finish, Program, Verify}
use Rattle.listener.specs.declared.Heard.{Heard}
use Rattle.countdown.specs.Countdown.{anew, counting}
use Rattle.receiver.specs.Late.{after_late}
use Rattle.eeprom.specs.Eeprom.{acknowledges, verifies}
use Rattle.chip.specs.Step.{left, chip_step, played}
use Rattle.chip.specs.Work.{Worked, worked, went, done}
use Rattle.chip.proofs.Reached.{chip_kept}
use Rattle.chip.proofs.Within.{Within}
use Rattle.rules.specs.Pulses.{Pulse, put, bytes_of, loaded, pages, programmed, threshold, command, size, fault, At, Late, Timely, rest, bit_read, read}
use Rattle.rules.specs.Pulses.{become, Leads, Replies, Stores, Launches, Boots}
use Rattle.rules.proofs.Memories.{long_put, load_finished, alive, boot_done, boot_dead, program_done}
use Rattle.rules.proofs.Playing.{listener, received, leaves, stepped, on_time, too_late}

pub agree_equal : (a b : Bool) → a ≡ b → agree a b ≡ true
agree_equal true b e = sym e
agree_equal false true e = e
agree_equal false false e = refl

pub agree_other : (a b : Bool) → (a ≡ b → ⊥) → agree a b ≡ false
agree_other true true e = absurd (e refl)
agree_other true false e = refl
agree_other false true e = refl
agree_other false false e = absurd (e refl)

module _ (x : Pulse) where
  -- The work, and what the step leaves with it done.
  abbrev works : Heard → Worked
  works h = done (fault x) h.event x.ram x.eeprom

  with_work : (h : Heard) (n : ℕ) (w : Worked) → works h ≡ w → stepped x ≡ leaves x h n → stepped x ≡ played (received x h n) w
  with_work h n w e s = s ∙ ap (played (received x h n)) e

  pub boots : stepped x ≡ leaves x (booting (listener x)) (rest x) → Boots x chip_step
  unfolding settled when
  boots s =
      let f = fault x in
      let boot = boot_done x.ram x.eeprom x.ram_size x.eeprom_size f in
      let leave : (w : Worked) → works (booting (listener x)) ≡ w → stepped x ≡ played (received x (booting (listener x)) (rest x)) w =
      λ w e. with_work (booting (listener x)) (rest x) w e s in
      record {
        launched = λ d w. leave _ (boot (alive f d) true (eq-eqb _ _ w));
        shut = λ d w. leave _ (boot (alive f d) false (ne_eqb _ _ w));
        dead = λ d. leave _ (boot_dead x.ram x.eeprom x.ram_size x.eeprom_size f (ap acknowledges d));
      }

  -- Silently, with no work: on time, and too late.
  module _ (p q : Phase) (n : ℕ) (at : At x p) (going : ended p ≡ false) (left : counting p q (rest x) ≡ n) where
    pub leads : Timely x → heard (listener x) p x.low (bit_read x) ≡ quiet (listener x) q → Leads x chip_step q n
    unfolding settled when
    leads t e = on_time x p at going (quiet (listener x) q) n left t e

    pub late_leads : Late x → after_late (listener x) p ≡ quiet (listener x) q → Leads x chip_step q n
    unfolding settled when
    late_leads t e = too_late x p at going (quiet (listener x) q) n left t e

  -- A reply at the rise of its first pulse.
  pub replies : (r : Reply) (b : ℕ) → At x (Answer r) → Timely x → told (shown (reply_bit r)) ≡ bit b → Replies x chip_step b (Rest r) (rest x)
  unfolding settled when
  replies r b at t e =
      on_time x (Answer r) at refl (led (listener x) (Rest r) Nothing (shown (reply_bit r))) (rest x) refl t refl
      ∙ ap (λ (v : Line). left (taken (record { chip = become x (threshold x) (command x) (size x) (Rest r) (rest x) (fault x); reply = v })) x.ram x.eeprom) e

  -- A bit of a value, but the last.
  pub goes_on : (n : ℕ) → anew (eqb (n + 1) 0) (rest x) ≡ rest x
  unfolding anew
  goes_on n = when_false _ _ (ne_eqb (n + 1) 0 (λ e. omega (arith, e)))

  pub handshake_goes : (k : ℕ) → bit_read x ≡ draw k → compared (listener x) k (bit_read x) ≡ quiet (listener x) (after_draw k)
  unfolding compared
  handshake_goes k e = when_true _ _ (agree_equal (bit_read x) (draw k) e)

  -- The launch test.
  pub launches_so : (p : Phase) → At x p → ended p ≡ false → Timely x → heard (listener x) p x.low (bit_read x) ≡ launching (listener x)
      → Launches x chip_step
  unfolding settled when
  launches_so p at going t e =
      let s = on_time x p at going (launching (listener x)) (rest x) refl t e in
      let leave : (b : Bool) → launches x.ram ≡ b
      → stepped x ≡ played (received x (launching (listener x)) (rest x)) (worked (went b (fault x)) x.ram x.eeprom) =
      λ b g. with_work (launching (listener x)) (rest x) _ (ap (λ (c : Bool). worked (went c (fault x)) x.ram x.eeprom) g) s in
      record { launched = λ w. leave true (eq-eqb _ _ w); shut = λ w. leave false (ne_eqb _ _ w) }

  -- What is known of a chip within its ranges.
  abbrev known : Within (listener x)
  known = ((chip_kept x.chip).0 x.within).within.within

  -- The last bit of a long: where it leads, and what it leaves in RAM.
  module _ (k : Longs) (bits : ℕ) (at : At x (Long 31 k bits)) (t : Timely x) where
    abbrev long : ℕ
    long = read x bits

    pub long_stored : k.0 + 1 < size x
        → Stores x chip_step (put (4 * k.0) (bytes_of long) x.ram) (Long 0 (record { 0 = k.0 + 1 }) 0) 250000
    unfolding settled when grown read_long received_long anew
    long_stored more =
        let h = led (listener x) (Long 0 (record { 0 = k.0 + 1 }) 0) (Store k long) Silence in
        let small : k.0 < 8192 = omega (arith, more, known.short) in
        with_work h 250000 _
        (ap (λ (m : List ℕ). worked (went true (fault x)) m x.eeprom) (long_put k.0 long x.ram small x.ram_size))
        (on_time x (Long 31 k bits) at refl h 250000 refl t (when_true _ _ (lt-ltb _ _ more)))

    module _ (last : k.0 + 1 ≡ size x) where
      abbrev full : List ℕ
      full = loaded k.0 long x.ram

      load_done : (b : Bool) → eqb (total full % 256) 0 ≡ b
          → stepped x ≡ played (received x (led (listener x) (Align Stored) (Finish k long) Silence) 250000) (worked (went b (fault x)) full x.eeprom)
      unfolding when grown read_long received_long anew
      load_done b e =
          let h = led (listener x) (Align Stored) (Finish k long) Silence in
          let small : k.0 < 8192 = omega (arith, last, known.short) in
          let none : size x ≤ k.0 + 1 = omega (arith, last) in
          let same = load_finished k.0 long x.ram small x.ram_size in
          with_work h 250000 _
          (ap (λ (m : List ℕ). worked (went (sums_to_zero m) (fault x)) m x.eeprom) same
          ∙ ap (λ (c : Bool). worked (went c (fault x)) full x.eeprom) e)
          (on_time x (Long 31 k bits) at refl h 250000 refl t (when_false _ _ (le-ltb (k.0 + 1) (size x) none)))

      pub sum_good : total full % 256 ≡ 0 → Stores x chip_step full (Align Stored) 250000
      unfolding settled when
      sum_good e = load_done true (eq-eqb _ _ e)

      pub sum_bad : (total full % 256 ≡ 0 → ⊥) → Stores x chip_step full (Align Failed) 250000
      unfolding settled when
      sum_bad e = load_done false (ne_eqb _ _ e)

  -- After the acknowledgement of a good checksum: programming.
  module _ (at : At x (Rest (Acknowledging Stored))) (t : Timely x) (least : 2 ≤ command x) where
    abbrev copied : List ℕ
    copied = take (64 * pages (fault x)) x.ram ++ drop (64 * pages (fault x)) x.eeprom

    pub program : (b : Bool) → eqb (pages (fault x)) 512 ≡ b
        → stepped x ≡ played (received x (led (listener x) (Align Programmed) Program Silence) 250000) (worked (went b (programmed (fault x))) x.ram copied)
    unfolding anew when stored
    program b e =
        let h = led (listener x) (Align Programmed) Program Silence in
        let other : command x ≡ 1 → ⊥ = omega (arith, least) in
        with_work h 250000 _
        (program_done x.ram x.eeprom x.ram_size x.eeprom_size (fault x) ((chip_kept x.chip).0 x.within).sound b e)
        (on_time x (Rest (Acknowledging Stored)) at refl h 250000 refl t (when_false _ _ (ne_eqb (command x) 1 other)))

  -- After that of the programming: the comparison.
  module _ (at : At x (Rest (Acknowledging Programmed))) (t : Timely x) where
    pub compares : (b : Bool) → verifies (fault x) x.ram x.eeprom ≡ b
        → stepped x ≡ played (received x (led (listener x) (Align Verified) Verify Silence) 250000) (worked (went b (fault x)) x.ram x.eeprom)
    unfolding anew when
    compares b e =
        let h = led (listener x) (Align Verified) Verify Silence in
        with_work h 250000 _ (ap (λ (c : Bool). worked (went c (fault x)) x.ram x.eeprom) e)
        (on_time x (Rest (Acknowledging Programmed)) at refl h 250000 refl t refl)
