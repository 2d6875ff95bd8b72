-- The rules fix what a step leaves: for each record, wait, low and memory one of them applies, since a pulse is late or timely, and each
-- test that a rule asks for holds or doesn't.
-- Assumes nothing.
use mathlib.Core.Bool.{true, false}
use mathlib.Core.List.{List}
use mathlib.Core.Logic.{inl, inr}
use mathlib.Core.Path.{◌≡◌, refl, sym, ap, ◌∙◌, subst}
use Prim.Native.Nat.{ℕ, ◌+◌, ◌%◌, ◌≤◌, ◌<◌}
use native.Mathlib.Omega.{arith}
use lib.ListN.{length}
use borrow.Author.Tests.{leb-false}
use Rattle.terms.proofs.Tests.{either_false, less_false}
use Rattle.lent.specs.Bytes.{word_at, total}
use Rattle.sequence.specs.Sequence.{draw}
use Rattle.units.specs.declared.Longs.{Longs}
use Rattle.phases.specs.Phases.{ended}
use Rattle.phases.specs.Ranges.{draw_outside, size_outside, long_outside, phase_outside}
use Rattle.phases.specs.declared.Acknowledgement.{Acknowledgement}
use Rattle.phases.specs.declared.Acknowledgement.TheVariants.{Stored, Programmed, Verified, Failed}
use Rattle.phases.specs.declared.Phase.{Phase}
use Rattle.phases.specs.declared.Phase.TheVariants.{First, Second, Handshake, Answer, Rest, Command, Size, Long, Align, Ended}
use Rattle.phases.specs.declared.Reply.TheVariants.{Connection, Acknowledging}
use Rattle.chip.specs.Step.{Left, chip_outside, chip_step}
use Rattle.chip.specs.declared.Chip.{Chip}
use Rattle.chip.proofs.Reached.{chip_kept}
use Rattle.chip.proofs.Within.{Within}
use Rattle.rules.specs.Pulses.{Step, Pulse, loaded, pages, phase, command, size, countdown, fault, At, Late, Timely, bit_read, read, as_read, Launches, Boots}
use Rattle.rules.specs.Rules.{ChipRules, Ruled}
use Rattle.rules.proofs.Keeping.{kept}
use Rattle.rules.proofs.Tests.{same_number, same_bit, less_or_not, dead_or_not, not-true, pages_most, same_bytes}

-- All steps that keep the rules leave the same.
record Fixed (c : Chip) (ram eeprom : List ℕ) (wait low : ℕ) : Type 0 where
  outcome : Left
  all : (step : Step) → ChipRules step → step c ram eeprom wait low ≡ outcome

abbrev FixedAt : Pulse → Type 0
FixedAt x = Fixed x.chip x.ram x.eeprom x.wait x.low

module _ (x : Pulse) where
  -- By a rule that applies.
  by_rule : {o : Left} → ((step : Step) → ChipRules step → step x.chip x.ram x.eeprom x.wait x.low ≡ o) → FixedAt x
  by_rule e = record { outcome = _; all = e }

  by_time : (Timely x → FixedAt x) → (Late x → FixedAt x) → FixedAt x
  by_time t f = less_or_not (FixedAt x) (x.wait + x.low) (countdown x) t f

  by_boot : ((step : Step) → ChipRules step → Boots x step) → FixedAt x
  by_boot b =
      dead_or_not (FixedAt x) (fault x)
      (λ d. by_rule (λ step k. (b step k).dead d))
      (λ d.
      same_number (FixedAt x) (word_at (as_read x) 6) 16
      (λ w. by_rule (λ step k. (b step k).launched d w))
      (λ w. by_rule (λ step k. (b step k).shut d w)))

  by_launch : ((step : Step) → ChipRules step → Launches x step) → FixedAt x
  by_launch b =
      same_number (FixedAt x) (word_at x.ram 6) 16
      (λ w. by_rule (λ step k. (b step k).launched w))
      (λ w. by_rule (λ step k. (b step k).shut w))

  -- The chip's phase is one that its command and its size have.
  abbrev known : Within x.chip.receiver.listener
  known = ((chip_kept x.chip).0 x.within).within.within

  had : (p : Phase) → At x p → phase_outside (command x) (size x) p ≡ false
  had p at = ap (phase_outside (command x) (size x)) (sym at) ∙ known.had

  -- A bit of a value: not the last, or the last.
  by_bit : (n : ℕ) (p : ℕ → Phase) → At x (p n) → n ≤ 31 → (n < 31 → FixedAt x) → (At x (p 31) → FixedAt x) → FixedAt x
  by_bit n p at most t f =
      less_or_not (FixedAt x) n 31 t
      (λ e. let last : n ≡ 31 = omega (arith, most, e) in f (subst (λ (m : ℕ). At x (p m)) last at))

  -- A value: 0, from 1 up to a bound, or above it.
  by_value : (v most : ℕ) → (v ≡ 0 → FixedAt x) → (most < v → FixedAt x) → (1 ≤ v → v ≤ most → FixedAt x) → FixedAt x
  by_value v most zero above within =
      same_number (FixedAt x) v 0 zero
      (λ e. let some : 1 ≤ v = omega (arith, e) in less_or_not (FixedAt x) most v above (within some))

  by_reply : (k : ℕ) → At x (Answer (Connection k)) → Timely x → FixedAt x
  by_reply k at t =
      let most : k ≤ 257 = (less_false 257 k).0 (had (Answer (Connection k)) at) in
      less_or_not (FixedAt x) k 250
      (λ few. by_rule (λ step r. r.draw_replied x k at t few))
      (λ many.
      same_number (FixedAt x) k 250
      (λ e. by_rule (λ step r. r.version_1_replied x (subst (λ (m : ℕ). At x (Answer (Connection m))) e at) t))
      (λ e. let past : 250 < k = omega (arith, many, e) in by_rule (λ step r. r.version_0_replied x k at t past most)))

  by_draw : (k : ℕ) → At x (Handshake k) → Timely x → FixedAt x
  unfolding draw_outside
  by_draw k at t =
      let most : k ≤ 250 = (less_false 250 k).0 ((either_false _ _).0 (had (Handshake k) at)).1 in
      same_bit (FixedAt x) (bit_read x) (draw k)
      (λ e.
      less_or_not (FixedAt x) k 250
      (λ few. by_rule (λ step r. r.draw_matched x k at t e few))
      (λ many.
      let last : k ≡ 250 = omega (arith, most, many) in
      by_rule (λ step r.
      r.last_draw_matched x (subst (λ (m : ℕ). At x (Handshake m)) last at) t (subst (λ (m : ℕ). bit_read x ≡ draw m) last e))))
      (λ e. by_boot (λ step r. r.draw_mismatched x k at t e))

  by_connection : (k : ℕ) → At x (Rest (Connection k)) → Timely x → FixedAt x
  by_connection k at t =
      let most : k ≤ 257 = (less_false 257 k).0 (had (Rest (Connection k)) at) in
      less_or_not (FixedAt x) k 257
      (λ few. by_rule (λ step r. r.next_reply x k at t few))
      (λ many.
      let last : k ≡ 257 = omega (arith, most, many) in
      by_rule (λ step r. r.last_reply x (subst (λ (m : ℕ). At x (Rest (Connection m))) last at) t))

  by_command : (n bits : ℕ) → At x (Command n bits) → Timely x → FixedAt x
  by_command n bits at t =
      by_bit n (λ (m : ℕ). Command m bits) at ((less_false 31 n).0 (had (Command n bits) at))
      (λ few. by_rule (λ step r. r.command_bit_lem x n bits at t few))
      (λ last.
      by_value (read x bits) 3
      (λ e. by_rule (λ step r. r.command_0 x bits last t e))
      (λ many. let more : 4 ≤ read x bits = omega (arith, many) in by_rule (λ step r. r.command_4_and_above x bits last t more))
      (λ some few. by_rule (λ step r. r.command_1_to_3 x bits last t some few)))

  by_size : (n bits : ℕ) → At x (Size n bits) → Timely x → FixedAt x
  unfolding size_outside
  by_size n bits at t =
      by_bit n (λ (m : ℕ). Size m bits) at ((less_false 31 n).0 ((either_false _ _).0 (had (Size n bits) at)).1)
      (λ few. by_rule (λ step r. r.size_bit x n bits at t few))
      (λ last.
      by_value (read x bits) 8192
      (λ e. by_rule (λ step r. r.size_0 x bits last t e))
      (λ many. by_rule (λ step r. r.size_above_8192 x bits last t many))
      (λ some few. by_rule (λ step r. r.size_1_to_8192 x bits last t some few)))

  by_long : (n : ℕ) (k : Longs) (bits : ℕ) → At x (Long n k bits) → Timely x → FixedAt x
  unfolding long_outside size_outside
  by_long n k bits at t =
      let parts = (either_false _ _).0 (had (Long n k bits) at) in
      let more : k.0 < size x = leb-false (size x) k.0 parts.0 in
      by_bit n (λ (m : ℕ). Long m k bits) at ((less_false 31 n).0 ((either_false _ _).0 parts.1).1)
      (λ few. by_rule (λ step r. r.long_bit x n k bits at t few))
      (λ last.
      less_or_not (FixedAt x) (k.0 + 1) (size x)
      (λ next. by_rule (λ step r. r.long_stored x k bits last t next))
      (λ none.
      let full : k.0 + 1 ≡ size x = omega (arith, more, none) in
      same_number (FixedAt x) (total (loaded k.0 (read x bits) x.ram) % 256) 0
      (λ e. by_rule (λ step r. r.sum_good x k bits last t full e))
      (λ e. by_rule (λ step r. r.sum_bad x k bits last t full e))))

  by_alignment : (a : Acknowledgement) → At x (Align a) → Timely x → FixedAt x
  by_alignment a at t =
      same_bit (FixedAt x) (bit_read x) true
      (λ e. by_rule (λ step r. r.one_aligned x a at t e))
      (λ e. by_rule (λ step r. r.zero_aligned x a at t (not-true (bit_read x) e)))

  by_stored : At x (Rest (Acknowledging Stored)) → Timely x → FixedAt x
  by_stored at t =
      let least : 1 ≤ command x = (less_false (command x) 1).0 (had (Rest (Acknowledging Stored)) at) in
      same_number (FixedAt x) (command x) 1
      (λ e. by_launch (λ step r. r.command_1_done x at t e))
      (λ e.
      let more : 2 ≤ command x = omega (arith, least, e) in
      let most : pages (fault x) ≤ 512 = pages_most (fault x) ((chip_kept x.chip).0 x.within).sound in
      less_or_not (FixedAt x) (pages (fault x)) 512
      (λ few. by_rule (λ step r. r.some_programmed x at t more few))
      (λ many. let all : pages (fault x) ≡ 512 = omega (arith, most, many) in by_rule (λ step r. r.all_programmed x at t more all)))

  by_programmed : At x (Rest (Acknowledging Programmed)) → Timely x → FixedAt x
  by_programmed at t =
      dead_or_not (FixedAt x) (fault x)
      (λ d. by_rule (λ step r. r.none_compared x at t d))
      (λ d.
      same_bytes (FixedAt x) x.ram (as_read x)
      (λ e. by_rule (λ step r. r.all_compared x at t d e))
      (λ e. by_rule (λ step r. r.other_compared x at t e)))

  by_verified : At x (Rest (Acknowledging Verified)) → Timely x → FixedAt x
  by_verified at t =
      let least : 2 ≤ command x = (less_false (command x) 2).0 (had (Rest (Acknowledging Verified)) at) in
      let most : command x ≤ 3 = known.known in
      same_number (FixedAt x) (command x) 2
      (λ e. by_rule (λ step r. r.command_2_done x at t e))
      (λ e. let three : command x ≡ 3 = omega (arith, least, most, e) in by_launch (λ step r. r.command_3_done x at t three))

  fixed_at : (p : Phase) → At x p → FixedAt x
  fixed_at First at = by_time (λ t. by_rule (λ step r. r.first_low x at t)) (λ t. by_boot (λ step r. r.late_first_low x at t))
  fixed_at (Second d) at = by_time (λ t. by_rule (λ step r. r.second_low x d at t)) (λ t. by_boot (λ step r. r.late_second_low x d at t))
  fixed_at (Handshake k) at = by_time (by_draw k at) (λ t. by_boot (λ step r. r.late_draw x k at t))
  fixed_at (Answer (Connection k)) at = by_time (by_reply k at) (λ t. by_rule (λ step r. r.late_connection x k (inl at) t))
  fixed_at (Answer (Acknowledging Stored)) at =
      by_time (λ t. by_rule (λ step r. r.stored_replied x at t)) (λ t. by_rule (λ step r. r.late_stored x (inl at) t))
  fixed_at (Answer (Acknowledging Programmed)) at =
      by_time (λ t. by_rule (λ step r. r.programmed_replied x at t)) (λ t. by_rule (λ step r. r.late_programmed x (inl at) t))
  fixed_at (Answer (Acknowledging Verified)) at =
      by_time (λ t. by_rule (λ step r. r.verified_replied x at t)) (λ t. by_rule (λ step r. r.late_verified x (inl at) t))
  fixed_at (Answer (Acknowledging Failed)) at =
      by_time (λ t. by_rule (λ step r. r.failed_replied x at t)) (λ t. by_rule (λ step r. r.late_failed x (inl at) t))
  fixed_at (Rest (Connection k)) at = by_time (by_connection k at) (λ t. by_rule (λ step r. r.late_connection x k (inr at) t))
  fixed_at (Rest (Acknowledging Stored)) at = by_time (by_stored at) (λ t. by_rule (λ step r. r.late_stored x (inr at) t))
  fixed_at (Rest (Acknowledging Programmed)) at = by_time (by_programmed at) (λ t. by_rule (λ step r. r.late_programmed x (inr at) t))
  fixed_at (Rest (Acknowledging Verified)) at = by_time (by_verified at) (λ t. by_rule (λ step r. r.late_verified x (inr at) t))
  fixed_at (Rest (Acknowledging Failed)) at =
      by_time (λ t. by_rule (λ step r. r.failed_done x at t)) (λ t. by_rule (λ step r. r.late_failed x (inr at) t))
  fixed_at (Command n bits) at = by_time (by_command n bits at) (λ t. by_boot (λ step r. r.late_command x n bits at t))
  fixed_at (Size n bits) at = by_time (by_size n bits at) (λ t. by_boot (λ step r. r.late_size x n bits at t))
  fixed_at (Long n k bits) at = by_time (by_long n k bits at) (λ t. by_boot (λ step r. r.late_long x n k bits at t))
  fixed_at (Align a) at = by_time (by_alignment a at) (λ t. by_boot (λ step r. r.late_aligning x a at t))
  fixed_at (Ended e) at = by_rule (λ step r. r.refused_14 x (ap ended at))

fixed : (c : Chip) (ram eeprom : List ℕ) (wait low : ℕ) → Fixed c ram eeprom wait low
fixed c ram eeprom wait low =
    same_number (Fixed c ram eeprom wait low) (length ram) 32768
    (λ r.
    same_number (Fixed c ram eeprom wait low) (length eeprom) 32768
    (λ e.
    same_bit (Fixed c ram eeprom wait low) (chip_outside c) true
    (λ o. record { outcome = _; all = λ step k. k.refused_13 c ram eeprom wait low r e o })
    (λ o.
    let x : Pulse = record {
      chip = c;
      ram = ram;
      eeprom = eeprom;
      wait = wait;
      low = low;
      within = not-true (chip_outside c) o;
      ram_size = r;
      eeprom_size = e;
    } in
    fixed_at x (phase x) refl))
    (λ e. record { outcome = _; all = λ step k. k.refused_11 c ram eeprom wait low r e }))
    (λ r. record { outcome = _; all = λ step k. k.refused_10 c ram eeprom wait low r })

pub ruled : Ruled
ruled = record {
  kept = kept;
  only = λ step k c ram eeprom wait low.
      let f = fixed c ram eeprom wait low in
      f.all step k ∙ sym (f.all chip_step kept);
}
