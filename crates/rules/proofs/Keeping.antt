-- The chip's step keeps its rules: each sentence by where its pulse leads, and by the work that follows.
-- Assumes nothing.
use mathlib.Core.Bool.{Bool, true, false}
use mathlib.Core.List.{List}
use mathlib.Core.Logic.{inl, inr}
use mathlib.Core.Path.{◌≡◌, refl, sym, ap, ◌∙◌}
use Prim.Native.Nat.{ℕ, ◌+◌, ◌/◌, ◌≤◌, ◌<◌}
use native.Mathlib.Omega.{arith}
use borrow.Author.Tests.{eq-eqb, ne_eqb, lt-ltb, le-ltb}
use Rattle.terms.specs.Choice.{when}
use Rattle.terms.specs.Refusals.{taken}
use Rattle.terms.proofs.Refusals.{row_given, row_passed, differs, agrees}
use Rattle.terms.proofs.Tests.{when_true, when_false}
use Rattle.units.specs.Line.{silence, bit, told}
use Rattle.sequence.specs.Sequence.{draw}
use Rattle.phases.specs.Phases.{ended}
use Rattle.phases.specs.declared.Acknowledgement.TheVariants.{Stored, Programmed, Verified, Failed}
use Rattle.phases.specs.declared.Ending.TheVariants.{Shut, Off}
use Rattle.phases.specs.declared.Phase.{Phase}
use Rattle.phases.specs.declared.Phase.TheVariants.{First, Second, Handshake, Answer, Rest, Command, Size, Long, Align, Ended}
use Rattle.phases.specs.declared.Reply.{Reply}
use Rattle.phases.specs.declared.Reply.TheVariants.{Connection, Acknowledging}
use Rattle.line.specs.Reading.{grown}
use Rattle.line.specs.Replies.{connection_bit, shown}
use Rattle.listener.specs.Heard.{with_threshold, with_command, with_size, quiet, booting, after_draw, compared, after_connection, stored, verified, received_command, received_size, read_command, read_size, read_long, aligned}
use Rattle.listener.specs.Settled.{settled}
use Rattle.countdown.specs.Countdown.{anew, counting}
use Rattle.receiver.specs.Late.{late_reply, after_late}
use Rattle.eeprom.specs.Eeprom.{acknowledges}
use Rattle.chip.specs.Step.{left, chip_step}
use Rattle.chip.proofs.Steps.{step_refused}
use Rattle.rules.specs.Pulses.{Pulse, pages, programmed, threshold, command, size, fault, At, Late, rest, bit_read, read}
use Rattle.rules.specs.Rules.{ChipRules}
use Rattle.rules.specs.Pulses.{In, become, Leads, Boots}
use Rattle.rules.proofs.Memories.{alive, all_copied, compares_so, compares_other, compares_not}
use Rattle.rules.proofs.Playing.{listener, on_time, too_late}
use Rattle.rules.proofs.Working.{agree_other, boots, leads, late_leads, replies, goes_on, handshake_goes, launches_so, long_stored, sum_good, sum_bad, program, compares}

-- A bit as the line shows it.
shown_told : (b : Bool) → told (shown b) ≡ bit (when b 1 0)
unfolding shown when
shown_told true = refl
shown_told false = refl

connection_draw : (k : ℕ) → k < 250 → told (shown (connection_bit k)) ≡ bit (when (draw (251 + k)) 1 0)
unfolding connection_bit
connection_draw k few = ap (λ (b : Bool). told (shown b)) (when_true _ _ (lt-ltb k 250 few)) ∙ shown_told (draw (251 + k))

version_zero : (k : ℕ) → 250 < k → told (shown (connection_bit k)) ≡ bit 0
unfolding connection_bit shown when
version_zero k many =
    let past : 250 ≤ k = omega (arith, many) in
    let other : k ≡ 250 → ⊥ = omega (arith, many) in
    ap (λ (b : Bool). told (shown b)) (when_false _ _ (le-ltb k 250 past) ∙ ne_eqb k 250 other)

-- A time-out in either pulse of a reply.
late_reply_lem : (x : Pulse) (r : Reply) (q : Phase) (n : ℕ) → counting (Answer r) q (rest x) ≡ n → counting (Rest r) q (rest x) ≡ n
    → late_reply r ≡ q → In x r → Late x → Leads x chip_step q n
late_reply_lem x r q n a b e (inl at) t = late_leads x (Answer r) q n at refl a t (ap (quiet (listener x)) e)
late_reply_lem x r q n a b e (inr at) t = late_leads x (Rest r) q n at refl b t (ap (quiet (listener x)) e)

late_boots : (x : Pulse) (p : Phase) → At x p → ended p ≡ false → after_late (listener x) p ≡ booting (listener x) → Late x → Boots x chip_step
late_boots x p at going e t = boots x (too_late x p at going (booting (listener x)) (rest x) refl t e)

pub kept : ChipRules chip_step
unfolding settled when anew grown after_draw after_connection connection_bit shown read_command received_command read_size received_size read_long aligned stored verified compared
kept = record {
  first_low = λ x at t. leads x First (Second (record { 0 = x.low })) (rest x) at refl refl t refl;
  second_low = λ x d at t.
      on_time x (Second d) at refl (quiet (with_threshold (listener x) ((d.0 + x.low) / 2)) (Handshake 1)) (rest x) refl t refl;
  draw_matched = λ x k at t e few.
      leads x (Handshake k) (Handshake (k + 1)) (rest x) at refl refl t
      (handshake_goes x k e ∙ ap (quiet (listener x)) (when_true _ _ (lt-ltb k 250 few)));
  last_draw_matched = λ x at t e. leads x (Handshake 250) (Answer (Connection 0)) 250000 at refl refl t (handshake_goes x 250 e);
  draw_mismatched = λ x k at t e.
      boots x (on_time x (Handshake k) at refl (booting (listener x)) (rest x) refl t (when_false _ _ (agree_other (bit_read x) (draw k) e)));
  draw_replied = λ x k at t few. replies x (Connection k) (when (draw (251 + k)) 1 0) at t (connection_draw k few);
  version_1_replied = λ x at t. replies x (Connection 250) 1 at t refl;
  version_0_replied = λ x k at t many most. replies x (Connection k) 0 at t (version_zero k many);
  next_reply = λ x k at t few.
      leads x (Rest (Connection k)) (Answer (Connection (k + 1))) 250000 at refl refl t (ap (quiet (listener x)) (when_true _ _ (lt-ltb k 257 few)));
  last_reply = λ x at t. leads x (Rest (Connection 257)) (Command 0 0) 250000 at refl refl t refl;
  command_bit_lem = λ x n bits at t few.
      leads x (Command n bits) (Command (n + 1) (read x bits)) (rest x) at refl (goes_on x n) t (when_true _ _ (lt-ltb n 31 few));
  command_0 = λ x bits at t e. leads x (Command 31 bits) (Ended Shut) (rest x) at refl refl t (when_true _ _ (eq-eqb _ _ e));
  command_4_and_above = λ x bits at t many.
      let v = read x bits in
      let other : v ≡ 0 → ⊥ = omega (arith, many) in
      leads x (Command 31 bits) (Ended Shut) (rest x) at refl refl t
      (when_false _ _ (ne_eqb v 0 other) ∙ when_true _ _ (lt-ltb 3 v (omega (arith, many))));
  command_1_to_3 = λ x bits at t some few.
      let v = read x bits in
      let other : v ≡ 0 → ⊥ = omega (arith, some) in
      on_time x (Command 31 bits) at refl (quiet (with_command (listener x) v) (Size 0 0)) 250000 refl t
      (when_false _ _ (ne_eqb v 0 other) ∙ when_false _ _ (le-ltb 3 v few));
  size_bit = λ x n bits at t few.
      leads x (Size n bits) (Size (n + 1) (read x bits)) (rest x) at refl (goes_on x n) t (when_true _ _ (lt-ltb n 31 few));
  size_0 = λ x bits at t e. leads x (Size 31 bits) (Ended Off) (rest x) at refl refl t (when_true _ _ (eq-eqb _ _ e));
  size_above_8192 = λ x bits at t many.
      let v = read x bits in
      let other : v ≡ 0 → ⊥ = omega (arith, many) in
      leads x (Size 31 bits) (Ended Off) (rest x) at refl refl t (when_false _ _ (ne_eqb v 0 other) ∙ when_true _ _ (lt-ltb 8192 v many));
  size_1_to_8192 = λ x bits at t some few.
      let v = read x bits in
      let other : v ≡ 0 → ⊥ = omega (arith, some) in
      on_time x (Size 31 bits) at refl (quiet (with_size (listener x) v) (Long 0 (record { 0 = 0 }) 0)) 250000 refl t
      (when_false _ _ (ne_eqb v 0 other) ∙ when_false _ _ (le-ltb 8192 v few));
  long_bit = λ x n k bits at t few.
      leads x (Long n k bits) (Long (n + 1) k (read x bits)) (rest x) at refl (goes_on x n) t (when_true _ _ (lt-ltb n 31 few));
  long_stored = long_stored;
  sum_good = sum_good;
  sum_bad = sum_bad;
  one_aligned = λ x a at t e. leads x (Align a) (Align a) (rest x) at refl refl t (when_true _ _ e);
  zero_aligned = λ x a at t e. leads x (Align a) (Answer (Acknowledging a)) 250000 at refl refl t (when_false _ _ e);
  failed_replied = λ x at t. replies x (Acknowledging Failed) 1 at t refl;
  failed_done = λ x at t. leads x (Rest (Acknowledging Failed)) (Ended Shut) (rest x) at refl refl t refl;
  stored_replied = λ x at t. replies x (Acknowledging Stored) 0 at t refl;
  all_programmed = λ x at t least all.
      program x at t least true (eq-eqb _ _ all)
      ∙ ap (λ (m : List ℕ). left (taken (record { chip = become x (threshold x) (command x) (size x) (Align Programmed) 250000 (programmed (fault x)); reply = silence })) x.ram m)
      (all_copied x.ram x.eeprom x.ram_size x.eeprom_size (fault x) all);
  programmed_replied = λ x at t. replies x (Acknowledging Programmed) 0 at t refl;
  all_compared = λ x at t d e. compares x at t true (compares_so x.ram x.eeprom x.ram_size x.eeprom_size (fault x) (alive (fault x) d) e);
  verified_replied = λ x at t. replies x (Acknowledging Verified) 0 at t refl;
  some_programmed = λ x at t least few.
      let other : pages (fault x) ≡ 512 → ⊥ = omega (arith, few) in
      program x at t least false (ne_eqb _ _ other);
  none_compared = λ x at t d. compares x at t false (compares_not x.ram x.eeprom x.ram_size x.eeprom_size (fault x) (ap acknowledges d));
  other_compared = λ x at t e. compares x at t false (compares_other x.ram x.eeprom x.ram_size x.eeprom_size (fault x) e);
  command_2_done = λ x at t e. leads x (Rest (Acknowledging Verified)) (Ended Shut) (rest x) at refl refl t (when_true _ _ (eq-eqb _ _ e));
  command_1_done = λ x at t e. launches_so x (Rest (Acknowledging Stored)) at refl t (when_true _ _ (eq-eqb _ _ e));
  command_3_done = λ x at t e.
      let other : command x ≡ 2 → ⊥ = omega (arith, e) in
      launches_so x (Rest (Acknowledging Verified)) at refl t (when_false _ _ (ne_eqb _ _ other));
  countdown_fresh = λ f. refl;
  late_first_low = λ x at t. late_boots x First at refl refl t;
  late_second_low = λ x d at t. late_boots x (Second d) at refl refl t;
  late_draw = λ x k at t. late_boots x (Handshake k) at refl refl t;
  late_command = λ x n bits at t. late_boots x (Command n bits) at refl refl t;
  late_size = λ x n bits at t. late_boots x (Size n bits) at refl refl t;
  late_long = λ x n k bits at t. late_boots x (Long n k bits) at refl refl t;
  late_aligning = λ x a at t. late_boots x (Align a) at refl refl t;
  late_connection = λ x k at t. late_reply_lem x (Connection k) (Ended Shut) (rest x) refl refl refl at t;
  late_stored = λ x at t. late_reply_lem x (Acknowledging Stored) (Ended Shut) (rest x) refl refl refl at t;
  late_failed = λ x at t. late_reply_lem x (Acknowledging Failed) (Ended Shut) (rest x) refl refl refl at t;
  late_programmed = λ x at t. late_reply_lem x (Acknowledging Programmed) (Align Failed) 250000 refl refl refl at t;
  late_verified = λ x at t. late_reply_lem x (Acknowledging Verified) (Align Failed) 250000 refl refl refl at t;
  endings = (refl, refl, refl, refl);
  refused_10 = λ c ram eeprom wait low r. sym (step_refused c ram eeprom wait low 10 (row_given _ _ _ _ (differs _ _ r) refl));
  refused_11 = λ c ram eeprom wait low r e.
      sym (step_refused c ram eeprom wait low 11 (row_passed _ _ _ _ (agrees _ _ r) (row_given _ _ _ _ (differs _ _ e) refl)));
  refused_13 = λ c ram eeprom wait low r e o.
      sym (step_refused c ram eeprom wait low 13
      (row_passed _ _ _ _ (agrees _ _ r) (row_passed _ _ _ _ (agrees _ _ e) (row_given _ _ _ _ o refl))));
  refused_14 = λ x o.
      sym (step_refused x.chip x.ram x.eeprom x.wait x.low 14
      (row_passed _ _ _ _ (agrees _ _ x.ram_size) (row_passed _ _ _ _ (agrees _ _ x.eeprom_size)
      (row_passed _ _ _ _ x.within (row_given _ _ _ _ o refl)))));
}
