-- 01, "What the chip does" and "Time-outs", with the countdown of 02, "Two": the chip on one page, a field for each sentence. Each is of
-- every chip within its ranges, every wait and low and all memories, and can be read alone.
--
-- A chip stands at `First` or `Second` before a calibration low, at `Handshake k` before the bit that is compared with draw k, at `Answer`
-- before the first pulse of a reply and at `Rest` before its second, at `Command`, `Size` or `Long` before a bit of a value, with the number
-- of bits before it, and at `Align` before a pulse to align on. What it acknowledges is that a load is `Stored` with a good checksum,
-- `Programmed`, `Verified`, or that one of these `Failed`.
--
-- Work is "done in that pulse's step; work after a reply, in the step of its second pulse": what a field says of the memories at `Long`, at
-- `Rest` and where the chip boots.
-- Assumes nothing.
use Rattle.std.specs.Prelude.{true, false, List, ◌++◌, ◌≡◌, ℕ, ◌+◌, ◌*◌, ◌/◌, ◌%◌, ◌≤◌, ◌<◌, length, take, drop}
use Rattle.terms.specs.Choice.{when}
use Rattle.terms.specs.Refusals.{refused}
use Rattle.units.specs.declared.Longs.{Longs}
use Rattle.units.specs.declared.Loops.{Loops}
use Rattle.lent.specs.Bytes.{total}
use Rattle.sequence.specs.Sequence.{draw}
use Rattle.phases.specs.Endings.{end_at, launched_from_download, launched_from_eeprom, shut_down, off_chart}
use Rattle.phases.specs.Phases.{ended}
use Rattle.phases.specs.declared.Acknowledgement.{Acknowledgement}
use Rattle.phases.specs.declared.Acknowledgement.TheVariants.{Stored, Programmed, Verified, Failed}
use Rattle.phases.specs.declared.Ending.TheVariants.{Launched, Booted, Shut, Off}
use Rattle.phases.specs.declared.Phase.TheVariants.{First, Second, Handshake, Answer, Rest, Command, Size, Long, Align, Ended}
use Rattle.phases.specs.declared.Reply.TheVariants.{Connection, Acknowledging}
use Rattle.eeprom.specs.declared.Fault.{Fault}
use Rattle.chip.specs.Step.{left, fresh, chip_outside, chip_step}
use Rattle.chip.specs.declared.Chip.{Chip}
use Rattle.rules.specs.Pulses.{Step, Pulse, put, bytes_of, loaded, pages, phase, threshold, command, size, fault}
use Rattle.rules.specs.Pulses.{At, In, Late, Timely, rest, bit_read, read, Dead, as_read, Leads, Replies, Learns, Stores, Programs, Launches, Boots}

pub record ChipRules (step : Step) : Type 0 where
  -- Reading. "Calibration lows d1, d2 give threshold (d1 + d2) / 2, rounded down."
  pub first_low : (x : Pulse) → At x First → Timely x → Leads x step (Second (record { 0 = x.low })) (rest x)
  pub second_low : (x : Pulse) (d1 : Loops) → At x (Second d1) → Timely x
      → Learns x step ((d1.0 + x.low) / 2) (command x) (size x) (Handshake 1) (rest x)
  -- Handshake. "250 bits compared with the draws."
  pub draw_matched : (x : Pulse) (k : ℕ) → At x (Handshake k) → Timely x → bit_read x ≡ draw k → k < 250
      → Leads x step (Handshake (k + 1)) (rest x)
  pub last_draw_matched : (x : Pulse) → At x (Handshake 250) → Timely x → bit_read x ≡ draw 250 → Leads x step (Answer (Connection 0)) 250000
  -- "A mismatch boots at once."
  pub draw_mismatched : (x : Pulse) (k : ℕ) → At x (Handshake k) → Timely x → (bit_read x ≡ draw k → ⊥) → Boots x step
  -- Replies. "A reply takes two pulses of any width. Bit b is answered at the rise of the first; the second is silent. 250 draws, then
  -- version 1 in 8 bits."
  pub draw_replied : (x : Pulse) (k : ℕ) → At x (Answer (Connection k)) → Timely x → k < 250
      → Replies x step (when (draw (251 + k)) 1 0) (Rest (Connection k)) (rest x)
  pub version_1_replied : (x : Pulse) → At x (Answer (Connection 250)) → Timely x → Replies x step 1 (Rest (Connection 250)) (rest x)
  pub version_0_replied : (x : Pulse) (k : ℕ) → At x (Answer (Connection k)) → Timely x → 250 < k → k ≤ 257
      → Replies x step 0 (Rest (Connection k)) (rest x)
  pub next_reply : (x : Pulse) (k : ℕ) → At x (Rest (Connection k)) → Timely x → k < 257 → Leads x step (Answer (Connection (k + 1))) 250000
  pub last_reply : (x : Pulse) → At x (Rest (Connection 257)) → Timely x → Leads x step (Command 0 0) 250000
  -- Command. "0, or 4 and above: shut down."
  pub command_bit_lem : (x : Pulse) (n bits : ℕ) → At x (Command n bits) → Timely x → n < 31 → Leads x step (Command (n + 1) (read x bits)) (rest x)
  pub command_0 : (x : Pulse) (bits : ℕ) → At x (Command 31 bits) → Timely x → read x bits ≡ 0 → Leads x step (Ended Shut) (rest x)
  pub command_4_and_above : (x : Pulse) (bits : ℕ) → At x (Command 31 bits) → Timely x → 4 ≤ read x bits → Leads x step (Ended Shut) (rest x)
  -- "1 to 3: the size in longs."
  pub command_1_to_3 : (x : Pulse) (bits : ℕ) → At x (Command 31 bits) → Timely x → 1 ≤ read x bits → read x bits ≤ 3
      → Learns x step (threshold x) (read x bits) (size x) (Size 0 0) 250000
  pub size_bit : (x : Pulse) (n bits : ℕ) → At x (Size n bits) → Timely x → n < 31 → Leads x step (Size (n + 1) (read x bits)) (rest x)
  -- "Size 0 or above 8,192 ends the model as off chart."
  pub size_0 : (x : Pulse) (bits : ℕ) → At x (Size 31 bits) → Timely x → read x bits ≡ 0 → Leads x step (Ended Off) (rest x)
  pub size_above_8192 : (x : Pulse) (bits : ℕ) → At x (Size 31 bits) → Timely x → 8192 < read x bits → Leads x step (Ended Off) (rest x)
  pub size_1_to_8192 : (x : Pulse) (bits : ℕ) → At x (Size 31 bits) → Timely x → 1 ≤ read x bits → read x bits ≤ 8192
      → Learns x step (threshold x) (command x) (read x bits) (Long 0 (record { 0 = 0 }) 0) 250000
  -- RAM. "Longs go to address 0 up, low byte first;"
  pub long_bit : (x : Pulse) (n : ℕ) (k : Longs) (bits : ℕ) → At x (Long n k bits) → Timely x → n < 31
      → Leads x step (Long (n + 1) k (read x bits)) (rest x)
  pub long_stored : (x : Pulse) (k : Longs) (bits : ℕ) → At x (Long 31 k bits) → Timely x → k.0 + 1 < size x
      → Stores x step (put (4 * k.0) (bytes_of (read x bits)) x.ram) (Long 0 (record { 0 = k.0 + 1 }) 0) 250000
  -- "the rest is zeroed. Then, with D the word at 10, the bytes FF FF F9 FF are stored at D - 4 and then at D - 8." Checksum. "Good when all
  -- 32,768 bytes sum to 0 modulo 256."
  pub sum_good : (x : Pulse) (k : Longs) (bits : ℕ) → At x (Long 31 k bits) → Timely x → k.0 + 1 ≡ size x
      → total (loaded k.0 (read x bits) x.ram) % 256 ≡ 0
      → Stores x step (loaded k.0 (read x bits) x.ram) (Align Stored) 250000
  pub sum_bad : (x : Pulse) (k : Longs) (bits : ℕ) → At x (Long 31 k bits) → Timely x → k.0 + 1 ≡ size x
      → (total (loaded k.0 (read x bits) x.ram) % 256 ≡ 0 → ⊥)
      → Stores x step (loaded k.0 (read x bits) x.ram) (Align Failed) 250000
  -- Acknowledging. "Pulses are read until one is 0; the reply is given with the next two pulses."
  pub one_aligned : (x : Pulse) (a : Acknowledgement) → At x (Align a) → Timely x → bit_read x ≡ true → Leads x step (Align a) (rest x)
  pub zero_aligned : (x : Pulse) (a : Acknowledgement) → At x (Align a) → Timely x → bit_read x ≡ false
      → Leads x step (Answer (Acknowledging a)) 250000
  -- "Bad checksum: reply 1, then shut down." As every failure.
  pub failed_replied : (x : Pulse) → At x (Answer (Acknowledging Failed)) → Timely x → Replies x step 1 (Rest (Acknowledging Failed)) (rest x)
  pub failed_done : (x : Pulse) → At x (Rest (Acknowledging Failed)) → Timely x → Leads x step (Ended Shut) (rest x)
  -- "Good: reply 0."
  pub stored_replied : (x : Pulse) → At x (Answer (Acknowledging Stored)) → Timely x → Replies x step 0 (Rest (Acknowledging Stored)) (rest x)
  -- Commands 2, 3. "512 pages of 64 bytes go from RAM to EEPROM; reply 0 when done."
  pub all_programmed : (x : Pulse) → At x (Rest (Acknowledging Stored)) → Timely x → 2 ≤ command x → pages (fault x) ≡ 512
      → Programs x step x.ram (Align Programmed) 250000
  pub programmed_replied : (x : Pulse) → At x (Answer (Acknowledging Programmed)) → Timely x
      → Replies x step 0 (Rest (Acknowledging Programmed)) (rest x)
  -- "Then all bytes are compared; reply 0."
  pub all_compared : (x : Pulse) → At x (Rest (Acknowledging Programmed)) → Timely x → (Dead x → ⊥) → x.ram ≡ as_read x
      → Leads x step (Align Verified) 250000
  pub verified_replied : (x : Pulse) → At x (Answer (Acknowledging Verified)) → Timely x
      → Replies x step 0 (Rest (Acknowledging Verified)) (rest x)
  -- "A failure replies 1 in that place, then shuts down." It is an EEPROM that accepts fewer pages, "pages before it are written", one that
  -- acknowledges nothing any more, or one that reads otherwise.
  pub some_programmed : (x : Pulse) → At x (Rest (Acknowledging Stored)) → Timely x → 2 ≤ command x → pages (fault x) < 512
      → Programs x step (take (64 * pages (fault x)) x.ram ++ drop (64 * pages (fault x)) x.eeprom) (Align Failed) 250000
  pub none_compared : (x : Pulse) → At x (Rest (Acknowledging Programmed)) → Timely x → Dead x → Leads x step (Align Failed) 250000
  pub other_compared : (x : Pulse) → At x (Rest (Acknowledging Programmed)) → Timely x → (x.ram ≡ as_read x → ⊥)
      → Leads x step (Align Failed) 250000
  -- Ending. "Command 2 shuts down."
  pub command_2_done : (x : Pulse) → At x (Rest (Acknowledging Verified)) → Timely x → command x ≡ 2 → Leads x step (Ended Shut) (rest x)
  -- "Commands 1, 3 launch if the word at 6 is 16, otherwise shut down silently."
  pub command_1_done : (x : Pulse) → At x (Rest (Acknowledging Stored)) → Timely x → command x ≡ 1 → Launches x step
  pub command_3_done : (x : Pulse) → At x (Rest (Acknowledging Verified)) → Timely x → command x ≡ 3 → Launches x step
  -- Time-outs. The countdown is "375,000 loops for calibration and handshake together, set again to 250,000 at the start of each 32-bit
  -- value, of each acknowledgement's alignment, and of each reply": where each rule above leads.
  pub countdown_fresh : (f : Fault) → (fresh f).receiver.left.0 ≡ 375000
  -- "While reading bits or aligning: boot."
  pub late_first_low : (x : Pulse) → At x First → Late x → Boots x step
  pub late_second_low : (x : Pulse) (d1 : Loops) → At x (Second d1) → Late x → Boots x step
  pub late_draw : (x : Pulse) (k : ℕ) → At x (Handshake k) → Late x → Boots x step
  pub late_command : (x : Pulse) (n bits : ℕ) → At x (Command n bits) → Late x → Boots x step
  pub late_size : (x : Pulse) (n bits : ℕ) → At x (Size n bits) → Late x → Boots x step
  pub late_long : (x : Pulse) (n : ℕ) (k : Longs) (bits : ℕ) → At x (Long n k bits) → Late x → Boots x step
  pub late_aligning : (x : Pulse) (a : Acknowledgement) → At x (Align a) → Late x → Boots x step
  -- "Within a reply's two pulses: shut down (a reply already given stands);" "A pulse that times out gets no reply".
  pub late_connection : (x : Pulse) (k : ℕ) → In x (Connection k) → Late x → Leads x step (Ended Shut) (rest x)
  pub late_stored : (x : Pulse) → In x (Acknowledging Stored) → Late x → Leads x step (Ended Shut) (rest x)
  pub late_failed : (x : Pulse) → In x (Acknowledging Failed) → Late x → Leads x step (Ended Shut) (rest x)
  -- "but where that reply was the 0 for programming or verification, the chip first aligns and replies 1, once." "aligning starts with the
  -- next pulse."
  pub late_programmed : (x : Pulse) → In x (Acknowledging Programmed) → Late x → Leads x step (Align Failed) 250000
  pub late_verified : (x : Pulse) → In x (Acknowledging Verified) → Late x → Leads x step (Align Failed) 250000
  -- Endings. "launched from download, launched from EEPROM, shut down, off chart."
  pub endings : (end_at (Ended Launched) ≡ launched_from_download) × (end_at (Ended Booted) ≡ launched_from_eeprom)
      × (end_at (Ended Shut) ≡ shut_down) × (end_at (Ended Off) ≡ off_chart)
  -- Refusal numbers. "A chip step: 10, 11, 13, 14." "Lent memory and the record stay as before the call."
  pub refused_10 : (c : Chip) (ram eeprom : List ℕ) (wait low : ℕ) → (length ram ≡ 32768 → ⊥)
      → step c ram eeprom wait low ≡ left (refused 10) ram eeprom
  pub refused_11 : (c : Chip) (ram eeprom : List ℕ) (wait low : ℕ) → length ram ≡ 32768 → (length eeprom ≡ 32768 → ⊥)
      → step c ram eeprom wait low ≡ left (refused 11) ram eeprom
  pub refused_13 : (c : Chip) (ram eeprom : List ℕ) (wait low : ℕ) → length ram ≡ 32768 → length eeprom ≡ 32768 → chip_outside c ≡ true
      → step c ram eeprom wait low ≡ left (refused 13) ram eeprom
  pub refused_14 : (x : Pulse) → ended (phase x) ≡ true
      → step x.chip x.ram x.eeprom x.wait x.low ≡ left (refused 14) x.ram x.eeprom

-- The chip's step keeps these rules, and no other does: whatever step keeps them is this one, for every record, wait, low and memory.
pub record Ruled : Type 0 where
  pub kept : ChipRules chip_step
  pub only : (step : Step) → ChipRules step → (c : Chip) (ram eeprom : List ℕ) (wait low : ℕ)
      → step c ram eeprom wait low ≡ chip_step c ram eeprom wait low
