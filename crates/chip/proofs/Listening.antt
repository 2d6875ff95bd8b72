-- The fresh receiver is within its ranges, and each pulse keeps it there, whether the work that it calls for goes well or not: by where it
-- leads.
-- Assumes nothing.
use mathlib.Core.Bool.{Bool, false}
use mathlib.Core.Path.{◌≡◌, refl, subst}
use Prim.Native.Nat.{ℕ, ◌+◌, ◌-◌, ◌<◌, ◌≤◌}
use native.Mathlib.Omega.{arith}
use borrow.Author.Tests.{lt-leb, ne_eqb, leb-false}
use Rattle.terms.proofs.Tests.{when_elim, either_false, less_false}
use Rattle.phases.specs.Ranges.{draw_outside, size_outside, long_outside, phase_outside}
use Rattle.phases.specs.declared.Acknowledgement.{Acknowledgement}
use Rattle.phases.specs.declared.Acknowledgement.TheVariants.{Stored, Programmed, Verified, Failed}
use Rattle.phases.specs.declared.Ending.TheVariants.{Launched, Booted, Shut, Off}
use Rattle.phases.specs.declared.Phase.{Phase}
use Rattle.phases.specs.declared.Phase.TheVariants.{First, Second, Handshake, Answer, Rest, Command, Size, Long, Align, Ended}
use Rattle.phases.specs.declared.Reply.TheVariants.{Connection, Acknowledging}
use Rattle.listener.specs.Heard.{in_phase, with_threshold, with_command, with_size, quiet, launching, heard}
use Rattle.listener.specs.Settled.{failed, settled}
use Rattle.margins.specs.Margins.{unread}
use Rattle.margins.proofs.Sides.{with_pulse_sides}
use Rattle.receiver.specs.Hears.{hears}
use Rattle.receiver.specs.Hears as receiver
use Rattle.countdown.specs.Countdown.{late, counting, most_left}
use Rattle.receiver.specs.Late.{after_late}
use Rattle.receiver.proofs.Going.{Then, heard_then, late_then, settled_goes, settled_counts}
use Rattle.receiver.proofs.Leads.{Leads, calibrates, shakes, matches, matches_last, answers, connects, connects_last, command_bit_lem, commands}
use Rattle.receiver.proofs.Leads.{size_bit, sizes, sizes_off, long_bit, stores, finishes, aligns, aligns_last, programs, verifies}
use Rattle.receiver.proofs.Leads.{launches_stored, launches_verified, fails_answering, fails_resting, boots, shuts, stays}
use Rattle.receiver.proofs.Leads.{heard_leads, late_leads}
use Rattle.receiver.proofs.Left.{May, left_kept}
use Rattle.receiver.specs.declared.Received.{Received}
use Rattle.receiver.specs.declared.Receiver.{Receiver}
use Rattle.line.specs.Reading.{threshold_of, reads, grown}
use Rattle.listener.specs.declared.Heard.{Heard}
use Rattle.listener.specs.declared.Listener.{Listener}
use Rattle.chip.proofs.Within.{Within, Timed}

fresh_within : Within (record { threshold = record { 0 = 0 }; command = 0; size = record { 0 = 0 }; phase = First })
fresh_within = record { timely = omega arith; known = omega arith; short = omega arith; had = refl }

pub fresh_timed : Timed (record {
  listener = record { threshold = record { 0 = 0 }; command = 0; size = record { 0 = 0 }; phase = First };
  left = record { 0 = 375000 };
  margins = unread;
})
fresh_timed = record { within = fresh_within; left = (omega arith, omega arith); margins = record { one = refl; zero = refl } }

-- A pulse leads within the ranges, whether its work goes well or not.
pub record Settles (h : Heard) : Type 0 where
  well : Within h.listener
  badly : Within (failed h.listener h.event)

pub settled_within : (h : Heard) (good : Bool) → Settles h → Within (settled h good)
unfolding settled
settled_within h good s = when_elim Within good _ _ (λ e. s.well) (λ e. s.badly)

quiet_settles : (l : Listener) (p : Phase) → Within (in_phase l p) → Settles (quiet l p)
quiet_settles l p w = record { well = w; badly = w }

-- A draw, a long and a value that are within.
draw_had : (k : ℕ) → 1 ≤ k → k ≤ 250 → draw_outside k ≡ false
unfolding draw_outside
draw_had k some most = (either_false _ _).1 (ne_eqb k 0 (λ e. omega arith), (less_false 250 k).1 most)

size_had : (command n : ℕ) → 1 ≤ command → n ≤ 31 → size_outside command n ≡ false
unfolding size_outside
size_had command n some most = (either_false _ _).1 ((less_false command 1).1 some, (less_false 31 n).1 most)

long_had : (command size k n : ℕ) → 1 ≤ command → k < size → n ≤ 31 → long_outside command size k n ≡ false
unfolding long_outside
long_had command size k n some more most = (either_false _ _).1 (lt-leb size k more, size_had command n some most)

module _ (l : Listener) (w : Within l) where
  -- The listener's command and size have the phase.
  abbrev Had : Phase → Type 0
  Had p = phase_outside l.command l.size.0 p ≡ false

  moved : (p : Phase) → Had p → Within (in_phase l p)
  moved p h = record { timely = w.timely; known = w.known; short = w.short; had = h }

  goes_on : (p : Phase) → Had p → Settles (quiet l p)
  goes_on p h = quiet_settles l p (moved p h)

  shut_had : Had (Ended Shut)
  shut_had = (less_false l.command 0).1 (omega arith)

  -- What only a listener with a command comes to.
  size_some : (n : ℕ) → size_outside l.command n ≡ false → 1 ≤ l.command
  unfolding size_outside
  size_some n h = (less_false l.command 1).0 ((either_false _ _).0 h).0

  long_some : (k n : ℕ) → long_outside l.command l.size.0 k n ≡ false → 1 ≤ l.command
  unfolding long_outside
  long_some k n h = size_some n ((either_false _ _).0 h).1

  long_below : (k n : ℕ) → long_outside l.command l.size.0 k n ≡ false → k < l.size.0
  unfolding long_outside
  long_below k n h = leb-false _ _ ((either_false _ _).0 h).0

  align_some : (a : Acknowledgement) → Had (Align a) → 1 ≤ l.command
  align_some Stored h = (less_false l.command 1).0 h
  align_some Programmed h = let more = (less_false l.command 2).0 h in omega arith
  align_some Verified h = let more = (less_false l.command 2).0 h in omega arith
  align_some Failed h = (less_false l.command 1).0 h

  failed_had : 1 ≤ l.command → Had (Align Failed)
  failed_had some = (less_false l.command 1).1 some

  launching_settles : 1 ≤ l.command → Settles (launching l)
  launching_settles some =
      record { well = moved (Ended Launched) ((less_false l.command 1).1 some); badly = moved (Ended Shut) shut_had }

  -- A timely low is below what is left: so the first is at most 374,999, and both together are.
  module _ (low left : ℕ) (timely : low < left) (bit : Bool) where
    leads_settles : (p : Phase) (h : Heard) → Leads l low bit p h → left ≤ most_left p → Had p → Settles h
    leads_settles _ _ calibrates m h =
        goes_on (Second (record { 0 = low })) ((less_false 374999 low).1 (omega (arith, timely, m)))
    leads_settles _ _ (shakes d) m h =
        quiet_settles (with_threshold l (threshold_of d.0 low)) (Handshake 1) (record {
          timely = omega (arith, timely, m);
          known = w.known;
          short = w.short;
          had = draw_had 1 (omega arith) (omega arith);
        })
    leads_settles _ _ (matches k e more) m h = goes_on (Handshake (k + 1)) (draw_had (k + 1) (omega arith) (omega (arith, more)))
    leads_settles _ _ (matches_last k e more) m h = goes_on (Answer (Connection 0)) ((less_false 257 0).1 (omega arith))
    leads_settles _ _ (answers r) m h = record { well = moved (Rest r) h; badly = moved (Rest r) h }
    leads_settles _ _ (connects k more) m h = goes_on (Answer (Connection (k + 1))) ((less_false 257 (k + 1)).1 (omega (arith, more)))
    leads_settles _ _ (connects_last k more) m h = goes_on (Command 0 0) ((less_false 31 0).1 (omega arith))
    leads_settles _ _ (command_bit_lem n v more) m h = goes_on (Command (n + 1) (grown v bit)) ((less_false 31 (n + 1)).1 (omega (arith, more)))
    leads_settles _ _ (commands n v all some most) m h =
        quiet_settles (with_command l (grown v bit)) (Size 0 0) (record {
          timely = w.timely;
          known = most;
          short = w.short;
          had = size_had (grown v bit) 0 some (omega arith);
        })
    leads_settles _ _ (size_bit n v more) m h =
        goes_on (Size (n + 1) (grown v bit)) (size_had l.command (n + 1) (size_some n h) (omega (arith, more)))
    leads_settles _ _ (sizes n v some most) m h =
        quiet_settles (with_size l (grown v bit)) (Long 0 (record { 0 = 0 }) 0) (record {
          timely = w.timely;
          known = w.known;
          short = most;
          had = long_had l.command (grown v bit) 0 0 (size_some n h) some (omega arith);
        })
    leads_settles _ _ (sizes_off n v) m h = goes_on (Ended Off) ((less_false l.command 1).1 (size_some n h))
    leads_settles _ _ (long_bit n k v more) m h =
        goes_on (Long (n + 1) k (grown v bit))
        (long_had l.command l.size.0 k.0 (n + 1) (long_some k.0 n h) (long_below k.0 n h) (omega (arith, more)))
    leads_settles _ _ (stores n k v more) m h =
        let next = long_had l.command l.size.0 (k.0 + 1) 0 (long_some k.0 n h) more (omega arith) in
        record { well = moved (Long 0 (record { 0 = k.0 + 1 }) 0) next; badly = moved (Long 0 (record { 0 = k.0 + 1 }) 0) next }
    leads_settles _ _ (finishes n k v) m h =
        let some = long_some k.0 n h in
        record { well = moved (Align Stored) ((less_false l.command 1).1 some); badly = moved (Align Failed) (failed_had some) }
    leads_settles _ _ (aligns a e) m h = goes_on (Align a) h
    leads_settles _ _ (aligns_last a) m h = goes_on (Answer (Acknowledging a)) h
    leads_settles _ _ (programs other) m h =
        let some = align_some Stored h in
        record {
          well = moved (Align Programmed) ((less_false l.command 2).1 (omega (arith, some, other)));
          badly = moved (Align Failed) (failed_had some);
        }
    leads_settles _ _ verifies m h =
        record { well = moved (Align Verified) h; badly = moved (Align Failed) (failed_had (align_some Programmed h)) }
    leads_settles _ _ (launches_stored one) m h = launching_settles (align_some Stored h)
    leads_settles _ _ (launches_verified other) m h = launching_settles (align_some Verified h)
    leads_settles _ _ (fails_answering a) m h = goes_on (Align Failed) (failed_had (align_some a h))
    leads_settles _ _ (fails_resting a) m h = goes_on (Align Failed) (failed_had (align_some a h))
    leads_settles _ _ (boots p) m h =
        record { well = moved (Ended Booted) ((less_false l.command 0).1 (omega arith)); badly = moved (Ended Shut) shut_had }
    leads_settles _ _ (shuts p) m h = goes_on (Ended Shut) shut_had
    leads_settles _ _ (stays e) m h = goes_on (Ended e) h

-- What is left, after what was heard and its work: by where the pulse leads.
module _ (low : ℕ) (bit : Bool) (from : Phase) (h : Heard) (good : Bool) (goes : Then low bit from h) (left rest : ℕ) (some : 1 ≤ rest)
    (drawn : rest + low ≤ left) (most : left ≤ most_left from) where
  left_settled : May (most_left (settled h good).phase) (counting from h.listener.phase rest)
  left_settled =
      subst (May (most_left (settled h good).phase)) (settled_counts low bit from h good goes rest)
      (left_kept low bit left rest some drawn from (settled h good).phase (settled_goes low bit from h good goes) most)

pub step_timed : (r : Receiver) (wait low : ℕ) (good : Bool) → Timed r → Timed (receiver.settled (hears r wait low) good)
unfolding hears late
step_timed r wait low good t =
    let l = r.listener in
    let left = r.left.0 in
    let some : 1 ≤ left = t.left.0 in
    let most : left ≤ most_left l.phase = t.left.1 in
    let bit = reads l.threshold.0 low in
    when_elim (λ (x : Received). Timed (receiver.settled x good)) _ _ _
    (λ e. record {
      within =
          settled_within (after_late l l.phase) good
          (leads_settles l t.within 0 left some bit l.phase _ (late_leads l 0 bit l.phase) most t.within.had);
      left =
          left_settled 0 bit l.phase (after_late l l.phase) good (late_then l 0 bit l.phase) left left some (omega arith) most;
      margins = t.margins;
    })
    (λ e.
    let timely : wait + low < left = leb-false left (wait + low) e in
    record {
      within =
          settled_within (heard l l.phase low bit) good
          (leads_settles l t.within low left (omega (arith, timely)) bit l.phase _ (heard_leads l low bit l.phase) most t.within.had);
      left =
          left_settled low bit l.phase (heard l l.phase low bit) good (heard_then l low bit l.phase) left (left - wait - low)
          (omega (arith, timely)) (omega (arith, timely)) most;
      margins = with_pulse_sides r.margins t.margins l.phase l.threshold.0 low;
    })
