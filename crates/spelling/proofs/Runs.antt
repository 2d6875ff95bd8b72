-- A call that sends bits goes back to the one that began their run: from a pair the session comes to a run's first place only, and from a
-- bit to the next one.
-- Assumes nothing.
use mathlib.Core.Bool.{Bool, true, false, true≢false, false≢true}
use mathlib.Core.List.{List}
use mathlib.Core.Path.{◌≡◌, refl, sym, ap, ◌∙◌, subst}
use Prim.Native.Nat.{ℕ, zero, suc, ◌+◌, ◌/◌, ◌≤◌, ◌<◌}
use native.Mathlib.Omega.{arith}
use lib.Dec.{eqb, ltb}
use borrow.Author.Tests.{ltb-true, ltb-false}
use Rattle.std.specs.Prelude.{Option}
use Rattle.terms.specs.Refusals.{taken}
use Rattle.terms.proofs.Refusals.{Clear, taken_exactly}
use Rattle.terms.proofs.Tests.{when_true, when_false, when_elim}
use Rattle.load.specs.Load.{load_of}
use Rattle.load.specs.declared.Load.{Load}
use Rattle.sequence.specs.Sequence.{draw}
use Rattle.units.specs.declared.Seen.{Seen}
use Rattle.units.specs.declared.Seen.TheVariants.{Silence, Zero, One}
use Rattle.bits.specs.Bits.{pair_bit}
use Rattle.follow.specs.Follow.{opened, after, after_version, onward, shows, after_connection, after_version_pair, after_ram, after_good, after_wait_pair, after_pair, next}
use Rattle.follow.proofs.Stands.{Stands}
use Rattle.place.specs.Phases.{ended}
use Rattle.place.specs.declared.Acknowledgement.{Acknowledgement}
use Rattle.place.specs.declared.Acknowledgement.TheVariants.{Ram, Programming, Verification}
use Rattle.place.specs.declared.Ending.TheVariants.{Done, Lost}
use Rattle.place.specs.declared.Phase.{Phase}
use Rattle.place.specs.declared.Phase.TheVariants.{Calibration, Handshake, Connection, Version, Command, Zeros, Size, Image, Wait, Ended}
use Rattle.place.specs.declared.Place.{Place}
use Rattle.packing.specs.Filling.{paired, sent_at}
use Rattle.packing.specs.Phases.{in_bits, in_pairs}
use Rattle.packing.specs.Runs.{Run, handshake, command, zeros}
use Rattle.packing.specs.declared.Filling.{Filling}
use Rattle.packing.specs.declared.Packing.TheVariants.{Fewest}
use Rattle.packing.proofs.Phases.{in_bits_lem}
use Rattle.serial.specs.Replies.{came, resumed}
use Rattle.serial.specs.Step.{serial_start, serial_rows, resumed_at, turn_at, turn_of, serial_step}
use Rattle.serial.specs.declared.Serial.{Serial}
use Rattle.serial.specs.declared.Turn.{Turn}
use Rattle.serial.proofs.Kept.{Within, within, resumed_in}
use Rattle.serial.proofs.Places.{settled_first, after_first, pending_second, first_settled, first_onward, first_next, resumed_settled, resumed_here, resumed_past}
use Rattle.serial.proofs.Starts.{start_load}
use Rattle.spelling.specs.Fewest.{Sends, silent, sends, Begins, EveryCall}
use Rattle.spelling.specs.Spelling.{serials, wires, SameBits}
use Rattle.spelling.proofs.Fewest.{every_run_sent}

-- A run's first place.
record Entered (load : Load) (image : List ℕ) (q : Place) : Type 0 where
  first : Phase
  bits : List Bool
  run : Run load image first bits
  is : q ≡ opened first

module _ (load : Load) (image : List ℕ) where
  abbrev Enters : Place → Type 0
  Enters q = in_bits q.phase ≡ true → Entered load image q

  no_bits : (q : Place) → in_bits q.phase ≡ false → Enters q
  no_bits q e f = absurd (true≢false (sym f ∙ e))

  onward_enters : (phase : Phase) (i : ℕ) → in_bits phase ≡ false → Enters (opened (after load phase)) → Enters (onward load phase i)
  unfolding onward
  onward_enters phase i e there = when_elim Enters _ _ _ (λ b. no_bits _ e) (λ b. there)

  version_enters : (v : ℕ) → Enters (opened (after_version v))
  unfolding after_version
  version_enters v =
      when_elim (λ (to : Phase). Enters (opened to)) (eqb v 1) Command Zeros
      (λ b e. record { first = Command; bits = _; run = command; is = refl }) (λ b e. record { first = Zeros; bits = _; run = zeros; is = refl })

  version_pair : (v i : ℕ) (s : Seen) → Enters (after_version_pair load v i s)
  version_pair v i Silence = no_bits _ refl
  version_pair v i Zero = onward_enters (Version (v / 2)) i refl (version_enters (v / 2))
  version_pair v i One = onward_enters (Version (v / 2 + 128)) i refl (version_enters (v / 2 + 128))

  good_enters : (a : Acknowledgement) → Enters (opened (after_good load.command a))
  unfolding after_ram
  good_enters Ram =
      when_elim (λ (to : Phase). Enters (opened to)) (eqb load.command 1) (Ended Done) (Wait Programming) (λ b. no_bits _ refl) (λ b. no_bits _ refl)
  good_enters Programming = no_bits _ refl
  good_enters Verification = no_bits _ refl

  wait_pair : (a : Acknowledgement) (i : ℕ) (s : Seen) → Enters (after_wait_pair load a i s)
  wait_pair a i Silence = onward_enters (Wait a) i refl (no_bits _ refl)
  wait_pair a i Zero = good_enters a
  wait_pair a i One = no_bits _ refl

  pair_enters : (phase : Phase) (i : ℕ) (s : Seen) → in_pairs phase ≡ true → Enters (after_pair load phase i s)
  unfolding after_connection
  pair_enters Calibration i s p = onward_enters Calibration i refl (λ e. record { first = Handshake; bits = _; run = handshake; is = refl })
  pair_enters Handshake i s p = absurd (false≢true p)
  pair_enters Connection i s p =
      when_elim Enters (shows s (draw (251 + i / 2))) (onward load Connection i) (opened (Ended Lost))
      (λ b. onward_enters Connection i refl (no_bits _ refl)) (λ b. no_bits _ refl)
  pair_enters (Version v) i s p = version_pair v i s
  pair_enters Command i s p = absurd (false≢true p)
  pair_enters Zeros i s p = absurd (false≢true p)
  pair_enters Size i s p = absurd (false≢true p)
  pair_enters Image i s p = absurd (false≢true p)
  pair_enters (Wait a) i s p = wait_pair a i s
  pair_enters (Ended e) i s p = absurd (false≢true p)

  next_enters : (phase : Phase) (i : ℕ) (s : Seen) → in_pairs phase ≡ true → pair_bit i ≡ false → Enters (next load phase i s)
  unfolding next
  next_enters phase i s p odd = subst Enters (sym (when_false _ _ odd)) (pair_enters phase i s p)

module _ (command : ℕ) (image : List ℕ) (x : Serial) (back : ℕ → Option ℕ) (starts : serial_start Fewest command image ≡ taken x)
    (whole : SameBits x (λ (n : ℕ). image) back command image) where
  abbrev at : ℕ → Serial
  at = serials x (λ (n : ℕ). image) back

  abbrev here : ℕ → Place
  here n = resumed_at (at n) (back n)

  -- One of its calls.
  module _ (n : ℕ) (h : n < whole.calls) where
    abbrev turn : Turn
    turn = turn_at (at n) image (here n).phase (here n).index

    passed : Clear (serial_rows (at n) image (back n)) × (record { sent = wires x (λ (m : ℕ). image) back n; serial = at (suc n) } ≡ turn)
    unfolding serial_step turn_of
    passed = (taken_exactly (turn_of (at n) image (back n)) _ (serial_rows (at n) image (back n))).0 (whole.turns n h)

    next_is : at (suc n) ≡ turn.serial
    next_is = ap (λ (t : Turn). t.serial) passed.1

    inside : Within (at n).load (at n).place
    inside = within (at n).load (at n).place passed.0.0

    stands : Stands (at n).load 0 (here n)
    stands = resumed_in (at n).load inside.loaded (at n).place (came (back n)) passed.0.1.0 inside.stands

    kept : ((at (suc n)).packing ≡ (at n).packing) × ((at (suc n)).load ≡ (at n).load)
    unfolding turn_at
    kept =
        subst (λ (s : Serial). (s.packing ≡ (at n).packing) × (s.load ≡ (at n).load)) (sym next_is)
        (when_elim (λ (t : Turn). (t.serial.packing ≡ (at n).packing) × (t.serial.load ≡ (at n).load)) (ended (here n).phase) _ _
        (λ e. (refl, refl)) (λ e. (refl, refl)))

    stays_there : ended (here n).phase ≡ true → (at (suc n)).place ≡ here n
    unfolding turn_at
    stays_there e = ap (λ (s : Serial). s.place) next_is ∙ ap (λ (t : Turn). t.serial.place) (when_true _ _ e)

    goes_there : ended (here n).phase ≡ false → (at (suc n)).place ≡ (sent_at (at n).packing (at n).load image (here n).phase (here n).index).place
    unfolding turn_at
    goes_there e = ap (λ (s : Serial). s.place) next_is ∙ ap (λ (t : Turn). t.serial.place) (when_false _ _ e)

    -- After a pair the next call takes what came back for it.
    pair_next : in_pairs (here n).phase ≡ true → ended (here n).phase ≡ false
        → (in_bits (here (suc n)).phase ≡ true → Entered (at (suc n)).load image (here (suc n)))
    unfolding sent_at paired
    pair_next p on =
        let phase = (here n).phase in
        let i = (here n).index in
        let load = (at n).load in
        let seen = came (back (suc n)) in
        let first = settled_first phase i p (resumed_settled load (at n).place.phase (at n).place.index (came (back n))) in
        let second = after_first i first in
        let there : Place = record { phase = phase; index = i + 1 } in
        let place : (at (suc n)).place ≡ there =
        goes_there on ∙ ap (λ (f : Filling). f.place) (when_true _ _ p) ∙ sym (first_onward load phase i Silence first) ∙ first_next load phase i Silence p first stands.short in
        let past : here (suc n) ≡ next (at (suc n)).load phase (i + 1) seen =
        ap (λ (q : Place). resumed (at (suc n)).load q.phase q.index seen) place
        ∙ resumed_past (at (suc n)).load phase (i + 1) seen (pending_second phase (i + 1) p second) in
        subst (λ (q : Place). in_bits q.phase ≡ true → Entered (at (suc n)).load image q) (sym past)
        (next_enters (at (suc n)).load image phase (i + 1) seen p second)

  third : (n : ℕ) → n ≤ whole.calls → (at n).packing ≡ Fewest
  unfolding serials
  third zero h = ap (λ (s : Serial). s.packing) (start_load Fewest command image x starts).1
  third (suc n) h = (kept n (omega (arith, h))).0 ∙ third n (omega (arith, h))

  -- The call that began a run, since which only bits were sent.
  record Begun (n : ℕ) : Type 0 where
    first : ℕ
    entered : Entered (at first).load image (here first)
    from : first ≤ n
    since : (k : ℕ) → first ≤ k → k ≤ n → in_bits (here k).phase ≡ true

  begins_here : (n : ℕ) → in_bits (here n).phase ≡ true → Entered (at n).load image (here n) → Begun n
  begins_here n e q = record {
    first = n;
    entered = q;
    from = omega arith;
    since = λ k a b. let same : n ≡ k = omega (arith, a, b) in subst (λ (m : ℕ). in_bits (here m).phase ≡ true) same e;
  }

  goes_on : (n : ℕ) → in_bits (here (suc n)).phase ≡ true → Begun n → Begun (suc n)
  goes_on n e b = record { first = b.first; entered = b.entered; from = omega (arith, b.from); since = λ k a c. by_order k a c (ltb k (suc n)) refl }
    where
      by_order : (k : ℕ) → b.first ≤ k → k ≤ suc n → (o : Bool) → ltb k (suc n) ≡ o → in_bits (here k).phase ≡ true
      by_order k a c true o = b.since k a (omega (arith, ltb-true k (suc n) o))
      by_order k a c false o =
          let same : suc n ≡ k = omega (arith, c, ltb-false k (suc n) o) in
          subst (λ (m : ℕ). in_bits (here m).phase ≡ true) same e

  by_pairs : (n : ℕ) → n < whole.calls → ended (here n).phase ≡ false → in_bits (here (suc n)).phase ≡ true
      → (in_bits (here n).phase ≡ true → Begun n) → (p : Bool) → in_pairs (here n).phase ≡ p → Begun (suc n)
  by_pairs n h on e before true p = begins_here (suc n) e (pair_next n h p on e)
  by_pairs n h on e before false p = goes_on n e (before (in_bits_lem (here n).phase (record { bits = p; on = on })))

  by_ended : (n : ℕ) → suc n < whole.calls → in_bits (here (suc n)).phase ≡ true → (in_bits (here n).phase ≡ true → Begun n)
      → (o : Bool) → ended (here n).phase ≡ o → Begun (suc n)
  by_ended n h e before true o =
      absurd (false≢true (sym (whole.going (suc n) h) ∙ ap (λ (q : Place). ended q.phase) (stays_there n (omega (arith, h)) o) ∙ o))
  by_ended n h e before false o = by_pairs n (omega (arith, h)) o e before (in_pairs (here n).phase) refl

  begun : (n : ℕ) → n < whole.calls → in_bits (here n).phase ≡ true → Begun n
  unfolding serials
  begun zero h e =
      let start : here 0 ≡ opened Calibration =
      ap (λ (s : Serial). resumed_at s (back 0)) (start_load Fewest command image x starts).1
      ∙ resumed_here (load_of command image) Calibration 0 (came (back 0)) (first_settled Calibration 0 refl) in
      absurd (false≢true (sym (ap (λ (q : Place). in_bits q.phase) start) ∙ e))
  begun (suc n) h e = by_ended n h e (begun n (omega (arith, h))) (ended (here n).phase) refl

later : (x : Serial) (lent : ℕ → List ℕ) (back : ℕ → Option ℕ) (n : ℕ) (bytes : List ℕ) (end : ℕ) → Sends x lent back n bytes end → n ≤ end
later x lent back n _ _ (silent _) = omega arith
later x lent back n _ end (sends _ b bytes _ e rest) = let more = later x lent back (suc n) bytes end rest in omega (arith, more)

pub every_call : EveryCall
every_call number image x back starts whole n h e =
    let b = begun number image x back starts whole n h e in
    let early : b.first < whole.calls = omega (arith, b.from, h) in
    let begins : Begins x (λ (m : ℕ). image) back b.first image b.entered.bits = record {
      first = b.entered.first;
      run = b.entered.run;
      there = b.entered.is;
      turn = _;
      taken_so = whole.turns b.first early;
    } in
    let run = every_run_sent x (λ (m : ℕ). image) back b.first image b.entered.bits
    (third number image x back starts whole b.first (omega (arith, early))) begins (λ m k. refl) in
    record {
      bits = b.entered.bits;
      first = b.first;
      begins = begins;
      run = run;
      from = b.from;
      before = by_order b.first b.from b.since run.end (later x (λ (m : ℕ). image) back b.first run.bytes run.end run.sent) run.over (ltb n run.end) refl;
    }
  where
    by_order : (first : ℕ) → first ≤ n → ((k : ℕ) → first ≤ k → k ≤ n → in_bits (here number image x back starts whole k).phase ≡ true) → (end : ℕ) → first ≤ end
        → in_bits (here number image x back starts whole end).phase ≡ false → (o : Bool) → ltb n end ≡ o → n < end
    by_order first a since end f over true o = ltb-true n end o
    by_order first a since end f over false o = absurd (true≢false (sym (since end f (ltb-false n end o)) ∙ over))
