-- The calls of a run send the bytes that fill it, one after the other: each is taken, and what comes back is not looked at.
-- Assumes nothing.
use mathlib.Core.Bool.{Bool, true, false, not, true≢false, false≢true}
use mathlib.Core.List.{List}
use mathlib.Core.Path.{◌≡◌, refl, sym, ap, ◌∙◌, subst}
use Prim.Native.Nat.{ℕ, suc, ◌≤◌}
use native.Mathlib.Omega.{arith}
use Rattle.std.specs.Prelude.{Option}
use Rattle.terms.specs.Choice.{both}
use Rattle.terms.specs.Refusals.{taken}
use Rattle.terms.proofs.Refusals.{taken_exactly, clear_taken}
use Rattle.terms.proofs.Tests.{when_false}
use Rattle.load.specs.Load.{other_image}
use Rattle.load.specs.declared.Load.{Load}
use Rattle.bits.specs.Bits.{pair_bit}
use Rattle.follow.specs.Follow.{opened}
use Rattle.place.specs.Phases.{ended}
use Rattle.place.specs.declared.Phase.{Phase}
use Rattle.place.specs.declared.Phase.TheVariants.{Calibration, Handshake, Connection, Version, Command, Zeros, Size, Image, Wait, Ended}
use Rattle.place.specs.declared.Place.{Place}
use Rattle.packing.specs.Fewest.{filled_at, Fills, done, fills}
use Rattle.packing.specs.Filling.{sent_at}
use Rattle.packing.specs.Phases.{in_bits}
use Rattle.packing.specs.Runs.{Run, handshake, command, zeros}
use Rattle.packing.specs.declared.Packing.{Packing}
use Rattle.packing.specs.declared.Packing.TheVariants.{Fewest}
use Rattle.packing.proofs.Fewest.{every_run_packed}
use Rattle.packing.proofs.Full.{whole_byte}
use Rattle.packing.proofs.Phases.{plain}
use Rattle.serial.specs.Phases.{answered, awaits}
use Rattle.serial.specs.Replies.{came, neither, wrong_reply}
use Rattle.serial.specs.Step.{serial_rows, resumed_at, moved_to, byte_sent, turn_at, turn_of, serial_step}
use Rattle.serial.specs.declared.Serial.{Serial}
use Rattle.serial.proofs.Kept.{Within, within, not_outside, step_keeps}
use Rattle.serial.proofs.Places.{Settled, resumed_settled, resumed_here, walks_settled}
use Rattle.spelling.specs.Fewest.{Sends, silent, sends, EveryRunSent}
use Rattle.spelling.specs.Spelling.{handed, serials}

-- In a phase of bits no reply is looked at.
not_answered : (phase : Phase) → in_bits phase ≡ true → answered phase ≡ false
not_answered Calibration e = refl
not_answered Handshake e = refl
not_answered Connection e = absurd (false≢true e)
not_answered (Version v) e = absurd (false≢true e)
not_answered Command e = refl
not_answered Zeros e = refl
not_answered Size e = refl
not_answered Image e = refl
not_answered (Wait a) e = absurd (false≢true e)
not_answered (Ended x) e = refl

none_wrong : (phase : Phase) (i : ℕ) (w : Option ℕ) → in_bits phase ≡ true → wrong_reply phase i w ≡ false
unfolding wrong_reply awaits both
none_wrong phase i w e = ap (λ (b : Bool). both (both b (not (pair_bit i))) (neither w)) (not_answered phase e)

module _ (x : Serial) (lent : ℕ → List ℕ) (back : ℕ → Option ℕ) (load : Load) (image : List ℕ) where
  abbrev at : ℕ → Serial
  at = serials x lent back

  -- Call m is taken, and fills its byte from a place on.
  record Ready (m : ℕ) (p : Place) : Type 0 where
    third : (at m).packing ≡ Fewest
    loaded : (at m).load ≡ load
    same : lent m ≡ image
    here : resumed_at (at m) (back m) ≡ p
    within : Within (at m).load (at m).place
    going : ended (at m).place.phase ≡ false
    right : wrong_reply (at m).place.phase (at m).place.index (back m) ≡ false
    lends : other_image (at m).load (lent m) ≡ false

  module _ (m : ℕ) (p : Place) (r : Ready m p) (on : in_bits p.phase ≡ true) where
    abbrev left : Place
    left = (filled_at load image p).place

    turn_is : turn_of (at m) (lent m) (back m) ≡ byte_sent (at m) (filled_at load image p)
    unfolding turn_of turn_at
    turn_is =
        ap (λ (q : Place). turn_at (at m) (lent m) q.phase q.index) r.here ∙ when_false _ _ (plain p.phase on).on
        ∙ ap (λ (k : Packing). byte_sent (at m) (sent_at k (at m).load (lent m) p.phase p.index)) r.third
        ∙ ap (λ (l : Load). byte_sent (at m) (sent_at Fewest l (lent m) p.phase p.index)) r.loaded
        ∙ ap (λ (l : List ℕ). byte_sent (at m) (sent_at Fewest load l p.phase p.index)) r.same

    step_is : serial_step (at m) (lent m) (back m) ≡ taken (byte_sent (at m) (filled_at load image p))
    unfolding serial_step
    step_is =
        clear_taken (turn_of (at m) (lent m) (back m)) (serial_rows (at m) (lent m) (back m))
        (not_outside (at m).load (at m).place r.within, (r.going, (r.right, (r.lends, tt))))
        ∙ ap taken turn_is

    next_is : at (suc m) ≡ moved_to (at m) left
    unfolding serials
    next_is = ap (handed (at m)) step_is

    settled : Settled left
    settled =
        let y = whole_byte Fewest load image p on in
        walks_settled load image p left y.bits y.way
        (subst Settled r.here (resumed_settled (at m).load (at m).place.phase (at m).place.index (came (back m))))

    next_here : resumed_at (at (suc m)) (back (suc m)) ≡ left
    next_here =
        ap (λ (s : Serial). resumed_at s (back (suc m))) next_is
        ∙ resumed_here (at m).load left.phase left.index (came (back (suc m))) settled

    -- The next call fills its byte from where this one is left.
    next_ready : lent (suc m) ≡ image → in_bits left.phase ≡ true → Ready (suc m) left
    next_ready same go =
        let there : (at (suc m)).place ≡ left = ap (λ (s : Serial). s.place) next_is in
        let loads : (at (suc m)).load ≡ (at m).load = ap (λ (s : Serial). s.load) next_is in
        record {
          third = ap (λ (s : Serial). s.packing) next_is ∙ r.third;
          loaded = loads ∙ r.loaded;
          same = same;
          here = next_here;
          within = subst (λ (s : Serial). Within s.load s.place) (sym next_is)
              (step_keeps (at m) (lent m) (back m) (byte_sent (at m) (filled_at load image p)) step_is);
          going = ap (λ (q : Place). ended q.phase) there ∙ (plain left.phase go).on;
          right = ap (λ (q : Place). wrong_reply q.phase q.index (back (suc m))) there ∙ none_wrong left.phase left.index (back (suc m)) go;
          lends = ap (λ (l : Load). other_image l (lent (suc m))) loads ∙ ap (other_image (at m).load) (same ∙ sym r.same) ∙ r.lends;
        }

    sent_so : serial_step (at m) (lent m) (back m) ≡ taken (record { sent = (byte_sent (at m) (filled_at load image p)).sent; serial = at (suc m) })
    sent_so =
        step_is
        ∙ ap (λ (s : Serial). taken (record { sent = (byte_sent (at m) (filled_at load image p)).sent; serial = s })) (sym next_is)

  -- Bytes that fill a run from a place on are sent by the calls from m on.
  record Sent (m : ℕ) (bytes : List ℕ) (q : Place) : Type 0 where
    end : ℕ
    calls : Sends x lent back m bytes end
    last : resumed_at (at end) (back end) ≡ q

  follows : (m : ℕ) (p q : Place) (bytes : List ℕ) → Fills load image p bytes q → in_bits q.phase ≡ false
      → (in_bits p.phase ≡ false → resumed_at (at m) (back m) ≡ p) → (in_bits p.phase ≡ true → Ready m p) → ((k : ℕ) → m ≤ k → lent k ≡ image) → Sent m bytes q
  follows m p _ _ (done _) over there ready same = record { end = m; calls = silent m; last = there over }
  follows m p q _ (fills _ bytes _ on rest) over there ready same =
      let r = ready on in
      let more = follows (suc m) _ q bytes rest over (λ off. next_here m p r on)
      (next_ready m p r on (same (suc m) (omega arith))) (λ k h. same k (omega (arith, h))) in
      record { end = more.end; calls = sends m _ bytes more.end (sent_so m p r on) more.calls; last = more.last }

run_begins : (load : Load) (image : List ℕ) (first : Phase) (bits : List Bool) → Run load image first bits → in_bits first ≡ true
run_begins load image _ _ handshake = refl
run_begins load image _ _ command = refl
run_begins load image _ _ zeros = refl

pub every_run_sent : EveryRunSent
unfolding serial_step
every_run_sent x lent back n image bits third b same =
    let s = serials x lent back n in
    let passed = (taken_exactly (turn_of s (lent n) (back n)) b.turn (serial_rows s (lent n) (back n))).0 b.taken_so in
    let inside = within s.load s.place passed.0.0 in
    let whole = every_run_packed s.load image b.first bits inside.loaded b.run in
    let ready : Ready x lent back s.load image n (opened b.first) = record {
      third = third;
      loaded = refl;
      same = same n (omega arith);
      here = b.there;
      within = inside;
      going = passed.0.1.0;
      right = passed.0.1.1.0;
      lends = passed.0.1.1.1.0;
    } in
    let calls = follows x lent back s.load image n (opened b.first) whole.left whole.bytes whole.filled whole.over
    (λ off. absurd (true≢false (sym (run_begins s.load image b.first bits b.run) ∙ off))) (λ on. ready) same in
    record {
      bytes = whole.bytes;
      end = calls.end;
      sent = calls.calls;
      over = ap (λ (q : Place). in_bits q.phase) calls.last ∙ whole.over;
      least = whole.least;
    }
