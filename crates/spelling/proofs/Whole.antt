-- Every serial session spells 01's: before each call the pulses so far lead to where its byte is filled.
-- Assumes nothing.
use mathlib.Core.Bool.{Bool, true, false, true≢false}
use mathlib.Core.List.{List, [], ◌++◌, map, map-append}
use mathlib.Core.Path.{◌≡◌, refl, sym, ap, ap₂, ◌∙◌, subst}
use Prim.Native.Nat.{ℕ, zero, suc, ◌+◌, ◌≤◌, ◌<◌}
use native.Mathlib.Nat.{suc_inj, suc-ne-zero, zero-add}
use native.Mathlib.Omega.{arith}
use lib.Dec.{eqb, ltb}
use lib.ListN.{length, replicate, length-map}
use borrow.Author.Tests.{lt-leb, ltb-true, ltb-false}
use Rattle.std.specs.Prelude.{Option, None}
use Rattle.std.proofs.lemmas.Option.{none-some}
use Rattle.terms.specs.Refusals.{Answer, refused, taken}
use Rattle.terms.proofs.Refusals.{clear_taken, taken_alike}
use Rattle.terms.proofs.Tests.{when_true, when_false, when_elim, either_false, less_false}
use Rattle.load.specs.Load.{load_rows, load_of, load_outside, other_image}
use Rattle.load.specs.declared.Load.{Load}
use Rattle.load.proofs.Exactly.{load_taken}
use Rattle.load.proofs.Within.{load_within, start_within}
use Rattle.follow.specs.Follow.{opened}
use Rattle.follow.proofs.Stands.{Stands, opened_stands}
use Rattle.place.specs.Phases.{image_pulses, ended}
use Rattle.range.specs.Ranges.{before, place_outside}
use Rattle.place.specs.declared.Phase.TheVariants.{Calibration, Ended}
use Rattle.place.specs.declared.Place.{Place}
use Rattle.session.specs.Step as session
use Rattle.session.specs.Step.{session_start}
use Rattle.session.proofs.Kept.{start_keeps}
use Rattle.session.proofs.Starts.{length_kept, lent_again}
use Rattle.frames.specs.LowRuns.{run}
use Rattle.serial.specs.Replies.{came, wrong_reply, resumed}
use Rattle.packing.specs.Filling.{sent_at}
use Rattle.serial.specs.Step.{fresh, serial_start, serial_outside, serial_rows, moved_to, byte_sent, turn_at, turn_of, serial_step}
use Rattle.packing.specs.declared.Packing.{Packing}
use Rattle.serial.specs.declared.Serial.{Serial}
use Rattle.serial.specs.declared.Turn.{Turn}
use Rattle.serial.proofs.Starts.{start_load}
use Rattle.sessions.specs.Spelled.{Mark, Spelled}
use Rattle.sessions.proofs.Spells.{Loads, spelled_sent}
use Rattle.spelling.specs.Spelling.{Told, runs_on, sent_by, handed, serials, wires, runs_of, told, tolds, spelled_by, SameBits, EverySerial}
use Rattle.spelling.proofs.Bytes.{bytes_at, bytes_most}
use Rattle.spelling.proofs.Calls.{byte_carries}
use Rattle.serial.proofs.Places.{resumed_settled, resumed_here, ended_settled, first_settled}
use Rattle.spelling.proofs.Says.{Says, said, says_append, says_stands, says_same, Stepped, says_steps}

-- An answer, said by its parts.
by_parts : (s : Serial) (a : Answer Turn) (t : Turn) → a ≡ taken t → a ≡ taken (record { sent = sent_by a; serial = handed s a })
by_parts s a t e = subst (λ (y : Answer Turn). y ≡ taken (record { sent = sent_by y; serial = handed s y })) (sym e) refl

not_outside : (load : Load) (k : ℕ) (p : Place) → Stands load k p → place_outside load p.phase p.index ≡ false
unfolding place_outside
not_outside load k p s = (either_false _ _).1 ((less_false _ _).1 s.had, lt-leb _ _ s.short)

module _ (packing : Packing) (load : Load) (lent : ℕ → List ℕ) (back : ℕ → Option ℕ) where
  abbrev x : Serial
  x = fresh packing load

  abbrev at : ℕ → Serial
  at = serials x lent back

  abbrev resumes : Place → ℕ → Place
  resumes place n = resumed load place.phase place.index (came (back n))

  module _ (outside : load_outside load ≡ false) (same : (n : ℕ) → other_image load (lent n) ≡ false)
      (right : (n : ℕ) → wrong_reply (at n).place.phase (at n).place.index (back n) ≡ false) where
    long : 1 ≤ load.command → 16 ≤ load.length.0
    long = (load_within load outside).long

    -- Before call n.
    pub record At (n : ℕ) : Type 0 where
      pub place : Place
      pub is : at n ≡ moved_to x place
      pub inside : place_outside load place.phase place.index ≡ false
      pub bits : List Bool
      pub sent : Says load (opened Calibration) (tolds x lent back n) bits (resumes place n)
      pub runs : runs_of x lent back n ≡ map run bits
      pub many : ended place.phase ≡ false → n ≤ bytes_at load (resumes place n).phase (resumes place n).index
      pub most : n ≤ image_pulses load + 1299
      pub spoke : (m : ℕ) → suc m ≡ n → ended place.phase ≡ false → wires x lent back m ≡ None → ⊥

    begins : Stands load 0 (opened Calibration)
    begins = opened_stands load long 0 Calibration (omega arith) (omega arith)

    at_first : At 0
    unfolding serials runs_of tolds
    at_first = record {
      place = opened Calibration;
      is = refl;
      inside = not_outside load 0 (opened Calibration) begins;
      bits = [];
      sent = subst (Says load (opened Calibration) [] []) (sym (resumed_here load Calibration 0 (came (back 0)) (first_settled Calibration 0 refl)))
          (said (opened Calibration));
      runs = refl;
      many = λ e. omega arith;
      most = omega arith;
      spoke = λ m e. absurd (suc-ne-zero m e);
    }

    stands_at : (n : ℕ) (a : At n) → Stands load (length (tolds x lent back n)) (resumes a.place n)
    stands_at n a =
        subst (λ (k : ℕ). Stands load k (resumes a.place n)) (zero-add _)
        (says_stands load long 0 (opened Calibration) _ _ a.bits a.sent begins)

    few_bytes : (n : ℕ) (a : At n) → bytes_at load (resumes a.place n).phase (resumes a.place n).index ≤ image_pulses load + 1298
    few_bytes n a = bytes_most load (resumes a.place n).phase (resumes a.place n).index (stands_at n a).short

    -- A call, where the session goes on.
    module _ (n : ℕ) (a : At n) (on : ended a.place.phase ≡ false) where
      abbrev here : Place
      here = resumes a.place n

      abbrev turn : Turn
      turn = turn_at (moved_to x a.place) (lent n) here.phase here.index

      step_is : serial_step (at n) (lent n) (back n) ≡ taken turn
      unfolding serial_step turn_of serial_outside
      step_is =
          let reply : wrong_reply a.place.phase a.place.index (back n) ≡ false =
          ap (λ (s : Serial). wrong_reply s.place.phase s.place.index (back n)) (sym a.is) ∙ right n in
          ap (λ (s : Serial). serial_step s (lent n) (back n)) a.is
          ∙ clear_taken turn (serial_rows (moved_to x a.place) (lent n) (back n))
          ((either_false _ _).1 (outside, a.inside), (on, (reply, (same n, tt))))

      wire_is : wires x lent back n ≡ turn.sent
      unfolding wires
      wire_is = ap sent_by step_is

      serial_is : at (suc n) ≡ turn.serial
      unfolding serials
      serial_is = ap (handed (at n)) step_is

      -- Where its byte leads.
      module _ (t : Turn) (place : Place) (bits : List Bool) (same_turn : turn ≡ t) (moved : t.serial ≡ moved_to x place)
          (inside : place_outside load place.phase place.index ≡ false) (runs : runs_on t.sent ≡ map run bits)
          (sent : Says load here (replicate (length bits) (told x lent back n)) bits (resumes place (suc n)))
          (grows : ended place.phase ≡ false → suc (bytes_at load here.phase here.index) ≤ bytes_at load (resumes place (suc n)).phase (resumes place (suc n)).index) (byte : ended place.phase ≡ false → t.sent ≡ None → ⊥) where
        wire : wires x lent back n ≡ t.sent
        wire = wire_is ∙ ap (λ (y : Turn). y.sent) same_turn

        all_runs : runs_on (wires x lent back n) ≡ map run bits
        all_runs = ap runs_on wire ∙ runs

        held : length (runs_on (wires x lent back n)) ≡ length bits
        held = ap length all_runs ∙ length-map bits run

        more_told : tolds x lent back n ++ replicate (length bits) (told x lent back n) ≡ tolds x lent back (suc n)
        unfolding tolds
        more_told = ap (λ (k : ℕ). tolds x lent back n ++ replicate k (told x lent back n)) (sym held)

        more_runs : runs_of x lent back (suc n) ≡ map run (a.bits ++ bits)
        unfolding runs_of
        more_runs = ap₂ (λ (l m : List ℕ). l ++ m) a.runs all_runs ∙ sym (map-append run a.bits bits)

        at_next : At (suc n)
        at_next = record {
          place = place;
          is = serial_is ∙ ap (λ (y : Turn). y.serial) same_turn ∙ moved;
          inside = inside;
          bits = a.bits ++ bits;
          sent = subst (λ (ts : List Told). Says load (opened Calibration) ts (a.bits ++ bits) (resumes place (suc n))) more_told
              (says_append load (opened Calibration) here (resumes place (suc n)) _ _ a.bits bits a.sent sent);
          runs = more_runs;
          many = λ e. omega (arith, grows e, a.many on);
          most = omega (arith, a.many on, few_bytes n a);
          spoke = λ m e go q. byte go (sym wire ∙ ap (wires x lent back) (sym (suc_inj e)) ∙ q);
        }

      ends_here : ended here.phase ≡ true → At (suc n)
      unfolding turn_at
      ends_here e =
          at_next (record { sent = None; serial = moved_to x here }) here [] (when_true _ _ e) refl
          (not_outside load _ here (stands_at n a)) refl
          (subst (Says load here [] []) (sym (resumed_here load here.phase here.index _ (ended_settled here.phase here.index e))) (said here))
          (λ go. absurd (true≢false (sym e ∙ go))) (λ go. absurd (true≢false (sym e ∙ go)))

      goes_here : ended here.phase ≡ false → At (suc n)
      unfolding turn_at
      goes_here e =
          let f = sent_at packing load (lent n) here.phase here.index in
          let c = byte_carries packing load long (told x lent back n) (same n) here.phase here.index (length (tolds x lent back n)) e
          (resumed_settled load a.place.phase a.place.index (came (back n))) (stands_at n a) in
          at_next (byte_sent (moved_to x a.place) f) f.place c.bits (when_false _ _ e) refl
          (not_outside load c.count f.place c.inside) c.runs c.sent (λ go. c.grows) (λ go e. none-some _ (sym e))

      by_ended : (b : Bool) → ended here.phase ≡ b → At (suc n)
      by_ended true e = ends_here e
      by_ended false e = goes_here e

      pub next_call : At (suc n)
      next_call = by_ended (ended here.phase) refl

    -- A call that is made, and all of them.
    pub record Made (n : ℕ) : Type 0 where
      pub before : At n
      pub on : ended before.place.phase ≡ false

    pub record Found : Type 0 where
      pub calls : ℕ
      pub made : (n : ℕ) → n < calls → Made n
      pub last : At calls
      pub over : ended last.place.phase ≡ true

    one_made : (n : ℕ) → Made n → ((m : ℕ) → m < n → Made m) → (m : ℕ) → m < suc n → Made m
    one_made n made before m h = by_order (ltb m n) refl
      where
        by_order : (b : Bool) → ltb m n ≡ b → Made m
        by_order true e = before m (ltb-true m n e)
        by_order false e = let same : n ≡ m = omega (arith, h, ltb-false m n e) in subst Made same made

    found_by : (n : ℕ) (a : At n) → ((m : ℕ) → m < n → Made m) → (ended a.place.phase ≡ false → Found)
        → (b : Bool) → ended a.place.phase ≡ b → Found
    found_by n a made rest true e = record { calls = n; made = made; last = a; over = e }
    found_by n a made rest false e = rest e

    find : (fuel n : ℕ) → At n → ((m : ℕ) → m < n → Made m) → image_pulses load + 1298 < n + fuel → Found
    find zero n a made h = found_by n a made (λ e. absurd (omega (arith, h, few_bytes n a, a.many e))) (ended a.place.phase) refl
    find (suc fuel) n a made h =
        found_by n a made
        (λ e. find fuel (suc n) (next_call n a e) (one_made n (record { before = a; on = e }) made) (omega (arith, h)))
        (ended a.place.phase) refl

    found : Found
    found = find (image_pulses load + 1299) 0 at_first (λ m h. absurd (omega (arith, h))) (omega arith)

    -- The whole session.
    module _ (image : List ℕ) (short : load.length.0 ≤ length image) (loads : (load.command ≡ 0 → ⊥) → Loads load (length image))
        (begins : session_start load.command image ≡ taken (session.fresh load)) where
      abbrev calls : ℕ
      calls = found.calls

      abbrev last : Place
      last = found.last.place

      abbrev all : List Told
      all = tolds x lent back calls

      abbrev whole : Spelled
      whole = spelled_by x lent back load.command (length image) calls

      resumes_last : resumes last calls ≡ last
      resumes_last = resumed_here load last.phase last.index _ (ended_settled last.phase last.index found.over)

      ends_last : ended (resumes last calls).phase ≡ true
      ends_last = ap (λ (q : Place). ended q.phase) resumes_last ∙ found.over

      spelt : (found.last.bits ≡ map (λ (m : Mark). m.bit) whole.pulses) × (resumes last calls ≡ opened (Ended whole.ending))
      spelt =
          says_same load all 0 (opened Calibration) _ all found.last.bits found.last.sent refl ends_last
          whole.pulses whole.ending (spelled_sent load (length image) _ _ loads)

      stepped : Stepped (session.fresh load) all found.last.bits (resumes last calls)
      stepped =
          says_steps load (opened Calibration) (resumes last calls) all found.last.bits found.last.sent 0 0 0
          (start_keeps load.command image (session.fresh load) begins)

      stands_last : at calls ≡ moved_to x last
      stands_last = found.last.is

      place_last : (at calls).place ≡ resumes last calls
      place_last = ap (λ (s : Serial). s.place) stands_last ∙ sym resumes_last

      ended_14 : (lends : List ℕ) (reply : Option ℕ) → serial_step (at calls) lends reply ≡ refused 14
      unfolding serial_step serial_outside
      ended_14 lends reply =
          ap (λ (s : Serial). serial_step s lends reply) stands_last
          ∙ when_false _ _ ((either_false _ _).1 (outside, found.last.inside)) ∙ when_true _ _ found.over

      pub same_bits : SameBits x lent back load.command image
      unfolding wires serials
      same_bits = record {
        calls = calls;
        turns = λ n h. let made = found.made n h in by_parts (at n) _ _ (step_is n made.before made.on);
        going = λ n h. let made = found.made n h in ap (λ (s : Serial). ended s.place.phase) made.before.is ∙ made.on;
        sends = λ n h. let made = found.made (suc n) h in made.before.spoke n refl made.on;
        closed = ended_14;
        first = session.fresh load;
        begins = begins;
        bits = found.last.bits;
        left = stepped.left;
        session = stepped.session;
        spells = found.last.runs;
        alike = place_last ∙ sym stepped.there;
        pulses = spelt.0;
        ending = ap (λ (q : Place). q.phase) (place_last ∙ spelt.1);
        bound = omega (arith, found.last.most, short);
      }

-- Both starts take the same loads.
session_begins : (packing : Packing) (command : ℕ) (image : List ℕ) (x : Serial) → serial_start packing command image ≡ taken x
    → session_start command image ≡ taken (session.fresh (load_of command image))
unfolding serial_start session_start
session_begins packing command image x e =
    (taken_alike (load_rows command image) (fresh packing (load_of command image)) (session.fresh (load_of command image)) x e).0

pub every_serial : EverySerial
every_serial packing command image x lent back e same right =
    let start = start_load packing command image x e in
    let load = load_of command image in
    let outside = start_within command image ((load_taken command image load).0 start.0).0 in
    let sized = load_within load outside in
    let short : load.length.0 ≤ length image =
    when_elim (λ (n : ℕ). n ≤ length image) (eqb command 0) 0 (length image) (λ b. omega arith) (λ b. omega arith) in
    let loads : (command ≡ 0 → ⊥) → Loads load (length image) = λ some.
    let is = length_kept command image some in
    record { is = is; long = omega (arith, is, sized.long (omega (arith, some))); short = omega (arith, is, sized.short) } in
    let begins : session_start command image ≡ taken (session.fresh load) = session_begins packing command image x e in
    subst (λ (s : Serial). ((n : ℕ) → wrong_reply (serials s lent back n).place.phase (serials s lent back n).place.index (back n) ≡ false)
    → SameBits s lent back command image) (sym start.1)
    (λ replies. same_bits packing load lent back outside (λ n. lent_again command image (lent n) (λ some. same some n)) replies image short loads begins)
    right
