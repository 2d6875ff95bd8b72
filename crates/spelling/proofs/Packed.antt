-- A byte takes bit after bit while its run has one left: three always fit, and by the third packing those that do.
-- Assumes nothing.
use mathlib.Core.Bool.{Bool, true, false}
use mathlib.Core.List.{List, [], ◌∷◌, map}
use mathlib.Core.Logic.{inl}
use mathlib.Core.Path.{◌≡◌, refl, sym, ap, ◌∙◌}
use Prim.Native.Nat.{ℕ, zero, suc, ◌+◌, ◌-◌, ◌*◌, ◌≤◌, ◌<◌, min}
use native.Mathlib.Omega.{arith}
use lib.Dec.{ltb}
use lib.ListN.{length}
use borrow.Author.Tests.{le-leb, lt-leb, lt-ltb, ltb-true, ltb-false}
use Rattle.std.specs.Prelude.{Some}
use Rattle.std.proofs.lemmas.Option.{none-some}
use Rattle.terms.specs.Choice.{when}
use Rattle.terms.proofs.Refusals.{taken_exactly}
use Rattle.terms.proofs.Tests.{when_true, when_false, when_elim, either_true, either_false}
use Rattle.load.specs.declared.Load.{Load}
use Rattle.bits.specs.Bits.{sent_bit}
use Rattle.follow.specs.Follow.{opened, after, onward}
use Rattle.place.specs.Phases.{places, ended}
use Rattle.place.specs.declared.Phase.{Phase}
use Rattle.place.specs.declared.Place.{Place}
use Rattle.frames.specs.Frames.{width, empty, fits, with, byte_of}
use Rattle.frames.specs.LowRuns.{low_runs, run}
use Rattle.frames.specs.declared.Frame.{Frame}
use Rattle.frames.specs.Spells.{laid, widths}
use Rattle.frames.proofs.Spells.{with_used, two_each, frame_spells}
use Rattle.packing.specs.Phases.{in_bits, in_pairs}
use Rattle.packing.specs.Runs.{bits_from}
use Rattle.packing.specs.Filling.{Open, goes_into, goes_on, joined, tried, more, filled_to, filled, most, paired, sent_at}
use Rattle.packing.proofs.Full.{at_most_three, some_spell, filled_byte, full_byte}
use Rattle.packing.proofs.Phases.{in_bits_lem}
use Rattle.packing.proofs.Walks.{bit_at, Walks, stays, walks}
use Rattle.serial.specs.Replies.{came}
use Rattle.serial.specs.Step.{serial_rows, resumed_at, turn_at, turn_of, serial_step}
use Rattle.packing.specs.declared.Packing.{Packing}
use Rattle.packing.specs.declared.Packing.TheVariants.{One, Three, Fewest}
use Rattle.serial.specs.declared.Serial.{Serial}
use Rattle.serial.specs.declared.Turn.{Turn}
use Rattle.serial.proofs.Kept.{within, resumed_in}
use Rattle.spelling.specs.Packed.{up_to, ahead, fitting, held_of, held, EveryByte}

widths_most : (bits : List Bool) → widths bits ≤ 3 * length bits
unfolding widths
widths_most [] = omega arith
widths_most (b ∷ bits) = omega (arith, at_most_three b, widths_most bits)

module _ (packing : Packing) (load : Load) (image : List ℕ) where
  -- Turns from the front.
  turned : (n : ℕ) (f : Open) → filled_to packing load image (suc n) f ≡ filled_to packing load image n (more packing load image f)
  unfolding filled_to
  turned zero f = refl
  turned (suc n) f = ap (more packing load image) (turned n f)

  rests : (n : ℕ) (f : Open) → f.going ≡ false → filled_to packing load image n f ≡ f
  unfolding filled_to more
  rests zero f e = refl
  rests (suc n) f e = ap (more packing load image) (rests n f e) ∙ when_false _ _ e

  -- Where a byte goes on within its phase, and at no phase's first place.
  module _ (phase : Phase) (bits : in_pairs phase ≡ false)
      (goes_within : (i : ℕ) → goes_on packing (record { phase = phase; index = i + 1 }) ≡ true)
      (stops_at : (to : Phase) → goes_on packing (opened to) ≡ false) where
    abbrev at : Frame → ℕ → Open
    at frame i = record { frame = frame; place = record { phase = phase; index = i }; going = true }

    abbrev bit : ℕ → Bool
    bit i = sent_bit load image phase i

    room : (frame : Frame) (b : Bool) (n : ℕ) → frame.used + 3 * suc n ≤ 10 → fits frame b ≡ true
    unfolding fits
    room frame b n h = le-leb (frame.used + width b) 10 (omega (arith, h, at_most_three b))

    one_turn : (frame : Frame) (i n : ℕ) → frame.used + 3 * suc n ≤ 10
        → more packing load image (at frame i) ≡ joined packing (with frame (bit i)) (onward load phase i)
    unfolding more tried when
    one_turn frame i n h = when_true _ _ (room frame (bit i) n h)

    more_left : (i : ℕ) (frame : Frame) → i + 1 < places load phase → joined packing frame (onward load phase i) ≡ at frame (i + 1)
    unfolding onward
    more_left i frame h =
        ap (joined packing frame) (when_true _ _ (lt-ltb (i + 1) (places load phase) h))
        ∙ ap (λ (b : Bool). record { frame = frame; place = record { phase = phase; index = i + 1 }; going = b }) (goes_within i)

    none_left : (i : ℕ) (frame : Frame) → ltb (i + 1) (places load phase) ≡ false
        → ((joined packing frame (onward load phase i)).going ≡ false) × ((joined packing frame (onward load phase i)).frame ≡ frame)
    unfolding onward
    none_left i frame e = (ap (goes_on packing) (when_false _ _ e) ∙ stops_at (after load phase), refl)

    -- The bits of the turns that are left.
    abbrev Held : ℕ → ℕ → Frame → Open → Type 0
    Held n i frame f = (filled_to packing load image n f).frame ≡ laid frame (bits_from load image phase i (min n (places load phase - i)))

    by_left : (n i : ℕ) (frame : Frame) → i < places load phase
        → (i + 1 < places load phase → Held n (i + 1) (with frame (bit i)) (at (with frame (bit i)) (i + 1)))
        → (b : Bool) → ltb (i + 1) (places load phase) ≡ b
        → (filled_to packing load image n (joined packing (with frame (bit i)) (onward load phase i))).frame
        ≡ laid frame (bits_from load image phase i (min (suc n) (places load phase - i)))
    unfolding laid bits_from
    by_left n i frame h rest true e =
        let more = ltb-true (i + 1) (places load phase) e in
        let count : min (suc n) (places load phase - i) ≡ suc (min n (places load phase - (i + 1))) = omega (arith, more) in
        ap (λ (f : Open). (filled_to packing load image n f).frame) (more_left i (with frame (bit i)) more) ∙ rest more
        ∙ ap (λ (k : ℕ). laid frame (bits_from load image phase i k)) (sym count)
    by_left n i frame h rest false e =
        let last = ltb-false (i + 1) (places load phase) e in
        let count : min (suc n) (places load phase - i) ≡ 1 = omega (arith, last, h) in
        let none = none_left i (with frame (bit i)) e in
        ap (λ (f : Open). f.frame) (rests n _ none.0) ∙ none.1
        ∙ ap (λ (k : ℕ). laid frame (bits_from load image phase i k)) (sym count)

    holds : (n i : ℕ) (frame : Frame) → frame.used + 3 * n ≤ 10 → i < places load phase → Held n i frame (at frame i)
    unfolding filled_to laid bits_from
    holds zero i frame h k =
        let count : min 0 (places load phase - i) ≡ 0 = omega arith in
        ap (λ (m : ℕ). laid frame (bits_from load image phase i m)) (sym count)
    holds (suc n) i frame h k =
        let wide = with_used frame (bit i) (room frame (bit i) n h) in
        ap (λ (f : Open). f.frame) (turned n (at frame i))
        ∙ ap (λ (f : Open). (filled_to packing load image n f).frame) (one_turn frame i n h)
        ∙ by_left n i frame k (λ more. holds n (i + 1) (with frame (bit i)) (omega (arith, h, wide, at_most_three (bit i))) more)
        (ltb (i + 1) (places load phase)) refl

count_from : (load : Load) (image : List ℕ) (phase : Phase) (n i : ℕ) → length (bits_from load image phase i n) ≡ n
unfolding bits_from
count_from load image phase zero i = refl
count_from load image phase (suc n) i = ap suc (count_from load image phase n (i + 1))

-- Bits that lead from a place on, and leave no room for the next, are those that fit.
module _ (load : Load) (image : List ℕ) where
  none_fits : (n room : ℕ) (p : Place) → (in_bits p.phase ≡ true → room < width (bit_at load image p)) → fitting room (ahead load image n p) ≡ []
  unfolding ahead fitting
  none_fits zero room p full = refl
  none_fits (suc n) room p full =
      when_elim (λ (l : List Bool). fitting room l ≡ []) (in_bits p.phase) _ _ (λ on. when_false _ _ (lt-leb (width (bit_at load image p)) room (full on))) (λ off. refl)

  those_fit : (n room : ℕ) (p q : Place) (bits : List Bool) → Walks load image p bits q → length bits ≤ n → widths bits ≤ room
      → (in_bits q.phase ≡ true → room < widths bits + width (bit_at load image q)) → fitting room (ahead load image n p) ≡ bits
  unfolding ahead fitting widths
  those_fit n room p _ _ (stays _) h w full = none_fits n room p (λ on. omega (arith, full on))
  those_fit zero room p q _ (walks _ bits _ on way) h w full = absurd (omega (arith, h))
  those_fit (suc n) room p q _ (walks _ bits _ on way) h w full =
      let b = bit_at load image p in
      let rest = those_fit n (room - width b) _ q bits way (omega (arith, h)) (omega (arith, w)) (λ e. omega (arith, full e, w)) in
      ap (fitting room) (when_true _ _ on) ∙ when_true _ _ (le-leb (width b) room (omega (arith, w))) ∙ ap (λ (l : List Bool). b ∷ l) rest

-- What is filled from a place on.
module _ (load : Load) (image : List ℕ) (phase : Phase) (i : ℕ) (on : ended phase ≡ false) (h : i < places load phase) where
  abbrev here : Place
  here = record { phase = phase; index = i }

  abbrev Spells : Packing → List Bool → Type 0
  Spells packing bits = low_runs (byte_of (filled packing load image here).frame.lows) ≡ map run bits

  few_spell : (packing : Packing) → 1 ≤ most packing → most packing ≤ 3 → in_pairs phase ≡ false
      → ((j : ℕ) → goes_on packing (record { phase = phase; index = j + 1 }) ≡ true) → ((to : Phase) → goes_on packing (opened to) ≡ false)
      → Spells packing (up_to (most packing) load image phase i)
  unfolding filled
  few_spell packing least few p goes stops =
      let bits = up_to (most packing) load image phase i in
      let length_is = count_from load image phase (min (most packing) (places load phase - i)) i in
      let some : 1 ≤ length bits = omega (arith, length_is, h, least) in
      let fits : widths bits ≤ 10 = omega (arith, widths_most bits, length_is, few) in
      ap (λ (f : Frame). low_runs (byte_of f.lows)) (holds packing load image phase p goes stops (most packing) i empty (omega (arith, few)) h)
      ∙ some_spell bits some fits

  fewest_spell : in_pairs phase ≡ false → Spells Fewest (held_of Fewest load image phase i)
  fewest_spell p =
      let go = in_bits_lem phase (record { bits = p; on = on }) in
      let x = filled_byte Fewest load image here go in
      let two = two_each x.bits in
      x.runs ∙ ap (map run) (sym (those_fit load image 5 10 here _ x.bits x.way (omega (arith, two, x.room)) x.room (full_byte load image here go _ x)))

  goes_within : (packing : Packing) (j : ℕ) → goes_on packing (record { phase = phase; index = j + 1 }) ≡ true
  unfolding goes_on
  goes_within packing j = (either_true _ _).1 (inl (lt-ltb 0 (j + 1) (omega arith)))

  stops_at : (packing : Packing) → ((to : Phase) → goes_into packing to ≡ false) → (to : Phase) → goes_on packing (opened to) ≡ false
  unfolding goes_on
  stops_at packing never to = (either_false _ _).1 (refl, never to)

  run_spells : (packing : Packing) → in_pairs phase ≡ false → Spells packing (held_of packing load image phase i)
  run_spells One p = few_spell One (omega arith) (omega arith) p (goes_within One) (stops_at One (λ to. refl))
  run_spells Three p = few_spell Three (omega arith) (omega arith) p (goes_within Three) (stops_at Three (λ to. refl))
  run_spells Fewest p = fewest_spell p

  by_pairs : (packing : Packing) (b : Bool) → in_pairs phase ≡ b
      → low_runs (byte_of (sent_at packing load image phase i).frame.lows) ≡ map run (held packing load image phase i)
  unfolding sent_at held paired when laid widths
  by_pairs packing true p = rw (p) (frame_spells true (false ∷ []) (omega arith))
  by_pairs packing false p = rw (p) (run_spells packing p)

-- The byte of a turn, from where what came back has led.
module _ (s : Serial) (image : List ℕ) (p : Place) (h : p.index < places s.load p.phase) (byte : ℕ) where
  abbrev Spelt : Turn → Type 0
  Spelt t = t.sent ≡ Some byte → low_runs byte ≡ map run (held s.packing s.load image p.phase p.index)

  turn_spells : Spelt (turn_at s image p.phase p.index)
  unfolding turn_at
  turn_spells =
      when_elim Spelt (ended p.phase) _ _ (λ e q. absurd (none-some _ q))
      (λ e q.
      let same : byte ≡ byte_of (sent_at s.packing s.load image p.phase p.index).frame.lows = cc in
      ap low_runs same ∙ by_pairs s.load image p.phase p.index e h s.packing (in_pairs p.phase) refl)

pub every_byte : EveryByte
unfolding serial_step turn_of
every_byte s image back t byte e q =
    let passed = (taken_exactly (turn_of s image back) t (serial_rows s image back)).0 e in
    let w = within s.load s.place passed.0.0 in
    let there = resumed_in s.load w.loaded s.place (came back) passed.0.1.0 w.stands in
    turn_spells s image (resumed_at s back) there.short byte (ap (λ (x : Turn). x.sent) (sym passed.1) ∙ q)
