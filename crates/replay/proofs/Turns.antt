-- A replay pulse after pulse: what is left of it, from where it stands, is the whole replay.
-- Assumes nothing.
use mathlib.Core.Bool.{Bool, true, false, true≢false}
use mathlib.Core.List.{List, [], ◌∷◌}
use mathlib.Core.Path.{◌≡◌, refl, sym, ap, ◌∙◌, subst}
use Prim.Native.Nat.{ℕ, ◌≤◌, ◌<◌}
use native.Mathlib.Omega.{arith}
use borrow.Author.Tests.{leb-true, leb-false}
use lib.Dec.{leb}
use lib.ListN.{length, drop, drop_of_length-le}
use Rattle.std.specs.Prelude.{Option, None, Some, Result, Ok, Err, is_some}
use Rattle.terms.specs.Refusals.{Answer}
use Rattle.terms.proofs.Tests.{when_true, when_false}
use Rattle.units.specs.Units.{loops_of}
use Rattle.phases.specs.Endings.{told_end, end_at}
use Rattle.phases.specs.Phases.{ended}
use Rattle.phases.specs.declared.Ending.{Ending}
use Rattle.phases.specs.declared.Phase.{Phase}
use Rattle.phases.proofs.Endings.{listens, has_ended}
use Rattle.chip.specs.Step.{Reply, left, chip_step}
use Rattle.chip.specs.declared.Chip.{Chip}
use Rattle.numbers.specs.Numbers.{groups, bound, number_at}
use Rattle.numbers.specs.declared.Number.{Number}
use Rattle.numbers.specs.declared.NoNumber.{NoNumber}
use Rattle.numbers.specs.declared.NoNumber.TheVariants.{End, Bad}
use Rattle.numbers.proofs.Going.{at_end}
use Rattle.trace.specs.Traces.{Numbers, good, faulty, after, is_faulty, list_of, numbers_in}
use Rattle.trace.proofs.Files.{Read, value_read, bad_here, not_end, in_none, in_more}
use Rattle.replay.specs.Pulses.{with_low, with_wait, pulse_at}
use Rattle.replay.specs.Replay.{State, state, replied, kept, listened, played}
use Rattle.replay.specs.declared.pulses.Pulse.{Pulse}

-- A chip that has ended hears nothing more.
pub played_ended : (ns : List ℕ) (s : State) → ended s.chip.receiver.listener.phase ≡ true → played ns s ≡ s
unfolding played
played_ended [] s e = refl
played_ended (w ∷ []) s e = refl
played_ended (w ∷ l ∷ ns) s e = when_true _ _ e

pub played_more : (w l : ℕ) (ns : List ℕ) (s : State) → ended s.chip.receiver.listener.phase ≡ false
    → played (w ∷ l ∷ ns) s ≡ played ns (listened s (loops_of w) (loops_of l))
unfolding played
played_more w l ns s e = when_false _ _ e

pub played_one : (w : ℕ) (s : State) → played (w ∷ []) s ≡ s
unfolding played
played_one w s = refl

pub played_none : (s : State) → played [] s ≡ s
unfolding played
played_none s = refl

-- The numbers after a good one.
record Later (v : ℕ) (x : Numbers) : Type 0 where
  pub good_too : is_faulty x ≡ false
  pub list : list_of (after v x) ≡ v ∷ list_of x

later : (v : ℕ) (x : Numbers) → is_faulty (after v x) ≡ false → Later v x
later v (good ns) e = record { good_too = refl; list = refl }
later v faulty e = absurd (true≢false e)

abbrev rest : List ℕ → ℕ → Numbers
rest trace at = numbers_in groups bound (drop at trace)

-- No number stands at the end.
inside_by : (trace : List ℕ) (at : ℕ) (t : Bool) → leb (length trace) at ≡ t → (number_at groups bound trace at ≡ Err End → ⊥)
    → at < length trace
inside_by trace at true e n = absurd (n (sym (at_end groups bound trace at (leb-true (length trace) at e))))
inside_by trace at false e n = leb-false (length trace) at e

module _ (trace : List ℕ) (at : ℕ) (h : at < length trace) (ok : is_faulty (rest trace at) ≡ false) where
  -- A pulse, and the numbers after it.
  pub record Turn (p : Pulse) : Type 0 where
    pub wait : ℕ
    pub low : ℕ
    pub list : list_of (rest trace at) ≡ wait ∷ low ∷ list_of (rest trace p.next.0)
    pub wait_is : p.wait.0 ≡ loops_of wait
    pub low_is : p.low.0 ≡ loops_of low
    pub good_too : is_faulty (rest trace p.next.0) ≡ false
    pub forward : at < p.next.0

  module _ (w : Number) (e : number_at groups bound trace at ≡ Ok w) where
    read : Read groups bound trace at h w
    read = value_read groups bound trace at h (number_at groups bound trace at) refl w e

    split : rest trace at ≡ after w.value (rest trace w.next.0)
    split = in_more groups bound (drop at trace) w.value (drop w.next.0 trace) read.is

    then : Later w.value (rest trace w.next.0)
    then = later w.value (rest trace w.next.0) (sym (ap is_faulty split) ∙ ok)

    list_then : list_of (rest trace at) ≡ w.value ∷ list_of (rest trace w.next.0)
    list_then = ap list_of split ∙ then.list

    module _ (l : Number) (e' : number_at groups bound trace w.next.0 ≡ Ok l) where
      before_end : w.next.0 < length trace
      before_end = inside_by trace w.next.0 (leb (length trace) w.next.0) refl (λ q. cc)

      read' : Read groups bound trace w.next.0 before_end l
      read' = value_read groups bound trace w.next.0 before_end (number_at groups bound trace w.next.0) refl l e'

      split' : rest trace w.next.0 ≡ after l.value (rest trace l.next.0)
      split' = in_more groups bound (drop w.next.0 trace) l.value (drop l.next.0 trace) read'.is

      then' : Later l.value (rest trace l.next.0)
      then' = later l.value (rest trace l.next.0) (sym (ap is_faulty split') ∙ then.good_too)

      turned : Turn (record { wait = record { 0 = loops_of w.value }; low = record { 0 = loops_of l.value }; next = l.next })
      turned =
          let f = read.forward in
          let f' = read'.forward in
          record {
            wait = w.value;
            low = l.value;
            list = list_then ∙ ap (λ (x : List ℕ). w.value ∷ x) (ap list_of split' ∙ then'.list);
            wait_is = refl;
            low_is = refl;
            good_too = then'.good_too;
            forward = omega (arith, f, f');
          }

    with_low_lem : (p : Pulse) (y : Result Number NoNumber) → number_at groups bound trace w.next.0 ≡ y → with_low w y ≡ Some p → Turn p
    with_low_lem p (Ok l) q k =
        let same : ◌≡◌ {A = Pulse} (record { wait = record { 0 = loops_of w.value }; low = record { 0 = loops_of l.value }; next = l.next }) p = cc in
        subst Turn same (turned l q)
    with_low_lem p (Err n) q k = absurd (cc)

    -- A wait without its low.
    alone_at : (t : Bool) → leb (length trace) w.next.0 ≡ t → (y : Result Number NoNumber) → number_at groups bound trace w.next.0 ≡ y
        → with_low w y ≡ None → rest trace w.next.0 ≡ good []
    alone_at true b y q k = ap (numbers_in groups bound) (drop_of_length-le trace (leb-true (length trace) w.next.0 b)) ∙ in_none groups bound
    alone_at false b (Ok l) q k = absurd (cc)
    alone_at false b (Err End) q k =
        absurd (not_end groups bound trace w.next.0 (leb-false (length trace) w.next.0 b) (number_at groups bound trace w.next.0) refl q)
    alone_at false b (Err Bad) q k =
        let bad = bad_here groups bound trace w.next.0 (leb-false (length trace) w.next.0 b) (number_at groups bound trace w.next.0) refl q in
        absurd (true≢false (sym (ap is_faulty bad) ∙ then.good_too))

  with_wait_lem : (p : Pulse) (x : Result Number NoNumber) → number_at groups bound trace at ≡ x → with_wait trace x ≡ Some p → Turn p
  with_wait_lem p (Ok w) e k = with_low_lem w e p (number_at groups bound trace w.next.0) refl k
  with_wait_lem p (Err n) e k = absurd (cc)

  pub turn : (p : Pulse) → pulse_at trace at ≡ Some p → Turn p
  turn p k = with_wait_lem p (number_at groups bound trace at) refl k

  over_by : (s : State) (x : Result Number NoNumber) → number_at groups bound trace at ≡ x → with_wait trace x ≡ None → played (list_of (rest trace at)) s ≡ s
  over_by s (Ok w) e k =
      ap (λ (ns : List ℕ). played ns s)
      (list_then w e
      ∙ ap (λ (x : Numbers). w.value ∷ list_of x)
      (alone_at w e (leb (length trace) w.next.0) refl (number_at groups bound trace w.next.0) refl k))
      ∙ played_one w.value s
  over_by s (Err End) e k = absurd (not_end groups bound trace at h (number_at groups bound trace at) refl e)
  over_by s (Err Bad) e k =
      let bad = bad_here groups bound trace at h (number_at groups bound trace at) refl e in
      absurd (true≢false (sym (ap is_faulty bad) ∙ ok))

  pub over : (s : State) → pulse_at trace at ≡ None → played (list_of (rest trace at)) s ≡ s
  over s k = over_by s (number_at groups bound trace at) refl k

module _ (trace : List ℕ) (end : State) where
  -- What the loop has at each turn.
  pub record Playing (s : State) (at : ℕ) : Type 0 where
    pub sound : is_faulty (rest trace at) ≡ false
    pub same : played (list_of (rest trace at)) s ≡ end

  module _ (s : State) (at : ℕ) (k : Playing s at) where
    pub playing_ended : ended s.chip.receiver.listener.phase ≡ true → s ≡ end
    playing_ended e = sym (played_ended (list_of (rest trace at)) s e) ∙ k.same

    pub playing_done : length trace ≤ at → s ≡ end
    playing_done h =
        let none : rest trace at ≡ good [] = ap (numbers_in groups bound) (drop_of_length-le trace h) ∙ in_none groups bound in
        sym (ap (λ (x : Numbers). played (list_of x) s) none ∙ played_none s) ∙ k.same

    module _ (h : at < length trace) (r : Option Pulse) (q : r ≡ pulse_at trace at) where
      pub playing_over : r ≡ None → s ≡ end
      playing_over e = sym (over trace at h k.sound s (sym q ∙ e)) ∙ k.same

      playing_turn : (p : Pulse) → r ≡ Some p → Turn trace at h k.sound p
      playing_turn p e = turn trace at h k.sound p (sym q ∙ e)

      pub playing_on : (p : Pulse) → r ≡ Some p → at < p.next.0
      playing_on p e = (playing_turn p e).forward

      pub playing_more : (p : Pulse) → r ≡ Some p → ended s.chip.receiver.listener.phase ≡ false → (s' : State)
          → s' ≡ listened s p.wait.0 p.low.0 → Playing s' p.next.0
      playing_more p e goes s' so =
          let t = playing_turn p e in
          record {
            sound = t.good_too;
            same =
                ap (played (list_of (rest trace p.next.0)))
                (so ∙ ap (λ (n : ℕ). listened s n p.low.0) t.wait_is ∙ ap (listened s (loops_of t.wait)) t.low_is)
                ∙ sym (played_more t.wait t.low (list_of (rest trace p.next.0)) s goes)
                ∙ sym (ap (λ (ns : List ℕ). played ns s) t.list)
                ∙ k.same;
          }

-- Whether a chip has ended, by its answer.
module _ (p : Phase) (r : Option Ending) (asked : told_end r ≡ end_at p) where
  told_over_by : (x : Option Ending) → r ≡ x → is_some r ≡ ended p
  told_over_by None e = ap is_some e ∙ sym (listens r p asked e)
  told_over_by (Some x) e = ap is_some e ∙ sym (has_ended r p asked x e)

  pub told_over : is_some r ≡ ended p
  told_over = told_over_by r refl

-- What the chip's step leaves is what a pulse leaves.
module _ (c : Chip) (ram eeprom : List ℕ) (wait low : ℕ) (a : Answer Reply) (x : Chip) (ram' eeprom' : List ℕ) where
  pub listen_left : left a ram' eeprom' ≡ chip_step c ram eeprom wait low → x ≡ replied c a
      → state x ram' eeprom' ≡ listened (state c ram eeprom) wait low
  unfolding listened
  listen_left q h = ap (λ (y : Chip). state y ram' eeprom') h ∙ ap (kept c) q
