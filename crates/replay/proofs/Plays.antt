-- From a fresh chip on every pulse is taken until the chip has ended: the chip is reached from a start, and both memories keep their sizes.
-- So a replay is the first so many pulses.
-- Assumes nothing.
use mathlib.Core.Bool.{Bool, true, false, true≢false}
use mathlib.Core.List.{List, [], ◌∷◌}
use mathlib.Core.Path.{◌≡◌, refl, sym, ap, ◌∙◌, subst}
use Prim.Native.Nat.{ℕ, zero, suc, ◌+◌, ◌*◌, ◌%◌, ◌≤◌, ◌<◌}
use native.Mathlib.Nat.{not-suc-le-zero}
use native.Mathlib.Omega.{arith}
use lib.ListN.{length, get_or}
use Rattle.terms.specs.Refusals.{refused, taken, first}
use Rattle.terms.proofs.Refusals.{Clear, clear_taken, taken_exactly}
use Rattle.terms.proofs.Tests.{differ_false}
use Rattle.units.specs.Units.{loops_of}
use Rattle.phases.specs.Phases.{ended}
use Rattle.eeprom.specs.declared.Fault.{Fault}
use Rattle.chip.specs.Reached.{Reached, started, stepped}
use Rattle.chip.specs.Step.{start_rows, fresh, chip_start, chip_step}
use Rattle.chip.specs.Step as step
use Rattle.chip.proofs.Sound.{step_plays, step_ram_size, step_eeprom_size, step_unrefused}
use Rattle.trace.specs.Traces.{list_of, numbers_of, is_odd}
use Rattle.replay.specs.Plays.{wait_of, low_of, after, Plays, EveryReplay}
use Rattle.replay.specs.Replay.{State, state, replied, listened, played, finished, unless_refused, replay_rows, replay_of}
use Rattle.replay.proofs.Turns.{played_ended, played_more, played_one, played_none}

pub record Sound (s : State) : Type 0 where
  pub reached : Reached s.chip
  pub ram_size : length s.ram ≡ 32768
  pub eeprom_size : length s.eeprom ≡ 32768

module _ (s : State) (k : Sound s) (going : ended s.chip.receiver.listener.phase ≡ false) (wait low : ℕ) where
  listened_unrefused : (n : ℕ) → (chip_step s.chip s.ram s.eeprom wait low).answer ≡ refused n → ⊥
  listened_unrefused = step_unrefused s.chip s.ram s.eeprom k.reached k.ram_size k.eeprom_size going wait low

  listened_sound : Sound (listened s wait low)
  unfolding listened
  listened_sound = record {
    reached =
        let plays = step_plays s.chip s.ram s.eeprom k.reached k.ram_size k.eeprom_size going wait low in
        subst (λ (l : step.Left). Reached (replied s.chip l.answer)) plays
        (stepped s.chip s.ram s.eeprom wait low _ _ _ k.reached (sym plays));
    ram_size = step_ram_size s.chip s.ram s.eeprom k.reached k.ram_size k.eeprom_size going wait low;
    eeprom_size = step_eeprom_size s.chip s.ram s.eeprom k.reached k.ram_size k.eeprom_size going wait low;
  }

-- The pulses after the first are those of the numbers after the first two.
module _ (w l : ℕ) (ns : List ℕ) where
  wait_later : (n : ℕ) → wait_of (w ∷ l ∷ ns) (suc n) ≡ wait_of ns n
  wait_later n = let e : suc n * 2 ≡ suc (suc (n * 2)) = omega arith in ap (λ (i : ℕ). loops_of (get_or (w ∷ l ∷ ns) i 0)) e

  low_later : (n : ℕ) → low_of (w ∷ l ∷ ns) (suc n) ≡ low_of ns n
  low_later n = let e : suc n * 2 + 1 ≡ suc (suc (n * 2 + 1)) = omega arith in ap (λ (i : ℕ). loops_of (get_or (w ∷ l ∷ ns) i 0)) e

  after_later : (n : ℕ) (s : State) → after (w ∷ l ∷ ns) (suc n) s ≡ after ns n (listened s (loops_of w) (loops_of l))
  unfolding after
  after_later zero s = refl
  after_later (suc n) s =
      ap (λ (t : State). listened t (wait_of (w ∷ l ∷ ns) (suc n)) (low_of (w ∷ l ∷ ns) (suc n))) (after_later n s)
      ∙ ap (λ (i : ℕ). listened (after ns n (listened s (loops_of w) (loops_of l))) i (low_of (w ∷ l ∷ ns) (suc n))) (wait_later n)
      ∙ ap (listened (after ns n (listened s (loops_of w) (loops_of l))) (wait_of ns n)) (low_later n)

-- The chip's step at a state, for the numbers of pulse n.
abbrev step_of : List ℕ → ℕ → State → step.Left
step_of ns n s = chip_step s.chip s.ram s.eeprom (wait_of ns n) (low_of ns n)

abbrev has_ended : State → Bool
has_ended s = ended s.chip.receiver.listener.phase

-- The pulses that are played, whether their numbers come in pairs or not.
record Turns (ns : List ℕ) (s : State) : Type 0 where
  pub pulses : ℕ
  pub few : pulses * 2 ≤ length ns
  pub before : (n : ℕ) → n < pulses → has_ended (after ns n s) ≡ false
  pub unrefused : (n : ℕ) → n < pulses → (k : ℕ) → (step_of ns n (after ns n s)).answer ≡ refused k → ⊥
  pub over : has_ended (after ns pulses s) ≡ false → length ns ≤ pulses * 2 + 1
  pub end : played ns s ≡ after ns pulses s

none_before : {A : Type 0} (n : ℕ) → n < 0 → A
none_before n h = absurd (not-suc-le-zero h)

module _ (w l : ℕ) (ns : List ℕ) (s : State) where
  -- A chip that has ended hears nothing more.
  ended_turns : has_ended s ≡ true → Turns (w ∷ l ∷ ns) s
  unfolding after
  ended_turns e = record {
    pulses = 0;
    few = omega arith;
    before = λ n h. none_before n h;
    unrefused = λ n h k q. none_before n h;
    over = λ goes. absurd (true≢false (sym e ∙ goes));
    end = played_ended (w ∷ l ∷ ns) s e;
  }

  -- A pulse, and then those after it.
  module _ (k : Sound s) (goes : has_ended s ≡ false) (t : Turns ns (listened s (loops_of w) (loops_of l))) where
    before_later : (n : ℕ) → n < suc t.pulses → has_ended (after (w ∷ l ∷ ns) n s) ≡ false
    unfolding after
    before_later zero h = goes
    before_later (suc n) h = ap has_ended (after_later w l ns n s) ∙ t.before n (omega arith)

    unrefused_later : (n : ℕ) → n < suc t.pulses → (i : ℕ) → (step_of (w ∷ l ∷ ns) n (after (w ∷ l ∷ ns) n s)).answer ≡ refused i → ⊥
    unfolding after
    unrefused_later zero h i q = listened_unrefused s k goes (loops_of w) (loops_of l) i q
    unrefused_later (suc n) h i q =
        let x = after ns n (listened s (loops_of w) (loops_of l)) in
        let same : step_of (w ∷ l ∷ ns) (suc n) (after (w ∷ l ∷ ns) (suc n) s) ≡ step_of ns n x =
        ap (step_of (w ∷ l ∷ ns) (suc n)) (after_later w l ns n s)
        ∙ ap (λ (j : ℕ). chip_step x.chip x.ram x.eeprom j (low_of (w ∷ l ∷ ns) (suc n))) (wait_later w l ns n)
        ∙ ap (chip_step x.chip x.ram x.eeprom (wait_of ns n)) (low_later w l ns n) in
        t.unrefused n (omega arith) i (ap (λ (y : step.Left). y.answer) (sym same) ∙ q)

    more_turns : Turns (w ∷ l ∷ ns) s
    more_turns =
        let f = t.few in
        record {
          pulses = suc t.pulses;
          few = omega (arith, f);
          before = before_later;
          unrefused = unrefused_later;
          over = λ e. let o = t.over (sym (ap has_ended (after_later w l ns t.pulses s)) ∙ e) in omega (arith, o);
          end = played_more w l ns s goes ∙ t.end ∙ sym (after_later w l ns t.pulses s);
        }

  turns_by : (b : Bool) → has_ended s ≡ b → Sound s → (has_ended s ≡ false → Turns ns (listened s (loops_of w) (loops_of l))) → Turns (w ∷ l ∷ ns) s
  turns_by true e k f = ended_turns e
  turns_by false e k f = more_turns k e (f e)

turns : (ns : List ℕ) (s : State) → Sound s → Turns ns s
unfolding after
turns [] s k = record {
  pulses = 0;
  few = omega arith;
  before = λ n h. none_before n h;
  unrefused = λ n h i q. none_before n h;
  over = λ e. omega arith;
  end = played_none s;
}
turns (w ∷ []) s k = record {
  pulses = 0;
  few = omega arith;
  before = λ n h. none_before n h;
  unrefused = λ n h i q. none_before n h;
  over = λ e. omega arith;
  end = played_one w s;
}
turns (w ∷ l ∷ ns) s k =
    turns_by w l ns s (has_ended s) refl k (λ e. turns ns (listened s (loops_of w) (loops_of l)) (listened_sound s k e (loops_of w) (loops_of l)))

module _ (trace : List ℕ) (fault : Fault) (ram eeprom ns : List ℕ) where
  start_sound : Clear (start_rows ram eeprom fault) → Sound (state (fresh fault) ram eeprom)
  unfolding chip_start
  start_sound clear = record {
    reached = started ram eeprom fault (fresh fault) (clear_taken (fresh fault) (start_rows ram eeprom fault) clear);
    ram_size = (differ_false (length ram) 32768).0 clear.0;
    eeprom_size = (differ_false (length eeprom) 32768).0 clear.1.0;
  }

  even_over : (n : ℕ) → is_odd ns ≡ false → n * 2 ≤ length ns → length ns ≤ n * 2 + 1 → n * 2 ≡ length ns
  even_over n even few most = let e = (differ_false (length ns % 2) 0).0 even in omega (arith, e, few, most)

  plays : first (replay_rows trace fault ram eeprom) (list_of (numbers_of trace)) ≡ taken ns
      → Plays ns (state (fresh fault) ram eeprom) (replay_of trace fault ram eeprom)
  unfolding replay_of
  plays e =
      let known = (taken_exactly (list_of (numbers_of trace)) ns (replay_rows trace fault ram eeprom)).0 e in
      let clear = known.0 in
      let t = turns ns (state (fresh fault) ram eeprom) (start_sound (clear.0, (clear.1.0, (clear.1.1.0, tt)))) in
      let even : is_odd ns ≡ false = ap is_odd known.1 ∙ clear.1.1.1.1.1.0 in
      record {
        pulses = t.pulses;
        few = t.few;
        before = t.before;
        unrefused = t.unrefused;
        over = λ o. even_over t.pulses even t.few (t.over o);
        left = ap (unless_refused fault ram eeprom) e ∙ ap finished t.end;
      }

pub every_replay : EveryReplay
every_replay = plays
