-- What demand 3 asks is met by closed instances, and by every run that rounds down, which is then the run that it speaks of.
-- Assumes nothing.
use mathlib.Core.Bool.{true, false, true≢false}
use mathlib.Core.List.{List}
use mathlib.Core.Path.{◌≡◌, refl, sym, ap, ◌∙◌, subst}
use Prim.Native.Nat.{ℕ, zero, suc, ◌+◌, ◌*◌, ◌/◌, ◌%◌, ◌≤◌, ◌<◌, min}
use native.Mathlib.Nat.{div-add-mod', lt_of_mul-lt-mul_right, mod-lt}
use native.Mathlib.Omega.{arith}
use lib.ListN.{length}
use Rattle.terms.specs.Choice.{when, either}
use Rattle.terms.specs.Refusals.{Answer, refused, taken}
use Rattle.terms.proofs.Refusals.{not_both}
use Rattle.units.specs.Units.{most, loops_in}
use Rattle.units.proofs.Conversions.{some_length}
use Rattle.lent.specs.Bytes.{word_at, total}
use Rattle.load.specs.Image.{bad_length, other_length, other_start, bad_stack, other_sum}
use Rattle.settings.specs.Settings.{outside, slow}
use Rattle.place.specs.Phases.{ended}
use Rattle.host.specs.Step.{host_start}
use Rattle.host.specs.declared.Host.{Host}
use Rattle.eeprom.specs.declared.Fault.TheVariants.{None}
use Rattle.chip.specs.Step.{chip_start}
use Rattle.chip.specs.declared.Chip.{Chip}
use Rattle.checks.specs.Sample.{sample}
use Rattle.conversation.specs.Final.{AllBytes, ram_after}
use Rattle.joined.specs.Ends.{after, Ends}
use Rattle.conversation.proofs.Longs.{bytes_tested}
use Rattle.joined.specs.Joined.{State, Measuring, rounded_down, host_ended, begun}
use Rattle.place.specs.Endings as place
use Rattle.phases.specs.Endings as phases
use Rattle.joined.specs.Run.{Outcome, Left, budget, outcome, left, finished, from_chip, from_host, run_of}
use Rattle.joined.proofs.Budget.{run_ends}
use Rattle.success.specs.Met.{fresh, AskedOfSample, Answers, Met}
use Rattle.success.specs.Success.{May, Loop, Margin, Asked, pulses, Succeeds}
use Rattle.success.proofs.Succeeding.{demand_3}

module _ (p l : ℕ) (loop : 400000 ≤ l) (ticks : ℕ) (brief : ticks * p < 90001000000) where
  few : ticks * p / l ≤ most
  few =
      let whole : ticks * p / l * l + ticks * p % l ≡ ticks * p = div-add-mod' (ticks * p) l in
      let scaled : ticks * p / l * l < 250000 * l = omega (arith, whole, brief, loop) in
      let less : ticks * p / l < 250000 = lt_of_mul-lt-mul_right l scaled in
      omega (arith, less)

  rounds_down : loops_in ticks p l ≡ ticks * p / l
  rounds_down =
      let some : l ≡ 0 → ⊥ = λ e. omega (arith, e, loop) in
      let least : min (ticks * p / l) most ≡ ticks * p / l = omega (arith, few) in
      some_length ticks p l some ∙ least

  pub down_may : May p l ticks (loops_in ticks p l)
  down_may =
      let whole : ticks * p / l * l + ticks * p % l ≡ ticks * p = div-add-mod' (ticks * p) l in
      let rest : ticks * p % l < l = mod-lt (ticks * p) (omega (arith, loop)) in
      subst (May p l ticks) (sym rounds_down) (record { above = omega (arith, whole, loop); below = omega (arith, whole, rest) })

-- The sample S: every test of both starts computes.
asked_of_sample : (t h p command : ℕ) → host_start t h p command sample ≡ taken (fresh t h p command sample)
    → Margin t p 400000 → AskedOfSample t h p command
unfolding sample chip_start when
asked_of_sample t h p command starts margin = record {
  host_starts = starts;
  bytes = bytes_tested sample refl;
  chip_starts = refl;
  loop = (omega arith, omega arith);
  margin = margin;
  may = λ n ticks brief. down_may p 400000 (omega arith) ticks brief;
}

sample_taken : (command : ℕ) → command ≤ 3 → host_start 8600 8600 700000 command sample ≡ taken (fresh 8600 8600 700000 command sample)
unfolding sample word_at total host_start outside slow bad_length other_length other_start bad_stack other_sum when either
sample_taken zero h = refl
sample_taken (suc zero) h = refl
sample_taken (suc (suc zero)) h = refl
sample_taken (suc (suc (suc zero))) h = refl
sample_taken (suc (suc (suc (suc n)))) h = absurd (omega (arith, h))

just_taken : host_start 4300 8600 575000 1 sample ≡ taken (fresh 4300 8600 575000 1 sample)
unfolding sample word_at total host_start outside slow bad_length other_length other_start bad_stack other_sum when either
just_taken = refl

slowest_taken : host_start 8600 576800 219047 1 sample ≡ taken (fresh 8600 576800 219047 1 sample)
unfolding sample word_at total host_start outside slow bad_length other_length other_start bad_stack other_sum when either
slowest_taken = refl

slower_refused : host_start 8600 576800 219048 1 sample ≡ refused 16
unfolding host_start outside slow when either
slower_refused = refl

-- A host ends only once.
same_end : (measured : Measuring) (image : List ℕ) (s : State) (m n : ℕ)
    → ((k : ℕ) → k < m → host_ended (after measured image k s) ≡ false) → host_ended (after measured image m s) ≡ true
    → ((k : ℕ) → k < n → host_ended (after measured image k s) ≡ false) → host_ended (after measured image n s) ≡ true → m ≡ n
same_end measured image s m n before-m at-m before-n at_n =
    let up : m < n → ⊥ = λ h. true≢false (sym at-m ∙ before-n m h) in
    let down : n < m → ⊥ = λ h. true≢false (sym at_n ∙ before-m n h) in
    omega (arith, up, down)

module _ (t h p command : ℕ) (image : List ℕ) (host : Host) (ram eeprom : List ℕ) (chip : Chip) (l : ℕ)
    (a : Asked t h p command image host ram eeprom chip l (rounded_down p l)) where
  abbrev start : State
  start = begun host chip ram eeprom

  abbrev last : State
  last = after (rounded_down p l) image (pulses command (length image)) start

  succeeds : Succeeds command image (rounded_down p l) start
  succeeds = demand_3 t h p command image host ram eeprom chip l (rounded_down p l) a

  ends : Ends (rounded_down p l) image budget start
  ends = run_ends (rounded_down p l) image t h p command host a.host_starts ram eeprom None chip a.chip_starts

  host_ended_lem : host_ended last ≡ true
  host_ended_lem = ap ended succeeds.host_ends

  ends_there : ends.pulses ≡ pulses command (length image)
  ends_there =
      same_end (rounded_down p l) image start ends.pulses (pulses command (length image)) ends.before ends.ended
      succeeds.host_goes host_ended_lem

  ran_so : run_of t h p command image None l ram eeprom ≡ finished last
  unfolding run_of
  ran_so =
      ap (from_host (rounded_down p l) image ram eeprom None) a.host_starts
      ∙ ap (from_chip (rounded_down p l) image ram eeprom host) a.chip_starts
      ∙ ap finished (ends.run ∙ ap (λ (n : ℕ). after (rounded_down p l) image n start) ends_there)

  abbrev came_to : Outcome
  came_to = outcome last.host last.chip last.rise last.risen

  answers : Answers t h p command image l ram eeprom came_to
  answers = record {
    ran =
        ran_so
        ∙ ap (λ (x : List ℕ). left (taken came_to) x last.eeprom) succeeds.ram_left
        ∙ ap (left (taken came_to) (ram_after command image ram)) succeeds.eeprom_left;
    sent = succeeds.counted;
    host_ends = ap place.end_at succeeds.host_ends;
    chip_ends = ap phases.end_at succeeds.chip_ends;
  }

  not_refused : (n : ℕ) → (run_of t h p command image None l ram eeprom).answer ≡ refused n → ⊥
  not_refused n e =
      let q : taken came_to ≡ refused n = ap (λ (x : Left). x.answer) (sym ran_so) ∙ e in
      not_both (sym q)

  answers_so : (o : Outcome) → (run_of t h p command image None l ram eeprom).answer ≡ taken o → Answers t h p command image l ram eeprom o
  answers_so o e =
      let q : taken came_to ≡ taken o = ap (λ (x : Left). x.answer) (sym ran_so) ∙ e in
      let same : came_to ≡ o = cc in
      subst (Answers t h p command image l ram eeprom) same answers

-- A run that is taken has both starts taken.
module _ (t h p command : ℕ) (image : List ℕ) (l : ℕ) (ram eeprom : List ℕ) (o : Outcome) (bytes : AllBytes image) (loop : Loop l) (margin : Margin t p l)
    (e : (run_of t h p command image None l ram eeprom).answer ≡ taken o) where
  by_chip : (host : Host) → host_start t h p command image ≡ taken host → (c : Answer Chip) → chip_start ram eeprom None ≡ c
      → (from_chip (rounded_down p l) image ram eeprom host c).answer ≡ taken o → Answers t h p command image l ram eeprom o
  by_chip host q (refused n) w u = absurd (not_both u)
  by_chip host q (taken chip) w u =
      answers_so t h p command image host ram eeprom chip l (record {
        host_starts = q;
        bytes = bytes;
        chip_starts = w;
        loop = loop;
        margin = margin;
        may = λ n ticks brief. down_may p l loop.0 ticks brief;
      }) o e

  by_host : (x : Answer Host) → host_start t h p command image ≡ x → (from_host (rounded_down p l) image ram eeprom None x).answer ≡ taken o
      → Answers t h p command image l ram eeprom o
  by_host (refused n) q u = absurd (not_both u)
  by_host (taken host) q u = by_chip host q _ refl u

  taken_answers : Answers t h p command image l ram eeprom o
  unfolding run_of
  taken_answers = by_host _ refl e

pub met : Met
met = record {
  rounding_down = λ p l loop n ticks brief. down_may p l loop ticks brief;
  sample_met = λ command h. asked_of_sample 8600 8600 700000 command (sample_taken command h) (omega arith);
  just_met = asked_of_sample 4300 8600 575000 1 just_taken (omega arith);
  just = refl;
  slowest_met = asked_of_sample 8600 576800 219047 1 slowest_taken (omega arith);
  slower = slower_refused;
  run_taken = not_refused;
  run_succeeds = taken_answers;
}
