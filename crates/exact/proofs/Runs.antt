-- The run of demand 3: what its host is told is good, so its host is the planned session's.
-- Assumes nothing.
use mathlib.Core.Bool.{Bool, true, false}
use mathlib.Core.List.{List, map}
use mathlib.Core.Path.{◌≡◌, refl, sym, ap, ◌∙◌}
use Prim.Native.Nat.{ℕ, zero, suc, ◌+◌, ◌-◌, ◌*◌, ◌/◌, ◌≤◌, ◌<◌}
use native.Mathlib.Numerals.{add-one}
use native.Mathlib.Omega.{arith}
use lib.Dec.{eqb}
use lib.ListN.{length}
use Rattle.terms.specs.Choice.{when}
use Rattle.terms.specs.Refusals.{taken}
use Rattle.lent.specs.Bytes.{total}
use Rattle.sequence.specs.Sequence.{draw}
use Rattle.settings.specs.declared.Settings.{Settings}
use Rattle.units.specs.declared.Seen.{Seen}
use Rattle.units.specs.declared.Seen.TheVariants.{Silence, Zero, One}
use Rattle.load.specs.Load.{load_of}
use Rattle.follow.specs.Follow.{shows}
use Rattle.bits.specs.Bits.{value_bit}
use Rattle.line.specs.Replies.{shown}
use Rattle.ticks.specs.Ticks.{sum}
use Rattle.host.specs.Step.{host_step}
use Rattle.host.specs.Time.{tick}
use Rattle.host.specs.declared.Host.{Host}
use Rattle.host.specs.declared.Sent.{Sent}
use Rattle.chip.specs.declared.Chip.{Chip}
use Rattle.sessions.specs.Phases.{last_rise}
use Rattle.sessions.specs.Sessions.{Sends, rises}
use Rattle.sessions.proofs.Whole.{every_session}
use Rattle.conversation.proofs.Replies.{Told, Waits, Replies}
use Rattle.joined.specs.Ends.{after}
use Rattle.joined.specs.Joined.{State, Measuring, begun, met, listened, sent_to, sent, pulsed}
use Rattle.success.specs.Success.{Asked, pulses}
use Rattle.success.proofs.Succeeding.{told_so, replied}
use Rattle.counts.specs.Counts.{planned, sum_of, bits_with, ones_from, value_ones, image_ones}
use Rattle.counts.specs.declared.Counts.{Counts}
use Rattle.exact.specs.Exact as session
use Rattle.exact.specs.Exact.{pulses_of, Exact}
use Rattle.exact.specs.Good.{Answered, Good}
use Rattle.exact.specs.Runs.{told, time, PlannedRun, EveryRun}
use Rattle.exact.proofs.Counting.{whole_with}
use Rattle.exact.proofs.Exactly.{every_plan, plan_pulses}
use Rattle.counts.proofs.Ones.{ones_most, image_most}

shows_shown : (b : Bool) → shows (shown b) b ≡ true
unfolding shown when
shows_shown true = refl
shows_shown false = refl

-- The plan's pulses are demand 3's.
bits_long : (n x : ℕ) → x ≤ n → pulses_of (bits_with n x) ≡ n
bits_long n x h = omega (arith, h)

whole_long : (x n : ℕ) (sized loaded : Counts) → x ≤ 32 → pulses_of sized ≡ 32 → pulses_of loaded ≡ n * 8 → (a b : Bool)
    → total (map pulses_of (whole_with a b (bits_with 32 x) sized loaded)) ≡ when a 800 (when b (836 + 8 * n) (844 + 8 * n))
unfolding when total
whole_long x n sized loaded h s l true b =
    omega (arith, bits_long 250 (ones_from draw 1 250) (ones_most draw 1 250), bits_long 32 x h)
whole_long x n sized loaded h s l false true =
    omega (arith, bits_long 250 (ones_from draw 1 250) (ones_most draw 1 250), bits_long 32 x h, s, l)
whole_long x n sized loaded h s l false false =
    omega (arith, bits_long 250 (ones_from draw 1 250) (ones_most draw 1 250), bits_long 32 x h, s, l)

fewest : (a b : Bool) (n : ℕ) → 0 < when a 800 (when b (836 + 8 * n) (844 + 8 * n))
unfolding when
fewest true b n = omega arith
fewest false true n = omega arith
fewest false false n = omega arith

some_pulses : (command n : ℕ) → 0 < pulses command n
unfolding pulses
some_pulses command n = fewest (eqb command 0) (eqb command 1) n

plan_long : (s : Settings) (command : ℕ) (image : List ℕ) → sum_of pulses_of (planned command image) ≡ pulses command (length image)
unfolding pulses
plan_long s command image =
    plan_pulses s command image
    ∙ whole_long (value_ones command) (length image) (bits_with 32 (value_ones (length image / 4))) (bits_with (length image * 8) (image_ones image))
    (ones_most (value_bit command) 0 32)
    (bits_long 32 (value_ones (length image / 4)) (ones_most (value_bit (length image / 4)) 0 32))
    (bits_long (length image * 8) (image_ones image) (image_most image))
    (eqb command 0) (eqb command 1)

module _ (measured : Measuring) (image : List ℕ) where
  after_last : (n : ℕ) (s : State) → after measured image (suc n) s ≡ pulsed measured image (after measured image n s)
  unfolding after
  after_last zero s = refl
  after_last (suc n) s = after_last n (pulsed measured image s)

  -- A pulse that the host sends.
  pulsed_sent : (s : State) (r : Sent) → sent image s ≡ taken r → pulsed measured image s ≡ met s.chip r (listened measured s r)
  unfolding pulsed
  pulsed_sent s r e = ap (sent_to measured s) e

module _ (t h p command : ℕ) (image : List ℕ) (host : Host) (ram eeprom : List ℕ) (chip : Chip) (l : ℕ) (measured : Measuring)
    (a : Asked t h p command image host ram eeprom chip l measured) where
  abbrev begin : State
  begin = begun host chip ram eeprom

  abbrev figures : Settings
  figures = record { t = t; h = h; p = p }

  abbrev heard : ℕ → Seen
  heard = told figures command image measured begin

  -- What call n is told, by the pulses of the conversation before it.
  at_call : (k n : ℕ) (wanted : Seen) → k + 1 + 1 ≡ n → ((threshold : ℕ) → Told (load_of command image) image threshold ram eeprom k wanted) → heard n ≡ wanted
  at_call k n wanted e so = ap heard (sym e) ∙ told_so t h p command image host ram eeprom chip l measured a k wanted so

  abbrev all : (threshold : ℕ) → Replies command image threshold ram eeprom
  all = replied t h p command image host ram eeprom chip l measured a

  answers : (k n : ℕ) → k + 1 + 1 ≡ n → ((threshold : ℕ) → Waits (load_of command image) image threshold ram eeprom k) → Answered heard n
  answers k n e w = record {
    aligns = at_call (k + 1) (n + 1) Silence (omega (arith, e)) (λ threshold. (w threshold).aligns);
    answers = at_call (k + 3) (n + 3) Zero (omega (arith, e)) (λ threshold. (w threshold).answers);
  }

  good : Good command (length image) heard
  good = record {
    connects = λ j i.
        ap (λ (x : Seen). shows x (draw (251 + j)))
        (at_call (251 + j * 2) (253 + j * 2) (shown (draw (251 + j))) (omega arith) (λ threshold. (all threshold).connects j i))
        ∙ shows_shown (draw (251 + j));
    version_first = at_call 751 753 One refl (λ threshold. (all threshold).version_first);
    version_rest = λ j i. at_call (753 + j * 2) (755 + j * 2) Zero (omega arith) (λ threshold. (all threshold).version_rest j i);
    ram = λ some. answers (830 + 8 * length image) (832 + length image * 8) (omega arith) (λ threshold. (all threshold).storing some);
    programming = λ some other.
        answers (834 + 8 * length image) (836 + length image * 8) (omega arith) (λ threshold. (all threshold).programming some other);
    verification = λ some other.
        answers (838 + 8 * length image) (840 + length image * 8) (omega arith) (λ threshold. (all threshold).verification some other);
  }

  sends : Sends figures command (length image) (λ n. image) heard host
  sends = every_session t h p command image host (λ n. image) heard a.host_starts (λ some n. refl)

  exact : Exact figures command image heard
  exact = every_plan figures command image heard good

  abbrev many : ℕ
  many = session.last figures command image heard

  many_is : many ≡ pulses command (length image)
  many_is = exact.pulses ∙ plan_long figures command image

  -- What call n sends, as the session has it.
  abbrev sent_at : ℕ → Sent
  sent_at n = record {
    host = sends.hosts (n + 1);
    fall = tick figures (session.at figures command image heard (2 * n));
    rise = tick figures (session.at figures command image heard (2 * n + 1));
    risen = session.at figures command image heard (2 * n + 1);
  }

  module _ (n : ℕ) (i : n < many) (e : (after measured image n begin).host ≡ sends.hosts n) where
    next : after measured image (suc n) begin
        ≡ met (after measured image n begin).chip (sent_at n) (listened measured (after measured image n begin) (sent_at n))
    next =
        after_last measured image n begin
        ∙ pulsed_sent measured image (after measured image n begin) (sent_at n)
        (ap (λ (x : Host). host_step x image (heard n)) e ∙ sends.steps n i)

  hosts : (n : ℕ) → n ≤ many → (after measured image n begin).host ≡ sends.hosts n
  unfolding after
  hosts zero i = sym sends.first
  hosts (suc n) i =
      ap (λ (x : State). x.host) (next n (omega (arith, i)) (hosts n (omega (arith, i)))) ∙ ap sends.hosts (add-one n)

  -- The last call.
  some : 0 < many
  some = omega (arith, many_is, some_pulses command (length image))

  abbrev n : ℕ
  n = many - 1

  is : suc n ≡ many
  is = omega (arith, some)

  ends : after measured image many begin
      ≡ met (after measured image n begin).chip (sent_at n) (listened measured (after measured image n begin) (sent_at n))
  ends = ap (λ (k : ℕ). after measured image k begin) (sym is) ∙ next n (omega (arith, some)) (hosts n (omega (arith, some)))

  last_edge : session.at figures command image heard (2 * n + 1) ≡ time figures command image measured begin
  last_edge =
      let odd : 2 * n + 1 ≡ 2 * many - 1 = omega (arith, some) in
      ap (session.at figures command image heard) odd ∙ exact.ends

  run : PlannedRun figures command image measured begin
  run =
      let at : after measured image (pulses command (length image)) begin ≡ after measured image many begin =
      ap (λ (k : ℕ). after measured image k begin) (sym many_is) in
      record {
        good = good;
        sends = sends;
        hosts = λ k i. hosts k (omega (arith, i, many_is));
        all_pulses = many_is;
        exact = exact;
        risen = ap (λ (x : State). x.risen) (at ∙ ends) ∙ last_edge;
        rise = ap (λ (x : State). x.rise) (at ∙ ends) ∙ ap (λ (x : ℕ). x / p) last_edge;
        phases =
            ap (λ (x : State). sum x.host.phases) at
            ∙ ap (λ (x : Host). sum x.phases) (hosts many (omega arith))
            ∙ sends.phases_sum many (omega arith)
            ∙ ap (last_rise (rises figures command (length image) (λ k. image) heard)) (sym is)
            ∙ ap (λ (x : ℕ). x / p) last_edge;
      }

pub every_run : EveryRun
every_run = run
