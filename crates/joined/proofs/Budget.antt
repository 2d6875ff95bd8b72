-- Every run ends: each pulse is counted, and no session has more than the budget.
-- Assumes nothing.
use mathlib.Core.Bool.{Bool, true, false}
use mathlib.Core.List.{List}
use mathlib.Core.Path.{◌≡◌, refl, sym, ◌∙◌, subst}
use Prim.Native.Nat.{ℕ, zero, suc, ◌+◌, ◌≤◌, ◌<◌}
use native.Mathlib.Numerals.{add-one}
use native.Mathlib.Omega.{arith}
use Rattle.terms.proofs.Tests.{differ_false}
use Rattle.terms.proofs.Refusals.{taken_exactly}
use Rattle.terms.specs.Refusals.{taken}
use Rattle.load.specs.Load.{other_image}
use Rattle.range.proofs.Bounds.{phase_most}
use Rattle.host.specs.Step.{host_start}
use Rattle.host.specs.declared.Host.{Host}
use Rattle.host.proofs.Kept.{start_keeps}
use Rattle.host.proofs.Starts.{start_gives}
use Rattle.session.proofs.Starts.{lent_again}
use Rattle.chip.specs.Step.{start_rows, chip_start}
use Rattle.chip.specs.Reached.{started}
use Rattle.chip.specs.declared.Chip.{Chip}
use Rattle.eeprom.specs.declared.Fault.{Fault}
use Rattle.joined.specs.Ends.{after, Unrefused, Ends}
use Rattle.joined.specs.Joined.{State, Measuring, pulsed, host_ended, begun}
use Rattle.joined.specs.Run.{budget}
use Rattle.joined.proofs.Sound.{Sound, pulsed_sound, pulsed_count, unrefused_here}
use Rattle.joined.proofs.Turns.{played_stops, played_goes}

module _ (measured : Measuring) (image : List ℕ) where
  -- A host that has not ended has sent fewer pulses than the budget.
  going_few : (s : State) → Sound image s → host_ended s ≡ false → s.host.session.pulses < budget
  going_few s k e =
      let stands = k.kept.within.stands in
      omega (arith, phase_most s.host.session.load s.host.session.place.phase e, stands.short, stands.sent)

  -- One pulse, then the rest.
  pub before_all : (s : State) (m : ℕ) (P : State → Type 0) → P s
      → ((n : ℕ) → n < m → P (after measured image n (pulsed measured image s))) → (n : ℕ) → n < m + 1 → P (after measured image n s)
  unfolding after
  before_all s m P p q zero h = p
  before_all s m P p q (suc n) h = q n (omega (arith, h))

  one_more : (s : State) (m : ℕ) → Sound image s → host_ended s ≡ false → Ends measured image m (pulsed measured image s)
      → Ends measured image (m + 1) s
  unfolding after
  one_more s m k e r = record {
    pulses = suc r.pulses;
    few = omega (arith, r.few);
    before = λ n h. before_all s r.pulses (λ (x : State). host_ended x ≡ false) e r.before n (omega (arith, h));
    unrefused = λ n h. before_all s r.pulses (Unrefused measured image) (unrefused_here measured image s k e) r.unrefused n (omega (arith, h));
    ended = r.ended;
    run = played_goes measured image m s e ∙ r.run;
  }

  no_more : (s : State) (m : ℕ) → host_ended s ≡ true → Ends measured image m s
  unfolding after
  no_more s m e = record {
    pulses = 0;
    few = omega arith;
    before = λ n h. absurd (omega (arith, h));
    unrefused = λ n h. absurd (omega (arith, h));
    ended = e;
    run = played_stops measured image m s e;
  }

  -- It has ended, or goes on with one pulse less to come.
  spent : (s : State) → Sound image s → budget ≤ s.host.session.pulses → (b : Bool) → host_ended s ≡ b → Ends measured image 0 s
  spent s k h true e = no_more s 0 e
  spent s k h false e = absurd (omega (arith, going_few s k e, h))

  decided : (m : ℕ) (s : State) → Sound image s → (host_ended s ≡ false → Ends measured image m (pulsed measured image s)) → (b : Bool)
      → host_ended s ≡ b → Ends measured image (m + 1) s
  decided m s k rest true e = no_more s (m + 1) e
  decided m s k rest false e = one_more s m k e (rest e)

  ends_within : (m : ℕ) (s : State) → Sound image s → budget ≤ s.host.session.pulses + m → Ends measured image m s
  ends_within zero s k h = spent s k (omega (arith, h)) (host_ended s) refl
  ends_within (suc m) s k h =
      subst (λ (n : ℕ). Ends measured image n s) (add-one m)
      (decided m s k
      (λ e.
      let count = pulsed_count measured image s k e in
      let more : budget ≤ (pulsed measured image s).host.session.pulses + m = omega (arith, count, h) in
      ends_within m (pulsed measured image s) (pulsed_sound measured image s k e) more)
      (host_ended s)
      refl)

  -- From a start that is taken on.
  module _ (t h p command : ℕ) (host : Host) (begins : host_start t h p command image ≡ taken host) (ram eeprom : List ℕ) (fault : Fault)
      (chip : Chip) (starts : chip_start ram eeprom fault ≡ taken chip) where
    pub start_sound : Sound image (begun host chip ram eeprom)
    unfolding chip_start
    start_sound =
        let opened = start_gives t h p command image host begins in
        let clear = ((taken_exactly _ chip (start_rows ram eeprom fault)).0 starts).0 in
        record {
          kept = start_keeps t h p command image host begins;
          lent = subst (λ (x : Host). other_image x.session.load image ≡ false) (sym opened.0) (lent_again command image image (λ some. refl));
          reached = started ram eeprom fault chip starts;
          ram_size = (differ_false _ _).0 clear.0;
          eeprom_size = (differ_false _ _).0 clear.1.0;
        }

    pub run_ends : Ends measured image budget (begun host chip ram eeprom)
    run_ends = ends_within budget (begun host chip ram eeprom) start_sound (omega arith)
