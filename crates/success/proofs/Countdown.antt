-- The countdown of a run in which host and chip converse: it goes by the number of pulses drawn, and never runs out.
-- Assumes nothing.
use mathlib.Core.Bool.{Bool, true, false, not, false≢true, true≢false}
use mathlib.Core.List.{List}
use mathlib.Core.Path.{◌≡◌, refl, sym, ap, ◌∙◌, subst}
use Prim.Native.Nat.{ℕ, ◌+◌, ◌-◌, ◌*◌, ◌%◌, ◌≤◌, ◌<◌}
use native.Mathlib.Omega.{arith}
use lib.Dec.{eqb, ltb}
use borrow.Author.Tests.{eqb-true, not-true}
use Rattle.terms.specs.Choice.{when}
use Rattle.terms.proofs.Tests.{when_elim}
use Rattle.units.specs.declared.Seen.{Seen}
use Rattle.units.specs.declared.Seen.TheVariants.{Silence, Zero, One}
use Rattle.load.specs.declared.Load.{Load}
use Rattle.settings.proofs.Exactly.{Fit}
use Rattle.bits.specs.Bits.{pair_bit, sent_bit}
use Rattle.follow.specs.Follow.{onward, next, after_wait_pair, is_silence, ends_silent, ends_silent_pair}
use Rattle.place.specs.Phases as host
use Rattle.place.specs.Phases.{places}
use Rattle.place.specs.declared.Acknowledgement as wait
use Rattle.place.specs.declared.Phase as place
use Rattle.place.specs.declared.Phase.TheVariants as at
use Rattle.place.specs.declared.Place.{Place}
use Rattle.phases.specs.Phases as chip
use Rattle.phases.specs.declared.Phase.{Phase}
use Rattle.phases.specs.declared.Phase.TheVariants.{First, Second, Handshake, Answer, Rest, Command, Size, Long, Align, Ended}
use Rattle.countdown.specs.Countdown.{aligns, anew, counting}
use Rattle.receiver.proofs.Going.{Goes, calibrating, shaking, shaken, resting, commanding, sizing, storing, aligning, to_answer, to_command, to_size, to_long, to_align, to_end}
use Rattle.receiver.proofs.Left.{goes_on, set_anew}
use Rattle.conversation.specs.Conversation.{waits, are_in_step}
use Rattle.conversation.proofs.Pulses.{onward_within, next_first}
use Rattle.success.specs.Success.{Loop}
use Rattle.success.proofs.Drawing.{On, on_time, on_next, on_fresh}

-- In a wait a chip that aligns is one pulse into its budget where the host is within a pair.
module _ (load : Load) (image : List ℕ) (i : ℕ) (seen : Seen) where
  pub within_pair : (phase : place.Phase) → waits phase ≡ true → i < places load phase → sent_bit load image phase i ≡ true
      → (i % 2 ≡ 0) × ((next load phase i seen).index % 2 ≡ 1)
  within_pair at.Calibration w s b = absurd (false≢true w)
  within_pair at.Handshake w s b = absurd (false≢true w)
  within_pair at.Connection w s b = absurd (false≢true w)
  within_pair (at.Version v) w s b = absurd (false≢true w)
  within_pair at.Command w s b = absurd (false≢true w)
  within_pair at.Zeros w s b = absurd (false≢true w)
  within_pair at.Size w s b = absurd (false≢true w)
  within_pair at.Image w s b = absurd (false≢true w)
  within_pair (at.Wait a) w s b =
      let even : i % 2 ≡ 0 = eqb-true _ _ b in
      let more : i + 1 < places load (at.Wait a) = omega (arith, s, even) in
      let odd : (i + 1) % 2 ≡ 1 = omega (arith, even) in
      let place : next load (at.Wait a) i seen ≡ record { phase = at.Wait a; index = i + 1 } =
      next_first load (at.Wait a) i seen b ∙ onward_within load (at.Wait a) i more in
      (even, ap (λ (x : Place). x.index % 2) place ∙ odd)
  within_pair (at.Ended e) w s b = absurd (false≢true w)

  -- A silent pair leads into a wait, or to an end.
  onward_waits : (a : wait.Acknowledgement) → host.ended (onward load (at.Wait a) i).phase ≡ false → waits (onward load (at.Wait a) i).phase ≡ true
  unfolding onward
  onward_waits a =
      when_elim (λ (x : Place). host.ended x.phase ≡ false → waits x.phase ≡ true) (ltb (i + 1) (places load (at.Wait a))) _ _
      (λ t e. refl) (λ f e. absurd (true≢false e))

  pair_waits : (a : wait.Acknowledgement) (b : Bool) (seen : Seen) → when b false (is_silence seen) ≡ true
      → host.ended (when b (onward load (at.Wait a) i) (after_wait_pair load a i seen)).phase ≡ false
      → waits (when b (onward load (at.Wait a) i) (after_wait_pair load a i seen)).phase ≡ true
  unfolding when
  pair_waits a true seen s e = absurd (false≢true s)
  pair_waits a false Silence s e = onward_waits a e
  pair_waits a false Zero s e = absurd (false≢true s)
  pair_waits a false One s e = absurd (false≢true s)

  pub silent_waits : (phase : place.Phase) → ends_silent_pair phase i seen ≡ true → host.ended (next load phase i seen).phase ≡ false
      → waits (next load phase i seen).phase ≡ true
  unfolding next ends_silent
  silent_waits at.Calibration s e = absurd (false≢true s)
  silent_waits at.Handshake s e = absurd (false≢true s)
  silent_waits at.Connection s e = absurd (false≢true s)
  silent_waits (at.Version v) s e = absurd (false≢true s)
  silent_waits at.Command s e = absurd (false≢true s)
  silent_waits at.Zeros s e = absurd (false≢true s)
  silent_waits at.Size s e = absurd (false≢true s)
  silent_waits at.Image s e = absurd (false≢true s)
  silent_waits (at.Wait a) s e = pair_waits a (pair_bit i) seen s e
  silent_waits (at.Ended x) s e = absurd (false≢true s)

module _ (t h p l : ℕ) (fit : Fit t h p) (loop : Loop l) where
  -- The longest leg of a pulse that is read, in ps, and that of any: in a wait a spacer may be 10 ms.
  abbrev brief : ℕ
  brief = (2 * t + h) * 1000

  abbrev long : ℕ
  long = 10052000000

  abbrev pub leg_of : Phase → ℕ
  leg_of First = brief
  leg_of (Second d) = brief
  leg_of (Handshake k) = brief
  leg_of (Answer r) = long
  leg_of (Rest r) = long
  leg_of (Command n v) = brief
  leg_of (Size n v) = brief
  leg_of (Long n k v) = brief
  leg_of (Align a) = long
  leg_of (Ended e) = long

  -- Three kinds of budget: calibration and handshake, which row 16 was made for; a value; and a reply or an alignment.
  opening_fits : 252 * (brief + 2 * (l + p)) ≤ 375000 * l
  opening_fits = omega (arith, fit.paced, loop.0)

  value_fits : 32 * (brief + 2 * (l + p)) ≤ 250000 * l
  value_fits = omega (arith, fit.paced, loop.0, fit.p_within.1)

  reply_fits : 2 * (long + 2 * (l + p)) ≤ 250000 * l
  reply_fits = omega (arith, loop.0, fit.p_within.1)

  abbrev Opening : ℕ → ℕ → Type 0
  Opening drawn left = On l p 375000 252 brief drawn left

  abbrev Value : ℕ → ℕ → Type 0
  Value drawn left = On l p 250000 32 brief drawn left

  abbrev Replying : ℕ → ℕ → Type 0
  Replying drawn left = On l p 250000 2 long drawn left

  -- The pulses that are drawn in a phase, with the host at an index.
  abbrev pub Paced : Phase → ℕ → ℕ → Type 0
  Paced First i left = Opening 0 left
  Paced (Second d) i left = Opening 1 left
  Paced (Handshake k) i left = Opening (k + 1) left
  Paced (Answer r) i left = Replying 0 left
  Paced (Rest r) i left = Replying 1 left
  Paced (Command n v) i left = Value n left
  Paced (Size n v) i left = Value n left
  Paced (Long n k v) i left = Value n left
  Paced (Align a) i left = Replying (i % 2) left
  Paced (Ended e) i left = Unit {0}

  pub paced_fresh : (i : ℕ) → Paced First i 375000
  paced_fresh i = on_fresh l p 375000 252 brief 0 (omega arith)

  -- A leg by the phase: where the chip reads, the host does not wait.
  module _ (dw dl : ℕ) (low_short : dl ≤ 2 * t * 1000) (wait_short : dw ≤ 10000000000) (at_host : place.Phase)
      (close : waits at_host ≡ false → dw ≤ h * 1000) where
    reading : not (waits at_host) ≡ true → dw + dl ≤ brief
    reading e = let near = close (not-true _ e) in omega (arith, near, low_short)

    any : dw + dl ≤ long
    any = omega (arith, low_short, wait_short, fit.t_within.1)

    pub leg_short : (phase : Phase) → are_in_step at_host phase ≡ true → dw + dl ≤ leg_of phase
    leg_short First e = reading e
    leg_short (Second d) e = reading e
    leg_short (Handshake k) e = reading e
    leg_short (Answer r) e = any
    leg_short (Rest r) e = any
    leg_short (Command n v) e = reading e
    leg_short (Size n v) e = reading e
    leg_short (Long n k v) e = reading e
    leg_short (Align a) e = any
    leg_short (Ended x) e = any

  module _ (wait low dw dl : ℕ) (w : wait * l < dw + (l + p)) (d : low * l < dl + (l + p)) (i left : ℕ) where
    pub paced_timely : (phase : Phase) → chip.ended phase ≡ false → dw + dl ≤ leg_of phase → Paced phase i left → wait + low < left
    paced_timely First e s on = on_time l p 375000 252 brief opening_fits wait low dw dl w d s 0 left on
    paced_timely (Second x) e s on = on_time l p 375000 252 brief opening_fits wait low dw dl w d s 1 left on
    paced_timely (Handshake k) e s on = on_time l p 375000 252 brief opening_fits wait low dw dl w d s (k + 1) left on
    paced_timely (Answer r) e s on = on_time l p 250000 2 long reply_fits wait low dw dl w d s 0 left on
    paced_timely (Rest r) e s on = on_time l p 250000 2 long reply_fits wait low dw dl w d s 1 left on
    paced_timely (Command n v) e s on = on_time l p 250000 32 brief value_fits wait low dw dl w d s n left on
    paced_timely (Size n v) e s on = on_time l p 250000 32 brief value_fits wait low dw dl w d s n left on
    paced_timely (Long n k v) e s on = on_time l p 250000 32 brief value_fits wait low dw dl w d s n left on
    paced_timely (Align a) e s on = on_time l p 250000 2 long reply_fits wait low dw dl w d s (i % 2) left on
    paced_timely (Ended x) e s on = absurd (true≢false e)

    -- One pulse more, on within a budget or at the start of another.
    abbrev rest : ℕ
    rest = left - wait - low

    opening_on : (drawn : ℕ) → drawn + 1 + 1 ≤ 252 → dw + dl ≤ brief → Opening drawn left → Opening (drawn + 1) rest
    opening_on drawn m s on = on_next l p 375000 252 brief opening_fits wait low dw dl w d s drawn left on m

    value_on : (drawn : ℕ) → drawn < 31 → dw + dl ≤ brief → Value drawn left → Value (drawn + 1) (anew (eqb (drawn + 1) 0) rest)
    value_on drawn m s on =
        subst (Value (drawn + 1)) (sym (goes_on drawn rest))
        (on_next l p 250000 32 brief value_fits wait low dw dl w d s drawn left on (omega (arith, m)))

    reply_on : dw + dl ≤ long → Replying 0 left → Replying 1 rest
    reply_on s on = on_next l p 250000 2 long reply_fits wait low dw dl w d s 0 left on (omega arith)

    module _ (bit : Bool) (j : ℕ) where
      pub paced_on : (from to : Phase) → Goes low bit from to → (aligns from ≡ true → bit ≡ true → (i % 2 ≡ 0) × (j % 2 ≡ 1))
          → dw + dl ≤ leg_of from → Paced from i left → Paced to j (counting from to rest)
      unfolding anew when
      paced_on _ _ calibrating pair s on = opening_on 0 (omega arith) s on
      paced_on _ _ (shaking x) pair s on = opening_on 1 (omega arith) s on
      paced_on _ _ (shaken k e) pair s on = opening_on (k + 1) (omega (arith, e)) s on
      paced_on _ _ (resting r) pair s on = reply_on s on
      paced_on _ _ (commanding n v x e) pair s on = value_on n e s on
      paced_on _ _ (sizing n v x e) pair s on = value_on n e s on
      paced_on _ _ (storing n v x k e) pair s on = value_on n e s on
      paced_on _ _ (aligning a e) pair s on =
          let within = pair refl e in
          subst (λ (x : ℕ). Replying x rest) (sym within.1) (reply_on s (subst (λ (x : ℕ). Replying x left) within.0 on))
      paced_on _ _ (to_answer q r) pair s on = on_fresh l p 250000 2 long 0 (omega arith)
      paced_on _ _ (to_command q) pair s on = on_fresh l p 250000 32 brief 0 (omega arith)
      paced_on _ _ (to_size q) pair s on = on_fresh l p 250000 32 brief 0 (omega arith)
      paced_on _ _ (to_long q k) pair s on = on_fresh l p 250000 32 brief 0 (omega arith)
      paced_on _ _ (to_align q a e) pair s on =
          subst (Replying (j % 2)) (sym (set_anew q rest e)) (on_fresh l p 250000 2 long (j % 2) (omega arith))
      paced_on _ _ (to_end q e) pair s on = tt
