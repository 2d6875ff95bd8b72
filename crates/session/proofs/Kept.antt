-- A start hands out a session within its ranges, and each step keeps it there.
-- Assumes nothing.
use mathlib.Core.Bool.{Bool, true, false}
use mathlib.Core.List.{List}
use mathlib.Core.Path.{◌≡◌, refl, sym, subst}
use Prim.Native.Nat.{ℕ, ◌+◌}
use native.Mathlib.Omega.{arith}
use Rattle.terms.specs.Choice.{when}
use Rattle.terms.specs.Refusals.{taken}
use Rattle.terms.proofs.Refusals.{taken_exactly}
use Rattle.load.specs.Load.{load_of}
use Rattle.load.proofs.Exactly.{load_taken}
use Rattle.load.proofs.Facts.{Known}
use Rattle.load.proofs.Within.{load_within, start_within}
use Rattle.bits.specs.Bits.{sent_bit}
use Rattle.place.specs.declared.Phase.TheVariants.{Calibration}
use Rattle.follow.proofs.Stands.{opened_stands, next_stands}
use Rattle.units.specs.declared.Seen.{Seen}
use Rattle.session.specs.Step.{fresh, session_start, step_rows, pulse_of, session_step}
use Rattle.session.specs.declared.Pulse.{Pulse}
use Rattle.session.specs.declared.Session.{Session}
use Rattle.session.proofs.Starts.{start_load}
use Rattle.session.proofs.Within.{Within, session_within}

pub fresh_keeps : (command : ℕ) (image : List ℕ) → Known command image → Within (fresh (load_of command image))
fresh_keeps command image known =
    let loaded = start_within command image known in
    let long = (load_within (load_of command image) loaded).long in
    record {
      loaded = loaded;
      stands = opened_stands (load_of command image) long 0 Calibration (omega arith) (omega arith);
      counted = refl;
    }

pub start_keeps : (command : ℕ) (image : List ℕ) (s : Session) → session_start command image ≡ taken s → Within s
start_keeps command image s e =
    let p = start_load command image s e in
    subst Within (sym p.1) (fresh_keeps command image ((load_taken command image (load_of command image)).0 p.0).0)

one_more : (m n k : ℕ) (b : Bool) → m + n ≡ k → m + when b 1 0 + (n + when b 0 1) ≡ k + 1
unfolding when
one_more m n k true e = omega (arith, e)
one_more m n k false e = omega (arith, e)

pub step_keeps : (s : Session) (image : List ℕ) (seen : Seen) (p : Pulse) → session_step s image seen ≡ taken p → Within p.session
unfolding session_step
step_keeps s image seen p e =
    let passed = (taken_exactly (pulse_of s image seen) p (step_rows s image)).0 e in
    let w = (session_within s).0 passed.0.0 in
    let long = (load_within s.load w.loaded).long in
    subst (λ (q : Pulse). Within q.session) (sym passed.1) (record {
      loaded = w.loaded;
      stands = next_stands s.load long s.pulses s.place.index s.place.phase seen passed.0.1.0 w.stands;
      counted = one_more s.ones s.zeros s.pulses (sent_bit s.load image s.place.phase s.place.index) w.counted;
    })
