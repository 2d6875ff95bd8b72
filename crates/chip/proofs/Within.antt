-- A listener, and a receiver, within its ranges: what is known of it, field by field.
-- Assumes nothing.
use mathlib.Core.Bool.{false}
use mathlib.Core.Logic.{◌↔◌}
use mathlib.Core.Path.{◌≡◌}
use Prim.Native.Nat.{◌≤◌}
use native.Mathlib.Omega.{arith}
use borrow.Author.Tests.{eqb-false, ne_eqb}
use Rattle.terms.proofs.Tests.{either_false, less_false}
use Rattle.phases.specs.Ranges.{phase_outside}
use Rattle.listener.specs.Ranges.{listener_outside}
use Rattle.listener.specs.declared.Listener.{Listener}
use Rattle.countdown.specs.Countdown.{most_left, left_outside}
use Rattle.margins.proofs.Sides.{Sides, within_sides}
use Rattle.receiver.specs.Ranges.{receiver_outside}
use Rattle.receiver.specs.declared.Receiver.{Receiver}
use Rattle.receiver.proofs.Left.{May}

pub record Within (l : Listener) : Type 0 where
  pub timely : l.threshold.0 ≤ 187499
  pub known : l.command ≤ 3
  pub short : l.size.0 ≤ 8192
  pub had : phase_outside l.command l.size.0 l.phase ≡ false

pub listener_within : (l : Listener) → (listener_outside l ≡ false) ↔ Within l
unfolding listener_outside
listener_within l = (
  (λ q.
      let threshold = (either_false _ _).0 q in
      let command = (either_false _ _).0 threshold.1 in
      let size = (either_false _ _).0 command.1 in
      record {
        timely = (less_false _ _).0 threshold.0;
        known = (less_false _ _).0 command.0;
        short = (less_false _ _).0 size.0;
        had = size.1;
      }),
  (λ w.
      (either_false _ _).1 (
        (less_false _ _).1 w.timely,
        (either_false _ _).1 ((less_false _ _).1 w.known, (either_false _ _).1 ((less_false _ _).1 w.short, w.had)),
      )),
)

pub record Timed (r : Receiver) : Type 0 where
  pub within : Within r.listener
  pub left : May (most_left r.listener.phase) r.left.0
  pub margins : Sides r.margins

pub receiver_within : (r : Receiver) → (receiver_outside r ≡ false) ↔ Timed r
unfolding receiver_outside left_outside
receiver_within r = (
  (λ q.
      let parts = (either_false _ _).0 q in
      let rest = (either_false _ _).0 parts.1 in
      let left = (either_false _ _).0 rest.0 in
      let some = eqb-false r.left.0 0 left.0 in
      record {
        within = (listener_within r.listener).0 parts.0;
        left = (omega (arith, some), (less_false _ _).0 left.1);
        margins = (within_sides r.margins).0 rest.1;
      }),
  (λ t.
      let some = t.left.0 in
      (either_false _ _).1 (
        (listener_within r.listener).1 t.within,
        (either_false _ _).1 (
          (either_false _ _).1 (ne_eqb r.left.0 0 (λ e. omega (arith, some, e)), (less_false _ _).1 t.left.1),
          (within_sides r.margins).1 t.margins,
        ),
      )),
)
