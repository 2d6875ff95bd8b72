-- A session within its ranges: what is known of it, field by field.
-- Assumes nothing.
use mathlib.Core.Bool.{false}
use mathlib.Core.Logic.{◌↔◌}
use mathlib.Core.Path.{◌≡◌}
use Prim.Native.Nat.{◌+◌, ◌≤◌}
use native.Mathlib.Omega.{arith}
use borrow.Author.Tests.{leb-false, lt-leb}
use Rattle.terms.proofs.Tests.{either_false, less_false, differ_false}
use Rattle.load.specs.Load.{load_outside}
use Rattle.range.specs.Ranges.{place_outside}
use Rattle.range.proofs.Bounds.{place_most}
use Rattle.follow.proofs.Stands.{Stands}
use Rattle.session.specs.Ranges.{session_outside}
use Rattle.session.specs.declared.Session.{Session}

pub record Within (s : Session) : Type 0 where
  pub loaded : load_outside s.load ≡ false
  pub stands : Stands s.load s.pulses s.place
  pub counted : s.ones + s.zeros ≡ s.pulses

pub session_within : (s : Session) → (session_outside s ≡ false) ↔ Within s
unfolding place_outside session_outside
session_within s = (
  (λ q.
      let parts = (either_false _ _).0 q in
      let rest = (either_false _ _).0 parts.1 in
      let place = (either_false _ _).0 rest.0 in
      let counts = (either_false _ _).0 rest.1 in
      record {
        loaded = parts.0;
        stands = record { had = (less_false _ _).0 place.0; short = leb-false _ _ place.1; sent = (less_false _ _).0 counts.0 };
        counted = (differ_false _ _).0 counts.1;
      }),
  (λ w.
      (either_false _ _).1 (
        w.loaded,
        (either_false _ _).1 (
          (either_false _ _).1 ((less_false _ _).1 w.stands.had, lt-leb _ _ w.stands.short),
          (either_false _ _).1 ((less_false _ _).1 w.stands.sent, (differ_false _ _).1 w.counted),
        ),
      )),
)

-- No session has more pulses than the longest: 32,760 bytes, and every wait to its last pair.
pub pulses_most : (s : Session) → session_outside s ≡ false → s.pulses ≤ 264362
pulses_most s q =
    let w = ((session_within s).0 q).stands in
    omega (arith, w.sent, place_most s.load s.place.phase s.place.index w.short)

pub all_counted : (s : Session) → session_outside s ≡ false → s.ones + s.zeros ≡ s.pulses
all_counted s q = ((session_within s).0 q).counted
