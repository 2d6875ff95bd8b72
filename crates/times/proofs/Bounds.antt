-- Settings and counts that are taken are so small that no phase lasts 3,000 s. Row 16 bounds h: 252 spacers fit the first countdown.
-- Assumes nothing.
use mathlib.Core.Bool.{false}
use mathlib.Core.List.{List, [], ◌∷◌}
use mathlib.Core.Logic.{◌↔◌}
use mathlib.Core.Path.{◌≡◌, refl}
use Prim.Native.Nat.{◌+◌, ◌*◌, ◌/◌, ◌≤◌, max}
use native.Mathlib.Nat.{mul-le-mul}
use native.Mathlib.Omega.{arith}
use Rattle.terms.proofs.Tests.{either_false, less_false}
use Rattle.settings.specs.Settings.{settings_outside}
use Rattle.settings.specs.declared.Settings.{Settings}
use Rattle.settings.proofs.Exactly.{settings_within}
use Rattle.counts.specs.Counts.{phases_of}
use Rattle.counts.specs.declared.Counts.{Counts}
use Rattle.counts.specs.declared.Plan.{Plan}
use Rattle.counts.proofs.Most.{Every}
use Rattle.times.specs.Times.{counts_outside, one_outside, plan_outside}

pub record Small (c : Counts) : Type 0 where
  pub ones : c.ones ≤ 264362
  pub zeros : c.zeros ≤ 264362
  pub spacers : c.spacers ≤ 264362
  pub silent : c.silent ≤ 264362

pub counts_within : (c : Counts) → (counts_outside c ≡ false) ↔ Small c
unfolding counts_outside
counts_within c = (
  (λ q.
      let p = simp (either_false, less_false) at q in
      record { ones = p.0; zeros = p.1.0; spacers = p.1.1.0; silent = p.1.1.1 }),
  (λ m. simp (either_false, less_false) (m.ones, (m.zeros, (m.spacers, m.silent)))),
)

abbrev pub Within : Counts → Type 0
Within c = counts_outside c ≡ false

pub each_within : (cs : List Counts) → (one_outside cs ≡ false) ↔ Every Within cs
each_within [] = ((λ q. tt), (λ e. refl))
each_within (c ∷ cs) = (
  (λ q. let p = (either_false _ _).0 q in (p.0, (each_within cs).0 p.1)),
  (λ e. (either_false _ _).1 (e.0, (each_within cs).1 e.1)),
)

-- The same by the phases' names.
pub record EachWithin (p : Plan) : Type 0 where
  pub calibration : Within p.calibration
  pub handshake : Within p.handshake
  pub connection : Within p.connection
  pub version : Within p.version
  pub command : Within p.command
  pub size : Within p.size
  pub image : Within p.image
  pub ram : Within p.ram
  pub programming : Within p.programming
  pub verification : Within p.verification

pub plan_within : (p : Plan) → plan_outside p ≡ false → EachWithin p
unfolding plan_outside
plan_within p q =
    let e = (each_within (phases_of p)).0 q in
    record {
      calibration = e.0;
      handshake = e.1.0;
      connection = e.1.1.0;
      version = e.1.1.1.0;
      command = e.1.1.1.1.0;
      size = e.1.1.1.1.1.0;
      image = e.1.1.1.1.1.1.0;
      ram = e.1.1.1.1.1.1.1.0;
      programming = e.1.1.1.1.1.1.1.1.0;
      verification = e.1.1.1.1.1.1.1.1.1.0;
    }

module _ (s : Settings) (c : Counts) (paced : settings_outside s ≡ false) (within : Within c) where
  small : Small c
  small = (counts_within c).0 within

  t_most : s.t ≤ 26000
  t_most = ((settings_within s).0 paced).t_within.1

  h_most : s.h ≤ 600000
  h_most = omega (arith, ((settings_within s).0 paced).paced)

  pub lows_most : (c.ones + 2 * c.zeros) * s.t ≤ 20620236000
  lows_most =
      let n : c.ones + 2 * c.zeros ≤ 793086 = omega (arith, small.ones, small.zeros) in
      mul-le-mul n t_most

  pub spacers_most : c.spacers * s.h ≤ 158617200000
  spacers_most = mul-le-mul small.spacers h_most

  pub silent_most : c.silent * max s.h 10000000 ≤ 2643620000000
  silent_most = let l : max s.h 10000000 ≤ 10000000 = omega (arith, h_most) in mul-le-mul small.silent l

  pub all_most : (c.ones + 2 * c.zeros) * s.t + c.spacers * s.h + c.silent * max s.h 10000000 ≤ 3000000000000
  all_most = omega (arith, lows_most, spacers_most, silent_most)

  pub old_ones_most : c.ones * (s.t / 1000) ≤ 6873412
  old_ones_most = let l : s.t / 1000 ≤ 26 = omega (arith, t_most) in mul-le-mul small.ones l

  pub old_zeros_most : c.zeros * (2 * s.t / 1000) ≤ 13746824
  old_zeros_most = let l : 2 * s.t / 1000 ≤ 52 = omega (arith, t_most) in mul-le-mul small.zeros l

  pub old_spacers_most : c.spacers * (s.h / 1000) ≤ 158617200
  old_spacers_most = let l : s.h / 1000 ≤ 600 = omega (arith, h_most) in mul-le-mul small.spacers l

  pub old_silent_most : c.silent * (max s.h 10000000 / 1000) ≤ 2643620000
  old_silent_most = let l : max s.h 10000000 / 1000 ≤ 10000 = omega (arith, h_most) in mul-le-mul small.silent l

  pub old_most : c.ones * (s.t / 1000) + c.zeros * (2 * s.t / 1000) + c.spacers * (s.h / 1000)
      + c.silent * (max s.h 10000000 / 1000) ≤ 3000000000000
  old_most = omega (arith, old_ones_most, old_zeros_most, old_spacers_most, old_silent_most)
