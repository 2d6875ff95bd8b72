-- What the checks hand out is inside: the counts of a taken image stay below the longest session's pulses.
-- Assumes nothing.
use mathlib.Core.Bool.{false}
use mathlib.Core.List.{List, [], ◌∷◌}
use mathlib.Core.Path.{◌≡◌, sym, subst}
use Prim.Native.Nat.{ℕ}
use native.Mathlib.Omega.{arith}
use Rattle.terms.specs.Refusals.{taken}
use Rattle.terms.proofs.Refusals.{clear_taken}
use Rattle.settings.specs.Settings.{checked, settings_outside}
use Rattle.settings.specs.declared.Settings.{Settings}
use Rattle.settings.proofs.Exactly.{Fit, settings_taken, settings_within}
use Rattle.counts.specs.Counts.{counted, phases_of}
use Rattle.counts.specs.declared.Counts.{Counts}
use Rattle.counts.specs.declared.Plan.{Plan}
use Rattle.counts.proofs.Most.{Every, Most, counted_most}
use Rattle.times.specs.Inside.{NeverOutside}
use Rattle.times.specs.Times.{plan_outside, timed_rows, times_of, timed}
use Rattle.times.proofs.Bounds.{Within, counts_within, each_within}

settings_handed : (t h p : ℕ) (s : Settings) → checked t h p ≡ taken s → settings_outside s ≡ false
settings_handed t h p s e =
    let q = (settings_taken t h p s).0 e in
    (settings_within s).1 (subst (λ (x : Settings). Fit x.t x.h x.p) (sym q.1) q.0)

most_within : (c : Counts) → Most c → Within c
most_within c m = (counts_within c).1 (record {
  ones = omega (arith, m.ones);
  zeros = omega (arith, m.zeros);
  spacers = omega (arith, m.spacers);
  silent = omega (arith, m.silent);
})

every_within : (cs : List Counts) → Every Most cs → Every Within cs
every_within [] e = tt
every_within (c ∷ cs) e = (most_within c e.0, every_within cs e.1)

plan_handed : (command : ℕ) (image : List ℕ) (plan : Plan) → counted command image ≡ taken plan → plan_outside plan ≡ false
unfolding plan_outside
plan_handed command image plan e =
    (each_within (phases_of plan)).1 (every_within (phases_of plan) (counted_most command image plan e))

inside_taken : (s : Settings) (plan : Plan) (n : ℕ) → settings_outside s ≡ false → plan_outside plan ≡ false
    → timed plan s n ≡ taken (times_of plan s n)
unfolding timed
inside_taken s plan n a b =
    clear_taken (times_of plan s n) (timed_rows plan s) (a, (b, tt))

pub never_outside : NeverOutside
never_outside t h p s e command image plan f =
    let a = settings_handed t h p s e in
    let b = plan_handed command image plan f in
    record { settings_inside = a; plan_inside = b; timed_taken = λ n. inside_taken s plan n a b }
