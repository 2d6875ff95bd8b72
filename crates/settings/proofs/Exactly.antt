-- When settings are refused and when they are taken, exactly. A number is given when its row applies and no row before it does; what is
-- taken has the facts of `Fit`, and whatever has them is taken.
-- Assumes nothing.
use mathlib.Core.Bool.{true, false}
use mathlib.Core.Logic.Iff
use mathlib.Core.Logic.{◌⊎◌, ◌↔◌}
use mathlib.Core.Path.{◌≡◌}
use Prim.Native.Nat.{ℕ, ◌+◌, ◌*◌, ◌<◌, ◌≤◌}
use Rattle.terms.specs.Refusals.{refused, taken, Given}
use Rattle.terms.proofs.Tests.{either_false, either_says, less_false, less_true}
use Rattle.terms.proofs.Refusals.{Clear, refused_exactly, taken_exactly}
use Rattle.settings.specs.Settings.{outside, slow, settings_rows, checked, settings_outside}
use Rattle.settings.specs.declared.Settings.{Settings}

-- Each figure lies within its bounds, and they are not too slow.
pub record Fit (t h p : ℕ) : Type 0 where
  pub t_within : (4300 ≤ t) × (t ≤ 26000)
  pub h_within : (4300 ≤ h) × (h ≤ 90000000)
  pub p_within : (1000 ≤ p) × (p ≤ 1000000)
  pub paced : 252 * (2 * t + h) * 1000 + 504 * (400000 + p) ≤ 150000000000

-- The test of rows 1 to 3 as 01's sentence, and what it says where it fails.
pub outside_says : (smallest largest x : ℕ) → (outside smallest largest x ≡ true) ↔ ((x < smallest) ⊎ (largest < x))
unfolding outside
outside_says smallest largest x = either_says _ _ (less_true x smallest) (less_true largest x)

pub within : (smallest largest x : ℕ) → (outside smallest largest x ≡ false) ↔ ((smallest ≤ x) × (x ≤ largest))
unfolding outside
within smallest largest x = simp (either_false, less_false) Iff.rfl

-- Row 16 as 02's sentence, and what it says where it fails.
pub slow_says : (t h p : ℕ) → (slow t h p ≡ true) ↔ (150000000000 < 252 * (2 * t + h) * 1000 + 504 * (400000 + p))
unfolding slow
slow_says t h p = less_true _ _

pub not_slow : (t h p : ℕ) → (slow t h p ≡ false) ↔ (252 * (2 * t + h) * 1000 + 504 * (400000 + p) ≤ 150000000000)
unfolding slow
not_slow t h p = less_false _ _

module _ (t h p : ℕ) where
  fit : Clear (settings_rows t h p) → Fit t h p
  fit c = record {
    t_within = (within _ _ t).0 c.0;
    h_within = (within _ _ h).0 c.1.0;
    p_within = (within _ _ p).0 c.1.1.0;
    paced = (not_slow t h p).0 c.1.1.1.0;
  }

  fit_clear : Fit t h p → Clear (settings_rows t h p)
  fit_clear f = ((within _ _ t).1 f.t_within, ((within _ _ h).1 f.h_within, ((within _ _ p).1 f.p_within, ((not_slow t h p).1 f.paced, tt))))

  pub settings_refused : (n : ℕ) → (checked t h p ≡ refused n) ↔ Given n (settings_rows t h p)
  unfolding checked
  settings_refused n = refused_exactly _ n (settings_rows t h p)

  pub settings_taken : (s : Settings) → (checked t h p ≡ taken s) ↔ (Fit t h p × (s ≡ record { t = t; h = h; p = p }))
  unfolding checked
  settings_taken s =
      let e = taken_exactly (record { t = t; h = h; p = p }) s (settings_rows t h p) in
      ((λ q. let w = e.0 q in (fit w.0, w.1)), (λ w. e.1 (fit_clear w.0, w.1)))

-- Settings within their bounds have the same facts, however they were made.
pub settings_within : (s : Settings) → (settings_outside s ≡ false) ↔ Fit s.t s.h s.p
unfolding settings_outside
settings_within s = (
  (λ q.
      let parts = (either_false _ _).0 q in
      let rest = (either_false _ _).0 parts.1 in
      let last = (either_false _ _).0 rest.1 in
      record {
        t_within = (within _ _ s.t).0 parts.0;
        h_within = (within _ _ s.h).0 rest.0;
        p_within = (within _ _ s.p).0 last.0;
        paced = (not_slow s.t s.h s.p).0 last.1;
      }),
  (λ f.
      simp either_false (
        (within _ _ s.t).1 f.t_within,
        ((within _ _ s.h).1 f.h_within, ((within _ _ s.p).1 f.p_within, (not_slow s.t s.h s.p).1 f.paced)),
      )),
)
