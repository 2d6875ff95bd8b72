-- The batch report: settings and plans that the checks hand out are never refused.
-- Assumes nothing.
use Rattle.std.specs.Prelude.{false, List, ◌≡◌, ℕ}
use Rattle.terms.specs.Refusals.{taken}
use Rattle.settings.specs.Settings.{checked, settings_outside}
use Rattle.settings.specs.declared.Settings.{Settings}
use Rattle.counts.specs.Counts.{counted}
use Rattle.counts.specs.declared.Plan.{Plan}
use Rattle.times.specs.Times.{plan_outside, times_of, timed}

pub record Inside (s : Settings) (plan : Plan) : Type 0 where
  pub settings_inside : settings_outside s ≡ false
  pub plan_inside : plan_outside plan ≡ false
  pub timed_taken : (n : ℕ) → timed plan s n ≡ taken (times_of plan s n)

abbrev pub NeverOutside : Type 0
NeverOutside =
    (t h p : ℕ) (s : Settings) → checked t h p ≡ taken s
    → (command : ℕ) (image : List ℕ) (plan : Plan) → counted command image ≡ taken plan → Inside s plan
