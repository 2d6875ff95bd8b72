-- The batch report refuses what a host's start refuses, by the same numbers, and takes what it takes.
-- Assumes nothing.
use Rattle.std.specs.Prelude.{List, ◌≡◌, ℕ}
use Rattle.terms.specs.Refusals.{refused, taken}
use Rattle.settings.specs.Settings.{checked}
use Rattle.settings.specs.declared.Settings.{Settings}
use Rattle.load.specs.Load.{load_of}
use Rattle.session.specs.Step as session
use Rattle.host.specs.Step.{fresh, host_start}
use Rattle.host.specs.declared.Host.{Host}
use Rattle.counts.specs.Counts.{counted, planned}
use Rattle.counts.specs.declared.Plan.{Plan}

pub record Accepts (t h p command : ℕ) (image : List ℕ) : Type 0 where
  -- A setting is refused by its rows, whatever the image; where it is taken the image's rows decide.
  pub setting_refused : (n : ℕ) → checked t h p ≡ refused n → host_start t h p command image ≡ refused n
  pub image_refused : (s : Settings) (n : ℕ) → checked t h p ≡ taken s → counted command image ≡ refused n
      → host_start t h p command image ≡ refused n
  pub both_taken : (s : Settings) (plan : Plan) → checked t h p ≡ taken s → counted command image ≡ taken plan
      → host_start t h p command image ≡ taken (fresh s (session.fresh (load_of command image)))
  pub host_taken : (x : Host) → host_start t h p command image ≡ taken x
      → (checked t h p ≡ taken (record { t = t; h = h; p = p })) × (counted command image ≡ taken (planned command image))

abbrev pub AlwaysAccepts : Type 0
AlwaysAccepts = (t h p command : ℕ) (image : List ℕ) → Accepts t h p command image
