-- 01, row 13 of "Refusal numbers": the hosts got from a start by steps that weren't refused.
-- Assumes nothing.
use Rattle.std.specs.Prelude.{List, ◌≡◌, ℕ}
use Rattle.terms.specs.Refusals.{taken}
use Rattle.units.specs.declared.Seen.{Seen}
use Rattle.host.specs.Step.{host_start, host_step}
use Rattle.host.specs.declared.Host.{Host}
use Rattle.host.specs.declared.Sent.{Sent}

-- What a start and steps that weren't refused lead to.
pub data Reached : Host → Type 0 where
  started : (t h p command : ℕ) (image : List ℕ) (x : Host) → host_start t h p command image ≡ taken x → Reached x
  stepped : (x : Host) (image : List ℕ) (seen : Seen) (s : Sent) → Reached x → host_step x image seen ≡ taken s → Reached s.host
