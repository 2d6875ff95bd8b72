-- Every start that is taken sends the whole session that is spelled.
-- Assumes nothing.
use mathlib.Core.Bool.{false}
use mathlib.Core.List.{List}
use mathlib.Core.Path.{◌≡◌, refl, sym, subst}
use Prim.Native.Nat.{ℕ, ◌≤◌}
use native.Mathlib.Omega.{arith}
use lib.Dec.{eqb}
use lib.ListN.{length}
use Rattle.terms.proofs.Tests.{when_elim}
use Rattle.lent.specs.Bytes.{total}
use Rattle.load.specs.Load.{load_of}
use Rattle.load.specs.declared.Load.{Load}
use Rattle.settings.specs.declared.Settings.{Settings}
use Rattle.load.proofs.Within.{load_within}
use Rattle.units.specs.declared.Seen.{Seen}
use Rattle.load.specs.Load.{other_image}
use Rattle.session.specs.Step as session
use Rattle.host.specs.Step.{fresh}
use Rattle.host.specs.declared.Host.{Host}
use Rattle.ticks.specs.Ticks.{sum}
use Rattle.host.proofs.Kept.{Kept, start_keeps}
use Rattle.host.proofs.Starts.{start_gives}
use Rattle.session.proofs.Starts.{length_kept, lent_again}
use Rattle.sessions.specs.Legs.{edge}
use Rattle.sessions.specs.Sessions.{ones, zeros, Sends, EverySession}
use Rattle.sessions.proofs.Played.{At, plays}
use Rattle.sessions.proofs.Spells.{Loads, spelled_sent}

module _ (t h p command : ℕ) (image : List ℕ) (lent : ℕ → List ℕ) (seen : ℕ → Seen) where
  abbrev given : Settings
  given = record { t = t; h = h; p = p }

  abbrev load : Load
  load = load_of command image

  abbrev begun : Host
  begun = fresh given (session.fresh load)

  no_longer : load.length.0 ≤ length image
  no_longer = when_elim (λ (n : ℕ). n ≤ length image) (eqb command 0) 0 (length image) (λ e. omega arith) (λ e. omega arith)

  module _ (kept : Kept begun) (same : (command ≡ 0 → ⊥) → (n : ℕ) → length (lent n) ≡ length image) where
    loads : (command ≡ 0 → ⊥) → Loads load (length image)
    loads some =
        let sized = load_within load kept.within.loaded in
        let is = length_kept command image some in
        record { is = is; long = omega (arith, is, sized.long (omega (arith, some))); short = omega (arith, is, sized.short) }

    same_image : (n : ℕ) → other_image load (lent n) ≡ false
    same_image n = lent_again command image (lent n) (λ some. same some n)

    at_start : At given load (length image) lent seen same_image 0 begun
    unfolding edge total ones zeros sum
    at_start = record {
      kept = kept;
      set = refl;
      loaded = refl;
      left = spelled_sent load (length image) lent seen loads;
      falls = refl;
      counted = refl;
      counted_ones = refl;
      counted_zeros = refl;
      summed = refl;
    }

    begun_sends : Sends given command (length image) lent seen begun
    begun_sends = plays given load (length image) lent seen same_image begun at_start no_longer refl

pub every_session : EverySession
every_session t h p command image x lent seen e same =
    let is = (start_gives t h p command image x e).0 in
    let kept = subst Kept is (start_keeps t h p command image x e) in
    subst (Sends (record { t = t; h = h; p = p }) command (length image) lent seen) (sym is)
    (begun_sends t h p command image lent seen kept same)
