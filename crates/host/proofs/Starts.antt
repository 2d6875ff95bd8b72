-- A host starts exactly as its settings and its session do; what is known once it has started.
-- Assumes nothing.
use mathlib.Core.List.{List, ◌++◌}
use mathlib.Core.Path.{◌≡◌, sym, ap, ◌∙◌}
use Prim.Native.Nat.{ℕ}
use Rattle.terms.specs.Refusals.{refused, taken, first}
use Rattle.terms.proofs.Refusals.{refused_before, taken_before, refused_alike, taken_alike, clear_both, clear_taken, taken_exactly}
use Rattle.load.specs.Load.{load_rows, load_of, accepted}
use Rattle.settings.specs.Settings.{settings_rows, checked}
use Rattle.settings.specs.declared.Settings.{Settings}
use Rattle.settings.proofs.Exactly.{Fit, settings_taken}
use Rattle.load.proofs.Exactly.{load_taken}
use Rattle.load.proofs.Facts.{Known}
use Rattle.session.specs.Step.{session_start}
use Rattle.session.specs.Step as session
use Rattle.session.specs.declared.Session.{Session}
use Rattle.host.specs.Step.{fresh, host_start}
use Rattle.host.specs.declared.Host.{Host}

module _ (t h p command : ℕ) (image : List ℕ) where
  abbrev given : Settings
  given = record { t = t; h = h; p = p }

  abbrev whole : Session
  whole = session.fresh (load_of command image)

  -- The settings refuse.
  pub settings_refuse : (n : ℕ) → refused n ≡ checked t h p → refused n ≡ host_start t h p command image
  unfolding checked host_start
  settings_refuse n q = sym (refused_before (load_rows command image) given (fresh given whole) n (settings_rows t h p) (sym q))

  -- They are taken: the session decides.
  module _ (s : Settings) (q : taken s ≡ checked t h p) where
    past_settings : (host_start t h p command image ≡ first (load_rows command image) (fresh given whole)) × (s ≡ given)
    unfolding checked host_start
    past_settings = taken_before (load_rows command image) given (fresh given whole) s (settings_rows t h p) (sym q)

    pub session_refuses : (n : ℕ) → refused n ≡ session_start command image → refused n ≡ host_start t h p command image
    unfolding session_start
    session_refuses n w = sym (past_settings.0 ∙ refused_alike (load_rows command image) whole (fresh given whole) n (sym w))

    pub both_take : (x : Session) → taken x ≡ session_start command image → taken (fresh s x) ≡ host_start t h p command image
    unfolding session_start
    both_take x w =
        let opened = taken_alike (load_rows command image) whole (fresh given whole) x (sym w) in
        ap (λ (y : Settings). taken (fresh y x)) past_settings.1
        ∙ ap (λ (y : Session). taken (fresh given y)) opened.1
        ∙ sym (past_settings.0 ∙ opened.0)

  pub start_gives : (x : Host) → host_start t h p command image ≡ taken x → (x ≡ fresh given whole) × Fit t h p × Known command image
  unfolding host_start checked accepted
  start_gives x e =
      let passed = (taken_exactly (fresh given whole) x (settings_rows t h p ++ load_rows command image)).0 e in
      let rows = clear_both (load_rows command image) (settings_rows t h p) passed.0 in
      let load = load_of command image in (
        passed.1,
        ((settings_taken t h p given).0 (clear_taken given (settings_rows t h p) rows.0)).0,
        ((load_taken command image load).0 (clear_taken load (load_rows command image) rows.1)).0,
      )
