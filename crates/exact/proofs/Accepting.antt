-- The rows of a host's start are those of the settings, then those of the image.
-- Assumes nothing.
use mathlib.Core.List.{List, ◌++◌}
use mathlib.Core.Path.{sym, ap, ◌∙◌}
use Rattle.terms.specs.Refusals.{Row, taken}
use Rattle.terms.proofs.Refusals.{refused_exactly, taken_exactly, clear_taken, clear_both, refused_before, taken_before}
use Rattle.settings.specs.Settings.{settings_rows, checked}
use Rattle.settings.specs.declared.Settings.{Settings}
use Rattle.load.specs.Load.{load_of, load_rows}
use Rattle.session.specs.Step as session
use Rattle.host.specs.Step.{fresh, host_start}
use Rattle.host.specs.declared.Host.{Host}
use Rattle.counts.specs.Counts.{counted, planned}
use Rattle.counts.specs.declared.Plan.{Plan}
use Rattle.exact.specs.Accepts.{AlwaysAccepts}

pub accepts : AlwaysAccepts
unfolding host_start checked counted
accepts t h p command image =
    let first : List Row = settings_rows t h p in
    let more : List Row = load_rows command image in
    let s : Settings = record { t = t; h = h; p = p } in
    let start : Host = fresh s (session.fresh (load_of command image)) in
    let plan : Plan = planned command image in
    record {
      setting_refused = λ n e. refused_before more s start n first e;
      image_refused = λ x n e f. (taken_before more s start x first e).0 ∙ (refused_exactly start n more).1 ((refused_exactly plan n more).0 f);
      both_taken = λ x y e f.
          let settings = taken_before more s start x first e in
          settings.0 ∙ clear_taken start more ((taken_exactly plan y more).0 f).0
          ∙ ap (λ (z : Settings). taken (fresh z (session.fresh (load_of command image)))) (sym settings.1);
      host_taken = λ x e.
          let clear = clear_both more first ((taken_exactly start x (first ++ more)).0 e).0 in
          (clear_taken s first clear.0, clear_taken plan more clear.1);
    }
