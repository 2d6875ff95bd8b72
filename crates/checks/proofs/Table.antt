-- The table holds: antt computes each closed entry; P6, P9 and P10 hold for every low and every memory.
-- Assumes nothing.
use mathlib.Core.List.{[], ◌∷◌}
use mathlib.Core.Path.{◌≡◌, refl, ap, ◌∙◌}
use Prim.Native.Nat.{ℕ}
use native.Mathlib.Omega.{arith}
use borrow.Author.Tests.{le-ltb}
use lib.ListN.{take}
use Rattle.terms.specs.Choice.{when, either}
use Rattle.host.specs.Step.{host_start, late, time_outside, host_outside, host_step}
use Rattle.host.specs.Time.{low, spacer}
use Rattle.lent.specs.Bytes.{word_at, total}
use Rattle.load.specs.Image.{bad_length, other_length, other_start, bad_stack, other_sum}
use Rattle.load.specs.Load.{load_outside}
use Rattle.settings.specs.Settings.{outside, slow, settings_outside}
use Rattle.ram.specs.Ram.{flagged, flagged_below}
use Rattle.ram.proofs.Stored.{flags_of_0, flags_of_4}
use Rattle.follow.specs.Follow.{onward, next}
use Rattle.range.specs.Ranges.{place_outside}
use Rattle.sequence.specs.Sequence.{advanced, state, draw, draws}
use Rattle.session.specs.Ranges.{session_outside}
use Rattle.load.specs.Load.{other_image}
use Rattle.ticks.specs.Ticks.{sum, added, holder}
use Rattle.checks.specs.Sample.{sample}
use Rattle.checks.specs.Table.{start_edges, Checks}

pub edges : start_edges 3 sample (host_start 8600 8600 700000 1 sample) ≡ 0 ∷ 12 ∷ 24 ∷ 49 ∷ 61 ∷ 86 ∷ []
unfolding when either word_at total outside slow settings_outside bad_length other_length other_start bad_stack other_sum load_outside onward next place_outside session_outside other_image low spacer late time_outside host_outside sum added holder host_start host_step draw state sample
edges = refl

pub checks : Checks
unfolding when total advanced state draw draws flagged sample
checks = record {
  p1 = refl;
  p2 = refl;
  p3 = refl;
  p4 = refl;
  p5 = refl;
  p6 = λ low. le-ltb low 0 (omega arith);
  p7 = refl;
  p8 = ap (take 5) edges;
  p9 = λ ram long d. ap (λ (x : ℕ). flagged_below x ram) d ∙ flags_of_4 ram (omega (arith, long));
  p10 = λ ram long d. ap (λ (x : ℕ). flagged_below x ram) d ∙ flags_of_0 ram;
}
