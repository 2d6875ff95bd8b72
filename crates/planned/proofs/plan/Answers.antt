-- `plan`: a run that isn't refused launches what it loaded, by demand 3, so that the chip does not listen.
-- Assumes nothing.
use native.Mathlib.Omega.{arith}
use Rattle.planned.proofs.Endings.{run_ends}
use Rattle.planned.proofs.plan.Goals as goal

pub print-requires : goal.print-requires
print-requires g c = run_ends _ _ _ _ _ _ (λ i. omega (arith, c.type_inv.image i)) c.in-Ok.ensures
