-- `Plan::new` answers as `Load::new` does.
-- Assumes nothing.
use Rattle.counts.proofs.Plans.{load_known, counted_taken}
use Rattle.counts.proofs.Plan.new.Goals as goal

pub planned-requires : goal.planned-requires
planned-requires c = load_known _ _ _ _ c.in_ok-new.was c.new.ensures

pub returns : goal.returns
returns c = counted_taken _ _ _ (load_known _ _ _ _ c.in_ok-new.was c.new.ensures) c.planned.ensures
