-- `Bench::old_sum`: no count of a phase is outside, since none of the plan is.
-- Assumes nothing.
use Rattle.times.proofs.Bounds.{plan_within}
use Rattle.times.proofs.Bench.old_sum.Goals as goal

pub old_lasting-requires : goal.old_lasting-requires
old_lasting-requires c = (plan_within c.args.plan c.requires).calibration

pub old_lasting-requires-2 : goal.old_lasting-requires-2
old_lasting-requires-2 c = (plan_within c.args.plan c.requires).handshake

pub old_lasting-requires-3 : goal.old_lasting-requires-3
old_lasting-requires-3 c = (plan_within c.args.plan c.requires).connection

pub old_lasting-requires-4 : goal.old_lasting-requires-4
old_lasting-requires-4 c = (plan_within c.args.plan c.requires).version

pub old_lasting-requires-5 : goal.old_lasting-requires-5
old_lasting-requires-5 c = (plan_within c.args.plan c.requires).command

pub old_lasting-requires-6 : goal.old_lasting-requires-6
old_lasting-requires-6 c = (plan_within c.args.plan c.requires).size

pub old_lasting-requires-7 : goal.old_lasting-requires-7
old_lasting-requires-7 c = (plan_within c.args.plan c.requires).image

pub old_lasting-requires-8 : goal.old_lasting-requires-8
old_lasting-requires-8 c = (plan_within c.args.plan c.requires).ram

pub old_lasting-requires-9 : goal.old_lasting-requires-9
old_lasting-requires-9 c = (plan_within c.args.plan c.requires).programming

pub old_lasting-requires-10 : goal.old_lasting-requires-10
old_lasting-requires-10 c = (plan_within c.args.plan c.requires).verification
