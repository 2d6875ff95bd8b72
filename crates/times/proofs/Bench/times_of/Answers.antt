-- `Bench::times_of`: no count of a phase is outside, since none of the plan is.
-- Assumes nothing.
use Rattle.times.proofs.Bounds.{plan_within}
use Rattle.times.proofs.Bench.times_of.Goals as goal

pub lasting-calibration-requires : goal.lasting-calibration-requires
lasting-calibration-requires c = (plan_within c.args.plan c.requires).calibration

pub lasting-handshake-requires : goal.lasting-handshake-requires
lasting-handshake-requires c = (plan_within c.args.plan c.requires).handshake

pub lasting-connection-requires : goal.lasting-connection-requires
lasting-connection-requires c = (plan_within c.args.plan c.requires).connection

pub lasting-version-requires : goal.lasting-version-requires
lasting-version-requires c = (plan_within c.args.plan c.requires).version

pub lasting-command-requires : goal.lasting-command-requires
lasting-command-requires c = (plan_within c.args.plan c.requires).command

pub lasting-size-requires : goal.lasting-size-requires
lasting-size-requires c = (plan_within c.args.plan c.requires).size

pub lasting-image-requires : goal.lasting-image-requires
lasting-image-requires c = (plan_within c.args.plan c.requires).image

pub lasting-ram-requires : goal.lasting-ram-requires
lasting-ram-requires c = (plan_within c.args.plan c.requires).ram

pub lasting-programming-requires : goal.lasting-programming-requires
lasting-programming-requires c = (plan_within c.args.plan c.requires).programming

pub lasting-verification-requires : goal.lasting-verification-requires
lasting-verification-requires c = (plan_within c.args.plan c.requires).verification
