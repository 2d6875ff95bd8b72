-- `playing::listen`: by what the chip's step answers.
-- Assumes nothing.
use mathlib.Core.Path.{refl}
use Rattle.replay.proofs.Turns.{listen_left}
use Rattle.replay.proofs.playing.listen.Goals as goal

pub returns-in-Ok : goal.returns-in-Ok
returns-in-Ok c = listen_left _ _ _ _ _ _ _ _ _ c.in-Ok.ensures refl

pub returns-in-Err : goal.returns-in-Err
returns-in-Err c = listen_left _ _ _ _ _ _ _ _ _ c.in-Err.ensures refl
