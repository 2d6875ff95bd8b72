-- `Fault::is_same` has found no byte that differs among those it passed.
-- Assumes nothing.
use Rattle.std.proofs.Common.{◌≡◌, length, get_or, sym, ap, ◌∙◌, arith}
use lib.Seq.{ext_get_or}
use Rattle.eeprom.specs.Eeprom.{reads}
use Rattle.eeprom.proofs.Memories.{reads_length, same_exactly, same_not}
use Rattle.eeprom.proofs.Fault.is_same.Goals as goal

pub returns-then-ram-eeprom : goal.returns-then-ram-eeprom
returns-then-ram-eeprom c =
    sym (same_not _ _ (λ e. c.if-ram-eeprom.true (ap length e ∙ reads_length c.args.self c.args.eeprom.now)))

pub returns-then-byte-read : goal.returns-then-byte-read
returns-then-byte-read c =
    let at = c.loop-at.at in
    sym (same_not _ _ (λ e. c.if-byte-read.true (ap (λ l. get_or l at 0) e ∙ sym c.read.ensures)))

pub returns : goal.returns
returns c =
    let long : length c.args.ram.now ≡ length (reads c.args.self c.args.eeprom.now) =
    c.if-ram-eeprom.false ∙ sym (reads_length c.args.self c.args.eeprom.now) in
    sym ((same_exactly _ _).1 (ext_get_or 0 _ _ long (λ k h. c.loop-at.invariant k (omega arith))))
