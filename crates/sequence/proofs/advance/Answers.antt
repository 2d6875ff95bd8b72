-- `sequence::advance` by shifts and masks is the tap rule: the shift leaves bit 0 free, and the mask keeps bit 0 of each tap.
-- Assumes nothing.
use mathlib.Core.Path.{◌≡◌}
use Prim.Native.Nat.{ℕ, ◌*◌, ◌%◌, ◌^◌, ◌<◌}
use native.Mathlib.Omega.{arith}
use lib.Bits.{and_mask, or_shifted, xor_mod}
use Rattle.sequence.specs.Sequence.{advanced}
use Rattle.sequence.proofs.advance.Goals as goal

bit-0-fits : (n : ℕ) → n % 2 ^ 1 < 2 ^ 1
bit-0-fits n = omega arith

pub returns : goal.returns
unfolding advanced
returns c =
    let s = c.args.state in
    let free : s * 2 % 256 ≡ s % 128 * 2 ^ 1 = omega arith in
    rw (and_mask _ 1, free, or_shifted _ 1, bit-0-fits, xor_mod _ _ 1, xor_mod _ _ 1, xor_mod _ _ 1)
