-- `bits::value_bit`: a value of 32 bits has no bit above 31.
-- Assumes nothing.
use Rattle.std.proofs.Common.{◌≡◌, ℕ, ◌/◌, ◌^◌, ◌<◌, ◌≤◌, le-ltb, arith, rules}
use Rattle.std.proofs.Math.Nat.{div-eq_of_lt}
use Rattle.std.proofs.Math.Pow.{pow_mono}
use Rattle.bits.proofs.value_bit.Goals as goal

-- Shifted by its width or more, a value is 0.
none_above : (v i : ℕ) → v < 2 ^ 32 → 32 ≤ i → v / 2 ^ i ≡ 0
none_above v i short above = div-eq_of_lt (omega (arith, pow_mono above))

pub returns-else-index-lt-BITS : goal.returns-else-index-lt-BITS
returns-else-index-lt-BITS c =
    let short : c.args.value < 2 ^ 32 = search rules in
    rw (le-ltb c.args.index 32 c.if-index-lt-BITS.false, none_above c.args.value c.args.index short c.if-index-lt-BITS.false)
