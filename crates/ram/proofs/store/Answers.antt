-- `store` copies the four bytes of a long over those at the address.
-- Assumes nothing.
use Rattle.std.proofs.Common.{◌≡◌, ◌-◌, ◌/◌, ◌%◌, refl, sym, ◌∙◌, arith}
use Rattle.std.proofs.lemmas.Slice.{put_mid-paste}
use Rattle.ram.specs.Ram.{long_bytes}
use Rattle.ram.proofs.Stored.{stored_whole}
use Rattle.ram.proofs.store.Goals as goal

pub returns-then-end-ram : goal.returns-then-end-ram
returns-then-end-ram c =
    let value = c.args.value in
    let high : value / 16777216 % 256 ≡ value / 16777216 = omega (arith, c.ranges.value.fits) in
    let bytes : c.copy_from_slice.new.self ≡ long_bytes value = cc in
    let four : 4 ≡ c.in-Some.end - c.args.at.0 = omega (arith, c.in-Some.ensures) in
    put_mid-paste c.args.at.0 _ c.args.ram.now _ (long_bytes value) 4 bytes four refl ∙ sym (stored_whole _ _ _ (omega (arith, c.in-Some.ensures)))
