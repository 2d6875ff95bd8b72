-- A serial session starts exactly as its load is taken.
-- Assumes nothing.
use mathlib.Core.List.{List}
use mathlib.Core.Path.{◌≡◌, sym, ap, ◌∙◌}
use Prim.Native.Nat.{ℕ}
use Rattle.terms.specs.Refusals.{refused, taken}
use Rattle.terms.proofs.Refusals.{refused_alike, taken_alike}
use Rattle.load.specs.Load.{load_rows, load_of, accepted}
use Rattle.load.specs.declared.Load.{Load}
use Rattle.serial.specs.Step.{fresh, serial_start}
use Rattle.packing.specs.declared.Packing.{Packing}
use Rattle.serial.specs.declared.Serial.{Serial}

module _ (packing : Packing) (command : ℕ) (image : List ℕ) where
  pub start_refused : (n : ℕ) → refused n ≡ accepted command image → refused n ≡ serial_start packing command image
  unfolding accepted serial_start
  start_refused n q = sym (refused_alike (load_rows command image) _ _ n (sym q))

  pub start_taken : (l : Load) → taken l ≡ accepted command image → taken (fresh packing l) ≡ serial_start packing command image
  unfolding accepted serial_start
  start_taken l q =
      let p = taken_alike (load_rows command image) (load_of command image) (fresh packing (load_of command image)) l (sym q) in
      ap (λ (x : Load). taken (fresh packing x)) p.1 ∙ sym p.0

  pub start_load : (s : Serial) → serial_start packing command image ≡ taken s
      → (accepted command image ≡ taken (load_of command image)) × (s ≡ fresh packing (load_of command image))
  unfolding accepted serial_start
  start_load s e = taken_alike (load_rows command image) (fresh packing (load_of command image)) (load_of command image) s e
