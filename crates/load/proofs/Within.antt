-- Loads within their ranges: what is known of them, and that a start takes no others.
-- Assumes nothing.
use mathlib.Core.Bool.{Bool, true, false, not}
use mathlib.Core.List.{List}
use mathlib.Core.Path.{◌≡◌, refl, sym, ◌∙◌}
use Prim.Native.Nat.{ℕ, ◌≤◌}
use native.Mathlib.Omega.{arith}
use lib.Dec.{eqb}
use borrow.Author.Tests.{eqb-true, eqb-false, le-ltb}
use Rattle.terms.specs.Choice.{when, either}
use Rattle.terms.proofs.Tests.{when_true, when_false, either_false, less_false, differ_false}
use Rattle.load.specs.Image.{bad_length}
use Rattle.load.specs.Load.{load_of, load_outside}
use Rattle.load.specs.declared.Load.{Load}
use Rattle.load.proofs.Exactly.{good_clear}
use Rattle.load.proofs.Facts.{Known}

-- A command with a length that goes with it.
pub record Sized (command n : ℕ) : Type 0 where
  pub known : command ≤ 3
  pub short : n ≤ 32760
  pub long : 1 ≤ command → 16 ≤ n

sized : (l : Load) (b : Bool) → eqb l.command 0 ≡ b → load_outside l ≡ false → Sized l.command l.length.0
unfolding load_outside bad_length
sized l true e q =
    let parts = (either_false _ _).0 q in
    let bare : l.length.0 ≡ 0 = (differ_false _ _).0 (sym (when_true _ (bad_length l.length.0) e) ∙ parts.1) in
    let none : l.command ≡ 0 = eqb-true _ _ e in
    record { known = (less_false _ _).0 parts.0; short = omega (arith, bare); long = λ h. absurd (omega (arith, h, none)) }
sized l false e q =
    let parts = (either_false _ _).0 q in
    let size = simp (either_false, less_false, differ_false) at (sym (when_false (not (eqb l.length.0 0)) _ e) ∙ parts.1) in
    record { known = (less_false _ _).0 parts.0; short = size.1.0; long = λ h. size.0 }

pub load_within : (l : Load) → load_outside l ≡ false → Sized l.command l.length.0
load_within l = sized l (eqb l.command 0) refl

start_sized : (command : ℕ) (image : List ℕ) (b : Bool) → eqb command 0 ≡ b → Known command image
    → load_outside (load_of command image) ≡ false
unfolding load_outside when either
start_sized command image true e k = rw (le-ltb 3 command k.known, e) refl
start_sized command image false e k = rw (le-ltb 3 command k.known, e) (good_clear image (k.good (eqb-false command 0 e))).0

pub start_within : (command : ℕ) (image : List ℕ) → Known command image → load_outside (load_of command image) ≡ false
start_within command image = start_sized command image (eqb command 0) refl
