-- When a load is refused and when it is taken, exactly. A number is given when its row applies and no row before it does; what is taken has
-- the facts of `Known`, and whatever has them is taken.
-- Assumes nothing.
use mathlib.Core.Bool.{Bool, true, false}
use mathlib.Core.List.{List, []}
use mathlib.Core.Logic.{◌↔◌}
use mathlib.Core.Path.{◌≡◌, refl}
use Prim.Native.Nat.{ℕ}
use lib.Dec.{eqb}
use borrow.Author.Tests.{eqb-true, eqb-false, le-ltb, ltb-false}
use Rattle.terms.specs.Choice.{when}
use Rattle.terms.specs.Refusals.{refused, taken, Given}
use Rattle.terms.proofs.Tests.{when_true, when_false, either_false, less_false, differ_false}
use Rattle.terms.proofs.Refusals.{Clear, refused_exactly, taken_exactly}
use Rattle.load.specs.Image.{bad_length, other_length, other_start, bad_stack, other_sum}
use Rattle.load.specs.Load.{image_rows, load_rows, load_of, accepted}
use Rattle.load.specs.declared.Load.{Load}
use Rattle.load.proofs.Facts.{Good, Known}

module _ (image : List ℕ) where
  good : Clear (image_rows image) → Good image
  unfolding bad_length other_length other_start bad_stack other_sum
  good c =
      let size = simp (either_false, less_false, differ_false) at c.0 in
      let stack = simp (either_false, less_false, differ_false) at c.1.1.1.0 in
      record {
        long = size.0;
        short = size.1.0;
        whole = size.1.1;
        named = (differ_false _ _).0 c.1.0;
        started = (differ_false _ _).0 c.1.1.0;
        aligned = stack.0;
        above = stack.1.0;
        inside = stack.1.1;
        summed = (differ_false _ _).0 c.1.1.1.1.0;
      }

  pub good_clear : Good image → Clear (image_rows image)
  unfolding bad_length other_length other_start bad_stack other_sum
  good_clear g = (
    simp (either_false, less_false, differ_false) (g.long, (g.short, g.whole)),
    (
      (differ_false _ _).1 g.named,
      (
        (differ_false _ _).1 g.started,
        (
          simp (either_false, less_false, differ_false) (g.aligned, (g.above, g.inside)),
          ((differ_false _ _).1 g.summed, tt),
        ),
      ),
    ),
  )

module _ (command : ℕ) (image : List ℕ) where
  known : (b : Bool) → eqb command 0 ≡ b → Clear (load_rows command image) → Known command image
  known true e c = record { known = ltb-false 3 command c.0; good = λ n. absurd (n (eqb-true command 0 e)) }
  known false e c =
      let rows : Clear (image_rows image) = rw (when_false [] (image_rows image) e) at c.1 in
      record { known = ltb-false 3 command c.0; good = λ n. good image rows }

  known_clear : (b : Bool) → eqb command 0 ≡ b → Known command image → Clear (load_rows command image)
  known_clear true e k = (le-ltb 3 command k.known, rw (when_true [] (image_rows image) e) tt)
  known_clear false e k =
      (le-ltb 3 command k.known, rw (when_false [] (image_rows image) e) (good_clear image (k.good (eqb-false command 0 e))))

  pub load_refused : (n : ℕ) → (accepted command image ≡ refused n) ↔ Given n (load_rows command image)
  unfolding accepted
  load_refused n = refused_exactly _ n (load_rows command image)

  pub load_taken : (l : Load) → (accepted command image ≡ taken l) ↔ (Known command image × (l ≡ load_of command image))
  unfolding accepted
  load_taken l =
      let e = taken_exactly (load_of command image) l (load_rows command image) in (
        (λ q. let w = e.0 q in (known (eqb command 0) refl w.0, w.1)),
        (λ w. e.1 (known_clear (eqb command 0) refl w.0, w.1)),
      )

-- Command 0 never looks at the image: whatever is lent as one, the answer is the same.
pub command_0_blind : (image other : List ℕ) → accepted 0 image ≡ accepted 0 other
unfolding accepted when
command_0_blind image other = refl
