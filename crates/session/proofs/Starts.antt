-- A session starts exactly as its load is taken, and a step that is lent an image of the start's length is not refused for it.
-- Assumes nothing.
use mathlib.Core.Bool.{Bool, false, not}
use mathlib.Core.List.{List}
use mathlib.Core.Path.{◌≡◌, refl, sym, ap, ◌∙◌}
use Prim.Native.Nat.{ℕ}
use lib.Dec.{eqb}
use lib.ListN.{length}
use borrow.Author.Tests.{eqb-false, ne_eqb}
use Rattle.terms.specs.Refusals.{refused, taken}
use Rattle.terms.proofs.Refusals.{refused_alike, taken_alike}
use Rattle.terms.proofs.Tests.{when_false, when_elim, differ_false}
use Rattle.load.specs.Load.{load_rows, load_of, other_image, accepted}
use Rattle.load.specs.declared.Load.{Load}
use Rattle.session.specs.Step.{fresh, session_start}
use Rattle.session.specs.declared.Session.{Session}

module _ (command : ℕ) (image : List ℕ) where
  pub start_refused : (n : ℕ) → refused n ≡ accepted command image → refused n ≡ session_start command image
  unfolding accepted session_start
  start_refused n q = sym (refused_alike (load_rows command image) _ _ n (sym q))

  pub start_taken : (l : Load) → taken l ≡ accepted command image → taken (fresh l) ≡ session_start command image
  unfolding accepted session_start
  start_taken l q =
      let p = taken_alike (load_rows command image) (load_of command image) (fresh (load_of command image)) l (sym q) in
      ap (λ (x : Load). taken (fresh x)) p.1 ∙ sym p.0

  pub start_load : (s : Session) → session_start command image ≡ taken s
      → (accepted command image ≡ taken (load_of command image)) × (s ≡ fresh (load_of command image))
  unfolding accepted session_start
  start_load s e = taken_alike (load_rows command image) (fresh (load_of command image)) (load_of command image) s e

  pub length_kept : (command ≡ 0 → ⊥) → (load_of command image).length.0 ≡ length image
  length_kept some = when_false 0 (length image) (ne_eqb command 0 some)

  pub lent_again : (other : List ℕ) → ((command ≡ 0 → ⊥) → length other ≡ length image) → other_image (load_of command image) other ≡ false
  unfolding other_image
  lent_again other same =
      when_elim (λ (b : Bool). b ≡ false) (eqb command 0) false (not (eqb (length other) (load_of command image).length.0)) (λ e. refl)
      (λ e. let some = eqb-false command 0 e in (differ_false _ _).1 (same some ∙ sym (length_kept some)))
