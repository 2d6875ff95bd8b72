-- What a plan is by its command, and that a plan is taken exactly as its load is.
-- Assumes nothing.
use mathlib.Core.List.{List}
use mathlib.Core.Path.{◌≡◌, sym, ap, ◌∙◌}
use Prim.Native.Nat.{ℕ, ◌*◌, ◌/◌, ◌≤◌}
use lib.ListN.{length}
use borrow.Author.Tests.{eq-eqb, ne_eqb}
use Rattle.terms.specs.Choice.{when}
use Rattle.std.specs.Prelude.{Result, Ok, Err}
use Rattle.terms.specs.Refusals.{number, refused, taken, told}
use Rattle.terms.specs.declared.Refusal.{Refusal}
use Rattle.terms.proofs.Refusals.{refused_alike, taken_alike}
use Rattle.load.specs.Load.{load_rows, load_of, accepted}
use Rattle.load.specs.declared.Load.{Load}
use Rattle.load.proofs.Exactly.{load_taken}
use Rattle.counts.specs.Counts.{none, bits_with, answered, unspaced, after_version, value_ones, image_ones, planned, counted}
use Rattle.counts.specs.declared.Counts.{Counts}
use Rattle.counts.specs.declared.Plan.{Plan}

module _ (command : ℕ) (image : List ℕ) where
  pub image_short : accepted command image ≡ taken (load_of command image) → (command ≡ 0 → ⊥) → length image ≤ 32760
  image_short e some = (((load_taken command image (load_of command image)).0 e).0.good some).short

  abbrev pub commanded : Counts
  commanded = bits_with 32 (value_ones command)

  abbrev pub sized : Counts
  sized = bits_with 32 (value_ones (length image / 4))

  abbrev pub loaded : Counts
  loaded = bits_with (length image * 8) (image_ones image)

  pub planned_0 : command ≡ 0 → after_version (unspaced commanded) none none none none none ≡ planned command image
  unfolding planned when
  planned_0 e = rw (eq-eqb command 0 e)

  pub planned_1 : (command ≡ 0 → ⊥) → command ≡ 1
      → after_version commanded sized loaded (unspaced answered) none none ≡ planned command image
  unfolding planned when
  planned_1 some e = rw (ne_eqb command 0 some, eq-eqb command 1 e)

  pub planned_others : (command ≡ 0 → ⊥) → (command ≡ 1 → ⊥)
      → after_version commanded sized loaded answered answered (unspaced answered) ≡ planned command image
  unfolding planned when
  planned_others some more = rw (ne_eqb command 0 some, ne_eqb command 1 more)

  pub counted_refused : (r : Result Load Refusal) (e : Refusal) → r ≡ Err e → told r ≡ accepted command image → refused (number e) ≡ counted command image
  unfolding accepted counted
  counted_refused r e is q = sym (refused_alike (load_rows command image) _ _ (number e) (sym q ∙ ap told is))

  pub load_known : (r : Result Load Refusal) (l : Load) → r ≡ Ok l → told r ≡ accepted command image
      → accepted command image ≡ taken (load_of command image)
  unfolding accepted
  load_known r l e q = (taken_alike (load_rows command image) (load_of command image) (load_of command image) l (sym q ∙ ap told e)).0

  pub counted_taken : (p : Plan) → accepted command image ≡ taken (load_of command image) → p ≡ planned command image
      → taken p ≡ counted command image
  unfolding accepted counted
  counted_taken p e w =
      ap taken w ∙ sym (taken_alike (load_rows command image) (load_of command image) (planned command image) (load_of command image) e).0

  pub counted_load : (p : Plan) → counted command image ≡ taken p
      → (accepted command image ≡ taken (load_of command image)) × (p ≡ planned command image)
  unfolding accepted counted
  counted_load p e = taken_alike (load_rows command image) (planned command image) (load_of command image) p e
