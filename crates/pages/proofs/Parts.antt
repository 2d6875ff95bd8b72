-- What a part of a memory is once it is known whether the memory has page k: that page, or nothing at the memory's start.
-- Assumes nothing.
use mathlib.Core.Bool.{true, false}
use mathlib.Core.List.{List, []}
use mathlib.Core.Path.{◌≡◌, refl}
use Prim.Native.Nat.{ℕ, ◌+◌, ◌-◌, ◌*◌}
use native.Mathlib.Omega.{arith}
use lib.ListN.{take, drop}
use Rattle.terms.specs.Choice.{when}
use Rattle.pages.specs.Page.{has_page, page_bytes, page_start}

module _ (k : ℕ) (place : ℕ × ℕ) (memory : List ℕ) where
  pub page_none : has_page k memory ≡ false → ([] ≡ page_bytes k memory) × ((place.0, 0 + place.1) ≡ page_start k place memory)
  unfolding page_bytes page_start when
  page_none e =
      let start : 0 + place.1 ≡ place.1 + 0 = omega arith in
      (rw e refl, rw (e, start) refl)

  pub page_here : has_page k memory ≡ true
      → (take (k * 64 + 64 - k * 64) (drop (k * 64) memory) ≡ page_bytes k memory) × ((place.0, k * 64 + place.1) ≡ page_start k place memory)
  unfolding page_bytes page_start when
  page_here e =
      let long : k * 64 + 64 - k * 64 ≡ 64 = omega arith in
      let start : k * 64 + place.1 ≡ place.1 + k * 64 = omega arith in
      (rw (e, long) refl, rw (e, start) refl)
