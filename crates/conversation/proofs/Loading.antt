-- RAM while it is loaded: the longs so far lie over the bytes that were there, and the last of them makes it the final RAM.
-- Assumes nothing.
use mathlib.Core.List.{List, [], ◌∷◌, ◌++◌, append_assoc}
use mathlib.Core.Path.{◌≡◌, refl, sym, ap, ◌∙◌}
use Prim.Native.Nat.{ℕ, ◌+◌, ◌*◌, ◌≤◌}
use native.Mathlib.Omega.{arith}
use lib.ListN.{length, get_or, take, drop, length-append, length-drop, take-append-drop}
use lib.Seq.{take_at, drop_at, take-add, drop-drop, length-take-le}
use borrow.Author.Tests.{le-leb}
use Rattle.terms.proofs.Tests.{when_true}
use Rattle.ram.specs.Ram.{long_bytes, stored}
use Rattle.chip.specs.Work.{with_long}
use Rattle.conversation.specs.Final.{AllBytes}
use Rattle.conversation.proofs.Longs.{long_of, bytes_back, from_there}

-- A long over four bytes.
pub stored_at : (at v : ℕ) (front four back : List ℕ) → length front ≡ at → length four ≡ 4
    → stored at v (front ++ four ++ back) ≡ front ++ long_bytes v ++ back
unfolding stored
stored_at at v front four back e f =
    let seam : length (front ++ four) ≡ at + 4 = omega (arith, length-append front four) in
    let fits : at + 4 ≤ length (front ++ four ++ back) = omega (arith, length-append (front ++ four) back) in
    when_true _ _ (le-leb _ _ fits)
    ∙ ap (λ (l : List ℕ). l ++ long_bytes v ++ drop (at + 4) (front ++ four ++ back))
    (ap (take at) (append_assoc front four back) ∙ take_at front (four ++ back) at e)
    ∙ ap (λ (l : List ℕ). front ++ long_bytes v ++ l) (drop_at (front ++ four) back (at + 4) seam)

first_four : (l : List ℕ) → 4 ≤ length l → take 4 l ≡ get_or l 0 0 ∷ get_or l 1 0 ∷ get_or l 2 0 ∷ get_or l 3 0 ∷ []
first_four [] h = absurd (omega (arith, h))
first_four (a ∷ []) h = absurd (omega (arith, h))
first_four (a ∷ b ∷ []) h = absurd (omega (arith, h))
first_four (a ∷ b ∷ c ∷ []) h = absurd (omega (arith, h))
first_four (a ∷ b ∷ c ∷ d ∷ l) h = refl

module _ (image ram : List ℕ) where
  -- The first bytes of the image over those of RAM.
  abbrev pub overlaid : ℕ → List ℕ
  overlaid n = take n image ++ drop n ram

  module _ (k : ℕ) where
    -- What lies before long k, the bytes in its place, and those after it; and the image from that long on.
    abbrev front : List ℕ
    front = take (k * 4) image

    abbrev four : List ℕ
    four = take 4 (drop (k * 4) ram)

    abbrev back : List ℕ
    back = drop (k * 4 + 4) ram

    abbrev rest : List ℕ
    rest = drop (k * 4) image

    overlaid_cut : overlaid (k * 4) ≡ front ++ four ++ back
    overlaid_cut =
        ap (λ (l : List ℕ). front ++ l)
        (sym (take-append-drop 4 (drop (k * 4) ram)) ∙ ap (λ (l : List ℕ). four ++ l) (drop-drop 4 (k * 4) ram))
        ∙ sym (append_assoc front four back)

    pub long_stored : AllBytes image → k * 4 + 4 ≤ length image → length image ≤ length ram
        → with_long k (long_of rest) (overlaid (k * 4)) ≡ overlaid (k * 4 + 4)
    long_stored all h m =
        let before : length front ≡ k * 4 = length-take-le (k * 4) image (omega arith) in
        let here : length four ≡ 4 = length-take-le 4 (drop (k * 4) ram) (omega (arith, length-drop (k * 4) ram)) in
        let more : 4 ≤ length rest = omega (arith, length-drop (k * 4) image) in
        ap (stored (k * 4) (long_of rest)) overlaid_cut
        ∙ stored_at (k * 4) (long_of rest) front four back before here
        ∙ ap (λ (l : List ℕ). front ++ l ++ back) (bytes_back rest (from_there image all k) ∙ sym (first_four rest more))
        ∙ ap (λ (l : List ℕ). l ++ back) (sym (take-add (k * 4) 4 image))
