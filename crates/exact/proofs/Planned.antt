-- The planned session is its ten phases' lists, one after the other.
-- Assumes nothing.
use mathlib.Core.Bool.{Bool, true, false}
use mathlib.Core.List.{List, [], ◌∷◌, ◌++◌}
use mathlib.Core.Path.{◌≡◌, refl, ap, ◌∙◌}
use Prim.Native.Nat.{ℕ, ◌+◌, ◌*◌, ◌/◌}
use native.Mathlib.Omega.{arith}
use lib.Dec.{eqb}
use lib.ListN.{length}
use borrow.Author.Tests.{eqb-false}
use Rattle.terms.specs.Choice.{when}
use Rattle.sequence.specs.Sequence.{draw}
use Rattle.units.specs.declared.Seen.{Seen}
use Rattle.bits.specs.Bits.{value_bit, image_bit}
use Rattle.place.specs.declared.Acknowledgement.TheVariants.{Ram, Programming, Verification}
use Rattle.place.specs.declared.Ending.TheVariants.{Done, BadRam, BadProgramming, BadVerification, WrongVersion}
use Rattle.place.specs.declared.Phase.TheVariants.{Handshake, Command, Size, Image}
use Rattle.sessions.specs.Spelled.{Mark, Part, over, ◌then◌, bits, value, connection, version, wait, done_for, spelled}
use Rattle.exact.specs.Good.{Answered, Good}
use Rattle.exact.proofs.Lists.{plain, bit_marks, pair_marks, wait_marks, bits_are, connection_is, version_is, wait_is}

unfoldable pub flat : List (List Mark) → List Mark
flat [] = []
flat (p ∷ ps) = p ++ flat ps

-- Nothing of a phase that command 0 has not; nothing of one that command 1 has not either.
abbrev pub unless : Bool → List Mark → List Mark
unless b p = when b [] p

-- The lists that follow the command, by whether the command is 0, and whether it is 1.
abbrev pub onward : Bool → Bool → List Mark → List Mark → List (List Mark)
onward a b sized loaded =
    unless a sized ∷ unless a loaded ∷ unless a (wait_marks 7) ∷ unless a (unless b (wait_marks 8)) ∷ unless a (unless b (wait_marks 9)) ∷ []

unfoldable pub parts : ℕ → List ℕ → List (List Mark)
parts command image =
    pair_marks 0 1 ∷ bit_marks 1 draw 1 250 ∷ pair_marks 2 250 ∷ pair_marks 3 8 ∷ bit_marks 4 (value_bit command) 0 32
    ∷ onward (eqb command 0) (eqb command 1) (bit_marks 5 (value_bit (length image / 4)) 0 32) (bit_marks 6 (image_bit image) 0 (length image * 8))

module _ (command : ℕ) (image : List ℕ) (seen : ℕ → Seen) (good : Good command (length image) seen) where
  abbrev lent : ℕ → List ℕ
  lent n = image

  abbrev size : ℕ
  size = length image

  abbrev verifying : Part
  verifying = wait seen Verification 200 BadVerification then over Done

  abbrev programming : Part
  programming = wait seen Programming 500 BadProgramming then verifying

  abbrev storing : Part
  storing = wait seen Ram 25 BadRam then done_for command size lent seen 1 then programming

  abbrev imaging : Part
  imaging = bits Image (λ n i. image_bit (lent n) i) 0 (size * 8) then storing

  abbrev sizing : Part
  sizing = value Size (size / 4) then imaging

  abbrev commanding : Part
  commanding = value Command command then done_for command size lent seen 0 then sizing

  abbrev zeroing : Part
  zeroing = bits Command (λ n i. false) 0 32 then over WrongVersion

  abbrev versioning : Part
  versioning = version seen 0 8 0 zeroing then commanding

  abbrev connecting : Part
  connecting = connection seen 251 250 then versioning

  moved : {n m : ℕ} → n ≡ m → Answered seen n → Answered seen m
  moved e a = rw e at a

  module _ (some : command ≡ 0 → ⊥) where
    chosen : (n : ℕ) → n ≡ 832 + size * 8 + 4 → (b : Bool) → eqb command 1 ≡ b
        → (when b (over Done) programming n).pulses ≡ flat (unless b (wait_marks 8) ∷ unless b (wait_marks 9) ∷ [])
    unfolding flat when
    chosen n is true e = refl
    chosen n is false e =
        let other = eqb-false command 1 e in
        let prog : Answered seen n = moved (omega (arith, is)) (good.programming some other) in
        let verif : Answered seen (n + 4) = moved (omega (arith, is)) (good.verification some other) in
        wait_is seen Programming 498 n BadProgramming verifying prog
        ∙ ap (λ (l : List Mark). wait_marks 8 ++ l) (wait_is seen Verification 198 (n + 4) BadVerification (over Done) verif)

    sized_are : (sizing 800).pulses
        ≡ bit_marks 5 (value_bit (size / 4)) 0 32 ++ (bit_marks 6 (image_bit image) 0 (size * 8)
        ++ (wait_marks 7 ++ flat (unless (eqb command 1) (wait_marks 8) ∷ unless (eqb command 1) (wait_marks 9) ∷ [])))
    sized_are =
        let stored =
        wait_is seen Ram 23 (832 + size * 8) BadRam (done_for command size lent seen 1 then programming) (good.ram some)
        ∙ ap (λ (l : List Mark). wait_marks 7 ++ l) (chosen (832 + size * 8 + 4) refl (eqb command 1) refl) in
        let imaged =
        bits_are Image (image_bit image) (size * 8) 0 832 storing ∙ ap (λ (l : List Mark). bit_marks 6 (image_bit image) 0 (size * 8) ++ l) stored in
        bits_are Size (value_bit (size / 4)) 32 0 800 imaging ∙ ap (λ (l : List Mark). bit_marks 5 (value_bit (size / 4)) 0 32 ++ l) imaged

  -- Nothing more, or what is sent from call 800 on.
  onward_are : (a : Bool) → eqb command 0 ≡ a
      → (when a (over Done) sizing 800).pulses
      ≡ flat (onward a (eqb command 1) (bit_marks 5 (value_bit (size / 4)) 0 32) (bit_marks 6 (image_bit image) 0 (size * 8)))
  unfolding when flat
  onward_are true e = refl
  onward_are false e = sized_are (eqb-false command 0 e)

  pub pulses_are : (spelled command size lent seen).pulses ≡ flat (parts command image)
  unfolding spelled flat parts pair_marks
  pulses_are =
      let commanded =
      bits_are Command (value_bit command) 32 0 768 (done_for command size lent seen 0 then sizing)
      ∙ ap (λ (l : List Mark). bit_marks 4 (value_bit command) 0 32 ++ l) (onward_are (eqb command 0) refl) in
      let versioned =
      version_is seen 752 zeroing commanding good.version_first good.version_rest ∙ ap (λ (l : List Mark). pair_marks 3 8 ++ l) commanded in
      let connected =
      connection_is seen 250 251 252 versioning good.connects ∙ ap (λ (l : List Mark). pair_marks 2 250 ++ l) versioned in
      let shaken = bits_are Handshake draw 250 1 2 connecting ∙ ap (λ (l : List Mark). bit_marks 1 draw 1 250 ++ l) connected in
      ap (λ (l : List Mark). plain 0 true ∷ plain 0 false ∷ l) shaken
