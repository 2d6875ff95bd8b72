-- 02, "Three": files that tell each plausible error.
-- Assumes nothing.
use Rattle.std.specs.Prelude.{[], ◌∷◌, ◌≡◌}
use Rattle.terms.specs.Refusals.{refused, taken}
use Rattle.trace.specs.Traces.{file_of, file}

pub record Cases : Type 0 where
  pub empty : file_of [] ≡ refused 17
  pub zero_first : file_of (0 ∷ []) ≡ refused 17
  pub long_one : file_of (129 ∷ 0 ∷ []) ≡ refused 17
  pub no_pulses : file_of (1 ∷ []) ≡ taken []
  pub not_shortest : file_of (1 ∷ 128 ∷ 0 ∷ []) ≡ refused 18
  pub largest : file_of (1 ∷ 255 ∷ 255 ∷ 255 ∷ 255 ∷ 15 ∷ 0 ∷ []) ≡ taken (4294967295 ∷ 0 ∷ [])
  pub too_large : file_of (1 ∷ 255 ∷ 255 ∷ 255 ∷ 255 ∷ 16 ∷ 0 ∷ []) ≡ refused 18
  pub cut_short : file_of (1 ∷ 5 ∷ 128 ∷ []) ≡ refused 18
  pub no_low : file_of (1 ∷ 5 ∷ []) ≡ refused 19
  pub written_300 : file (300 ∷ 5 ∷ []) ≡ 1 ∷ 172 ∷ 2 ∷ 5 ∷ []
