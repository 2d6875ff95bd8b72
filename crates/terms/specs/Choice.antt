-- The choice by a test, and tests that are joined.
-- Assumes nothing.
use Rattle.std.specs.Prelude.{Bool, true, false}

-- The first where the test holds, otherwise the second.
unfoldable pub when {ℓ} : {A : Type ℓ} → Bool → A → A → A
when true x y = x
when false x y = y

-- Both tests hold.
unfoldable pub both : Bool → Bool → Bool
both true b = b
both false b = false

-- One of the two tests holds, or both.
unfoldable pub either : Bool → Bool → Bool
either true b = true
either false b = b
