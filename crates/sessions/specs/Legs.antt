-- 01, "What the host sends", "Edges": the list of the session's legs, and the times of its edges.
-- Assumes nothing.
use Rattle.std.specs.Prelude.{List, [], ◌∷◌, ℕ, take}
use Rattle.lent.specs.Bytes.{total}
use Rattle.settings.specs.declared.Settings.{Settings}
use Rattle.host.specs.Time.{low, spacer}
use Rattle.sessions.specs.Spelled.{Mark}

-- The exact lengths in ps, one after the other: each pulse's low, and the spacer after it.
abbrev pub legs : Settings → List Mark → List ℕ
legs s [] = []
legs s (m ∷ marks) = low s m.bit ∷ spacer s m.silent ∷ legs s marks

-- An edge's exact time is the sum of the exact lengths before it. Edges are numbered from 0: pulse n falls at edge 2n and rises at
-- edge 2n + 1.
unfoldable pub edge : Settings → List Mark → ℕ → ℕ
edge s marks k = total (take k (legs s marks))
