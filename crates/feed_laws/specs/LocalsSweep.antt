-- The steps on which a feed is applied: first the corrections that do not lengthen, then those that do.
use Rattle.lists.specs.Prelude.{ℕ, List, leb, ltb, length, pick}
use Rattle.tables.specs.Memory.{Memory}
use Rattle.feed_laid.specs.OfMemory.{own_bytes}
use Rattle.feed_laws.specs.Corrected.{new_bytes}

-- the bytes g for the values below k, and h for those from k on
abbrev pub until : ℕ → (g h : ℕ → List ℕ) → ℕ → List ℕ
until k g h j = pick (ltb j k) (g j) (h j)

-- the bytes of value k once the corrections that do not lengthen stand: the corrected ones where they are not longer, else its own
abbrev pub lesser : Memory → (feed : List ℕ) → ℕ → List ℕ
lesser m w k = pick (leb (length (new_bytes m w k)) (length (own_bytes m k))) (new_bytes m w k) (own_bytes m k)
