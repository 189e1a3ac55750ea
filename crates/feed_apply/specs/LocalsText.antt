-- What the two sweeps over the text do with one correction.
use Rattle.std.specs.Prelude.{◌+◌}
use Rattle.lists.specs.Prelude.{ℕ, List, leb, ltb, length, pick}
use Rattle.edit_splice.specs.Splice.{replaced}

-- the new bytes for the `old` ones at a place, where they are not more
abbrev pub shorter_put : List ℕ → (used start old : ℕ) → (new : List ℕ) → List ℕ
shorter_put b used start old new = pick (leb (length new) old) (replaced b used start (start + old) new) b

-- where they are more
abbrev pub longer_put : List ℕ → (used start old : ℕ) → (new : List ℕ) → List ℕ
longer_put b used start old new = pick (ltb old (length new)) (replaced b used start (start + old) new) b
