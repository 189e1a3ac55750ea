-- A value looked for among corrections.
use Rattle.std.specs.Prelude.{◌∷◌, Option, Some, None}
use Rattle.lists.specs.Prelude.{ℕ, List, [], eqb, pick}
use Rattle.feed.specs.Feed.{Entry}

-- where the bytes of the correction of value k stand
unfoldable pub found_in : List Entry → ℕ → Option (ℕ × ℕ)
found_in [] k = None
found_in (x ∷ xs) k = pick (eqb x.value k) (Some (x.from, x.to)) (found_in xs k)
