-- What the search for SZ promises.
use Rattle.std.specs.Prelude.{◌-◌, ◌≤◌, ◌<◌, ◌≡◌}
use Rattle.lists.specs.Prelude.{ℕ, true, List}
use Rattle.tables.specs.Each.{tabulate}
use Rattle.parts_props.specs.Props.{named_at, property_at}
use Rattle.go_size.specs.Root.{SZ, sizes_in}

-- r is the first SZ of the rows from `from` up to `to`, or not below `to`
pub record NextSize (text pr : List ℕ) (from to r : ℕ) : Type 0 where
  pub here : r < to → named_at text pr SZ r ≡ true
  pub start : from ≤ r
  pub rest : (vl : List ℕ) → sizes_in (tabulate (property_at text pr vl) from (to - from)) ≡ sizes_in (tabulate (property_at text pr vl) r (to - r))
