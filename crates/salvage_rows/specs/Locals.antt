-- What the search for GM promises.
use Rattle.std.specs.Prelude.{◌-◌, ◌≤◌, ◌<◌, ◌≡◌}
use Rattle.lists.specs.Prelude.{ℕ, true, List}
use Rattle.tables.specs.Each.{tabulate}
use Rattle.parts_props.specs.Props.{named_at, property_at}
use Rattle.parser.specs.Game.{GM}
use Rattle.salvage_rows.specs.LocalsGM.{gms_in}

-- r is the first GM of the rows from `from` up to `to`, or not below `to`
pub record NextGM (text pr : List ℕ) (from to r : ℕ) : Type 0 where
  pub here : r < to → named_at text pr GM r ≡ true
  pub start : from ≤ r
  pub rest : (vl : List ℕ) → gms_in (tabulate (property_at text pr vl) from (to - from)) ≡ gms_in (tabulate (property_at text pr vl) r (to - r))
