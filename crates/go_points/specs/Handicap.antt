-- Handicaps: what a number stands for.
use Rattle.lists.specs.Prelude.{leb, pick}
use Rattle.values.specs.declared.decimal.Number.{Number}
use Rattle.values.specs.declared.decimal.Number.TheVariants.{Bad, Plus, Minus}
use Rattle.go_points.specs.declared.Value.{Value}
use Rattle.go_points.specs.declared.Value.TheVariants.{Invalid, Handicap}

-- a number of stones, at least 2 (SCOPE 101, 139)
unfoldable pub handicap_of : Number → Value
handicap_of Bad = Invalid
handicap_of (Plus n) = pick (leb 2 n) (Handicap n) Invalid
handicap_of (Minus n) = Invalid
