-- The identifier of a property, by its row.
use Rattle.std.specs.Prelude.{◌/◌, ◌<◌, ◌≤◌}
use Rattle.lists.specs.Prelude.{ℕ, List, length}
use Rattle.tables.specs.Columns.{property_stride, name_from_at, name_to_at}

-- property p is a row, and its identifier lies in the text
pub record NameHeld (t pr : List ℕ) (p : ℕ) : Type 0 where
  pub row : p < length pr / property_stride
  pub rises : name_from_at pr p ≤ name_to_at pr p
  pub inside : name_to_at pr p ≤ length t
