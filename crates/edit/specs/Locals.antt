-- What the edit's own steps promise each other.
use Rattle.std.specs.Prelude.{◌≤◌, ◌<◌, ◌≡◌}
use Rattle.lists.specs.Prelude.{ℕ, suc, List, map}
use Rattle.lexer.specs.Move.{starts_at, ends_at}
use Rattle.tables.specs.Flat.{flat_props, flat_vals}
use Rattle.tables.specs.Move.{move_props, move_vals}
use Rattle.tables.specs.Columns.{name_from_at, name_to_at, first_val_at, val_from_at, val_to_at}
use Rattle.tables.specs.Each.{tabulate}
use Rattle.fit.specs.Record.{prop_row, val_row}

-- n values in a text of so many bytes, of which value k stands at q..e: those before it end before it, those behind it start behind it
pub record ValuesApart (vl : List ℕ) (n k q e bytes : ℕ) : Type 0 where
  pub starts : val_from_at vl k ≡ q
  pub ends : val_to_at vl k ≡ e
  pub order : (j : ℕ) → j < n → val_from_at vl j ≤ val_to_at vl j
  pub inside : (j : ℕ) → j < n → val_to_at vl j ≤ bytes
  pub before : (j : ℕ) → j < k → val_to_at vl j < q
  pub behind : (j : ℕ) → k < j → j < n → e < val_from_at vl j

-- n properties, of whose values value k stands at q..e: identifiers whose values begin at k or before it end before it, the others start behind it
pub record NamesApart (pr : List ℕ) (n k q e bytes : ℕ) : Type 0 where
  pub rising : (p : ℕ) → suc p < n → first_val_at pr p ≤ first_val_at pr (suc p)
  pub order : (p : ℕ) → p < n → name_from_at pr p ≤ name_to_at pr p
  pub inside : (p : ℕ) → p < n → name_to_at pr p ≤ bytes
  pub before : (p : ℕ) → p < n → first_val_at pr p ≤ k → name_to_at pr p < q
  pub behind : (p : ℕ) → p < n → k < first_val_at pr p → e < name_from_at pr p

-- the n property rows, moved as the value at q..e has become m bytes long
abbrev pub properties_moved : (q e m n : ℕ) → List ℕ → List ℕ
properties_moved q e m n pr = flat_props (map (move_props (starts_at q e m) (ends_at q e m)) (tabulate (prop_row pr) 0 n))

-- the n value rows, moved alike
abbrev pub values_moved : (q e m n : ℕ) → List ℕ → List ℕ
values_moved q e m n vl = flat_vals (map (move_vals (starts_at q e m) (ends_at q e m)) (tabulate (val_row vl) 0 n))
