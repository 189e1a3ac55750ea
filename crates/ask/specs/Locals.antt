-- What the steps of a question promise each other.
use Rattle.std.specs.Prelude.{◌/◌, ◌<◌, ◌≤◌}
use Rattle.lists.specs.Prelude.{ℕ, zero, suc, List, ltb, length, slice, pick}
use Rattle.tables.specs.Columns.{tree_stride, node_stride, root_at, first_prop_at, name_from_at, name_to_at}

-- there are m trees, at least one, and each root is a row
pub record Rooted (m : ℕ) (tr nd : List ℕ) : Type 0 where
  pub some : 0 < m
  pub lent : m ≤ length tr / tree_stride
  pub roots : (r : ℕ) → r < m → root_at tr r < length nd / node_stride

-- of tree r and the m behind it: the last whose root's first property is not behind p
unfoldable pub tree_from : (tr nd : List ℕ) → (p r m : ℕ) → ℕ
tree_from tr nd p r zero = r
tree_from tr nd p r (suc m) = pick (ltb p (first_prop_at nd (root_at tr (suc r)))) r (tree_from tr nd p (suc r) m)

-- its identifier
abbrev pub name_at : (t pr : List ℕ) → ℕ → List ℕ
name_at t pr p = slice (name_from_at pr p) (name_to_at pr p) t
