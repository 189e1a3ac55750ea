-- The next node on a way, by the links.
use Rattle.std.specs.Prelude.{◌/◌, ◌&&◌, ◌≡◌}
use Rattle.lists.specs.Prelude.{ℕ, Bool, true, false, List, length, ltb, leb}
use Rattle.tables.specs.Columns.{node_stride, child_at, sibling_at}

-- there is such a row
abbrev pub is_row : List ℕ → ℕ → Bool
is_row nd c = ltb c (length nd / node_stride)

-- the next sibling of c is a row behind c, and not behind k
unfoldable pub follows : List ℕ → (k c : ℕ) → Bool
follows nd k c = ltb c (sibling_at nd c) && (leb (sibling_at nd c) k && is_row nd (sibling_at nd c))

-- from c along next siblings, as far as k
pub data Along (nd : List ℕ) (k : ℕ) : ℕ → ℕ → Type 0 where
  stays : {c : ℕ} → follows nd k c ≡ false → Along nd k c c
  goes : {c r : ℕ} → follows nd k c ≡ true → Along nd k (sibling_at nd c) r → Along nd k c r

-- a node with a first child: the last of its children as far as k; any other: itself
pub record NextIs (nd : List ℕ) (at k r : ℕ) : Type 0 where
  pub childless : is_row nd at && is_row nd (child_at nd at) ≡ false → r ≡ at
  pub child : is_row nd at && is_row nd (child_at nd at) ≡ true → Along nd k (child_at nd at) r
