-- Fitting, the ranges: which properties a node has, and which values a property.
use Rattle.std.specs.Prelude.{◌&&◌}
use Rattle.lists.specs.Prelude.{ℕ, Bool, List, leb, eqb}
use Rattle.tables.specs.declared.Counts.{Counts}
use Rattle.tables.specs.Columns.{first_prop_at, prop_count_at, first_val_at, val_count_at}
use Rattle.tables.specs.Each.{each, sum}

-- the ranges of n rows, each with a first and a count, follow one another without gap from 0 to the total (SCOPE 22)
abbrev pub gapless : (first count : ℕ → ℕ) → (n total : ℕ) → Bool
gapless first count n total = each n (λ k. eqb (first k) (sum count k)) && eqb (sum count n) total

-- a property has a value (SCOPE 23)
abbrev pub has_value : List ℕ → ℕ → Bool
has_value pr k = leb 1 (val_count_at pr k)

-- all of it
unfoldable pub ranges_fit : Counts → (nd pr : List ℕ) → Bool
ranges_fit c nd pr =
    gapless (first_prop_at nd) (prop_count_at nd) c.nodes c.properties
    && gapless (first_val_at pr) (val_count_at pr) c.properties c.values
    && each c.properties (has_value pr)
