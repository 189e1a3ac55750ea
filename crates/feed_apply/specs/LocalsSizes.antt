-- What the steps of applying promise each other: sizes of values before and after, and places by them.
use Rattle.std.specs.Prelude.{◌+◌, ◌-◌, ◌≤◌, ◌<◌, ◌≡◌}
use Rattle.lists.specs.Prelude.{ℕ, suc, List}
use Rattle.tables.specs.Columns.{name_from_at, name_to_at, first_val_at, val_count_at, val_from_at, val_to_at}
use Rattle.tables.specs.Each.{sum}
use Rattle.tables.specs.Rows.{PropRow, ValRow}
use Rattle.feed.specs.Feed.{listing}
use Rattle.feed.specs.Find.{found_in}
use Rattle.feed_apply.specs.LocalsAlong.{size_for, Stands}
use Rattle.feed_apply.specs.declared.along.Along.{Along}

-- how long value k is, by its row
abbrev pub old_size : List ℕ → ℕ → ℕ
old_size vl k = val_to_at vl k - val_from_at vl k

-- how long it is as corrected
abbrev pub new_size : List ℕ → (feed : List ℕ) → ℕ → ℕ
new_size vl w k = size_for (found_in (listing w).entries k) (old_size vl k)

-- what those of the first k values grow by that grow
unfoldable pub grown_to : List ℕ → (feed : List ℕ) → ℕ → ℕ
grown_to vl w k = sum (λ j. new_size vl w j - old_size vl j) k

-- and shrink by that shrink
unfoldable pub shrunk_to : List ℕ → (feed : List ℕ) → ℕ → ℕ
shrunk_to vl w k = sum (λ j. old_size vl j - new_size vl w j) k

-- how long the first k values are
unfoldable pub spanned_to : List ℕ → ℕ → ℕ
spanned_to vl k = sum (λ j. old_size vl j) k

-- where a place behind the first k values, and before the next, then stands
abbrev pub size_moved : List ℕ → (feed : List ℕ) → (k place : ℕ) → ℕ
size_moved vl w k p = p + grown_to vl w k - shrunk_to vl w k

-- a value's row moved
abbrev pub moved_val : List ℕ → (feed : List ℕ) → ℕ → ValRow
moved_val vl w j = record { from = size_moved vl w j (val_from_at vl j); to = size_moved vl w (suc j) (val_to_at vl j) }

-- a property's
abbrev pub moved_prop : (pr vl feed : List ℕ) → ℕ → PropRow
moved_prop pr vl w p =
    record {
      from = size_moved vl w (first_val_at pr p) (name_from_at pr p);
      to = size_moved vl w (first_val_at pr p) (name_to_at pr p);
      first = first_val_at pr p;
      count = val_count_at pr p;
    }

-- the values of the m properties from k on begin at value n or before it
abbrev pub FirstsTo : List ℕ → (n k m : ℕ) → Type 0
FirstsTo pr n k m = (j : ℕ) → k ≤ j → j < k + m → first_val_at pr j ≤ n

-- n values one behind the other, in a text of so many bytes
pub record Spread (vl : List ℕ) (n bytes : ℕ) : Type 0 where
  pub order : (j : ℕ) → j < n → val_from_at vl j ≤ val_to_at vl j
  pub apart : (j : ℕ) → suc j < n → val_to_at vl j < val_from_at vl (suc j)
  pub inside : (j : ℕ) → j < n → val_to_at vl j ≤ bytes

-- identifiers of P properties, each behind the values before its property's first
pub record NamesStand (pr vl : List ℕ) (P n bytes : ℕ) : Type 0 where
  pub here : (p : ℕ) → p < P → first_val_at pr p ≤ n
  pub rising : (p : ℕ) → suc p < P → first_val_at pr p ≤ first_val_at pr (suc p)
  pub behind : (p : ℕ) → p < P → spanned_to vl (first_val_at pr p) ≤ name_from_at pr p
  pub order : (p : ℕ) → p < P → name_from_at pr p ≤ name_to_at pr p
  pub inside : (p : ℕ) → p < P → name_to_at pr p ≤ bytes

-- the walk has counted what the values before it grow and shrink by
pub record Tallied (vl w : List ℕ) (n : ℕ) (s : Along) : Type 0 where
  pub stands : Stands w n s
  pub grown : s.grown ≡ grown_to vl w s.due
  pub shrunk : s.shrunk ≡ shrunk_to vl w s.due
