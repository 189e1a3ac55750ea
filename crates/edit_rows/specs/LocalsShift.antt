-- A stretch of property or value rows with one number added to every place.
use Rattle.std.specs.Prelude.{set, ◌+◌, ◌-◌, ◌*◌, ◌/◌, ◌%◌, ◌^◌}
use Rattle.lists.specs.Prelude.{ℕ, zero, suc, min, List, length, get_or, ltb, pick}
use Rattle.lists.specs.Put.{put_at}
use Rattle.tables.specs.Columns.{property_stride, value_stride, name_from_at, name_to_at, first_val_at, val_count_at, val_from_at, val_to_at}
use Rattle.tables.specs.Each.{tabulate}
use Rattle.tables.specs.Flat.{flat_props, flat_vals}
use Rattle.tables.specs.Rows.{PropRow, ValRow}

-- a number with another added, as far as 32 bits hold it
abbrev pub place_added : (by x : ℕ) → ℕ
place_added by x = (x + by) % 2 ^ 32

-- the two places at the start of a row moved
abbrev pub row_moved : (by at : ℕ) → List ℕ → List ℕ
row_moved by at t = set (set t at (place_added by (get_or t at 0))) (at + 1) (place_added by (get_or t (at + 1) 0))

-- property p's row, its identifier moved
abbrev pub prop_added : (by : ℕ) → List ℕ → ℕ → PropRow
prop_added by pr p =
    record { from = place_added by (name_from_at pr p); to = place_added by (name_to_at pr p); first = first_val_at pr p; count = val_count_at pr p }

-- value v's row moved
abbrev pub val_added : (by : ℕ) → List ℕ → ℕ → ValRow
val_added by vl v = record { from = place_added by (val_from_at vl v); to = place_added by (val_to_at vl v) }

-- of the m properties from p on, how many come before the first whose values stand behind value v
unfoldable pub names_before : List ℕ → (v p m : ℕ) → ℕ
names_before pr v p zero = 0
names_before pr v p (suc m) = pick (ltb v (first_val_at pr p)) 0 (suc (names_before pr v (suc p) m))

-- the rows of properties, of which m from row k on are moved
abbrev pub names_shifted : (by k m : ℕ) → List ℕ → List ℕ
names_shifted by k m pr = put_at pr (k * property_stride) (flat_props (tabulate (prop_added by pr) k m))

-- the rows of values, of which m from row k on are moved, or as many as there are
abbrev pub values_shifted : (by k m : ℕ) → List ℕ → List ℕ
values_shifted by k m vl = put_at vl (k * value_stride) (flat_vals (tabulate (val_added by vl) k (min m (length vl / value_stride - k))))
