-- The writing as the code walks: node by node along the links, where a tree is a node in brackets without parent; of a record, or of the mended one.
use Rattle.std.specs.Prelude.{◌+◌, ◌-◌, ◌&&◌, ◌||◌, ◌∷◌, ◌++◌}
use Rattle.lists.specs.Prelude.{ℕ, zero, suc, Bool, not, List, [], leb, ltb, eqb, length, get_or, slice, pick}
use Rattle.lists.specs.Same.{same}
use Rattle.values.specs.Read.{read_identifier}
use Rattle.go.specs.Normal.{normal}
use Rattle.parts.specs.Rows.{values_at}
use Rattle.tables.specs.Numbers.{none}
use Rattle.tables.specs.Each.{each}
use Rattle.parser.specs.Game.{GM}
use Rattle.fit_rule.specs.Rule.{rule_by, size_at}
use Rattle.go_size.specs.declared.RootSize.TheVariants.{Absent}
use Rattle.salvage_rows.specs.LocalsGM.{bad_in, kept_at}
use Rattle.serialize_values.specs.LocalsForm.{raws_text}
use Rattle.tables.specs.Columns.{game_at, parent_at, child_at, sibling_at, first_prop_at, prop_count_at, name_from_at, name_to_at, first_val_at, val_count_at, val_from_at, val_to_at}

-- the texts of 0, 1, .. below m, one after another
unfoldable pub texts : (ℕ → List ℕ) → ℕ → List ℕ
texts f zero = []
texts f (suc m) = texts f m ++ f m

-- how many of the first k nodes have no parent
unfoldable pub roots_below : List ℕ → ℕ → ℕ
roots_below nd zero = 0
roots_below nd (suc k) = let r = roots_below nd k in pick (eqb (parent_at nd k) none) (suc r) r

-- value v is as short, and ends, as one that reads as `tt`: two letters, each perhaps behind a backslash, and perhaps one at the end
abbrev pub corner_end : (t vl : List ℕ) → ℕ → Bool
corner_end t vl v = let b = get_or t (val_to_at vl v - 1) 0 in leb (val_to_at vl v - val_from_at vl v) 5 && (eqb b 0x74 || eqb b 0x5c)

-- the game type of tree r: its own; where the record is mended, the one that its root is_kept
abbrev pub type_told : (mends : Bool) (t tr nd pr vl : List ℕ) → ℕ → ℕ
type_told mends t tr nd pr vl r = pick mends (kept_at t tr nd pr vl r) (game_at tr r)

-- its rule where one of the values may read as `tt`; else 0 stands for both rules of Go
unfoldable pub rule_told : (corners mends : Bool) (t tr nd pr vl : List ℕ) → ℕ → ℕ
rule_told corners mends t tr nd pr vl r = rule_by (type_told mends t tr nd pr vl r) (pick corners (size_at t tr nd pr vl r) Absent)

-- its rule
abbrev pub tree_rule : (mends : Bool) (t tr nd pr vl : List ℕ) → ℕ → ℕ
tree_rule mends t tr nd pr vl r = rule_by (type_told mends t tr nd pr vl r) (size_at t tr nd pr vl r)

-- the rule of node k's tree
abbrev pub node_rule : (mends : Bool) (t tr nd pr vl : List ℕ) → ℕ → ℕ
node_rule mends t tr nd pr vl k = tree_rule mends t tr nd pr vl (roots_below nd (suc k) - 1)

-- the read identifier of property p
abbrev pub read_name_at : (t pr : List ℕ) → ℕ → List ℕ
read_name_at t pr p = read_identifier (slice (name_from_at pr p) (name_to_at pr p) t)

-- its values, in their normal form
unfoldable pub values_text : (t pr vl : List ℕ) → (rule p : ℕ) → List ℕ
values_text t pr vl rule p = raws_text (normal rule (read_name_at t pr p) (values_at t vl (first_val_at pr p) (val_count_at pr p)))

-- property p
unfoldable pub prop_text : (t pr vl : List ℕ) → (rule p : ℕ) → List ℕ
prop_text t pr vl rule p = read_name_at t pr p ++ values_text t pr vl rule p

-- a property with this read identifier is written: any is; where the record is mended, one that stays (salvage_mend/specs/Mend.prop_stays)
abbrev pub is_kept : (mends bad : Bool) → List ℕ → Bool
is_kept mends bad w = not mends || (not (leb (length w) 0) && not (bad && same w GM))

-- property p, where it is written
unfoldable pub kept_text : (mends bad : Bool) (t pr vl : List ℕ) → (rule p : ℕ) → List ℕ
kept_text mends bad t pr vl rule p = pick (is_kept mends bad (read_name_at t pr p)) (prop_text t pr vl rule p) []

-- node k is a root of a record that is mended, and its GMs are removed
unfoldable pub bad_at : (mends : Bool) (t nd pr vl : List ℕ) → ℕ → Bool
bad_at mends t nd pr vl k = mends && (eqb (parent_at nd k) none && bad_in t pr vl (first_prop_at nd k) (prop_count_at nd k))

-- the properties of node k
unfoldable pub props_text : (mends : Bool) (t nd pr vl : List ℕ) → (rule k : ℕ) → List ℕ
props_text mends t nd pr vl rule k = texts (λ i. kept_text mends (bad_at mends t nd pr vl k) t pr vl rule (first_prop_at nd k + i)) (prop_count_at nd k)

-- a node stands in brackets where it is a root, is not the first child, or has a next sibling
abbrev pub in_brackets : List ℕ → ℕ → Bool
in_brackets nd k = eqb (parent_at nd k) none || (not (eqb (child_at nd (parent_at nd k)) k) || not (eqb (sibling_at nd k) none))

-- its end
abbrev pub end_text : List ℕ → ℕ → List ℕ
end_text nd k = pick (in_brackets nd k) (0x29 ∷ []) []

-- its start
abbrev pub start_text : List ℕ → ℕ → List ℕ
start_text nd k = pick (in_brackets nd k) (0x28 ∷ []) []

-- the ends of node j and of those above it that are below p, at most f of them
unfoldable pub climbs : List ℕ → (f j p : ℕ) → List ℕ
climbs nd zero j p = end_text nd j
climbs nd (suc f) j p = end_text nd j ++ pick (eqb (parent_at nd j) p) [] (climbs nd f (parent_at nd j) p)

-- the ends between node k - 1 and a node whose parent is p; none: all ends
unfoldable pub ends_before : List ℕ → (k p : ℕ) → List ℕ
ends_before nd zero p = []
ends_before nd (suc k) p = pick (eqb k p) [] (climbs nd k k p)

-- node k of a tree with this rule
unfoldable pub node_by : (mends : Bool) (t nd pr vl : List ℕ) → (rule k : ℕ) → List ℕ
node_by mends t nd pr vl rule k = ends_before nd k (parent_at nd k) ++ (start_text nd k ++ (0x3b ∷ props_text mends t nd pr vl rule k))

-- node k
abbrev pub node_text : (mends : Bool) (t tr nd pr vl : List ℕ) → ℕ → List ℕ
node_text mends t tr nd pr vl k = node_by mends t nd pr vl (node_rule mends t tr nd pr vl k) k

-- n nodes
unfoldable pub links_text : (mends : Bool) (t tr nd pr vl : List ℕ) → (n : ℕ) → List ℕ
links_text mends t tr nd pr vl n = texts (node_text mends t tr nd pr vl) n ++ ends_before nd n none

-- property p has a name
abbrev pub has_name : (t pr : List ℕ) → ℕ → Bool
has_name t pr p = ltb 0 (length (read_name_at t pr p))

-- so has each of m properties
unfoldable pub names_good : (t pr : List ℕ) → ℕ → Bool
names_good t pr m = each m (has_name t pr)
