-- Tables that fit: the rule of a tree by its rows is the rule of the tree that they denote. Assumes nothing.
use Rattle.lists.proofs.Prelude.{ℕ, zero, suc, ◌+◌, ◌-◌, ◌/◌, ◌≤◌, ◌<◌, List, ◌∷◌, map, ◌≡◌, refl, sym, ap, ap₂, ◌∙◌, arith, length, take, drop, slice, lt-ltb}
use Rattle.lexer.specs.Token.{Val, Prop}
use Rattle.values.specs.Read.{read_identifier}
use Rattle.parts.specs.Rows.{values_at}
use Rattle.parts.proofs.Valued.{values-none, values-more}
use Rattle.parts_props.specs.Props.{rows_from, identifier_at, property_at, properties_at}
use Rattle.go_size.specs.Root.{size_in}
use Rattle.tables.specs.declared.Counts.{Counts}
use Rattle.tables.specs.Record.{Node, Tree}
use Rattle.tables.specs.Columns.{root_at, game_at, first_prop_at, prop_count_at, name_from_at, name_to_at, first_val_at, val_count_at}
use Rattle.tables.specs.Each.{tabulate}
use Rattle.fit_spans.proofs.Lists.{part_slice}
use Rattle.fit_spans.proofs.Ranges.{gapless-in}
use Rattle.fit.specs.Record.{raw_of, node_row, prop_row, prop_of, node_of}
use Rattle.fit.proofs.Clauses.{Clauses}
use Rattle.fit.proofs.Parts.{map-tabulate, tabulate-part}
use Rattle.fit.proofs.RecordRows.{vals_in, props_in, raws-at}
use Rattle.fit.proofs.RootRows.{root_in}
use Rattle.fit_rule.specs.Rule.{rule_by, property_of, first_props, size_of_tree, rule_of, root_properties_at, rule_at}

pub tabulate-alike : {A : Type 0} (f g : ℕ → A) (a m : ℕ) → ((i : ℕ) → a ≤ i → i < a + m → f i ≡ g i) → tabulate f a m ≡ tabulate g a m
unfolding tabulate
tabulate-alike f g a zero h = refl
tabulate-alike {A} f g a (suc m) h = ap₂ (λ (x : A) (l : List A). x ∷ l) (h a (omega arith) (omega arith)) (tabulate-alike f g (suc a) m (λ i b c. h i (omega arith) (omega arith)))

module _ {t : List ℕ} {c : Counts} {tr nd pr vl : List ℕ} (f : Clauses t c tr nd pr vl) where
  abbrev vals : List Val
  vals = vals_in t vl c.values

  abbrev props : List Prop
  props = props_in t pr vl c.properties c.values

  -- node k of the record
  abbrev pub node_for : ℕ → Node
  node_for k = node_of props (node_row nd k)

  -- the values of property p are the raw values by their rows
  pub values-raw : (p : ℕ) → p < c.properties
      → map raw_of (take (val_count_at pr p) (drop (first_val_at pr p) vals)) ≡ values_at t vl (first_val_at pr p) (val_count_at pr p)
  values-raw p h =
      raws-at t vl c.values (values_at t vl) (values-none t vl) (λ a m l. values-more t vl a m (omega (arith, f.held.values))) (first_val_at pr p) (val_count_at pr p)
      (gapless-in (first_val_at pr) (val_count_at pr) c.properties c.values f.prop-ranges p h)

  -- so is its identifier
  name-raw : (p : ℕ) → p < c.properties → slice (name_from_at pr p) (name_to_at pr p) t ≡ identifier_at t pr p
  unfolding identifier_at
  name-raw p h = rw (lt-ltb p (length pr / 4) (omega (arith, f.held.properties))) (sym (part_slice (name_from_at pr p) (name_to_at pr p) t))

  property-at : (p : ℕ) → p < c.properties → property_of (prop_of t vals (prop_row pr p)) ≡ property_at t pr vl p
  property-at p h =
      ap₂ (λ (w : List ℕ) (vs : List (List ℕ)). record { name = read_identifier w; raws = vs }) (name-raw p h) (values-raw p h)

  -- the properties of node k
  pub properties-at : (k : ℕ) → k < c.nodes → map property_of (node_for k).props ≡ properties_at t pr vl (first_prop_at nd k) (prop_count_at nd k)
  unfolding properties_at
  properties-at k h =
      let a : ℕ = first_prop_at nd k in
      let n : ℕ = prop_count_at nd k in
      let in-range : a + n ≤ c.properties = gapless-in (first_prop_at nd) (prop_count_at nd) c.nodes c.properties f.node-ranges k h in
      let whole : n ≡ rows_from pr a n = omega (arith, f.held.properties) in
      ap (λ (z : List Prop). map property_of (take n (drop a z))) (map-tabulate (prop_row pr) (prop_of t vals) 0 c.properties)
      ∙ ap (map property_of) (tabulate-part (λ p. prop_of t vals (prop_row pr p)) a n c.properties in-range)
      ∙ map-tabulate (λ p. prop_of t vals (prop_row pr p)) property_of a n
      ∙ tabulate-alike (λ p. property_of (prop_of t vals (prop_row pr p))) (property_at t pr vl) a n (λ p b d. property-at p (omega arith))
      ∙ ap (tabulate (property_at t pr vl) a) whole

  -- the properties of tree i's root
  pub root-properties : (i : ℕ) → i < c.trees → map property_of (node_for (root_at tr i)).props ≡ root_properties_at t tr nd pr vl i
  unfolding root_properties_at
  root-properties i h =
      let l = (root_in tr nd c.trees c.nodes f.roots i h).0 in
      rw (lt-ltb i (length tr / 2) (omega (arith, f.held.trees)), lt-ltb (root_at tr i) (length nd / 6) (omega (arith, f.held.nodes)))
      (properties-at (root_at tr i) l)

  -- tree i, its nodes up to b
  abbrev pub tree_to : (i b : ℕ) → Tree
  tree_to i b = record { root = root_at tr i; game = game_at tr i; nodes = tabulate node_for (root_at tr i) (b - root_at tr i) }

  first-at : (k m : ℕ) → 0 < m → first_props (tabulate node_for k m) ≡ (node_for k).props
  unfolding tabulate
  first-at k zero h = absurd (omega arith)
  first-at k (suc m) h = refl

  pub size-tree : (i b : ℕ) → i < c.trees → root_at tr i < b → size_of_tree (tree_to i b) ≡ size_in (root_properties_at t tr nd pr vl i)
  unfolding size_of_tree
  size-tree i b h l = ap (λ (z : List Prop). size_in (map property_of z)) (first-at (root_at tr i) (b - root_at tr i) (omega arith)) ∙ ap size_in (root-properties i h)

  pub rule-tree : (i b : ℕ) → i < c.trees → root_at tr i < b → rule_of (tree_to i b) ≡ rule_at t tr nd pr vl i
  unfolding rule_of rule_at
  rule-tree i b h l = ap (rule_by (game_at tr i)) (size-tree i b h l)
