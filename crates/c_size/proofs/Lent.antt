-- Where the used bytes of a buffer are a part of it, what is asked by rows over the whole buffer is what is asked over the used bytes. Assumes nothing.
use Rattle.lists.proofs.Prelude.{ℕ, zero, suc, ◌+◌, ◌/◌, ◌≤◌, ◌<◌, true, List, [], ◌∷◌, ◌≡◌, refl, sym, ap, ap₂, ◌∙◌, arith, ltb, length, take, drop, take-take, lt-ltb, pick}
use Rattle.values.specs.Read.{read_identifier}
use Rattle.parts.specs.Rows.{cut, value_at, values_at}
use Rattle.parts_props.specs.Props.{Property, rows_from, identifier_at, property_at, properties_at}
use Rattle.go_size.specs.Root.{size_in}
use Rattle.tables.specs.Columns.{root_at, game_at, first_prop_at, prop_count_at, name_from_at, name_to_at, first_val_at, val_count_at, val_from_at, val_to_at}
use Rattle.tables.specs.Each.{tabulate}
use Rattle.tables.specs.Memory.{Memory}
use Rattle.fit_spans.proofs.Lists.{part_slice}
use Rattle.fit_spans.proofs.Ranges.{gapless-in}
use Rattle.fit.specs.Fit.{Fit}
use Rattle.fit.specs.Record.{text_in}
use Rattle.fit.proofs.Clauses.{Clauses, fit-clauses, fit-names, fit-vals}
use Rattle.fit.proofs.RootRows.{root_in}
use Rattle.fit_rule.specs.Rule.{rule_by, root_properties_at, size_at, rule_at}
use Rattle.c_size.specs.SizeInC.{size_in_c, tree_size_in_c}
use Rattle.c_size.proofs.Trees.{size-yes}

-- a part of the first n bytes is a part of all
cut-used : (t : List ℕ) (n a e : ℕ) → e ≤ n → cut t a e ≡ cut (take n t) a e
cut-used t n a e h = part_slice a e t ∙ ap (drop a) (sym (take-take e n t h)) ∙ sym (part_slice a e (take n t))

rows_alike : (f g : ℕ → Property) (a m : ℕ) → ((i : ℕ) → a ≤ i → i < a + m → f i ≡ g i) → tabulate f a m ≡ tabulate g a m
unfolding tabulate
rows_alike f g a zero h = refl
rows_alike f g a (suc m) h = ap₂ (λ (x : Property) (l : List Property). x ∷ l) (h a (omega arith) (omega arith)) (rows_alike f g (suc a) m (λ i b c. h i (omega arith) (omega arith)))

module _ (m : Memory) (fit : Fit m ≡ true) where
  f : Clauses (text_in m) m.counts m.trees m.nodes m.properties m.values
  f = fit-clauses m fit

  value_lent : (v : ℕ) → v < m.counts.values → value_at m.text m.values v ≡ value_at (text_in m) m.values v
  unfolding value_at
  value_lent v l = ap (λ (w : List ℕ). pick (ltb v (length m.values / 2)) w []) (cut-used m.text m.used (val_from_at m.values v) (val_to_at m.values v) (fit-vals m fit v l).1)

  -- sgf_go_by_rule and sgf_simple_property: the values of a property are the same over the whole buffer
  pub values-lent : (first count : ℕ) → first + count ≤ m.counts.values → values_at m.text m.values first count ≡ values_at (text_in m) m.values first count
  unfolding values_at
  values-lent first zero h = refl
  values-lent first (suc n) h = ap₂ (λ (v : List ℕ) (vs : List (List ℕ)). v ∷ vs) (value_lent first (omega arith)) (values-lent (suc first) n (omega arith))

  name-lent : (p : ℕ) → p < m.counts.properties → identifier_at m.text m.properties p ≡ identifier_at (text_in m) m.properties p
  unfolding identifier_at
  name-lent p l = ap (λ (w : List ℕ). pick (ltb p (length m.properties / 4)) w []) (cut-used m.text m.used (name_from_at m.properties p) (name_to_at m.properties p) (fit-names m fit p l).1)

  property-lent : (p : ℕ) → p < m.counts.properties → property_at m.text m.properties m.values p ≡ property_at (text_in m) m.properties m.values p
  property-lent p l =
      ap₂ (λ (w : List ℕ) (vs : List (List ℕ)). record { name = read_identifier w; raws = vs }) (name-lent p l)
      (values-lent (first_val_at m.properties p) (val_count_at m.properties p)
      (gapless-in (first_val_at m.properties) (val_count_at m.properties) m.counts.properties m.counts.values f.prop-ranges p l))

  module _ (r : ℕ) (l : r < m.counts.trees) where
    root-lent : root_properties_at m.text m.trees m.nodes m.properties m.values r ≡ root_properties_at (text_in m) m.trees m.nodes m.properties m.values r
    unfolding root_properties_at properties_at
    root-lent =
        let k : ℕ = root_at m.trees r in
        let b : k < m.counts.nodes = (root_in m.trees m.nodes m.counts.trees m.counts.nodes f.roots r l).0 in
        let g = gapless-in (first_prop_at m.nodes) (prop_count_at m.nodes) m.counts.nodes m.counts.properties f.node-ranges k b in
        rw (lt-ltb r (length m.trees / 2) (omega (arith, f.held.trees)), lt-ltb k (length m.nodes / 6) (omega (arith, f.held.nodes)))
        (rows_alike (property_at m.text m.properties m.values) (property_at (text_in m) m.properties m.values) (first_prop_at m.nodes k)
        (rows_from m.properties (first_prop_at m.nodes k) (prop_count_at m.nodes k)) (λ i u v. property-lent i (omega arith)))

    pub size-lent : size_at m.text m.trees m.nodes m.properties m.values r ≡ size_at (text_in m) m.trees m.nodes m.properties m.values r
    size-lent = ap size_in root-lent

    pub rule-lent : rule_at m.text m.trees m.nodes m.properties m.values r ≡ rule_at (text_in m) m.trees m.nodes m.properties m.values r
    unfolding rule_at
    rule-lent = ap (rule_by (game_at m.trees r)) size-lent

    -- sgf_tree_size over the whole buffer answers as sgf_size
    pub tree-size-lent : size_in_c (size_at m.text m.trees m.nodes m.properties m.values r) (rule_at m.text m.trees m.nodes m.properties m.values r) ≡ tree_size_in_c m r
    tree-size-lent = size-yes m r fit l (ap₂ size_in_c size-lent rule-lent)
