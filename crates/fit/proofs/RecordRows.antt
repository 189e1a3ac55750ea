-- The rows of tables that fit, and the nodes, properties, values and raw values of the record that they denote over any text. Assumes nothing.
use Rattle.lists.proofs.Prelude.{ℕ, zero, suc, ◌+◌, ◌-◌, ◌≤◌, ◌<◌, true, List, [], ◌∷◌, ◌++◌, map, append-nil, ◌≡◌, refl, sym, ap, ap₂, ◌∙◌, arith, length, take, drop, length-map, take-append-drop, slice, drop-drop}
use Rattle.lexer.specs.Token.{Val, Prop}
use Rattle.tables.specs.Numbers.{none}
use Rattle.tables.specs.Record.{Node, all_nodes, all_props, all_vals}
use Rattle.tables.specs.declared.Counts.{Counts}
use Rattle.tables.specs.Columns.{root_at, parent_at, first_prop_at, prop_count_at, first_val_at, val_count_at, val_from_at, val_to_at}
use Rattle.tables.specs.Each.{sum, tabulate}
use Rattle.fit_nodes.specs.Locals.{Ruled}
use Rattle.fit_spans.specs.Ranges.{gapless}
use Rattle.fit.specs.Record.{tree_row, node_row, prop_row, val_row, val_of, raw_of, prop_of, node_of, trees_of, rows_of, record_of}
use Rattle.tables.proofs.Cases.{below_or}
use Rattle.lists.proofs.Tests.{same_or}
use Rattle.fit.proofs.Clauses.{Clauses}
use Rattle.fit_spans.proofs.Lists.{part_slice}
use Rattle.fit.proofs.Parts.{tabulate-length, map-tabulate, tabulate-part, joined, joined-part, joined-all}
use Rattle.fit.proofs.RootRows.{root_in, root-rises, orphan-root, root-zero}
use Rattle.fit_nodes.proofs.Rule.{rule-at}

-- the values of a text by their rows
abbrev pub vals_in : (t vl : List ℕ) → (nv : ℕ) → List Val
vals_in t vl nv = map (val_of t) (tabulate (val_row vl) 0 nv)

-- its properties
abbrev pub props_in : (t pr vl : List ℕ) → (np nv : ℕ) → List Prop
props_in t pr vl np nv = map (prop_of t (vals_in t vl nv)) (tabulate (prop_row pr) 0 np)

-- its nodes
abbrev pub nodes_in : (t nd pr vl : List ℕ) → (nn np nv : ℕ) → List Node
nodes_in t nd pr vl nn np nv = map (node_of (props_in t pr vl np nv)) (tabulate (node_row nd) 0 nn)

-- ---- properties of a run of nodes, values of a run of properties

props-joined : (nd : List ℕ) (ps : List Prop) (a m : ℕ) → all_props (map (node_of ps) (tabulate (node_row nd) a m)) ≡ joined ps (first_prop_at nd) (prop_count_at nd) a m
unfolding tabulate
props-joined nd ps a zero = refl
props-joined nd ps a (suc m) = ap (λ (z : List Prop). take (prop_count_at nd a) (drop (first_prop_at nd a) ps) ++ z) (props-joined nd ps (suc a) m)

vals-joined : (t pr : List ℕ) (vs : List Val) (a m : ℕ) → all_vals (map (prop_of t vs) (tabulate (prop_row pr) a m)) ≡ joined vs (first_val_at pr) (val_count_at pr) a m
unfolding tabulate
vals-joined t pr vs a zero = refl
vals-joined t pr vs a (suc m) = ap (λ (z : List Val). take (val_count_at pr a) (drop (first_val_at pr a) vs) ++ z) (vals-joined t pr vs (suc a) m)

-- the properties of the m nodes from a on are those from the first of a's up to the first behind them
pub props-part : (nd : List ℕ) (n : ℕ) → ((k : ℕ) → k < n → first_prop_at nd k ≡ sum (prop_count_at nd) k) → (ps : List Prop) (a m : ℕ) → a + m ≤ n
    → all_props (tabulate (λ k. node_of ps (node_row nd k)) a m) ≡ take (sum (prop_count_at nd) (a + m) - sum (prop_count_at nd) a) (drop (sum (prop_count_at nd) a) ps)
props-part nd n first ps a m h =
    ap all_props (sym (map-tabulate (node_row nd) (node_of ps) a m)) ∙ props-joined nd ps a m ∙ joined-part ps (first_prop_at nd) (prop_count_at nd) n first a m h

-- ---- raw values by their rows, whatever lists them one by one

module _ (t vl : List ℕ) (nv : ℕ) (at : (a m : ℕ) → List (List ℕ)) (none : (a : ℕ) → [] ≡ at a 0)
    (more : (a m : ℕ) → a < nv → take (val_to_at vl a - val_from_at vl a) (drop (val_from_at vl a) t) ∷ at (suc a) m ≡ at a (suc m)) where
  raws-from : (a m : ℕ) → a + m ≤ nv → tabulate (λ v. slice (val_from_at vl v) (val_to_at vl v) t) a m ≡ at a m
  unfolding tabulate
  raws-from a zero h = none a
  raws-from a (suc m) h =
      ap₂ (λ (x : List ℕ) (z : List (List ℕ)). x ∷ z) (sym (part_slice (val_from_at vl a) (val_to_at vl a) t)) (raws-from (suc a) m (omega arith)) ∙ more a m (omega arith)

  pub raws-at : (a m : ℕ) → a + m ≤ nv → map raw_of (take m (drop a (vals_in t vl nv))) ≡ at a m
  raws-at a m h =
      ap (λ (z : List Val). map raw_of (take m (drop a z))) (map-tabulate (val_row vl) (val_of t) 0 nv)
      ∙ ap (map raw_of) (tabulate-part (λ v. val_of t (val_row vl v)) a m nv h)
      ∙ map-tabulate (λ v. val_of t (val_row vl v)) raw_of a m
      ∙ raws-from a m h

-- ---- tables that fit

module _ {t : List ℕ} {c : Counts} {tr nd pr vl : List ℕ} (fit : Clauses t c tr nd pr vl) where
  abbrev m : ℕ
  m = c.trees

  abbrev n : ℕ
  n = c.nodes

  pub ruled : Ruled nd n
  ruled = record { most = fit.held.below_none; rule = fit.parents }

  -- node 0 has no parent and is the first root
  pub first-none : 0 < n → parent_at nd 0 ≡ none
  first-none l = same_or (parent_at nd 0) none (λ e. e) (λ e. absurd (omega (arith, (rule-at ruled 0 l e).0)))

  pub first-root : 0 < m → root_at tr 0 ≡ 0
  first-root l = root-zero tr nd m n fit.roots l (first-none (omega (arith, (root_in tr nd m n fit.roots 0 l).0)))

  pub no-trees : m ≡ 0 → n ≡ 0
  no-trees e = below_or 0 n (λ l. absurd (omega (arith, (orphan-root tr nd m n fit.roots 0 l (first-none l)).1))) (λ l. omega arith)

  -- every node is in a tree
  nodes-from : (ns : List Node) (j i : ℕ) → i + suc j ≡ m → all_nodes (trees_of ns (tabulate (tree_row tr) i (suc j))) ≡ drop (root_at tr i) ns
  unfolding tabulate
  nodes-from ns zero i e = append-nil (drop (root_at tr i) ns)
  nodes-from ns (suc j) i e =
      let a : ℕ = root_at tr i in
      let b : ℕ = root_at tr (suc i) in
      let l = root-rises tr nd m n fit.roots i (omega arith) in
      let q : a + (b - a) ≡ b = omega arith in
      ap (λ (z : List Node). take (b - a) (drop a ns) ++ z) (nodes-from ns j (suc i) (omega arith) ∙ ap (λ (z : ℕ). drop z ns) (sym q) ∙ sym (drop-drop (b - a) a ns))
      ∙ take-append-drop (b - a) (drop a ns)

  nodes-all : (j : ℕ) (ns : List Node) → j ≡ m → length ns ≡ n → all_nodes (trees_of ns (tabulate (tree_row tr) 0 j)) ≡ ns
  unfolding tabulate
  nodes-all zero [] e l = refl
  nodes-all zero (x ∷ xs) e l = absurd (omega (arith, no-trees (sym e)))
  nodes-all (suc j) ns e l = nodes-from ns j 0 (omega arith) ∙ ap (λ (z : ℕ). drop z ns) (first-root (omega arith))

  -- ---- the record over the text u

  module _ (u : List ℕ) where
    abbrev vs : List Val
    vs = vals_in u vl c.values

    abbrev ps : List Prop
    ps = props_in u pr vl c.properties c.values

    abbrev ns : List Node
    ns = nodes_in u nd pr vl c.nodes c.properties c.values

    -- the ranges, said of these lists
    pub props-gapless : gapless (first_prop_at nd) (prop_count_at nd) c.nodes (length ps) ≡ true
    props-gapless = rw (length-map (tabulate (prop_row pr) 0 c.properties) (prop_of u vs), tabulate-length (prop_row pr) 0 c.properties) fit.node-ranges

    pub vals-gapless : gapless (first_val_at pr) (val_count_at pr) c.properties (length vs) ≡ true
    vals-gapless = rw (length-map (tabulate (val_row vl) 0 c.values) (val_of u), tabulate-length (val_row vl) 0 c.values) fit.prop-ranges

    pub record-nodes : all_nodes (record_of u (rows_of c tr nd pr vl)) ≡ ns
    record-nodes = nodes-all m ns refl (length-map (tabulate (node_row nd) 0 n) (node_of ps) ∙ tabulate-length (node_row nd) 0 n)

    pub record-props : all_props (all_nodes (record_of u (rows_of c tr nd pr vl))) ≡ ps
    record-props = ap all_props record-nodes ∙ props-joined nd ps 0 n ∙ joined-all ps (first_prop_at nd) (prop_count_at nd) n props-gapless

    pub record-vals : all_vals (all_props (all_nodes (record_of u (rows_of c tr nd pr vl)))) ≡ vs
    record-vals = ap all_vals record-props ∙ vals-joined u pr vs 0 c.properties ∙ joined-all vs (first_val_at pr) (val_count_at pr) c.properties vals-gapless
