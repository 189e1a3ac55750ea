-- Fitting tables are the tables of the record that they denote: parents determine links and depths, counts the ranges. So two that fit and denote one record are equal. Assumes nothing.
use Rattle.lists.proofs.Prelude.{◌≡◌, refl, sym, ap, ◌∙◌, ℕ, zero, suc, ◌+◌, ◌-◌, ◌<◌, arith, true, List, eqb, length, take, eqb-true, pick}
use Rattle.lexer.specs.Token.{Val, Prop}
use Rattle.tables.specs.Numbers.{none}
use Rattle.tables.specs.Record.{Node, Tree, all_nodes, all_props, all_vals}
use Rattle.tables.specs.Rows.{tables, parents, node_rows, prop_rows, val_rows, counts_of}
use Rattle.tables.specs.declared.Counts.{Counts}
use Rattle.tables.specs.Columns.{parent_at, child_at, sibling_at}
use Rattle.tables.specs.Each.{tabulate}
use Rattle.tables.specs.Memory.{Memory, memory}
use Rattle.fit.specs.Fit.{Fit}
use Rattle.fit_nodes.specs.Nodes.{first_under, next_sibling, child_right, sibling_right}
use Rattle.fit.specs.Record.{tree_row, node_row, prop_row, val_row, rows_of, trees_of, record_of, rows_in}
use Rattle.tables.proofs.Each.{each_at}
use Rattle.fit.proofs.Clauses.{Clauses, fit-clauses}
use Rattle.fit.proofs.Parts.{tabulate-length, tabulate-at}
use Rattle.fit.proofs.RecordDepths.{depths-are}
use Rattle.fit.proofs.RecordFits.{counts-of-rows}
use Rattle.fit.proofs.RecordLinks.{Tells, Linked, next-at, next-from}
use Rattle.fit.proofs.RecordRows.{vals_in, props_in, nodes_in, props-gapless, vals-gapless, record-nodes, record-props, record-vals}
use Rattle.reader_laws.proofs.Parts.{tree-rows-back, parents-are, node-rows-back, prop-rows-back, val-rows-back}

-- ---- links

tells : (nd : List ℕ) (b m : ℕ) → Tells nd b (tabulate (parent_at nd) b m)
unfolding tabulate
tells nd b zero = tt
tells nd b (suc m) = (refl, tells nd (suc b) m)

module _ {s : List ℕ} {c : Counts} {tr nd pr vl : List ℕ} (k : Clauses s c tr nd pr vl) where
  abbrev qs : List ℕ
  qs = tabulate (parent_at nd) 0 c.nodes

  links : (i : ℕ) → i < c.nodes → Linked nd qs i
  links i l =
      let len : length qs ≡ c.nodes = tabulate-length (parent_at nd) 0 c.nodes in
      let e : 0 + length qs - suc i ≡ c.nodes - suc i = omega arith in
      let a = eqb-true (child_at nd i) (first_under nd i 0 c.nodes) (each_at (child_right nd c.nodes) c.nodes i k.children l) in
      let b = eqb-true (sibling_at nd i) (next_sibling nd c.nodes i) (each_at (sibling_right nd c.nodes) c.nodes i k.siblings l) in (
        a ∙ ap (first_under nd i 0) (sym len) ∙ sym (next-at nd i 0 0 qs (omega arith) (tells nd 0 c.nodes)),
        b ∙ ap (λ (z : ℕ). pick (eqb (parent_at nd i) none) none z)
            (ap (first_under nd (parent_at nd i) (suc i)) (sym e) ∙ sym (next-from nd (parent_at nd i) (suc i) 0 qs (omega arith) (omega arith) (tells nd 0 c.nodes))),
        depths-are {nd = nd} (record { most = k.held.below_none; rule = k.parents }) qs len
            (λ j h. let z : 0 + j ≡ j = omega arith in sym (tabulate-at (parent_at nd) 0 c.nodes j 0 h ∙ ap (parent_at nd) z)) k.depths i l,
      )

  -- ---- the rows of what the tables denote over the text t

  module _ (t : List ℕ) where
    abbrev vs : List Val
    vs = vals_in t vl c.values

    abbrev ps : List Prop
    ps = props_in t pr vl c.properties c.values

    abbrev ns : List Node
    ns = nodes_in t nd pr vl c.nodes c.properties c.values

    abbrev ts : List Tree
    ts = trees_of ns (tabulate (tree_row tr) 0 c.trees)

    tables-back : tables (record_of t (rows_of c tr nd pr vl)) ≡ rows_of c tr nd pr vl
    tables-back =
        let a = tree-rows-back ns (tabulate (tree_row tr) 0 c.trees) in
        let b : node_rows (parents (all_nodes ts)) 0 0 (all_nodes ts) ≡ tabulate (node_row nd) 0 c.nodes =
        ap (λ (z : List Node). node_rows (parents z) 0 0 z) (record-nodes k t)
        ∙ ap (λ (z : List ℕ). node_rows z 0 0 ns) (parents-are nd ps c.nodes (props-gapless k t) 0 c.nodes)
        ∙ node-rows-back nd ps c.nodes (props-gapless k t) qs links in
        let d : prop_rows 0 (all_props (all_nodes ts)) ≡ tabulate (prop_row pr) 0 c.properties = ap (prop_rows 0) (record-props k t) ∙ prop-rows-back t pr vs c.properties (vals-gapless k t) in
        let e : val_rows (all_vals (all_props (all_nodes ts))) ≡ tabulate (val_row vl) 0 c.values = ap val_rows (record-vals k t) ∙ val-rows-back t (tabulate (val_row vl) 0 c.values) in
        rw (a, b, d, e)

-- tables that fit are the tables of what they denote
pub fit-tables : (m : Memory) → Fit m ≡ true → (u : List ℕ) → tables (record_of u (rows_in m)) ≡ rows_in m
fit-tables m h u = tables-back (fit-clauses m h) u

-- two that fit one text and denote the same record, places included, are the same rows
pub fit-once : (t : List ℕ) (used : ℕ) (c c' : Counts) (tr nd pr vl tr' nd' pr' vl' : List ℕ) → Fit (memory t used c tr nd pr vl) ≡ true → Fit (memory t used c' tr' nd' pr' vl') ≡ true
    → record_of (take used t) (rows_of c tr nd pr vl) ≡ record_of (take used t) (rows_of c' tr' nd' pr' vl')
    → (c ≡ c') × (rows_of c tr nd pr vl ≡ rows_of c' tr' nd' pr' vl')
fit-once t used c c' tr nd pr vl tr' nd' pr' vl' h h' e =
    let r : rows_of c tr nd pr vl ≡ rows_of c' tr' nd' pr' vl' =
    sym (fit-tables (memory t used c tr nd pr vl) h (take used t)) ∙ ap tables e ∙ fit-tables (memory t used c' tr' nd' pr' vl') h' (take used t) in
    (sym (counts-of-rows c tr nd pr vl) ∙ ap counts_of r ∙ counts-of-rows c' tr' nd' pr' vl', r)
