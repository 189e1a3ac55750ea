-- Lent tables that have a record's rows: what of fitting follows for any record. Assumes nothing.
use Rattle.lists.proofs.Prelude.{ℕ, ◌≤◌, true, List, ◌≡◌, sym, ap, ◌∙◌, subst, length}
use Rattle.lexer.specs.Token.{Prop}
use Rattle.tables.specs.Numbers.{none}
use Rattle.tables.specs.Record.{Node, Tree, all_nodes, all_props, all_vals}
use Rattle.tables.specs.Rows.{Tables, tables, parents, node_rows, prop_rows, counts_of}
use Rattle.tables.specs.declared.Counts.{Counts}
use Rattle.tables.proofs.Lengths.{prop-rows-length, val-rows-length, node-rows-length}
use Rattle.tables.specs.Columns.{first_prop_at, prop_count_at, first_val_at, val_count_at}
use Rattle.tables.specs.Each.{each, tabulate}
use Rattle.fit_nodes.specs.Nodes.{parent_right, child_right, sibling_right, depth_right}
use Rattle.fit_spans.specs.Ranges.{gapless}
use Rattle.fit.specs.Record.{node_row, prop_row, rows_of}
use Rattle.fit.proofs.Parts.{tabulate-length}
use Rattle.fit.proofs.RecordLinks.{children-fit, siblings-fit, depths-fit}
use Rattle.fit.proofs.RecordRanges.{node-ranges-fit, prop-ranges-fit}

-- ---- counts

pub counts-of-rows : (c : Counts) (tr nd pr vl : List ℕ) → counts_of (rows_of c tr nd pr vl) ≡ c
counts-of-rows c tr nd pr vl = simp tabulate-length

module _ (c : Counts) (tr nd pr vl : List ℕ) (ts : List Tree) (h : rows_of c tr nd pr vl ≡ tables ts) where
  abbrev ns : List Node
  ns = all_nodes ts

  abbrev ps : List Prop
  ps = all_props (all_nodes ts)

  counted : c ≡ counts_of (tables ts)
  counted = sym (counts-of-rows c tr nd pr vl) ∙ ap counts_of h

  pub nodes-counted : c.nodes ≡ length ns
  nodes-counted = ap (λ (z : Counts). z.nodes) counted ∙ node-rows-length (parents ns) 0 0 ns

  pub properties-counted : c.properties ≡ length ps
  properties-counted = ap (λ (z : Counts). z.properties) counted ∙ prop-rows-length 0 ps

  pub values-counted : c.values ≡ length (all_vals ps)
  values-counted = ap (λ (z : Counts). z.values) counted ∙ val-rows-length (all_vals ps)

  node-rows : tabulate (node_row nd) 0 (length ns) ≡ node_rows (parents ns) 0 0 ns
  node-rows = rw (← nodes-counted) (ap (λ (z : Tables). z.nodes) h)

  prop-rows : tabulate (prop_row pr) 0 (length ps) ≡ prop_rows 0 ps
  prop-rows = rw (← properties-counted) (ap (λ (z : Tables). z.props) h)

  pub record-children : each c.nodes (child_right nd c.nodes) ≡ true
  record-children = rw nodes-counted (children-fit nd ns node-rows)

  pub record-siblings : each c.nodes (sibling_right nd c.nodes) ≡ true
  record-siblings = rw nodes-counted (siblings-fit nd ns node-rows)

  pub record-depths : each c.nodes (parent_right nd) ≡ true → c.nodes ≤ none → each c.nodes (depth_right nd) ≡ true
  record-depths rule few =
      rw nodes-counted (depths-fit nd ns node-rows (subst (λ (z : ℕ). each z (parent_right nd) ≡ true) nodes-counted rule) (subst (λ (z : ℕ). z ≤ none) nodes-counted few))

  pub record-properties : gapless (first_prop_at nd) (prop_count_at nd) c.nodes c.properties ≡ true
  record-properties = rw (nodes-counted, properties-counted) (node-ranges-fit nd (parents ns) ns node-rows)

  pub record-values : gapless (first_val_at pr) (val_count_at pr) c.properties c.values ≡ true
  record-values = rw (properties-counted, values-counted) (prop-ranges-fit pr ps prop-rows)
