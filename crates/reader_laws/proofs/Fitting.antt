-- The tables of an accepted reading fit its text, strict or lenient. Assumes nothing.
use Rattle.lists.proofs.Prelude.{◌≡◌, sym, ap, ◌∙◌, ℕ, ◌≤◌, arith, true, List, ◌++◌, length, take, length-append, take-length, Bool}
use Rattle.text_utf8.specs.Text.{Utf}
use Rattle.text_utf8.specs.Trim.{trimmed, trim_of}
use Rattle.lexer.specs.Token.{Prop}
use Rattle.tables.specs.Flat.{flat_trees, flat_nodes, flat_props, flat_vals}
use Rattle.tables.specs.Record.{Node, Tree, all_nodes, all_props, all_vals}
use Rattle.tables.specs.Rows.{Tables, tables, parents, tree_rows, node_rows, prop_rows, val_rows, counts_of}
use Rattle.tables.specs.declared.Counts.{Counts}
use Rattle.tables.specs.Each.{tabulate}
use Rattle.tables.specs.Memory.{memory}
use Rattle.fit.specs.Fit.{sound, valid_utf8, Fit}
use Rattle.fit.specs.Record.{tree_row, node_row, prop_row, val_row, rows_of}
use Rattle.fit.proofs.Clauses.{Clauses, clauses-fit}
use Rattle.fit.proofs.RecordFits.{counts-of-rows, nodes-counted, properties-counted, values-counted, record-children, record-siblings, record-depths, record-properties, record-values}
use Rattle.fit.proofs.Rows.{rows-of-flat}
use Rattle.parser.specs.Read.{accepted, read}
use Rattle.reader.specs.Lent.{lent}
use Rattle.reader.proofs.Rooms.{tree-count, flat-nodes, Room}
use Rattle.tables.proofs.Lengths.{prop-rows-length, val-rows-length}
use Rattle.reader.proofs.Plants.{tree-length}
use Rattle.parser_tree.proofs.Flats.{prop-length, val-length}
use Rattle.reader_laws.proofs.Accepted.{Reading, reading-is}
use Rattle.reader_laws.proofs.Nodes.{roots-fit, parents-fit, games-fit}
use Rattle.reader_laws.proofs.Sizes.{nodes-most}
use Rattle.reader_laws.proofs.Spans.{names-fit, have-values, ascent-fits, values-fit}
use Rattle.fit.proofs.Whole.{whole-sound}

-- any tables that have the rows of the reading
module _ (len : Bool) (t : List ℕ) (ts : List Tree) (h : read len t ≡ accepted ts) (c : Counts) (tr nd pr vl : List ℕ) (rows : rows_of c tr nd pr vl ≡ tables ts) where
  abbrev ns : List Node
  ns = all_nodes ts

  abbrev ps : List Prop
  ps = all_props (all_nodes ts)

  abbrev r : Reading len t ts
  r = reading-is len t ts h

  trees-counted : c.trees ≡ length ts
  trees-counted = ap (λ (z : Counts). z.trees) (sym (counts-of-rows c tr nd pr vl) ∙ ap counts_of rows) ∙ tree-count ts

  nodes-are : c.nodes ≡ length ns
  nodes-are = nodes-counted c tr nd pr vl ts rows

  props-are : c.properties ≡ length ps
  props-are = properties-counted c tr nd pr vl ts rows

  vals_are : c.values ≡ length (all_vals ps)
  vals_are = values-counted c tr nd pr vl ts rows

  tree-rows : tabulate (tree_row tr) 0 (length ts) ≡ tree_rows ts
  tree-rows = rw (← trees-counted) (ap (λ (z : Tables). z.trees) rows)

  node-rows : tabulate (node_row nd) 0 (length ns) ≡ node_rows (parents ns) 0 0 ns
  node-rows = rw (← nodes-are) (ap (λ (z : Tables). z.nodes) rows)

  prop-rows : tabulate (prop_row pr) 0 (length ps) ≡ prop_rows 0 ps
  prop-rows = rw (← props-are) (ap (λ (z : Tables). z.props) rows)

  val-rows : tabulate (val_row vl) 0 (length (all_vals ps)) ≡ val_rows (all_vals ps)
  val-rows = rw (← vals_are) (ap (λ (z : Tables). z.vals) rows)

  valid : valid_utf8 t ≡ true
  unfolding trimmed
  valid = ap (λ (u : Utf). sound (trim_of u)) r.valid ∙ whole-sound r.ink

  clauses : Room c (lent tr nd pr vl) → Clauses t c tr nd pr vl
  clauses room =
      record {
        held = record { trees = room.trees; nodes = room.nodes; below_none = rw nodes-are (nodes-most r); properties = room.props; values = room.vals };
        short = r.short;
        utf8 = valid;
        roots = rw (trees-counted, nodes-are) (roots-fit r tr nd tree-rows node-rows);
        parents = rw nodes-are (parents-fit r tr nd tree-rows node-rows);
        children = record-children c tr nd pr vl ts rows;
        siblings = record-siblings c tr nd pr vl ts rows;
        games = rw trees-counted (games-fit r tr nd tree-rows node-rows);
        depths = record-depths c tr nd pr vl ts rows (rw nodes-are (parents-fit r tr nd tree-rows node-rows)) (rw nodes-are (nodes-most r));
        node-ranges = record-properties c tr nd pr vl ts rows;
        prop-ranges = record-values c tr nd pr vl ts rows;
        have-values = rw props-are (have-values len t ts h pr vl prop-rows);
        ascend = rw props-are (ascent-fits len t ts h pr vl prop-rows val-rows);
        names = rw props-are (names-fit len t ts h pr vl prop-rows);
        values = rw vals_are (values-fit len t ts h pr vl val-rows);
      }

-- of the first `used` bytes of a buffer, where enough is lent
pub rows_fit : (len : Bool) (buf : List ℕ) (used : ℕ) (ts : List Tree) → used ≤ length buf → read len (take used buf) ≡ accepted ts
    → (c : Counts) (tr nd pr vl : List ℕ) → Room c (lent tr nd pr vl) → rows_of c tr nd pr vl ≡ tables ts → Fit (memory buf used c tr nd pr vl) ≡ true
rows_fit len buf used ts b h c tr nd pr vl room rows = clauses-fit (memory buf used c tr nd pr vl) b (clauses len (take used buf) ts h c tr nd pr vl rows room)

-- ---- the flat tables of the reading, whatever stands behind them

flat-room : (ts : List Tree) (a b c d : List ℕ)
    → Room (counts_of (tables ts)) (lent (flat_trees (tables ts).trees ++ a) (flat_nodes (tables ts).nodes ++ b) (flat_props (tables ts).props ++ c) (flat_vals (tables ts).vals ++ d))
flat-room ts a b c d =
    let T : Tables = tables ts in
    record {
      trees = omega (arith, length-append (flat_trees T.trees) a, tree-length ts, tree-count ts);
      nodes = omega (arith, length-append (flat_nodes T.nodes) b, flat-nodes T.nodes);
      props = omega (arith, length-append (flat_props T.props) c, prop-length 0 (all_props (all_nodes ts)), prop-rows-length 0 (all_props (all_nodes ts)));
      vals = omega (arith, length-append (flat_vals T.vals) d, val-length (all_vals (all_props (all_nodes ts))), val-rows-length (all_vals (all_props (all_nodes ts))));
    }

-- over a buffer
pub buffer-fits : (len : Bool) (buf : List ℕ) (used : ℕ) (ts : List Tree) → used ≤ length buf → read len (take used buf) ≡ accepted ts → (a b c d : List ℕ)
    → Fit (memory buf used (counts_of (tables ts)) (flat_trees (tables ts).trees ++ a) (flat_nodes (tables ts).nodes ++ b) (flat_props (tables ts).props ++ c) (flat_vals (tables ts).vals ++ d)) ≡ true
buffer-fits len buf used ts l h a b c d =
    rows_fit len buf used ts l h (counts_of (tables ts)) (flat_trees (tables ts).trees ++ a) (flat_nodes (tables ts).nodes ++ b) (flat_props (tables ts).props ++ c) (flat_vals (tables ts).vals ++ d)
    (flat-room ts a b c d) (rows-of-flat (tables ts) a b c d)

-- over a text that is used whole
pub reading-fits : (len : Bool) (t : List ℕ) (ts : List Tree) → read len t ≡ accepted ts → (a b c d : List ℕ)
    → Fit (memory t (length t) (counts_of (tables ts)) (flat_trees (tables ts).trees ++ a) (flat_nodes (tables ts).nodes ++ b) (flat_props (tables ts).props ++ c) (flat_vals (tables ts).vals ++ d)) ≡ true
reading-fits len t ts h a b c d = buffer-fits len t (length t) ts (omega arith) (rw (take-length t) h) a b c d
