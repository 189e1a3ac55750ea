-- The clauses of the fitting rule, each by its name: tables that fit have them, and tables that have them fit. Assumes nothing.
use Rattle.lists.proofs.Prelude.{ℕ, ◌/◌, ◌≤◌, ◌<◌, Bool, true, ◌&&◌, List, ◌≡◌, arith, leb, length, length-take-le, leb-true, le-leb}
use Rattle.tables.specs.Numbers.{none, text_limit}
use Rattle.tables.specs.declared.Counts.{Counts}
use Rattle.tables.specs.Columns.{node_stride, first_prop_at, prop_count_at, name_from_at, name_to_at, first_val_at, val_count_at, val_from_at, val_to_at}
use Rattle.tables.specs.Each.{each}
use Rattle.tables.specs.Memory.{Memory}
use Rattle.fit.specs.Fit.{lent_for, valid_utf8, fit_text, Fit}
use Rattle.fit.specs.Locals.{RowsLent}
use Rattle.fit_nodes.specs.Nodes.{roots_right, parent_right, child_right, sibling_right, game_right, depth_right, nodes_fit}
use Rattle.fit_spans.specs.Ranges.{gapless, has_value, ranges_fit}
use Rattle.fit_spans.specs.Spans.{spans, ascending, name_right, value_right, spans_fit}
use Rattle.tables.proofs.Cases.{and_left, and_right}
use Rattle.fit_spans.proofs.Lying.{names-lie, values-lie}
use Rattle.fit.proofs.Whole.{fit-lent}
use Rattle.fit.specs.Record.{text_in}

-- of the used text t
pub record Clauses (t : List ℕ) (c : Counts) (tr nd pr vl : List ℕ) : Type 0 where
  pub held : RowsLent c tr nd pr vl
  pub short : length t ≤ text_limit
  pub utf8 : valid_utf8 t ≡ true
  pub roots : roots_right c.trees c.nodes tr nd ≡ true
  pub parents : each c.nodes (parent_right nd) ≡ true
  pub children : each c.nodes (child_right nd c.nodes) ≡ true
  pub siblings : each c.nodes (sibling_right nd c.nodes) ≡ true
  pub games : each c.trees (game_right tr) ≡ true
  pub depths : each c.nodes (depth_right nd) ≡ true
  pub node-ranges : gapless (first_prop_at nd) (prop_count_at nd) c.nodes c.properties ≡ true
  pub prop-ranges : gapless (first_val_at pr) (val_count_at pr) c.properties c.values ≡ true
  pub have-values : each c.properties (has_value pr) ≡ true
  pub ascend : ascending (length t) 0 (spans pr vl 0 c.properties) ≡ true
  pub names : each c.properties (name_right t pr) ≡ true
  pub values : each c.values (value_right t vl) ≡ true

five : (p q r s u : Bool) → (p && q && r && s && u) ≡ true → (p ≡ true) × (q ≡ true) × (r ≡ true) × (s ≡ true) × (u ≡ true)
five p q r s u h =
    let h4 = and_left (p && q && r && s) u h in
    let h3 = and_left (p && q && r) s h4 in
    let h2 = and_left (p && q) r h3 in
    (and_left p q h2, and_right p q h2, and_right (p && q) r h3, and_right (p && q && r) s h4, and_right (p && q && r && s) u h)

six : (p q r s u v : Bool) → (p && q && r && s && u && v) ≡ true → (p ≡ true) × (q ≡ true) × (r ≡ true) × (s ≡ true) × (u ≡ true) × (v ≡ true)
six p q r s u v h =
    let x = five p q r s u (and_left (p && q && r && s && u) v h) in
    (x.0, x.1, x.2, x.3, x.4, and_right (p && q && r && s && u) v h)

three : (p q r : Bool) → (p && q && r) ≡ true → (p ≡ true) × (q ≡ true) × (r ≡ true)
three p q r h = let h2 = and_left (p && q) r h in (and_left p q h2, and_right p q h2, and_right (p && q) r h)

pub fit-clauses : (m : Memory) → Fit m ≡ true → Clauses (text_in m) m.counts m.trees m.nodes m.properties m.values
unfolding Fit fit_text nodes_fit ranges_fit spans_fit
fit-clauses m h =
    let u : List ℕ = text_in m in
    let x = five (leb (length u) text_limit) (valid_utf8 u) (nodes_fit m.counts m.trees m.nodes) (ranges_fit m.counts m.nodes m.properties) (spans_fit u m.counts m.properties m.values) (and_right (lent_for m) (fit_text u m.counts m.trees m.nodes m.properties m.values) h) in
    let n = six (roots_right m.counts.trees m.counts.nodes m.trees m.nodes) (each m.counts.nodes (parent_right m.nodes)) (each m.counts.nodes (child_right m.nodes m.counts.nodes)) (each m.counts.nodes (sibling_right m.nodes m.counts.nodes)) (each m.counts.trees (game_right m.trees)) (each m.counts.nodes (depth_right m.nodes)) x.2 in
    let r = three (gapless (first_prop_at m.nodes) (prop_count_at m.nodes) m.counts.nodes m.counts.properties) (gapless (first_val_at m.properties) (val_count_at m.properties) m.counts.properties m.counts.values) (each m.counts.properties (has_value m.properties)) x.3 in
    let s = three (ascending (length u) 0 (spans m.properties m.values 0 m.counts.properties)) (each m.counts.properties (name_right u m.properties)) (each m.counts.values (value_right u m.values)) x.4 in
    record {
      held = (fit-lent m h).1;
      short = leb-true (length u) text_limit x.0;
      utf8 = x.1;
      roots = n.0;
      parents = n.1;
      children = n.2;
      siblings = n.3;
      games = n.4;
      depths = n.5;
      node-ranges = r.0;
      prop-ranges = r.1;
      have-values = r.2;
      ascend = s.0;
      names = s.1;
      values = s.2;
    }

pub clauses-fit : (m : Memory) → m.used ≤ length m.text → Clauses (text_in m) m.counts m.trees m.nodes m.properties m.values → Fit m ≡ true
unfolding Fit fit_text nodes_fit ranges_fit spans_fit
clauses-fit m l f =
    rw (
      le-leb m.used (length m.text) l,
      le-leb m.counts.trees (length m.trees / 2) f.held.trees,
      le-leb m.counts.nodes (length m.nodes / node_stride) f.held.nodes,
      le-leb m.counts.nodes none f.held.below_none,
      le-leb m.counts.properties (length m.properties / 4) f.held.properties,
      le-leb m.counts.values (length m.values / 2) f.held.values,
      le-leb (length (text_in m)) text_limit f.short,
      f.utf8,
      f.roots,
      f.parents,
      f.children,
      f.siblings,
      f.games,
      f.depths,
      f.node-ranges,
      f.prop-ranges,
      f.have-values,
      f.ascend,
      f.names,
      f.values,
    )

module _ {t : List ℕ} {c : Counts} {tr nd pr vl : List ℕ} (f : Clauses t c tr nd pr vl) where
  pub name_in : (p : ℕ) → p < c.properties → (name_from_at pr p ≤ name_to_at pr p) × (name_to_at pr p ≤ length t)
  name_in = names-lie pr vl (length t) c.properties f.ascend

  pub value_in : (v : ℕ) → v < c.values → (val_from_at vl v ≤ val_to_at vl v) × (val_to_at vl v ≤ length t)
  value_in = values-lie pr vl (length t) c.properties f.ascend c.values f.prop-ranges

-- ---- of the first `used` bytes of a buffer

module _ (m : Memory) (fit : Fit m ≡ true) where
  used-is : length (text_in m) ≡ m.used
  used-is = length-take-le m.used m.text (fit-lent m fit).0

  pub fit-short : m.used ≤ text_limit
  fit-short = omega (arith, (fit-clauses m fit).short, used-is)

  pub fit-names : (p : ℕ) → p < m.counts.properties → (name_from_at m.properties p ≤ name_to_at m.properties p) × (name_to_at m.properties p ≤ m.used)
  fit-names p l = let n = name_in (fit-clauses m fit) p l in (n.0, omega (arith, n.1, used-is))

  pub fit-vals : (v : ℕ) → v < m.counts.values → (val_from_at m.values v ≤ val_to_at m.values v) × (val_to_at m.values v ≤ m.used)
  fit-vals v l = let n = value_in (fit-clauses m fit) v l in (n.0, omega (arith, n.1, used-is))
