-- Nodes in the tables: none, and nodes behind nodes. Assumes nothing.
use Rattle.lists.proofs.Prelude.{ℕ, ◌+◌, ◌*◌, ◌≡◌, sym, ap, ◌∙◌, subst, List, [], ◌++◌, arith, length, length-append}
use Rattle.lists.specs.Put.{PutIs}
use Rattle.lists.proofs.Put.{put-none, put-more}
use Rattle.lexer.specs.Token.{Val, Prop}
use Rattle.tables.specs.Record.{Node, all_props, all_vals}
use Rattle.tables.specs.Rows.{prop_rows, val_rows}
use Rattle.tables.specs.Flat.{flat_nodes, flat_props, flat_vals}
use Rattle.tables.specs.Columns.{node_stride}
use Rattle.parser_tree.specs.LocalsFlat.{bare_rows}
use Rattle.parser_tree.specs.LocalsWalks.{Stored}
use Rattle.parser_tree.proofs.Flats.{val-append, val-length, vals-append, props-append, prop-append, prop-length, node-append, node-length}

pub stored-none : (base p0 v0 : ℕ) (t q w : List ℕ) → Stored base p0 v0 [] t q w t q w base p0 v0
stored-none base p0 v0 t q w =
    record {
      nodes = omega arith;
      props = omega arith;
      vals = omega arith;
      tnodes = put-none t (base * node_stride);
      tprops = put-none q (p0 * 4);
      tvals = put-none w (v0 * 2);
    }

-- nodes behind nodes, as a second walk stores them
pub stored-both : {base p0 v0 : ℕ} {t₀ q₀ w₀ t q w : List ℕ} {n p v : ℕ} {t' q' w' : List ℕ} {n' p' v' : ℕ} (ds es : List Node)
    → Stored base p0 v0 ds t₀ q₀ w₀ t q w n p v → Stored n p v es t q w t' q' w' n' p' v' → Stored base p0 v0 (ds ++ es) t₀ q₀ w₀ t' q' w' n' p' v'
stored-both {base} {p0} {v0} {t₀} {q₀} {w₀} {t} {q} {w} {n} {p} {v} {t'} {q'} {w'} {n'} {p'} {v'} ds es x y =
    let P : all_props (ds ++ es) ≡ all_props ds ++ all_props es = props-append ds es in
    let W : all_vals (all_props (ds ++ es)) ≡ all_vals (all_props ds) ++ all_vals (all_props es) = ap all_vals P ∙ vals-append (all_props ds) (all_props es) in
    let ln : length (ds ++ es) ≡ length ds + length es = length-append ds es in
    let lp : length (all_props (ds ++ es)) ≡ length (all_props ds) + length (all_props es) = ap length P ∙ length-append (all_props ds) (all_props es) in
    let lv : length (all_vals (all_props (ds ++ es))) ≡ length (all_vals (all_props ds)) + length (all_vals (all_props es)) = ap length W ∙ length-append (all_vals (all_props ds)) (all_vals (all_props es)) in
    let xn = x.nodes in
    let xp = x.props in
    let xv = x.vals in
    let yn = y.nodes in
    let yp = y.props in
    let yv = y.vals in
    let fn : flat_nodes (bare_rows p0 (ds ++ es)) ≡ flat_nodes (bare_rows p0 ds) ++ flat_nodes (bare_rows p es) =
    node-append p0 ds es ∙ ap (λ (z : ℕ). flat_nodes (bare_rows p0 ds) ++ flat_nodes (bare_rows z es)) (sym x.props) in
    let fp : flat_props (prop_rows v0 (all_props (ds ++ es))) ≡ flat_props (prop_rows v0 (all_props ds)) ++ flat_props (prop_rows v (all_props es)) =
    ap (λ (z : List Prop). flat_props (prop_rows v0 z)) P
    ∙ prop-append v0 (all_props ds) (all_props es)
    ∙ ap (λ (z : ℕ). flat_props (prop_rows v0 (all_props ds)) ++ flat_props (prop_rows z (all_props es))) (sym x.vals) in
    let fv : flat_vals (val_rows (all_vals (all_props (ds ++ es)))) ≡ flat_vals (val_rows (all_vals (all_props ds))) ++ flat_vals (val_rows (all_vals (all_props es))) =
    ap (λ (z : List Val). flat_vals (val_rows z)) W ∙ val-append (all_vals (all_props ds)) (all_vals (all_props es)) in
    record {
      nodes = omega arith;
      props = omega arith;
      vals = omega arith;
      tnodes = subst (λ (z : List ℕ). PutIs t₀ (base * node_stride) z t') (sym fn) (put-more x.tnodes y.tnodes (omega (arith, node-length p0 ds)));
      tprops = subst (λ (z : List ℕ). PutIs q₀ (p0 * 4) z q') (sym fp) (put-more x.tprops y.tprops (omega (arith, prop-length v0 (all_props ds))));
      tvals = subst (λ (z : List ℕ). PutIs w₀ (v0 * 2) z w') (sym fv) (put-more x.tvals y.tvals (omega (arith, val-length (all_vals (all_props ds)))));
    }
