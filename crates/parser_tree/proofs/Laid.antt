-- Nodes in the tables, each row where it has room: none, one more, one more property. Assumes nothing.
use Rattle.lists.proofs.Prelude.{ℕ, ◌+◌, ◌-◌, ◌*◌, ◌≡◌, refl, sym, ap, ◌∙◌, subst, List, [], ◌∷◌, ◌++◌, append_assoc, append-nil, arith, length, length-append}
use Rattle.lists.specs.Put.{PutIs, PutWhole}
use Rattle.lexer.specs.Token.{Val, Prop}
use Rattle.tables.specs.Numbers.{none}
use Rattle.tables.specs.Record.{Node, all_props, all_vals}
use Rattle.tables.specs.Rows.{prop_rows, val_rows}
use Rattle.tables.specs.Columns.{node_stride, property_stride, value_stride}
use Rattle.parser_tree.specs.LocalsFlat.{bare_rows}
use Rattle.parser_tree.specs.LocalsTree.{put_row, put_rows, node_lists, prop_lists, val_lists}
use Rattle.parser_tree.specs.LocalsWalks.{Stored}
use Rattle.parser_tree.proofs.Flats.{val-length, vals-append, props-append, prop-length, node-length}
use Rattle.parser_tree.proofs.Rowed.{joined, row-whole, row-anew, rows_append, rows-one, rows_none, rows_are, nodes-joined, props-joined, vals-joined, val-lists-append, prop-lists-append, node-lists-append}

-- es stand in the tables from the rows base, p0 and v0 on, where there is room; n, p and v are the next rows
pub record Laid (base p0 v0 : ℕ) (es : List Node) (t₀ q₀ w₀ t q w : List ℕ) (n p v : ℕ) : Type 0 where
  pub nodes : n ≡ base + length es
  pub props : p ≡ p0 + length (all_props es)
  pub vals : v ≡ v0 + length (all_vals (all_props es))
  pub tnodes : t ≡ put_rows t₀ (base * node_stride) (node_lists (bare_rows p0 es))
  pub tprops : q ≡ put_rows q₀ (p0 * property_stride) (prop_lists (prop_rows v0 (all_props es)))
  pub tvals : w ≡ put_rows w₀ (v0 * value_stride) (val_lists (val_rows (all_vals (all_props es))))

pub laid_none : (base p0 v0 : ℕ) (t q w : List ℕ) → Laid base p0 v0 [] t q w t q w base p0 v0
laid_none base p0 v0 t q w =
    record {
      nodes = omega arith;
      props = omega arith;
      vals = omega arith;
      tnodes = sym (rows_none t (base * node_stride));
      tprops = sym (rows_none q (p0 * property_stride));
      tvals = sym (rows_none w (v0 * value_stride));
    }

-- how many numbers there are
nodes-long : (f : ℕ) (es : List Node) → length (joined (node_lists (bare_rows f es))) ≡ length es * node_stride
nodes-long f es = ap length (nodes-joined (bare_rows f es)) ∙ node-length f es

props-long : (f : ℕ) (ps : List Prop) → length (joined (prop_lists (prop_rows f ps))) ≡ length ps * 4
props-long f ps = ap length (props-joined (prop_rows f ps)) ∙ prop-length f ps

pub vals-long : (vs : List Val) → length (joined (val_lists (val_rows vs))) ≡ length vs * 2
vals-long vs = ap length (vals-joined (val_rows vs)) ∙ val-length vs

module _ {base p0 v0 : ℕ} {t₀ q₀ w₀ t q w : List ℕ} {n p v : ℕ} where
  -- where there is room for all, they stand there
  pub laid-stored : {es : List Node} → Laid base p0 v0 es t₀ q₀ w₀ t q w n p v → Stored base p0 v0 es t₀ q₀ w₀ t q w n p v
  laid-stored {es} x =
      record {
        nodes = x.nodes;
        props = x.props;
        vals = x.vals;
        tnodes = subst (λ (z : List ℕ). PutIs t₀ (base * node_stride) z t) (nodes-joined (bare_rows p0 es)) (subst (PutIs t₀ (base * node_stride) (joined (node_lists (bare_rows p0 es)))) (sym x.tnodes) (rows_are t₀ (base * node_stride) (node_lists (bare_rows p0 es))));
        tprops = subst (λ (z : List ℕ). PutIs q₀ (p0 * 4) z q) (props-joined (prop_rows v0 (all_props es))) (subst (PutIs q₀ (p0 * 4) (joined (prop_lists (prop_rows v0 (all_props es))))) (sym x.tprops) (rows_are q₀ (p0 * 4) (prop_lists (prop_rows v0 (all_props es)))));
        tvals = subst (λ (z : List ℕ). PutIs w₀ (v0 * 2) z w) (vals-joined (val_rows (all_vals (all_props es)))) (subst (PutIs w₀ (v0 * 2) (joined (val_lists (val_rows (all_vals (all_props es)))))) (sym x.tvals) (rows_are w₀ (v0 * 2) (val_lists (val_rows (all_vals (all_props es))))));
      }

  -- a node without properties
  pub laid-node : (es : List Node) → Laid base p0 v0 es t₀ q₀ w₀ t q w n p v → (cur : ℕ) {t' : List ℕ} → PutWhole t (n * node_stride) (cur ∷ none ∷ none ∷ p ∷ 0 ∷ 0 ∷ []) t'
      → Laid base p0 v0 (es ++ (record { parent = cur; props = [] } ∷ [])) t₀ q₀ w₀ t' q w (n + 1) p v
  laid-node es x cur {t'} h =
      let P : all_props (es ++ (record { parent = cur; props = [] } ∷ [])) ≡ all_props es = props-append es (record { parent = cur; props = [] } ∷ []) ∙ append-nil (all_props es) in
      let xn = x.nodes in
      let xp = x.props in
      let ln : length (es ++ (record { parent = cur; props = [] } ∷ [])) ≡ length es + 1 = length-append es (record { parent = cur; props = [] } ∷ []) in
      let at : n * node_stride ≡ base * node_stride + length (joined (node_lists (bare_rows p0 es))) = omega (arith, nodes-long p0 es) in
      record {
        nodes = omega arith;
        props = x.props ∙ ap (λ (z : List Prop). p0 + length z) (sym P);
        vals = x.vals ∙ ap (λ (z : List Prop). v0 + length (all_vals z)) (sym P);
        tnodes =
            row-whole h
            ∙ sym (rows-one t (n * node_stride) (cur ∷ none ∷ none ∷ p ∷ 0 ∷ 0 ∷ []))
            ∙ ap (λ (z : List ℕ). put_rows z (n * node_stride) ((cur ∷ none ∷ none ∷ p ∷ 0 ∷ 0 ∷ []) ∷ [])) x.tnodes
            ∙ sym (rows_append t₀ (base * node_stride) (node_lists (bare_rows p0 es)) ((cur ∷ none ∷ none ∷ p ∷ 0 ∷ 0 ∷ []) ∷ []) at)
            ∙ ap (put_rows t₀ (base * node_stride)) (sym (node-lists-append p0 es (record { parent = cur; props = [] } ∷ []) x.props));
        tprops = x.tprops ∙ ap (λ (z : List Prop). put_rows q₀ (p0 * property_stride) (prop_lists (prop_rows v0 z))) (sym P);
        tvals = x.tvals ∙ ap (λ (z : List Prop). put_rows w₀ (v0 * value_stride) (val_lists (val_rows (all_vals z)))) (sym P);
      }

  module _ (es : List Node) (m : Node) (x : Laid base p0 v0 (es ++ (m ∷ [])) t₀ q₀ w₀ t q w n p v) (P : Prop) where
    m' : Node
    m' = record { parent = m.parent; props = m.props ++ (P ∷ []) }

    all-props : all_props (es ++ (m' ∷ [])) ≡ all_props (es ++ (m ∷ [])) ++ (P ∷ [])
    unfolding m'
    all-props =
        props-append es (m' ∷ [])
        ∙ ap (λ (z : List Prop). all_props es ++ z) (append-nil (m.props ++ (P ∷ [])))
        ∙ sym (append_assoc (all_props es) m.props (P ∷ []))
        ∙ ap (λ (z : List Prop). z ++ (P ∷ [])) (ap (λ (z : List Prop). all_props es ++ z) (sym (append-nil m.props)) ∙ sym (props-append es (m ∷ [])))

    all-vals : all_vals (all_props (es ++ (m' ∷ []))) ≡ all_vals (all_props (es ++ (m ∷ []))) ++ P.vals
    all-vals = ap all_vals all-props ∙ vals-append (all_props (es ++ (m ∷ []))) (P ∷ []) ∙ ap (λ (z : List Val). all_vals (all_props (es ++ (m ∷ []))) ++ z) (append-nil P.vals)

    -- the table with the last node's row apart
    node-rows : (b : Node) {first : ℕ} → first ≡ p0 + length (all_props es)
        → put_rows t₀ (base * node_stride) (node_lists (bare_rows p0 (es ++ (b ∷ []))))
        ≡ put_row (put_rows t₀ (base * node_stride) (node_lists (bare_rows p0 es))) (base * node_stride + length es * node_stride) ((b.parent ∷ none ∷ none ∷ first ∷ []) ++ (length b.props ∷ 0 ∷ []))
    node-rows b {first} e =
        ap (put_rows t₀ (base * node_stride)) (node-lists-append p0 es (b ∷ []) e)
        ∙ rows_append t₀ (base * node_stride) (node_lists (bare_rows p0 es)) ((b.parent ∷ none ∷ none ∷ first ∷ length b.props ∷ 0 ∷ []) ∷ []) (ap (λ (z : ℕ). base * node_stride + z) (sym (nodes-long p0 es)))
        ∙ rows-one (put_rows t₀ (base * node_stride) (node_lists (bare_rows p0 es))) (base * node_stride + length es * node_stride) (b.parent ∷ none ∷ none ∷ first ∷ length b.props ∷ 0 ∷ [])

    -- the last node's properties and one more: its row, those of its values, and the count in the node's row
    pub laid-prop : {first : ℕ} → first ≡ p0 + length (all_props es) → {q' w' t' : List ℕ} → PutWhole q (p * 4) (P.from ∷ P.to ∷ v ∷ length P.vals ∷ []) q'
        → w' ≡ put_rows w (v * value_stride) (val_lists (val_rows P.vals)) → PutWhole t (n * node_stride - 2) ((p + 1 - first) ∷ 0 ∷ []) t'
        → Laid base p0 v0 (es ++ (record { parent = m.parent; props = m.props ++ (P ∷ []) } ∷ [])) t₀ q₀ w₀ t' q' w' n (p + 1) (v + length P.vals)
    unfolding m'
    laid-prop {first} e {q'} {w'} {t'} hq hw ht =
        let xn = x.nodes in
        let xp = x.props in
        let xv = x.vals in
        let l1 : length (es ++ (m ∷ [])) ≡ length es + 1 = length-append es (m ∷ []) in
        let l2 : length (es ++ (m' ∷ [])) ≡ length es + 1 = length-append es (m' ∷ []) in
        let l3 : length (all_props (es ++ (m' ∷ []))) ≡ length (all_props (es ++ (m ∷ []))) + 1 = ap length all-props ∙ length-append (all_props (es ++ (m ∷ []))) (P ∷ []) in
        let l4 : length (all_vals (all_props (es ++ (m' ∷ [])))) ≡ length (all_vals (all_props (es ++ (m ∷ [])))) + length P.vals = ap length all-vals ∙ length-append (all_vals (all_props (es ++ (m ∷ [])))) P.vals in
        let l5 : length (all_props (es ++ (m ∷ []))) ≡ length (all_props es) + length m.props =
        ap length (props-append es (m ∷ []) ∙ ap (λ (z : List Prop). all_props es ++ z) (append-nil m.props)) ∙ length-append (all_props es) m.props in
        let l6 : length (m.props ++ (P ∷ [])) ≡ length m.props + 1 = length-append m.props (P ∷ []) in
        let c : p + 1 - first ≡ length (m.props ++ (P ∷ [])) = omega arith in
        let T : List ℕ = put_rows t₀ (base * node_stride) (node_lists (bare_rows p0 es)) in
        record {
          nodes = omega arith;
          props = omega arith;
          vals = omega arith;
          tnodes =
              row-anew T (m.parent ∷ none ∷ none ∷ first ∷ []) (length m.props ∷ 0 ∷ []) (base * node_stride + length es * node_stride)
              (subst (λ (z : ℕ). PutWhole (put_row T (base * node_stride + length es * node_stride) ((m.parent ∷ none ∷ none ∷ first ∷ []) ++ (length m.props ∷ 0 ∷ []))) (n * node_stride - 2) (z ∷ 0 ∷ []) t') c
              (subst (λ (z : List ℕ). PutWhole z (n * node_stride - 2) ((p + 1 - first) ∷ 0 ∷ []) t') (x.tnodes ∙ node-rows m e) ht))
              (omega arith) refl
              ∙ sym (node-rows m' e);
          tprops =
              row-whole hq
              ∙ sym (rows-one q (p * 4) (P.from ∷ P.to ∷ v ∷ length P.vals ∷ []))
              ∙ ap (λ (z : List ℕ). put_rows z (p * 4) ((P.from ∷ P.to ∷ v ∷ length P.vals ∷ []) ∷ [])) x.tprops
              ∙ sym (rows_append q₀ (p0 * property_stride) (prop_lists (prop_rows v0 (all_props (es ++ (m ∷ []))))) ((P.from ∷ P.to ∷ v ∷ length P.vals ∷ []) ∷ []) (omega (arith, props-long v0 (all_props (es ++ (m ∷ []))))))
              ∙ ap (put_rows q₀ (p0 * property_stride)) (sym (ap (λ (z : List Prop). prop_lists (prop_rows v0 z)) all-props ∙ prop-lists-append v0 (all_props (es ++ (m ∷ []))) (P ∷ []) x.vals));
          tvals =
              hw
              ∙ ap (λ (z : List ℕ). put_rows z (v * value_stride) (val_lists (val_rows P.vals))) x.tvals
              ∙ sym (rows_append w₀ (v0 * value_stride) (val_lists (val_rows (all_vals (all_props (es ++ (m ∷ [])))))) (val_lists (val_rows P.vals)) (omega (arith, vals-long (all_vals (all_props (es ++ (m ∷ [])))))))
              ∙ ap (put_rows w₀ (v0 * value_stride)) (sym (ap (λ (z : List Val). val_lists (val_rows z)) all-vals ∙ val-lists-append (all_vals (all_props (es ++ (m ∷ [])))) P.vals));
        }
