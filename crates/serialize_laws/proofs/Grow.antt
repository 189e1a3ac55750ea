-- Reading back, the nodes of a tree after its root. Assumes nothing.
use Rattle.lists.proofs.Prelude.{◌≡◌, refl, sym, ap, ◌∙◌, ℕ, suc, ◌+◌, ◌≤◌, arith, Bool, true, List, [], ◌∷◌, ◌++◌, map, reverse_aux, eqb, length, eq-eqb, false}
use Rattle.lexer.specs.Token.{Prop, Tok, node}
use Rattle.lists.specs.All.{All}
use Rattle.parser.proofs.Runs.{walked-append}
use Rattle.parser.specs.Walk.{Walk, children, walk, walked}
use Rattle.serialize_laws.proofs.WrittenProps.{Plain}
use Rattle.serialize_laws.proofs.Written.{PlainNode, tok_ends, tok_nodes, tok_opened, tok_props}
use Rattle.serialize.proofs.Branches.{opening, Good}
use Rattle.serialize.specs.LocalsWrite.{Open, bracketed, path_left}
use Rattle.tables.specs.Numbers.{none}
use Rattle.tables.specs.Record.{Node}
use Rattle.tables.specs.Rows.{parents}
use Rattle.serialize_laws.specs.Back.{placeless_prop, placeless_node}
use Rattle.serialize_laws.proofs.GrowNode.{top, stk, Chain, two, ends-to, ends-all, left-top, left-chain, chain-up, props-run, open-run, or_right}

module _ (base : ℕ) (ps : List ℕ) where
  -- `;` and the properties
  pub node-run : (k p : ℕ) (st : List ℕ) (g : Bool) (qs : List Prop) (ds : List Node) (rest : List Tok) → All Plain qs → k ≡ base + length ds
      → walked false base (walk p st g ds) (node 0 ∷ (tok_props qs ++ rest))
      ≡ walked false base (walk k st true (record { parent = p; props = map placeless_prop qs } ∷ ds)) rest
  node-run k p st g qs ds rest h e =
      walked-append false base (walk (base + length ds) st true (record { parent = p; props = [] } ∷ ds)) (tok_props qs) rest
      ∙ ap (λ (w : Walk). walked false base w rest) (props-run base (base + length ds) st p [] qs ds h)
      ∙ ap (λ (z : ℕ). walked false base (walk z st true (record { parent = p; props = map placeless_prop qs } ∷ ds)) rest) (sym e)

  pub walk-nodes : (k : ℕ) (path : List Open) (ns ds : List Node) (g : Bool) → All PlainNode ns → Chain ps ds path → children none ds ≡ true
      → ps ≡ reverse_aux (parents ds) (parents ns) → k ≡ base + length ds → k + length ns ≤ none → Good ps k path ns
      → (c2 : ℕ) × (g2 : Bool) × (walked false base (walk (top path) (stk path) g ds) (tok_nodes ps k path ns) ≡ walk c2 (none ∷ []) g2 (reverse_aux (map placeless_node ns) ds))
  walk-nodes k path [] ds g pl ch r e ke kl go = let x = ends-all false base ds ps (top path) g path ch in (x.0, x.1.0, x.1.1)
  walk-nodes k path (n ∷ ns) ds g pl ch r e ke kl go =
      let p : ℕ = n.parent in
      let path2 : List Open = path_left p path in
      let x : Open = opening ps k p in
      let rest : List Tok = tok_nodes ps (suc k) (x ∷ path2) ns in
      let e1 = ends-to false base ds ps p g path ch go.0 (two ps ds p (parents ns) e) in
      let lt : top path2 ≡ p = left-top p path go.0 in
      let ch2 : Chain ps ds path2 = left-chain ps ds p path ch in
      let e2 = open-run false base ps ds p path2 e1.0 (bracketed ps p) (node 0 ∷ (tok_props n.props ++ rest)) refl lt ch2 (λ _. r) in
      let e3 = node-run k p (stk (x ∷ path2)) e2.0 n.props ds rest pl.0 ke in
      let fresh : children (top path2) (placeless_node n ∷ ds) ≡ true = rw (lt, eq-eqb p p refl) in
      let root : children none (placeless_node n ∷ ds) ≡ true = or_right (eqb p none) (children none ds) r in
      let ih = walk-nodes (suc k) (x ∷ path2) ns (placeless_node n ∷ ds) true pl.1 (fresh, ap (bracketed ps) (sym lt), omega arith, chain-up ps (placeless_node n) ds path2 ch2) root e (omega arith) (omega arith) go.1 in (
        ih.0,
        ih.1,
        walked-append false base (walk (top path) (stk path) g ds) (tok_ends p path) (tok_opened (bracketed ps p) (node 0 ∷ (tok_props n.props ++ rest)))
            ∙ ap (λ (w : Walk). walked false base w (tok_opened (bracketed ps p) (node 0 ∷ (tok_props n.props ++ rest)))) e1.1
            ∙ e2.1 ∙ e3 ∙ ih.2,
      )
