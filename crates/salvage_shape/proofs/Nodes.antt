-- The walk of a slice for its shape: a turn at a node, and at a property. Assumes nothing.
use Rattle.lists.proofs.Prelude.{◌≡◌, refl, sym, ap, ◌∙◌, subst, subst⁻¹, ℕ, zero, suc, ◌+◌, ◌-◌, ◌*◌, ◌≤◌, ◌<◌, arith, Bool, true, false, List, [], ◌∷◌, ◌++◌, length, eqb}
use Rattle.lexer.specs.Token.{node, prop, lexed, lex_at}
use Rattle.lexer.specs.Step.{prop_at}
use Rattle.tables.specs.Numbers.{none}
use Rattle.tables.specs.Record.{Node}
use Rattle.tables.specs.Rows.{parents}
use Rattle.parser.specs.Game.{props}
use Rattle.parser.specs.Walk.{walk, halted, walks, adds, gated}
use Rattle.parser.specs.LocalsSlice.{slice_from, Shallow}
use Rattle.parser_step.specs.LocalsActs.{stack_of}
use Rattle.parser_step.proofs.Stacks.{stack-none, stack-pop}
use Rattle.parser_tree.specs.LocalsTurns.{BehindIs}
use Rattle.parser_tree.proofs.Lines.{Line, line-node, line-prop}
use Rattle.parser_tree.proofs.Behind.{skipping-node, skipping-behind, skipping-prop}
use Rattle.salvage_form.specs.Rooted.{root_rule}
use Rattle.salvage_form.specs.declared.root.RootRule.{RootRule}
use Rattle.salvage_list.proofs.Going.{here, blames-on, walkeds-on, stops-here, stopped-nodes}
use Rattle.salvage_list.proofs.Props.{node-slice, prop-slice}
use Rattle.salvage_shape.specs.LocalsChain.{height_limit, joined_to, brackets_more, chain_kept, cells_of, fresh_of, close_all}
use Rattle.salvage_shape.specs.LocalsSum.{rule_after}
use Rattle.salvage_shape.specs.LocalsWalk.{FateIs, ShapeIs}
use Rattle.salvage_shape.specs.declared.Chain.{Chain}
use Rattle.salvage_shape.specs.declared.Fate.{Fate}
use Rattle.salvage_shape.proofs.Chains.{Stands}
use Rattle.salvage_shape.proofs.Shaping.{Shaped, shaped-new, shaped-more}
use Rattle.salvage_shape.proofs.Sums.{Summed, summed-node, summed-prop}
use Rattle.salvage_shape.proofs.Turns.{marks-pop, cells-pop, cells-put, put-length}
use Rattle.salvage_shape.proofs.Walking.{Walking, parents-length, shaped-as, walking-few, shape-over}

module _ {u : List ℕ} {from base : ℕ} {a : List ℕ} {ma : List Bool} {ca : List ℕ} {at d cur n : ℕ} {g f : Bool} {brackets : ℕ} {c : Chain} {root : RootRule} {bytes listed : ℕ}
    (x : Walking u from base a ma ca at d cur n g f brackets c root bytes listed) where
  abbrev ds : List ℕ
  ds = parents x.go.ns

  few : base + length (parents x.go.ns) < none
  few = (walking-few x).0

  low : suc (length (parents x.go.ns)) ≤ height_limit
  low = (walking-few x).1

  -- ---- a node

  -- a new list stands under a node
  pub walking-open : f ≡ true → 0 < d
  walking-open z = go d refl
    where
      go : (k : ℕ) → d ≡ k → 0 < d
      go zero e =
          absurd
          (subst (λ (b : Bool). Stands b c [] (fresh_of ma d) (cells_of ca d) x.shape.r x.shape.rs) z
          (subst (λ (st : List ℕ). Stands f c st (fresh_of ma d) (cells_of ca d) x.shape.r x.shape.rs) (stack-none a d e) x.shape.stands))
      go (suc k) e = omega arith

  module _ {i : ℕ} (lo : at ≤ i) (hi : i < length u) (q : lex_at u at ≡ lexed (node i ∷ []) (lex_at u (i + 1))) where
    node-shape : (b : Bool) → f ≡ b → Shaped base (cur ∷ ds) (base + length ds) false (joined_to b c) (stack_of a d) (fresh_of ma d) (cells_of (chain_kept b ca d c) d) (brackets + brackets_more c.kids)
    node-shape true z =
        let o = walking-open z in
        let de = x.go.deep in
        let ke = x.kept in
        shaped-as (sym (stack-pop a d (λ y. omega arith))) (sym (marks-pop ma d o)) (sym (cells-put ca d c o (omega arith)))
        (shaped-new few low
        (shaped-as (stack-pop a d (λ y. omega arith)) (marks-pop ma d o) (cells-pop ca d o)
        (subst (λ (b : Bool). Shaped base ds cur b c (stack_of a d) (fresh_of ma d) (cells_of ca d) brackets) z x.shape)))
    node-shape false z = shaped-more few low (subst (λ (b : Bool). Shaped base ds cur b c (stack_of a d) (fresh_of ma d) (cells_of ca d) brackets) z x.shape)

    kept-length : (b : Bool) → f ≡ b → length (chain_kept b ca d c) ≡ length ca
    kept-length true z = let o = walking-open z in let de = x.go.deep in let ke = x.kept in put-length ca ((d - 1) * 4) c (omega arith)
    kept-length false z = refl

    pub walking-node : {cur2 : ℕ} → cur2 ≡ n → {ca2 : List ℕ} → ca2 ≡ chain_kept f ca d c → {k : ℕ} → k ≡ brackets_more c.kids → {c2 : Chain} → c2 ≡ joined_to f c
        → {root2 : RootRule} → root2 ≡ rule_after (eqb n base) (root_rule (props (lex_at u (i + 1)).toks)) root
        → Walking u from base a ma ca2 (i + 1) d cur2 (n + 1) true false (brackets + k) c2 root2 bytes listed
    unfolding Shallow
    walking-node {cur2} ec {ca2} ek {k} eb {c2} ej er =
        let fe = x.go.few in
        let sh = x.go.short in
        let lw = x.go.low in
        let co = x.go.count in
        let ns : List Node = x.go.ns in
        let w : walks true base (here x.go) (node i) ≡ walk cur2 (stack_of a d) true (record { parent = cur; props = [] } ∷ ns) =
        ap (λ (z : ℕ). walk z (stack_of a d) true (record { parent = cur; props = [] } ∷ ns)) (sym (ec ∙ x.go.count)) in
        let sl : slice_from d (lex_at u at).toks ≡ node i ∷ slice_from d (lex_at u (i + 1)).toks = node-slice x.go lo hi q in
        let en : base + length ds ≡ cur2 = let e = parents-length x.go.ns in let co = x.go.count in omega (arith, e) in
        record {
          go = record {
            short = x.go.short;
            low = x.go.low;
            ns = record { parent = cur; props = [] } ∷ ns;
            pre = x.go.pre ++ (node i ∷ []);
            count = omega arith;
            array = x.go.array;
            deep = x.go.deep;
            few = omega arith;
            skip = skipping-node x.go.skip lo hi q;
            blames = blames-on x.go (node i) (slice_from d (lex_at u (i + 1)).toks) sl w refl;
            walkeds = walkeds-on x.go (node i) (slice_from d (lex_at u (i + 1)).toks) sl w;
            shallow = subst (Shallow d) sl x.go.shallow;
            line = subst⁻¹ (λ (z : ℕ). Line base (record { parent = cur; props = [] } ∷ ns) z (stack_of a d)) (ec ∙ co) (line-node (omega arith) x.go.line);
            some = λ z. omega arith;
          };
          shape = subst (λ (z : ℕ). Shaped base (cur ∷ ds) z false c2 (stack_of a d) (fresh_of ma d) (cells_of ca2 d) (brackets + k)) en
              (subst (λ (z : ℕ). Shaped base (cur ∷ ds) (base + length ds) false c2 (stack_of a d) (fresh_of ma d) (cells_of ca2 d) (brackets + z)) (sym eb)
              (subst (λ (z : List ℕ). Shaped base (cur ∷ ds) (base + length ds) false c2 (stack_of a d) (fresh_of ma d) (cells_of z d) (brackets + brackets_more c.kids)) (sym ek)
              (subst (λ (z : Chain). Shaped base (cur ∷ ds) (base + length ds) false z (stack_of a d) (fresh_of ma d) (cells_of (chain_kept f ca d c) d) (brackets + brackets_more c.kids)) (sym ej)
              (node-shape f refl))));
          marked = x.marked;
          kept = ap length ek ∙ kept-length f refl ∙ x.kept;
          sums = summed-node x.go lo hi q x.sums er;
        }

  -- ---- a property

  module _ (i k e : ℕ) (q : lex_at u at ≡ lexed (prop (prop_at u i k) e ∷ []) (lex_at u e)) where
    pub prop-over : g ≡ false → {r : ℕ} → BehindIs true u at d r → {h : ℕ} → h ≡ close_all f c (fresh_of ma d) (cells_of ca d)
        → ShapeIs u from base (record { next = r; nodes = n - base; brackets = brackets; depth = h + 1; bytes = bytes; listed = listed + 1 })
    unfolding prop_at
    prop-over z bh eh =
        let w : walks true base (here x.go) (prop (prop_at u i k) e) ≡ halted x.go.ns = ap (λ (b : Bool). gated true b (prop_at u i k) cur (stack_of a d) x.go.ns) z in
        shape-over x (stopped-nodes x.go (prop (prop_at u i k) e) (slice_from d (lex_at u e).toks) (prop-slice x.go i k e q) w) (skipping-behind x.go.skip bh) bh.on eh
        (λ j. ap length (stops-here x.go (prop (prop_at u i k) e) (slice_from d (lex_at u e).toks) (prop-slice x.go i k e q) w j))

    pub walking-prop : at < e → e ≤ length u → g ≡ true → {y : Fate} → FateIs root (prop_at u i k) y → Walking u from base a ma ca e d cur n g f brackets c root (bytes + y.bytes) (listed + y.listed)
    unfolding Shallow
    walking-prop lo hi z {y} ek = by x.go.ns refl (x.go.some z)
      where
        by : (ns : List Node) → x.go.ns ≡ ns → 0 < length x.go.ns → Walking u from base a ma ca e d cur n g f brackets c root (bytes + y.bytes) (listed + y.listed)
        by [] v l = absurd (let o : length x.go.ns ≡ 0 = ap length v in omega arith)
        by (m ∷ ms) v l =
            let fe = x.go.few in
            let w : walks true base (here x.go) (prop (prop_at u i k) e) ≡ walk cur (stack_of a d) g (record { parent = m.parent; props = m.props ++ (prop_at u i k ∷ []) } ∷ ms) =
            ap (λ (b : Bool). gated true b (prop_at u i k) cur (stack_of a d) x.go.ns) z
            ∙ ap (adds true (prop_at u i k) cur (stack_of a d)) v
            ∙ ap (λ (b : Bool). walk cur (stack_of a d) b (record { parent = m.parent; props = m.props ++ (prop_at u i k ∷ []) } ∷ ms)) (sym z) in
            record {
              go = record {
                short = x.go.short;
                low = x.go.low;
                ns = record { parent = m.parent; props = m.props ++ (prop_at u i k ∷ []) } ∷ ms;
                pre = x.go.pre ++ (prop (prop_at u i k) e ∷ []);
                count = x.go.count ∙ ap (λ (o : List Node). base + length o) v;
                array = x.go.array;
                deep = x.go.deep;
                few = omega arith;
                skip = skipping-prop x.go.skip (omega arith) hi q;
                blames = blames-on x.go (prop (prop_at u i k) e) (slice_from d (lex_at u e).toks) (prop-slice x.go i k e q) w refl;
                walkeds = walkeds-on x.go (prop (prop_at u i k) e) (slice_from d (lex_at u e).toks) (prop-slice x.go i k e q) w;
                shallow = subst (Shallow d) (prop-slice x.go i k e q) x.go.shallow;
                line = line-prop (m.props ++ (prop_at u i k ∷ [])) (subst (λ (o : List Node). Line base o cur (stack_of a d)) v x.go.line);
                some = λ o. omega arith;
              };
              shape = subst (λ (o : List Node). Shaped base (parents o) cur f c (stack_of a d) (fresh_of ma d) (cells_of ca d) brackets) v x.shape;
              marked = x.marked;
              kept = x.kept;
              sums = summed-prop (subst (λ (o : List Node). Summed u from base o at root bytes listed) v x.sums) (prop_at u i k) lo ek.bytes ek.bound ek.listed;
            }
