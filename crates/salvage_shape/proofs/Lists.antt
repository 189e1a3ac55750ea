-- The walk of a slice for its shape: a turn at a start, and at an end. Assumes nothing.
use Rattle.lists.proofs.Prelude.{◌≡◌, refl, sym, ap, ◌∙◌, subst, subst⁻¹, ℕ, zero, suc, ◌+◌, ◌-◌, ◌≤◌, ◌<◌, arith, add-one, Bool, true, false, false≢true, List, [], ◌∷◌, ◌++◌, reverse, length, set, length-set, get_or, pick}
use Rattle.lexer.specs.Token.{start, end, Lexed, lexed, lex_at}
use Rattle.tables.specs.Numbers.{depth_limit, none}
use Rattle.tables.specs.Record.{Node}
use Rattle.tables.specs.Rows.{parents}
use Rattle.parser.specs.Walk.{Walk, walk, halted, walks, closes}
use Rattle.parser.specs.LocalsSlice.{slice_from, Shallow}
use Rattle.parser_step.specs.LocalsActs.{stack_of, may_open}
use Rattle.parser_step.proofs.Stacks.{stack-none, stack-pop}
use Rattle.parser_tree.specs.LocalsTurns.{BehindIs}
use Rattle.parser_tree.proofs.Stacks.{stack_push}
use Rattle.parser_tree.proofs.Lines.{Line, line-open, line-shut}
use Rattle.parser_tree.proofs.Behind.{skipping-start, skipping-end, skipping-last, skipping-behind, slice-end, shallow-end}
use Rattle.salvage_form.specs.declared.root.RootRule.{RootRule}
use Rattle.why_blame.specs.Blame.{Blame}
use Rattle.salvage_list.specs.Listed.{cut_of, walk_nodes}
use Rattle.salvage_list.specs.LocalsWalk.{nodes_from, cut_from}
use Rattle.salvage_list.proofs.Ends.{last-slice, popped}
use Rattle.salvage_list.proofs.Going.{here, blames-on, walkeds-on, stops-here, stopped-nodes, start-slice, start-walk}
use Rattle.salvage_shape.specs.LocalsChain.{height_limit, ended_by, cell_at, cells_of, fresh_of, close_all}
use Rattle.salvage_shape.specs.LocalsWalk.{ShapeIs}
use Rattle.salvage_shape.specs.declared.Chain.{Chain}
use Rattle.salvage_shape.proofs.Shaping.{Shaped, shaped-start, shaped-end}
use Rattle.salvage_shape.proofs.Sums.{summed-on}
use Rattle.salvage_shape.proofs.Turns.{marks-pop, cells-pop, marks-push, cells-push}
use Rattle.salvage_shape.proofs.Walking.{Walking, shaped-as, walking-few, shape-over}

module _ {u : List ℕ} {from base : ℕ} {a : List ℕ} {ma : List Bool} {ca : List ℕ} {at d cur n : ℕ} {g f : Bool} {brackets : ℕ} {c : Chain} {root : RootRule} {bytes listed : ℕ}
    (x : Walking u from base a ma ca at d cur n g f brackets c root bytes listed) where
  abbrev ds : List ℕ
  ds = parents x.go.ns

  few : base + length (parents x.go.ns) < none
  few = (walking-few x).0

  low : suc (length (parents x.go.ns)) ≤ height_limit
  low = (walking-few x).1

  -- ---- a start

  module _ {i : ℕ} (lo : at ≤ i) (hi : i < length u) where
    module _ (q : lex_at u at ≡ lexed (start i ∷ []) (lex_at u (i + 1))) {b : Bool} (m : b ≡ may_open base n (stack_of a d)) where
      pub start-over : b ≡ false → {r : ℕ} → BehindIs true u at d r → {h : ℕ} → h ≡ close_all f c (fresh_of ma d) (cells_of ca d)
          → ShapeIs u from base (record { next = r; nodes = n - base; brackets = brackets; depth = h + 1; bytes = bytes; listed = listed + 1 })
      start-over z {r} bh eh =
          let w : walks true base (here x.go) (start i) ≡ halted x.go.ns =
          start-walk x.go lo hi q m ∙ ap (λ (y : Bool). pick y (walk cur (cur ∷ stack_of a d) false x.go.ns) (halted x.go.ns)) z in
          shape-over x (stopped-nodes x.go (start i) (slice_from (suc d) (lex_at u (i + 1)).toks) (start-slice x.go lo hi q) w) (skipping-behind x.go.skip bh) bh.on eh
          (λ j. ap length (stops-here x.go (start i) (slice_from (suc d) (lex_at u (i + 1)).toks) (start-slice x.go lo hi q) w j))

      pub walking_start : b ≡ true → d < depth_limit → {a2 : List ℕ} → a2 ≡ set a d cur → {ma2 : List Bool} → ma2 ≡ set ma d f → Walking u from base a2 ma2 ca (i + 1) (d + 1) cur n false true brackets c root bytes listed
      unfolding Shallow
      walking_start z dl {a2} ea {ma2} em =
          let ar = x.go.array in
          let mk = x.marked in
          let fe = x.go.few in
          let ns : List Node = x.go.ns in
          let st : stack_of a2 (d + 1) ≡ cur ∷ stack_of a d = ap (λ (y : List ℕ). stack_of y (d + 1)) ea ∙ stack_push a d cur (omega arith) in
          let w : walks true base (here x.go) (start i) ≡ walk cur (stack_of a2 (d + 1)) false ns =
          start-walk x.go lo hi q m ∙ ap (λ (y : Bool). pick y (walk cur (cur ∷ stack_of a d) false ns) (halted ns)) z ∙ ap (λ (y : List ℕ). walk cur y false ns) (sym st) in
          let k : slice_from d (lex_at u at).toks ≡ start i ∷ slice_from (d + 1) (lex_at u (i + 1)).toks =
          start-slice x.go lo hi q ∙ ap (λ (y : ℕ). start i ∷ slice_from y (lex_at u (i + 1)).toks) (sym (add-one d)) in
          record {
            go = record {
              short = x.go.short;
              low = x.go.low;
              ns = ns;
              pre = x.go.pre ++ (start i ∷ []);
              count = x.go.count;
              array = ap length ea ∙ length-set a d cur ∙ x.go.array;
              deep = omega arith;
              few = omega arith;
              skip = skipping-start x.go.skip lo hi q;
              blames = blames-on x.go (start i) (slice_from (d + 1) (lex_at u (i + 1)).toks) k w refl;
              walkeds = walkeds-on x.go (start i) (slice_from (d + 1) (lex_at u (i + 1)).toks) k w;
              shallow = subst⁻¹ (λ (y : ℕ). Shallow y (slice_from y (lex_at u (i + 1)).toks)) (add-one d) (subst (Shallow d) (start-slice x.go lo hi q) x.go.shallow).1;
              line = subst⁻¹ (Line base ns cur) st (line-open x.go.line);
              some = λ y. absurd (false≢true y);
            };
            shape = shaped-as
                (sym st)
                (sym (ap (λ (y : List Bool). fresh_of y (d + 1)) em ∙ marks-push ma d f (omega arith)))
                (sym (cells-push ca d))
                (shaped-start x.shape few low (cell_at ca d));
            marked = ap length em ∙ length-set ma d f ∙ x.marked;
            kept = x.kept;
            sums = summed-on x.sums (omega (arith, lo));
          }

    -- ---- an end

    module _ (q : lex_at u at ≡ lexed (end i ∷ []) (lex_at u (i + 1))) where
      pub end-over : d ≤ 1 → {h : ℕ} → h ≡ close_all f c (fresh_of ma d) (cells_of ca d) → ShapeIs u from base (record { next = i + 1; nodes = n - base; brackets = brackets; depth = h + 1; bytes = bytes; listed = listed + (1 - d) })
      end-over l eh = shape-over x (nodes d refl l) (skipping-last x.go.skip lo hi q l) (omega arith) eh (cuts d refl l)
        where
          nodes : (k : ℕ) → d ≡ k → k ≤ 1 → nodes_from u from base ≡ reverse x.go.ns
          nodes zero z w =
              stopped-nodes x.go (end i) [] (last-slice x.go lo hi q (omega arith)) (ap (λ (st : List ℕ). closes true cur st x.go.ns) (stack-none a d z))
          nodes (suc k) z w =
              let h : d ≡ 0 → ⊥ = λ y. omega arith in
              ap walk_nodes (walkeds-on x.go (end i) [] (last-slice x.go lo hi q (omega arith)) (popped x.go lo hi q h))

          cuts : (k : ℕ) → d ≡ k → k ≤ 1 → (j : ℕ) → length (cut_of j (cut_from u from base)) ≡ 1 - d
          cuts zero z w j =
              ap length (stops-here x.go (end i) [] (last-slice x.go lo hi q (omega arith)) (ap (λ (st : List ℕ). closes true cur st x.go.ns) (stack-none a d z)) j)
              ∙ (omega (arith, z))
          cuts (suc k) z w j =
              let h : d ≡ 0 → ⊥ = λ y. omega arith in
              ap (λ (b : Blame Walk). length (cut_of j b)) (blames-on x.go (end i) [] (last-slice x.go lo hi q (omega arith)) (popped x.go lo hi q h) refl)
              ∙ (omega (arith, z))

      pub walking-end : 1 < d → {cur2 : ℕ} → cur2 ≡ get_or a (d - 1) 0 → {e c2 : Chain} → e ≡ cell_at ca (d - 1) → c2 ≡ ended_by f c e → {f2 : Bool} → f2 ≡ get_or ma (d - 1) false
          → Walking u from base a ma ca (i + 1) (d - 1) cur2 n false f2 brackets c2 root bytes listed
      walking-end l {cur2} ec {e} {c2} ee ef {f2} em =
          let de = x.go.deep in
          let fe = x.go.few in
          let ns : List Node = x.go.ns in
          let h0 : d ≡ 0 → ⊥ = λ z. omega arith in
          let k : slice_from d (lex_at u at).toks ≡ end i ∷ slice_from (d - 1) (lex_at u (i + 1)).toks = ap (λ (z : Lexed). slice_from d z.toks) q ∙ slice-end d i (lex_at u (i + 1)).toks l in
          let w : walks true base (here x.go) (end i) ≡ walk cur2 (stack_of a (d - 1)) false ns = popped x.go lo hi q h0 ∙ ap (λ (z : ℕ). walk z (stack_of a (d - 1)) false ns) (sym ec) in
          let s : Shaped base ds (get_or a (d - 1) 0) (get_or ma (d - 1) false) (ended_by f c (cell_at ca (d - 1))) (stack_of a (d - 1)) (fresh_of ma (d - 1)) (cells_of ca (d - 1)) brackets =
          shaped-end few low (shaped-as (stack-pop a d (λ z. omega arith)) (marks-pop ma d (omega arith)) (cells-pop ca d (omega arith)) x.shape) in
          record {
            go = record {
              short = x.go.short;
              low = x.go.low;
              ns = ns;
              pre = x.go.pre ++ (end i ∷ []);
              count = x.go.count;
              array = x.go.array;
              deep = omega arith;
              few = omega arith;
              skip = skipping-end x.go.skip lo hi q l;
              blames = blames-on x.go (end i) (slice_from (d - 1) (lex_at u (i + 1)).toks) k w refl;
              walkeds = walkeds-on x.go (end i) (slice_from (d - 1) (lex_at u (i + 1)).toks) k w;
              shallow = shallow-end d i (slice_from (d - 1) (lex_at u (i + 1)).toks) l (subst (Shallow d) k x.go.shallow);
              line = subst⁻¹ (λ (z : ℕ). Line base ns z (stack_of a (d - 1))) ec (line-shut (subst (Line base ns cur) (stack-pop a d h0) x.go.line));
              some = λ z. absurd (false≢true z);
            };
            shape = subst (λ (z : ℕ). Shaped base ds z f2 c2 (stack_of a (d - 1)) (fresh_of ma (d - 1)) (cells_of ca (d - 1)) brackets) (sym ec)
                (subst (λ (z : Bool). Shaped base ds (get_or a (d - 1) 0) z c2 (stack_of a (d - 1)) (fresh_of ma (d - 1)) (cells_of ca (d - 1)) brackets) (sym em)
                (subst (λ (z : Chain). Shaped base ds (get_or a (d - 1) 0) (get_or ma (d - 1) false) z (stack_of a (d - 1)) (fresh_of ma (d - 1)) (cells_of ca (d - 1)) brackets) (sym (ef ∙ ap (ended_by f c) ee)) s));
            marked = x.marked;
            kept = x.kept;
            sums = summed-on x.sums (omega (arith, lo));
          }
