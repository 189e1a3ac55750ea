-- A turn of the walk at a start, an end, a node. Assumes nothing.
use Rattle.lists.proofs.Prelude.{ℕ, suc, ◌+◌, ◌-◌, ◌*◌, ◌≤◌, ◌<◌, ◌≡◌, refl, sym, ap, ◌∙◌, subst, subst⁻¹, Bool, true, false, false≢true, List, [], ◌∷◌, reverse, reverse-cons, arith, add-one, length, get_or, set, length-set, leb, le-leb, lt-leb, pick}
use Rattle.lists.specs.Put.{PutWhole}
use Rattle.lexer.specs.Token.{start, lex_at}
use Rattle.lexer.specs.Step.{head_at}
use Rattle.lexer.specs.declared.Head.TheVariants.{Start, End, Node}
use Rattle.tables.specs.Numbers.{none, depth_limit}
use Rattle.tables.specs.Record.{Node as Noded}
use Rattle.tables.specs.declared.Reason.TheVariants.{UnexpectedGameTreeStart, UnexpectedGameTreeEnd, TooDeep}
use Rattle.tables.specs.Columns.{node_stride}
use Rattle.parser.specs.Walk.{Walk, walk, stopped, refuse, closes}
use Rattle.parser.specs.LocalsSlice.{slice_from}
use Rattle.parser_tree.specs.LocalsTree.{met_in, Run, limited, run_on, runs}
use Rattle.parser_step.specs.LocalsActs.{stack_of, may_open}
use Rattle.parser_tree.specs.LocalsTurns.{shut_at, state_after_end, noded}
use Rattle.parser_step.specs.declared.State.{State}
use Rattle.parser_tree.proofs.Laid.{Laid, laid-node}
use Rattle.parser_step.proofs.Stacks.{stack-none, stack-pop}
use Rattle.parser_tree.proofs.Stacks.{stack_push, stack-length}
use Rattle.parser_tree.proofs.Lines.{Line, line-open, line-shut, line-node, line-may}
use Rattle.parser_tree.proofs.Behind.{slice-last, slice-end, skipping-start, skipping-end, skipping-node}
use Rattle.parser_tree.proofs.Meets.{head_meets, head-lies}
use Rattle.parser_tree.proofs.Walking.{Walking, held_run, count, Whole, onto-lex, refuse-stays, stop-stays}

module _ {len : Bool} {u : List ℕ} {from base p0 v0 : ℕ} {t₀ q₀ w₀ t q w a : List ℕ} {st : State} (x : Walking len u from base p0 v0 t₀ q₀ w₀ t q w a st) {i : ℕ} where
  -- ---- a start

  module _ (g : head_at u st.at ≡ Start i) {b : Bool} (m : b ≡ may_open base st.nodes (stack_of a st.depth)) where
    -- the run behind it, by the walk
    Behind : Walk → Run
    Behind z = runs len base (run_on (held_run st a x.ns) (limited (start i) z)) (slice_from (suc st.depth) (met_in len u (lex_at u (i + 1))))

    opened : Whole x ≡ Behind (pick b (walk st.cur (st.cur ∷ stack_of a st.depth) false x.ns) (refuse len UnexpectedGameTreeStart x.ns))
    unfolding slice_from Behind
    opened =
        onto-lex x (head_meets u st.at g)
        ∙ ap Behind
        (line-may len x.line
        ∙ ap (λ (z : Bool). pick z (walk st.cur (st.cur ∷ stack_of a st.depth) false x.ns) (refuse len UnexpectedGameTreeStart x.ns))
        (ap (λ (z : ℕ). may_open base z (stack_of a st.depth)) (sym (count x)) ∙ sym m))

    refused-behind : (l : Bool) → len ≡ l → Behind (refuse len UnexpectedGameTreeStart x.ns) ≡ record { nodes = x.ns; walk = refuse len UnexpectedGameTreeStart x.ns }
    unfolding Behind
    refused-behind l h = ap (λ (z : Run). runs len base z (slice_from (suc st.depth) (met_in len u (lex_at u (i + 1))))) (go len) ∙ refuse-stays len base UnexpectedGameTreeStart x.ns (slice_from (suc st.depth) (met_in len u (lex_at u (i + 1))))
      where
        go : (l : Bool) → run_on (held_run st a x.ns) (limited (start i) (refuse l UnexpectedGameTreeStart x.ns)) ≡ record { nodes = x.ns; walk = refuse l UnexpectedGameTreeStart x.ns }
        go true = refl
        go false = refl

    pub start-stops : b ≡ false → Whole x ≡ record { nodes = x.ns; walk = refuse len UnexpectedGameTreeStart x.ns }
    start-stops f =
        opened
        ∙ ap (λ (z : Bool). Behind (pick z (walk st.cur (st.cur ∷ stack_of a st.depth) false x.ns) (refuse len UnexpectedGameTreeStart x.ns))) f
        ∙ refused-behind len refl

    -- by the limit of depth
    through : b ≡ true → {c : Bool} → leb (length (st.cur ∷ stack_of a st.depth)) depth_limit ≡ c
        → Whole x ≡ runs len base (run_on (held_run st a x.ns) (pick c (walk st.cur (st.cur ∷ stack_of a st.depth) false x.ns) (stopped TooDeep))) (slice_from (suc st.depth) (met_in len u (lex_at u (i + 1))))
    unfolding Behind
    through f e =
        opened
        ∙ ap (λ (z : Bool). Behind (pick z (walk st.cur (st.cur ∷ stack_of a st.depth) false x.ns) (refuse len UnexpectedGameTreeStart x.ns))) f
        ∙ ap (λ (z : Bool). runs len base (run_on (held_run st a x.ns) (pick z (walk st.cur (st.cur ∷ stack_of a st.depth) false x.ns) (stopped TooDeep))) (slice_from (suc st.depth) (met_in len u (lex_at u (i + 1))))) e

    pub start-deep : b ≡ true → st.depth ≡ depth_limit → Whole x ≡ record { nodes = x.ns; walk = stopped TooDeep }
    start-deep f h =
        let l = stack-length a st.depth in
        through f (lt-leb (length (st.cur ∷ stack_of a st.depth)) depth_limit (omega arith)) ∙ stop-stays len base TooDeep x.ns (slice_from (suc st.depth) (met_in len u (lex_at u (i + 1))))

    pub walking_start : b ≡ true → st.depth < depth_limit → {a' : List ℕ} → a' ≡ set a st.depth st.cur → {y : State} → y ≡ shut_at st (i + 1) (st.depth + 1) → Walking len u from base p0 v0 t₀ q₀ w₀ t q w a' y
    walking_start f d {a'} ea ey =
        let ar = x.array in
        let b = head-lies u st.at g in
        let l = stack-length a st.depth in
        let fe = x.node-bound in
        let li = x.prop-bound in
        let sm = x.val-bound in
        let s : stack_of a' (st.depth + 1) ≡ st.cur ∷ stack_of a st.depth = ap (λ (z : List ℕ). stack_of z (st.depth + 1)) ea ∙ stack_push a st.depth st.cur (omega arith) in
        subst⁻¹ (Walking len u from base p0 v0 t₀ q₀ w₀ t q w a') ey
        record {
          ready = x.ready;
          ns = x.ns;
          array = ap length ea ∙ length-set a st.depth st.cur ∙ x.array;
          deep = omega arith;
          node-bound = omega arith;
          prop-bound = omega arith;
          val-bound = omega arith;
          stored = x.stored;
          skip = skipping-start x.skip b.0 b.1 (head_meets u st.at g);
          same =
              through f (le-leb (length (st.cur ∷ stack_of a st.depth)) depth_limit (omega arith))
              ∙ ap (λ (z : List ℕ). runs len base (record { nodes = x.ns; walk = walk st.cur z false x.ns }) (slice_from (suc st.depth) (met_in len u (lex_at u (i + 1))))) (sym s)
              ∙ ap (λ (z : ℕ). runs len base (record { nodes = x.ns; walk = walk st.cur (stack_of a' (st.depth + 1)) false x.ns }) (slice_from z (met_in len u (lex_at u (i + 1))))) (sym (add-one st.depth));
          last = λ y. absurd (false≢true y);
          line = subst (λ (z : List ℕ). Line base x.ns st.cur z) (sym s) (line-open x.line);
        }

  -- ---- an end

  module _ (g : head_at u st.at ≡ End i) where
    last-token : st.depth ≤ 1 → Whole x ≡ run_on (held_run st a x.ns) (closes len st.cur (stack_of a st.depth) x.ns)
    last-token h = onto-lex x (head_meets u st.at g) ∙ ap (runs len base (held_run st a x.ns)) (slice-last st.depth i (met_in len u (lex_at u (i + 1))) h)

    pub end-stops : st.depth ≡ 0 → Whole x ≡ record { nodes = x.ns; walk = refuse len UnexpectedGameTreeEnd x.ns }
    end-stops h = last-token (omega arith) ∙ ap (λ (z : List ℕ). run_on (held_run st a x.ns) (closes len st.cur z x.ns)) (stack-none a st.depth h) ∙ go len
      where
        go : (l : Bool) → run_on (held_run st a x.ns) (refuse l UnexpectedGameTreeEnd x.ns) ≡ record { nodes = x.ns; walk = refuse l UnexpectedGameTreeEnd x.ns }
        go true = refl
        go false = refl

    popped : (st.depth ≡ 0 → ⊥) → closes len st.cur (stack_of a st.depth) x.ns ≡ walk (get_or a (st.depth - 1) 0) (stack_of a (st.depth - 1)) false x.ns
    popped h = ap (λ (z : List ℕ). closes len st.cur z x.ns) (stack-pop a st.depth h)

    pub end-last : st.depth ≡ 1 → Whole x ≡ record { nodes = x.ns; walk = walk (get_or a (st.depth - 1) 0) (stack_of a (st.depth - 1)) false x.ns }
    end-last h = last-token (omega arith) ∙ ap (run_on (held_run st a x.ns)) (popped (λ z. omega arith))

    pub walking-end : 1 < st.depth → {y : State} → y ≡ state_after_end st i a → Walking len u from base p0 v0 t₀ q₀ w₀ t q w a y
    walking-end h ey =
        let b = head-lies u st.at g in
        let d = x.deep in
        let fe = x.node-bound in
        let li = x.prop-bound in
        let sm = x.val-bound in
        subst⁻¹ (Walking len u from base p0 v0 t₀ q₀ w₀ t q w a) ey
        record {
          ready = x.ready;
          ns = x.ns;
          array = x.array;
          deep = omega arith;
          node-bound = omega arith;
          prop-bound = omega arith;
          val-bound = omega arith;
          stored = x.stored;
          skip = skipping-end x.skip b.0 b.1 (head_meets u st.at g) h;
          same =
              onto-lex x (head_meets u st.at g)
              ∙ ap (runs len base (held_run st a x.ns)) (slice-end st.depth i (met_in len u (lex_at u (i + 1))) h)
              ∙ ap (λ (z : Walk). runs len base (run_on (held_run st a x.ns) z) (slice_from (st.depth - 1) (met_in len u (lex_at u (i + 1))))) (popped (λ z. omega arith));
          last = λ z. absurd (false≢true z);
          line = line-shut (subst (Line base x.ns st.cur) (stack-pop a st.depth (λ z. omega arith)) x.line);
        }

  -- ---- a node

  pub walking-node : head_at u st.at ≡ Node i → {t' : List ℕ} → PutWhole t (st.nodes * node_stride) (st.cur ∷ none ∷ none ∷ st.props ∷ 0 ∷ 0 ∷ []) t'
      → {y : State} → y ≡ noded st i → Walking len u from base p0 v0 t₀ q₀ w₀ t' q w a y
  unfolding slice_from
  walking-node g {t'} pu ey =
      let b = head-lies u st.at g in
      let fe = x.node-bound in
      let li = x.prop-bound in
      let sm = x.val-bound in
      let co = count x in
      let rd = x.ready in
      let sk = x.skip in
      subst⁻¹ (Walking len u from base p0 v0 t₀ q₀ w₀ t' q w a) ey
      record {
        ready = x.ready;
        ns = record { parent = st.cur; props = [] } ∷ x.ns;
        array = x.array;
        deep = x.deep;
        node-bound = omega arith;
        prop-bound = omega arith;
        val-bound = omega arith;
        stored =
            subst⁻¹ (λ (z : List Noded). Laid base p0 v0 z t₀ q₀ w₀ t' q w (st.nodes + 1) st.props st.vals) (reverse-cons (record { parent = st.cur; props = [] }) x.ns)
            (laid-node (reverse x.ns) x.stored st.cur pu);
        skip = skipping-node x.skip b.0 b.1 (head_meets u st.at g);
        same =
            onto-lex x (head_meets u st.at g)
            ∙ ap (λ (z : ℕ). runs len base (record { nodes = record { parent = st.cur; props = [] } ∷ x.ns; walk = walk z (stack_of a st.depth) true (record { parent = st.cur; props = [] } ∷ x.ns) }) (slice_from st.depth (met_in len u (lex_at u (i + 1))))) (sym co);
        last = λ z. record { top = record { parent = st.cur; props = [] }; below = x.ns; is = refl; at = x.stored.props };
        line = subst⁻¹ (λ (z : ℕ). Line base (record { parent = st.cur; props = [] } ∷ x.ns) z (stack_of a st.depth)) co (line-node (omega arith) x.line);
      }
