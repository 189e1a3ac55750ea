-- A turn of the walk at a property: added, or the tree stops. Assumes nothing.
use Rattle.lists.proofs.Prelude.{ℕ, ◌+◌, ◌≤◌, ◌<◌, ◌≡◌, refl, sym, ap, ◌∙◌, subst, subst⁻¹, Bool, true, false, List, [], ◌∷◌, ◌++◌, reverse, reverse-cons, arith, length}
use Rattle.lexer.specs.Token.{lex_at}
use Rattle.lexer_scan.specs.Scan.{values_end_at}
use Rattle.lexer.specs.Step.{vals_at, prop_at, head_at}
use Rattle.lexer.specs.declared.Head.TheVariants.{Name}
use Rattle.tables.specs.Record.{Node}
use Rattle.tables.specs.declared.Reason.{Reason}
use Rattle.tables.specs.declared.Reason.TheVariants.{UnexpectedProperty}
use Rattle.parser.specs.Walk.{Walk, walk, refuse, adds, gated}
use Rattle.parser.specs.LocalsSlice.{slice_from}
use Rattle.parser_tree.specs.LocalsTree.{met_in, Run, run_on, runs}
use Rattle.parser_step.specs.LocalsActs.{stack_of, unclosed}
use Rattle.parser_tree.specs.LocalsTurns.{added, end_or, AddIs}
use Rattle.parser_step.specs.declared.State.{State}
use Rattle.parser_tree.proofs.Laid.{Laid, laid-prop}
use Rattle.parser_tree.proofs.Lines.{Line, line-prop}
use Rattle.parser_tree.proofs.Meets.{head-lies}
use Rattle.parser_tree.proofs.Faults.{property-met, property-lies, skipping-property}
use Rattle.parser_tree.proofs.Walking.{Walking, Last, held_run, Whole, onto, refuse-stays}

module _ {len : Bool} {u : List ℕ} {from base p0 v0 : ℕ} {t₀ q₀ w₀ t q w a : List ℕ} {st : State} (x : Walking len u from base p0 v0 t₀ q₀ w₀ t q w a st) (i k : ℕ)
    (g : head_at u st.at ≡ Name i k) (c : unclosed len (values_end_at u k) ≡ false) where
  module _ {e : ℕ} (h : e ≡ end_or (length u) (values_end_at u k)) where
    -- the run behind the property
    Behind : Walk → Run
    Behind z = runs len base (run_on (held_run st a x.ns) z) (slice_from st.depth (met_in len u (lex_at u e)))

    reaches : {y : Bool} → st.follows ≡ y → Whole x ≡ Behind (gated len y (prop_at u i k) st.cur (stack_of a st.depth) x.ns)
    unfolding slice_from Behind
    reaches y = onto x (property-met u st.at i k g len c h) ∙ ap (λ (z : Bool). Behind (gated len z (prop_at u i k) st.cur (stack_of a st.depth) x.ns)) y

    stays : (r : Reason) → Behind (refuse len r x.ns) ≡ record { nodes = x.ns; walk = refuse len r x.ns }
    unfolding Behind
    stays r = ap (λ (z : Run). runs len base z (slice_from st.depth (met_in len u (lex_at u e)))) (go len) ∙ refuse-stays len base r x.ns (slice_from st.depth (met_in len u (lex_at u e)))
      where
        go : (l : Bool) → run_on (held_run st a x.ns) (refuse l r x.ns) ≡ record { nodes = x.ns; walk = refuse l r x.ns }
        go true = refl
        go false = refl

    walking-add : st.follows ≡ true → {r : State} {t' q' w' : List ℕ} → AddIs u st i k t q w r t' q' w' → r.at ≡ e → Walking len u from base p0 v0 t₀ q₀ w₀ t' q' w' a (added st e (length (vals_at u k)))
    unfolding Behind prop_at
    walking-add f {r} {t'} {q'} {w'} y re = go (x.last f)
      where
        go : Last x.ns p0 st.first → Walking len u from base p0 v0 t₀ q₀ w₀ t' q' w' a (added st e (length (vals_at u k)))
        go z =
            let b = head-lies u st.at g in
            let o = property-lies u st.at i k g len h in
            let fe = x.node-bound in
            let li = x.prop-bound in
            let sm = x.val-bound in
            let lo = y.low in
            let rv : r.vals ≡ st.vals + length (vals_at u k) = ap (λ (s : State). s.vals) y.is in
            record {
              ready = x.ready;
              ns = record { parent = z.top.parent; props = z.top.props ++ (prop_at u i k ∷ []) } ∷ z.below;
              array = x.array;
              deep = x.deep;
              node-bound = omega arith;
              prop-bound = omega arith;
              val-bound = omega arith;
              stored =
                  subst⁻¹ (λ (l : List Node). Laid base p0 v0 l t₀ q₀ w₀ t' q' w' st.nodes (st.props + 1) (st.vals + length (vals_at u k))) (reverse-cons (record { parent = z.top.parent; props = z.top.props ++ (prop_at u i k ∷ []) }) z.below)
                  (laid-prop (reverse z.below) z.top
                  (subst (λ (l : List Node). Laid base p0 v0 l t₀ q₀ w₀ t q w st.nodes st.props st.vals) (ap reverse z.is ∙ reverse-cons z.top z.below) x.stored)
                  (prop_at u i k) z.at y.props y.vals y.nodes);
              skip = skipping-property u st.at i k g len c x.skip h;
              same =
                  reaches f
                  ∙ ap (λ (l : List Node). Behind (adds len (prop_at u i k) st.cur (stack_of a st.depth) l)) z.is
                  ∙ ap (λ (y : Bool). Behind (walk st.cur (stack_of a st.depth) y (record { parent = z.top.parent; props = z.top.props ++ (prop_at u i k ∷ []) } ∷ z.below))) (sym f);
              last = λ c. record { top = record { parent = z.top.parent; props = z.top.props ++ (prop_at u i k ∷ []) }; below = z.below; is = refl; at = z.at };
              line = line-prop (z.top.props ++ (prop_at u i k ∷ [])) (subst (λ (l : List Node). Line base l st.cur (stack_of a st.depth)) z.is x.line);
            }

  pub walking-added : st.follows ≡ true → {y : State} {t' q' w' : List ℕ} → AddIs u st i k t q w y t' q' w' → Walking len u from base p0 v0 t₀ q₀ w₀ t' q' w' a y
  walking-added f {y} {t'} {q'} {w'} z = subst⁻¹ (λ (r : State). Walking len u from base p0 v0 t₀ q₀ w₀ t' q' w' a r) z.is (walking-add z.ends f z refl)

  -- a property moves on
  pub property-moves : {e : ℕ} → e ≡ end_or (length u) (values_end_at u k) → (st.at < e) × (e ≤ length u)
  property-moves h = property-lies u st.at i k g len h

  pub property-stops : st.follows ≡ false → Whole x ≡ record { nodes = x.ns; walk = refuse len UnexpectedProperty x.ns }
  property-stops f = reaches refl f ∙ stays refl UnexpectedProperty
