-- What the walk makes of what the next token asks for. Assumes nothing.
use Rattle.lists.proofs.Prelude.{ℕ, ◌≤◌, ◌≡◌, refl, sym, ◌∙◌, subst⁻¹, Bool, false, List, arith, eqb, eqb-true, eqb-false}
use Rattle.lists.proofs.Pick.{pick-elim}
use Rattle.lexer_scan.specs.Scan.{values_end_at}
use Rattle.lexer.specs.Step.{head_at}
use Rattle.lexer.specs.declared.Head.{Head}
use Rattle.lexer.specs.declared.Head.TheVariants.{Start as start, End as end, Node as node, Name as name, Refused as refused, Done as over}
use Rattle.tables.specs.Numbers.{depth_limit}
use Rattle.tables.specs.declared.Reason.TheVariants.{UnexpectedGameTreeStart, UnexpectedGameTreeEnd, UnexpectedProperty}
use Rattle.parser_step.specs.LocalsActs.{stack_of, may_open, may_start, prop_act, unclosed, end_act, head_act, next_act}
use Rattle.parser_step.proofs.Stacks.{may-within}
use Rattle.parser_step.specs.declared.State.{State}
use Rattle.parser_step.specs.declared.Act.{Act}
use Rattle.parser_tree.specs.LocalsTurns.{StopAt, OverAt, ActIs}
use Rattle.parser_tree.proofs.Walking.{Walking}

module _ (len : Bool) (u : List ℕ) (base : ℕ) (st : State) (a : List ℕ) where
  abbrev Is : Act → Type 0
  Is = ActIs len u base st a

  start_is : st.depth ≤ depth_limit → (i : ℕ) → head_at u st.at ≡ start i → Is (head_act len u base st a (start i))
  start_is d i g =
      let m : may_start base st.nodes st.depth a ≡ may_open base st.nodes (stack_of a st.depth) = may-within a st.depth base st.nodes d in
      pick-elim Is (may_start base st.nodes st.depth a) (λ t. (g, sym m ∙ t)) (λ f. subst⁻¹ (StopAt len u base st a UnexpectedGameTreeStart) g (refl, sym m ∙ f))

  end_is : (i : ℕ) → head_at u st.at ≡ end i → Is (end_act st.depth i)
  end_is i g =
      pick-elim Is (eqb st.depth 0) (λ t. subst⁻¹ (StopAt len u base st a UnexpectedGameTreeEnd) g (refl, eqb-true st.depth 0 t))
      (λ f. pick-elim Is (eqb st.depth 1) (λ t. subst⁻¹ (OverAt len u st _) g (eqb-true st.depth 1 t, refl))
      (λ h. (g, let n = eqb-false st.depth 0 f in let m = eqb-false st.depth 1 h in omega (arith, n, m))))

  -- a property that is taken
  taken_is : (i k : ℕ) → head_at u st.at ≡ name i k → unclosed len (values_end_at u k) ≡ false → Is (prop_act st i k)
  taken_is i k g c = pick-elim Is st.follows (λ t. (g, c, t)) (λ f. subst⁻¹ (StopAt len u base st a UnexpectedProperty) g (refl, c, f))

  name-is : (i k : ℕ) → head_at u st.at ≡ name i k → Is (head_act len u base st a (name i k))
  name-is i k g = pick-elim Is (unclosed len (values_end_at u k)) (λ t. subst⁻¹ (OverAt len u st _) g (t, refl)) (λ f. taken_is i k g f)

  by-head : st.depth ≤ depth_limit → (h : Head) → head_at u st.at ≡ h → Is (head_act len u base st a h)
  by-head d (start i) g = start_is d i g
  by-head d (end i) g = end_is i g
  by-head d (node i) g = g
  by-head d (name i k) g = name-is i k g
  by-head d (refused f i) g = subst⁻¹ (OverAt len u st _) g refl
  by-head d over g = subst⁻¹ (OverAt len u st _) g refl

  -- within the limit of depth
  act-is : st.depth ≤ depth_limit → {r : Act} → r ≡ next_act len u base st a → ActIs len u base st a r
  unfolding next_act
  act-is d e = subst⁻¹ Is e (by-head d (head_at u st.at) refl)

-- in the walk
pub asked : {len : Bool} {u : List ℕ} {from base p0 v0 : ℕ} {t₀ q₀ w₀ t q w a : List ℕ} {st : State} → Walking len u from base p0 v0 t₀ q₀ w₀ t q w a st
    → {r : Act} → r ≡ next_act len u base st a → ActIs len u base st a r
asked {len} {u} {from} {base} {p0} {v0} {t₀} {q₀} {w₀} {t} {q} {w} {a} {st} x e = act-is len u base st a x.deep e
