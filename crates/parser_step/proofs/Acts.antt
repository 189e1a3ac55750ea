-- What a token asks for, by the tests that the code makes. Assumes nothing.
use Rattle.lists.proofs.Prelude.{ℕ, ◌+◌, ◌≡◌, sym, ap, ◌∙◌, Bool, false, List, eqb, eq-eqb, ne_eqb, pick}
use Rattle.lexer_scan.specs.Scan.{values_end_at}
use Rattle.lexer.specs.Step.{head_at}
use Rattle.lexer.specs.declared.Head.{Head}
use Rattle.lexer.specs.declared.Head.TheVariants.{Start as start, End as end, Name as name}
use Rattle.tables.specs.declared.Reason.TheVariants.{UnexpectedGameTreeStart, UnexpectedGameTreeEnd, UnexpectedProperty}
use Rattle.parser_step.specs.LocalsActs.{may_start, prop_act, unclosed, head_act, next_act}
use Rattle.parser_step.specs.declared.State.{State}
use Rattle.parser_step.specs.declared.Act.TheVariants.{Start, End, Add, Stop, Over}

module _ (len : Bool) (u : List ℕ) (base : ℕ) (st : State) (a : List ℕ) where
  -- by how it begins
  pub asks-by : {h : Head} → head_at u st.at ≡ h → head_act len u base st a h ≡ next_act len u base st a
  unfolding next_act
  asks-by g = sym (ap (head_act len u base st a) g)

  -- a start, by whether it may be
  pub asks-start : {i : ℕ} → head_at u st.at ≡ start i → {b o : Bool} → b ≡ may_start base st.nodes st.depth a → b ≡ o → pick o (Start i) (Stop UnexpectedGameTreeStart) ≡ next_act len u base st a
  asks-start {i} g m e = ap (λ (z : Bool). pick z (Start i) (Stop UnexpectedGameTreeStart)) (sym e ∙ m) ∙ asks-by g

  -- an end, by how many trees are open
  module _ {i : ℕ} (g : head_at u st.at ≡ end i) where
    pub asks_none : st.depth ≡ 0 → Stop UnexpectedGameTreeEnd ≡ next_act len u base st a
    asks_none e = sym (ap (λ (z : Bool). pick z (Stop UnexpectedGameTreeEnd) (pick (eqb st.depth 1) (Over (i + 1)) (End i))) (eq-eqb st.depth 0 e)) ∙ asks-by g

    opened : (st.depth ≡ 0 → ⊥) → {o : Bool} → eqb st.depth 1 ≡ o → pick o (Over (i + 1)) (End i) ≡ next_act len u base st a
    opened n q =
        sym (ap (λ (z : Bool). pick z (Stop UnexpectedGameTreeEnd) (pick (eqb st.depth 1) (Over (i + 1)) (End i))) (ne_eqb st.depth 0 n) ∙ ap (λ (z : Bool). pick z (Over (i + 1)) (End i)) q) ∙ asks-by g

    pub asks-last : (st.depth ≡ 0 → ⊥) → st.depth ≡ 1 → Over (i + 1) ≡ next_act len u base st a
    asks-last n e = opened n (eq-eqb st.depth 1 e)

    pub asks-end : (st.depth ≡ 0 → ⊥) → (st.depth ≡ 1 → ⊥) → End i ≡ next_act len u base st a
    asks-end n e = opened n (ne_eqb st.depth 1 e)

  -- a property, by whether a value of it is found not to close
  pub asks-name : {i k : ℕ} → head_at u st.at ≡ name i k → {b o : Bool} → b ≡ unclosed len (values_end_at u k) → b ≡ o → pick o (Over st.at) (prop_act st i k) ≡ next_act len u base st a
  asks-name {i} {k} g m e = ap (λ (z : Bool). pick z (Over st.at) (prop_act st i k)) (sym e ∙ m) ∙ asks-by g

  -- by whether it may follow
  pub asks-follows : {i k : ℕ} → head_at u st.at ≡ name i k → {b o : Bool} → b ≡ unclosed len (values_end_at u k) → b ≡ false → st.follows ≡ o → pick o (Add i k) (Stop UnexpectedProperty) ≡ next_act len u base st a
  asks-follows {i} {k} g m e f = sym (ap (λ (z : Bool). pick z (Add i k) (Stop UnexpectedProperty)) f) ∙ asks-name g m e
