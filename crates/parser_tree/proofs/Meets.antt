-- A token that was met, and what is left behind it. Assumes nothing.
use Rattle.lists.proofs.Prelude.{ℕ, ◌≡◌, ap, ◌∙◌, subst, List}
use Rattle.lexer.specs.Token.{lex_at}
use Rattle.lexer_scan.specs.Scan.{values_end_at}
use Rattle.lexer.specs.Step.{head_at, on_values, on_head, next_at, step_on}
use Rattle.lexer.specs.declared.Head.{Head}
use Rattle.lexer.specs.declared.Head.TheVariants.{Name}
use Rattle.lexer.specs.declared.Step.{Step}
use Rattle.lexer_laws.proofs.Join.{lex-next}
use Rattle.lexer.proofs.Within.{HeadWithin, head-within, Within, next-within}
use Rattle.std.specs.Prelude.{Option}

module _ (u : List ℕ) (i : ℕ) where
  pub step-meets : {x : Step} → next_at u i ≡ x → lex_at u i ≡ step_on u x
  step-meets g = lex-next u i ∙ ap (step_on u) g

  pub step-lies : {x : Step} → next_at u i ≡ x → Within u i x
  step-lies g = subst (Within u i) g (next-within u i)

  pub head_meets : {x : Head} → head_at u i ≡ x → lex_at u i ≡ step_on u (on_head u x)
  unfolding next_at
  head_meets g = lex-next u i ∙ ap (λ (z : Head). step_on u (on_head u z)) g

  pub head-lies : {x : Head} → head_at u i ≡ x → HeadWithin u i x
  head-lies g = subst (HeadWithin u i) g (head-within u i)

  -- a property is the next token where its values close
  pub name-next : (j k : ℕ) {c : Option ℕ} → head_at u i ≡ Name j k → values_end_at u k ≡ c → next_at u i ≡ on_values j k c
  unfolding next_at
  name-next j k g h = ap (on_head u) g ∙ ap (on_values j k) h
