-- A text has no more tokens than bytes. Assumes nothing.
use Rattle.lists.proofs.Prelude.{ℕ, zero, suc, ◌+◌, ◌-◌, ◌≤◌, ◌<◌, sym, subst, List, arith, length}
use Rattle.lexer.specs.Token.{Lexed, lex_at}
use Rattle.lexer.specs.Step.{next_at, step_on}
use Rattle.lexer.specs.declared.Step.{Step}
use Rattle.lexer.specs.declared.Step.TheVariants.{Start, End, Node, Property, Refused, Done}
use Rattle.lexer_laws.proofs.Join.{lex-next}
use Rattle.lexer.proofs.Within.{Within, next-within}

module _ (u : List ℕ) where
  abbrev Few : ℕ → Type 0
  Few i = length (lex_at u i).toks ≤ length u - i

  -- one token more
  few-step : (i : ℕ) (x : Step) → Within u i x → ((j : ℕ) → i < j → j ≤ length u → Few j) → length (step_on u x).toks ≤ length u - i
  few-step i (Start j) w ih = omega (arith, ih (j + 1) (omega arith) (omega arith))
  few-step i (End j) w ih = omega (arith, ih (j + 1) (omega arith) (omega arith))
  few-step i (Node j) w ih = omega (arith, ih (j + 1) (omega arith) (omega arith))
  few-step i (Property j k e) w ih = omega (arith, ih e (omega arith) (omega arith))
  few-step i (Refused f j) w ih = omega arith
  few-step i Done w ih = omega arith

  few-from : (n i : ℕ) → length u - i < n → Few i
  few-from zero i h = absurd (omega arith)
  few-from (suc n) i h =
      subst (λ (l : Lexed). length l.toks ≤ length u - i) (sym (lex-next u i))
      (few-step i (next_at u i) (next-within u i) (λ j a b. few-from n j (omega arith)))

  pub tokens-few : (i : ℕ) → length (lex_at u i).toks ≤ length u
  tokens-few i = omega (arith, few-from (suc (length u)) i (omega arith))
