-- Numbers 3, 4 and 5: the first token from a place on that is at fault, and its start. Assumes nothing.
use Rattle.lists.proofs.Prelude.{ℕ, zero, suc, ◌<◌, ◌-◌, ◌≡◌, refl, sym, ap, ◌∙◌, subst, List, arith, length}
use Rattle.lexer.specs.Token.{Lexed, done, broken, lex_at}
use Rattle.lexer.specs.Step.{next_at, behind, step_on}
use Rattle.lists.proofs.Tests.{never}
use Rattle.lexer_laws.specs.Reach.{IsToken, Reaches, here, on}
use Rattle.lexer_laws.proofs.Join.{lex-next}
use Rattle.lexer.proofs.Within.{Within, next-within}
use Rattle.lexer.specs.declared.Fault.{Fault}
use Rattle.lexer.specs.declared.Step.{Step}
use Rattle.lexer.specs.declared.Step.TheVariants.{Start, End as end_step, Node, Property, Refused, Done}

module _ (u : List ℕ) where
  token_end : (i : ℕ) (s : Step) → IsToken s → (step_on u s).end ≡ (lex_at u (behind i s)).end
  token_end i (Start j) t = refl
  token_end i (end_step j) t = refl
  token_end i (Node j) t = refl
  token_end i (Property j k e) t = refl
  token_end i (Refused f j) t = absurd t
  token_end i Done t = absurd t

  token-forward : (i : ℕ) (s : Step) → IsToken s → Within u i s → length u - behind i s < length u - i
  token-forward i (Start j) t w = omega (arith, w.0, w.1)
  token-forward i (end_step j) t w = omega (arith, w.0, w.1)
  token-forward i (Node j) t w = omega (arith, w.0, w.1)
  token-forward i (Property j k e) t w = omega (arith, w.0, w.1, w.2, w.3)
  token-forward i (Refused f j) t w = absurd t
  token-forward i Done t w = absurd t

  -- the tokens end with a fault where a token at fault is reached
  pub fault-if : (i k : ℕ) → Reaches u i k → (f : Fault) (j : ℕ) → next_at u k ≡ Refused f j → (lex_at u i).end ≡ broken f j
  fault-if i k here f j q = ap (λ (z : Lexed). z.end) (lex-next u i ∙ ap (step_on u) q)
  fault-if i k (on t r) f j q = ap (λ (z : Lexed). z.end) (lex-next u i) ∙ token_end i (next_at u i) t ∙ fault-if (behind i (next_at u i)) k r f j q

  reached : (n i : ℕ) → length u - i < n → (f : Fault) (j : ℕ) → (lex_at u i).end ≡ broken f j → (k : ℕ) × Reaches u i k × (next_at u k ≡ Refused f j)
  reached zero i l f j q = absurd (omega arith)
  reached (suc n) i l f j q = go (next_at u i) refl (reached n)
    where
      next : (IsToken (next_at u i)) → ((x : ℕ) → length u - x < n → (g : Fault) (y : ℕ) → (lex_at u x).end ≡ broken g y → (k : ℕ) × Reaches u x k × (next_at u k ≡ Refused g y)) → (k : ℕ) × Reaches u i k × (next_at u k ≡ Refused f j)
      next t ih =
          let b = token-forward i (next_at u i) t (next-within u i) in
          let r = ih (behind i (next_at u i)) (omega arith) f j (sym (ap (λ (z : Lexed). z.end) (lex-next u i) ∙ token_end i (next_at u i) t) ∙ q) in
          (r.0, on t r.1, r.2)

      go : (s : Step) → next_at u i ≡ s → ((x : ℕ) → length u - x < n → (g : Fault) (y : ℕ) → (lex_at u x).end ≡ broken g y → (k : ℕ) × Reaches u x k × (next_at u k ≡ Refused g y)) → (k : ℕ) × Reaches u i k × (next_at u k ≡ Refused f j)
      go (Start m) e ih = next (subst IsToken (sym e) tt) ih
      go (end_step m) e ih = next (subst IsToken (sym e) tt) ih
      go (Node m) e ih = next (subst IsToken (sym e) tt) ih
      go (Property m k x) e ih = next (subst IsToken (sym e) tt) ih
      go (Refused g m) e ih =
          let z : broken g m ≡ broken f j = sym (ap (λ (x : Lexed). x.end) (lex-next u i ∙ ap (step_on u) e)) ∙ q in
          let a : g ≡ f = cc in
          let b : m ≡ j = cc in
          (i, here, e ∙ ap (λ (x : Fault). Refused x m) a ∙ ap (Refused f) b)
      go Done e ih = let z : done ≡ broken f j = sym (ap (λ (x : Lexed). x.end) (lex-next u i ∙ ap (step_on u) e)) ∙ q in never (cc)

  -- and only there
  pub fault-only : (i : ℕ) (f : Fault) (j : ℕ) → (lex_at u i).end ≡ broken f j → (k : ℕ) × Reaches u i k × (next_at u k ≡ Refused f j)
  fault-only i f j q = reached (suc (length u)) i (omega arith) f j q
