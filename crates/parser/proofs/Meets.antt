-- A token that was met, and what is left behind it. Assumes nothing.
use Rattle.lists.proofs.Prelude.{ℕ, ◌-◌, ◌≤◌, ◌<◌, ◌≡◌, refl, sym, ap, ◌∙◌, List, arith, length}
use Rattle.lexer.specs.declared.Fault.{Fault}
use Rattle.lexer.specs.declared.Step.{Step}
use Rattle.lexer.specs.declared.Step.TheVariants.{Start, End, Node, Property, Refused, Done}
use Rattle.lexer.specs.Token.{Lexed, lex_at}
use Rattle.lexer.specs.Step.{next_at, step_on, behind, SteppedIs}
use Rattle.lexer_laws.proofs.Join.{lex-next}
use Rattle.lexer.proofs.Within.{Within, found_within}

pub meets : (u : List ℕ) (i : ℕ) {r x : Step} → r ≡ next_at u i → r ≡ x → lex_at u i ≡ step_on u x
meets u i e g = lex-next u i ∙ ap (step_on u) (sym e ∙ g)

-- a token: no refusal and not the end
abbrev IsToken : Step → Type 0
IsToken x = ((f : Fault) (i : ℕ) → x ≡ Refused f i → ⊥) × (x ≡ Done → ⊥)

module _ (u : List ℕ) (at : ℕ) where
  ends-behind : (x : Step) → IsToken x → (step_on u x).end ≡ (lex_at u (behind at x)).end
  ends-behind (Start i) h = refl
  ends-behind (End i) h = refl
  ends-behind (Node i) h = refl
  ends-behind (Property i k e) h = refl
  ends-behind (Refused f i) h = absurd (h.0 f i refl)
  ends-behind Done h = absurd (h.1 refl)

  lies-behind : (x : Step) → IsToken x → Within u at x → (at < behind at x) × (behind at x ≤ length u)
  lies-behind (Start i) h w = (omega (arith, w.0), omega (arith, w.1))
  lies-behind (End i) h w = (omega (arith, w.0), omega (arith, w.1))
  lies-behind (Node i) h w = (omega (arith, w.0), omega (arith, w.1))
  lies-behind (Property i k e) h w = (omega (arith, w.0, w.1, w.3), w.4)
  lies-behind (Refused f i) h w = absurd (h.0 f i refl)
  lies-behind Done h w = absurd (h.1 refl)

  module _ {x : Step} {n : ℕ} (s : SteppedIs u at x n) (h : IsToken x) where
    next-behind : n ≡ behind at x
    next-behind = s.next-is ∙ ap (behind at) (sym s.token-is)

    pub steps-end : (lex_at u at).end ≡ (lex_at u n).end
    steps-end = ap (λ (z : Lexed). z.end) (meets u at s.token-is refl) ∙ ends-behind x h ∙ ap (λ (m : ℕ). (lex_at u m).end) (sym next-behind)

    pub steps_on : length u - n < length u - at
    steps_on =
        let l = lies-behind x h (found_within u at x x s.token-is refl) in
        let e = next-behind in
        omega (arith, l.0, l.1)
