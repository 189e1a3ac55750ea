-- Splitting loses no token: each is in a slice, or in the one that is begun. Assumes nothing.
use Rattle.lists.proofs.Prelude.{◌≡◌, refl, ap, ◌∙◌, subst, subst⁻¹, ℕ, zero, suc, ◌+◌, arith, Bool, true, false, List, [], ◌∷◌, ◌++◌, reverse, reverse-cons, length, length-append, length-reverse, drop, drop-length}
use Rattle.lexer.specs.Token.{Tok, start, end, node, prop}
use Rattle.tables.specs.declared.Reason.TheVariants.{UnexpectedGameTreeEnd}
use Rattle.parser.specs.Split.{Splitting, splitting, over, wrong, split}
use Rattle.parser.proofs.Surveys.{wrong_stays, over-stays}
use Rattle.why_blame.specs.Cuts.{sliced_tokens}

-- so many tokens
abbrev pub Held : ℕ → Splitting → Type 0
Held k (splitting d m cur ss) = length (sliced_tokens ss) + length cur ≡ k
Held k (over m ss) = Unit {0}
Held k (wrong r) = Unit {0}

pub held : (len : Bool) (ts : List Tok) (d m : ℕ) (cur : List Tok) (ss : List (List Tok)) (k : ℕ) → length (sliced_tokens ss) + length cur + length ts ≡ k → Held k (split len (splitting d m cur ss) ts)
held len [] d m cur ss k e = omega arith
held len (start o ∷ ts) d m cur ss k e = held len ts (suc d) _ (start o ∷ cur) ss k (omega arith)
held true (end o ∷ ts) zero m cur ss k e = subst⁻¹ (Held k) (over-stays true m ss ts) tt
held false (end o ∷ ts) zero m cur ss k e = subst⁻¹ (Held k) (wrong_stays false UnexpectedGameTreeEnd ts) tt
held len (end o ∷ ts) (suc zero) m cur ss k e =
    held len ts zero m [] (reverse (end o ∷ cur) ∷ ss) k (omega (arith, length-append (reverse (end o ∷ cur)) (sliced_tokens ss), length-reverse (end o ∷ cur)))
held len (end o ∷ ts) (suc (suc d)) m cur ss k e = held len ts (suc d) m (end o ∷ cur) ss k (omega arith)
held len (node o ∷ ts) d m cur ss k e = held len ts d m (node o ∷ cur) ss k (omega arith)
held len (prop p q ∷ ts) d m cur ss k e = held len ts d m (prop p q ∷ cur) ss k (omega arith)

sliced-append : (xs : List (List Tok)) (s : List Tok) → length (sliced_tokens (xs ++ (s ∷ []))) ≡ length (sliced_tokens xs) + length s
sliced-append [] s = omega (arith, length-append s [])
sliced-append (x ∷ xs) s = omega (arith, length-append x (sliced_tokens (xs ++ (s ∷ []))), length-append x (sliced_tokens xs), sliced-append xs s)

pub sliced-reverse : (ss : List (List Tok)) → length (sliced_tokens (reverse ss)) ≡ length (sliced_tokens ss)
sliced-reverse [] = refl
sliced-reverse (s ∷ ss) =
    ap (λ (z : List (List Tok)). length (sliced_tokens z)) (reverse-cons s ss)
    ∙ omega (arith, sliced-append (reverse ss) s, sliced-reverse ss, length-append s (sliced_tokens ss))

-- where the last token ends a slice, none is behind
pub none-behind : (len : Bool) (ts : List Tok) {m : ℕ} {ss : List (List Tok)} → split len (splitting 0 0 [] []) ts ≡ splitting 0 m [] ss → drop (length (sliced_tokens (reverse ss))) ts ≡ []
none-behind len ts {m} {ss} e =
    let h : length (sliced_tokens ss) + 0 ≡ length ts = subst (Held (length ts)) e (held len ts 0 0 [] [] (length ts) (omega arith)) in
    let q : length (sliced_tokens (reverse ss)) ≡ length ts = omega (arith, sliced-reverse ss, h) in
    ap (λ (k : ℕ). drop k ts) q ∙ drop-length ts
