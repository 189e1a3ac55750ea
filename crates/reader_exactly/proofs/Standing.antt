-- The slices that splitting stands with are those of the scope's words: strict and lenient alike. Assumes nothing.
use Rattle.lists.proofs.Prelude.{ℕ, zero, suc, max, ◌≡◌, refl, sym, ap, ◌∙◌, subst, Bool, true, false, List, [], ◌∷◌, ◌++◌, append_assoc, append-nil, reverse, reverse-cons}
use Rattle.lexer.specs.Token.{Tok, start, end, node, prop}
use Rattle.tables.specs.declared.Reason.TheVariants.{UnexpectedGameTreeEnd}
use Rattle.parser.specs.Split.{Splitting, splitting, split}
use Rattle.parser.proofs.Surveys.{wrong_stays, over-stays}
use Rattle.parser.proofs.Cuts.{standing, Right, shift}
use Rattle.reader_exactly.specs.Slicing.{onto, slices_from}

-- tokens before the first slice
abbrev joined : List Tok → List (List Tok) → List (List Tok)
joined c [] = []
joined c (s ∷ ss) = (c ++ s) ∷ ss

joined-onto : (t : Tok) (cur : List Tok) (ss : List (List Tok)) → joined (reverse (t ∷ cur)) ss ≡ joined (reverse cur) (onto t ss)
joined-onto t cur [] = refl
joined-onto t cur (s ∷ ss) = ap (λ (z : List Tok). z ∷ ss) (shift t cur s)

joined-none : (ss : List (List Tok)) → joined [] ss ≡ ss
joined-none [] = refl
joined-none (s ∷ ss) = refl

-- what stands after the tokens
abbrev Stand : List Tok → List (List Tok) → List (List Tok) → Splitting → Type 0
Stand cur ss us x = reverse (standing x) ≡ reverse ss ++ joined (reverse cur) us

stand-on : (t : Tok) (cur : List Tok) (ss us : List (List Tok)) (x : Splitting) → Stand (t ∷ cur) ss us x → Stand cur ss (onto t us) x
stand-on t cur ss us x h = h ∙ ap (λ (z : List (List Tok)). reverse ss ++ z) (joined-onto t cur us)

stand-slice : (o : ℕ) (cur : List Tok) (ss us : List (List Tok)) (x : Splitting) → Stand [] (reverse (end o ∷ cur) ∷ ss) us x → Stand cur ss ((end o ∷ []) ∷ us) x
stand-slice o cur ss us x h =
    h
    ∙ ap (λ (z : List (List Tok)). reverse (reverse (end o ∷ cur) ∷ ss) ++ z) (joined-none us)
    ∙ ap (λ (z : List (List Tok)). z ++ us) (reverse-cons (reverse (end o ∷ cur)) ss)
    ∙ append_assoc (reverse ss) (reverse (end o ∷ cur) ∷ []) us
    ∙ ap (λ (z : List Tok). reverse ss ++ (z ∷ us)) (reverse-cons (end o) cur)

slices-stand : (len : Bool) (ts : List Tok) (d m : ℕ) (cur : List Tok) (ss : List (List Tok)) → Right (split len (splitting d m cur ss) ts)
    → Stand cur ss (slices_from d ts) (split len (splitting d m cur ss) ts)
unfolding slices_from
slices-stand len [] zero m cur ss h = sym (append-nil (reverse ss))
slices-stand len [] (suc d) m cur ss h = reverse-cons (reverse cur) ss ∙ ap (λ (z : List Tok). reverse ss ++ (z ∷ [])) (sym (append-nil (reverse cur)))
slices-stand len (start o ∷ ts) d m cur ss h =
    stand-on (start o) cur ss (slices_from (suc d) ts) (split len (splitting (suc d) (max m (suc d)) (start o ∷ cur) ss) ts)
    (slices-stand len ts (suc d) (max m (suc d)) (start o ∷ cur) ss h)
slices-stand true (end o ∷ ts) zero m cur ss h = ap (λ (x : Splitting). reverse (standing x)) (over-stays true m ss ts) ∙ sym (append-nil (reverse ss))
slices-stand false (end o ∷ ts) zero m cur ss h = absurd (subst Right (wrong_stays false UnexpectedGameTreeEnd ts) h)
slices-stand len (end o ∷ ts) (suc zero) m cur ss h =
    stand-slice o cur ss (slices_from 0 ts) (split len (splitting 0 m [] (reverse (end o ∷ cur) ∷ ss)) ts) (slices-stand len ts 0 m [] (reverse (end o ∷ cur) ∷ ss) h)
slices-stand len (end o ∷ ts) (suc (suc d)) m cur ss h =
    stand-on (end o) cur ss (slices_from (suc d) ts) (split len (splitting (suc d) m (end o ∷ cur) ss) ts) (slices-stand len ts (suc d) m (end o ∷ cur) ss h)
slices-stand len (node o ∷ ts) d m cur ss h =
    stand-on (node o) cur ss (slices_from d ts) (split len (splitting d m (node o ∷ cur) ss) ts) (slices-stand len ts d m (node o ∷ cur) ss h)
slices-stand len (prop p e ∷ ts) d m cur ss h =
    stand-on (prop p e) cur ss (slices_from d ts) (split len (splitting d m (prop p e ∷ cur) ss) ts) (slices-stand len ts d m (prop p e ∷ cur) ss h)

pub slices-are : (len : Bool) (ts : List Tok) → Right (split len (splitting 0 0 [] []) ts) → reverse (standing (split len (splitting 0 0 [] []) ts)) ≡ slices_from 0 ts
slices-are len ts h = slices-stand len ts 0 0 [] [] h ∙ joined-none (slices_from 0 ts)
