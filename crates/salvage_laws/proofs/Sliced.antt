-- The slices and the tokens behind them are all tokens. Assumes nothing.
use Rattle.lists.proofs.Prelude.{◌≡◌, refl, sym, ap, ◌∙◌, ℕ, zero, suc, ◌+◌, List, [], ◌∷◌, ◌++◌, append_assoc, length, length-append, drop, drop-append-add}
use Rattle.lexer.specs.Token.{Tok, start, end, node, prop}
use Rattle.parser.specs.LocalsSlice.{slice_from, rest_from, first_slices}
use Rattle.why_blame.specs.Cuts.{sliced_tokens}

slice-both : (d : ℕ) (ts : List Tok) → slice_from d ts ++ rest_from d ts ≡ ts
unfolding slice_from rest_from
slice-both d [] = refl
slice-both d (start o ∷ ts) = ap (λ (z : List Tok). start o ∷ z) (slice-both (suc d) ts)
slice-both zero (end o ∷ ts) = refl
slice-both (suc zero) (end o ∷ ts) = refl
slice-both (suc (suc d)) (end o ∷ ts) = ap (λ (z : List Tok). end o ∷ z) (slice-both (suc d) ts)
slice-both d (node o ∷ ts) = ap (λ (z : List Tok). node o ∷ z) (slice-both d ts)
slice-both d (prop p e ∷ ts) = ap (λ (z : List Tok). prop p e ∷ z) (slice-both d ts)

-- the slices and what is left
pub sliced-both : (n : ℕ) (us : List Tok) → sliced_tokens (first_slices n us) ++ drop (length (sliced_tokens (first_slices n us))) us ≡ us
unfolding first_slices
sliced-both zero us = refl
sliced-both (suc n) us =
    let S : List Tok = slice_from 0 us in
    let R : List Tok = rest_from 0 us in
    let Y : List Tok = sliced_tokens (first_slices n R) in
    let d : drop (length (S ++ Y)) us ≡ drop (length Y) R =
    ap (λ (k : ℕ). drop k us) (length-append S Y) ∙ ap (λ (z : List Tok). drop (length S + length Y) z) (sym (slice-both 0 us)) ∙ drop-append-add S R (length Y) in
    ap (λ (z : List Tok). (S ++ Y) ++ z) d ∙ append_assoc S Y (drop (length Y) R) ∙ ap (λ (z : List Tok). S ++ z) (sliced-both n R) ∙ slice-both 0 us

pub none-sliced : (n : ℕ) → sliced_tokens (first_slices n []) ≡ []
unfolding first_slices slice_from rest_from
none-sliced zero = refl
none-sliced (suc n) = none-sliced n
