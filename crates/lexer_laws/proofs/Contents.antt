-- What a token says is what stands at its places: an identifier and a value are the bytes between their places. Assumes nothing.
use Rattle.lists.proofs.Prelude.{◌≡◌, sym, ap, ◌∙◌, ℕ, suc, ◌≤◌, arith, List, [], ◌∷◌, ◌++◌, take, drop, slice, slice_empty}
use Rattle.lists.specs.All.{All}
use Rattle.lists.proofs.All.{all_append}
use Rattle.lists.proofs.Places.{at_place, slice_snoc, part-begins}
use Rattle.lexer.specs.Token.{Val, Prop, between, lex_from}
use Rattle.lexer_laws.proofs.Invariant.{OfTok, EachAt, Invariant, keep-rest}

module _ (t : List ℕ) where
  abbrev pub Stands : Val → Type 0
  Stands v = v.raw ≡ slice v.from v.to t

  -- name and values are the text between their places
  abbrev pub Denotes : Prop → Type 0
  Denotes p = (p.name ≡ slice p.from p.to t) × All Stands p.vals

  -- the byte b stands at o
  abbrev Here : ℕ → ℕ → Type 0
  Here o b = (bs : List ℕ) × (drop o t ≡ b ∷ bs)

  longer : (a o b : ℕ) (r : List ℕ) → Here o b → a ≤ o → r ≡ slice a o t → r ++ (b ∷ []) ≡ slice a (suc o) t
  longer a o b r h l e = ap (λ (z : List ℕ). z ++ (b ∷ [])) e ∙ sym (slice_snoc a o t b h.0 l h.1)

  denoting : Invariant Here (λ o s w. (s ≤ o) × (w ≡ slice s o t)) (λ o s i w vs esc v r. (w ≡ slice s i t) × All Stands vs × (v ≤ o) × (r ≡ slice v o t)) Denotes
  denoting =
      record {
        starting = λ {o} a. (omega arith, sym (slice_empty o t));
        naming = λ {o} {b} {s} {w} a n. (omega (arith, n.0), longer s o b w a n.0 n.1);
        opening = λ {o} a e n. (n.1, tt, omega arith, sym (slice_empty (suc o) t));
        escaped = λ {o} {b} {s} {i} {v} {w} {r} a h. (h.0, h.1, omega (arith, h.2), longer v o b r a h.2 h.3);
        valuing = λ {o} {b} {s} {i} {v} {w} {r} a n h. (h.0, h.1, omega (arith, h.2), longer v o b r a h.2 h.3);
        closing = λ {o} {b} {s} {i} {v} {w} {r} {vs} a e h. (h.0, all_append Stands vs (_ ∷ []) h.1 (h.3, tt));
        reopening = λ {o} a e h. (h.0, h.1, omega arith, sym (slice_empty (suc o) t));
      }

  each-here : (o : ℕ) (bs xs : List ℕ) → drop o t ≡ bs ++ xs → EachAt Here o bs
  each-here o [] xs d = tt
  each-here o (b ∷ bs) xs d = ((bs ++ xs, d), each-here (suc o) bs xs (at_place o t b (bs ++ xs) d).2)

  run-denotes : (xs : List ℕ) (f l : ℕ) (bs : List ℕ) → drop f t ≡ bs ++ xs → All (OfTok Denotes) (lex_from f l bs).toks
  run-denotes xs f l bs d = keep-rest denoting between f l bs (each-here f bs xs d) tt

-- the tokens of a text say what stands in it
pub tokens-denote : (f l : ℕ) (t : List ℕ) → All (OfTok (Denotes t)) (lex_from f l (drop f (take l t))).toks
tokens-denote f l t = let x = part-begins f l t in run-denotes t x.0 f l (drop f (take l t)) x.1
