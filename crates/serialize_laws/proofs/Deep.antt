-- The depth of a writing is the greatest that splitting it comes to. Assumes nothing.
use Rattle.lists.proofs.Prelude.{◌≡◌, refl, sym, ap, ◌∙◌, subst, ℕ, zero, suc, ◌-◌, ◌≤◌, max, arith, false, List, [], ◌∷◌, map, reverse_aux, length, take-length}
use Rattle.lexer.specs.Token.{Tok, start, end, node, prop, lex_from}
use Rattle.parser.proofs.Surveys.{wrong_stays}
use Rattle.parser.specs.Split.{Splitting, splitting, over, wrong, ended, split}
use Rattle.serialize_laws.proofs.Inked.{written-ink}
use Rattle.serialize_laws.proofs.ReadBack.{Form}
use Rattle.serialize_laws.proofs.Resplit.{deepest, split-trees}
use Rattle.serialize_laws.proofs.Written.{lex-written, tok_tree, tok_trees}
use Rattle.serialize_laws.specs.Back.{placeless_tok, toks_of}
use Rattle.serialize_laws.specs.Depth.{deepest_from, depth_of}
use Rattle.serialize.specs.LocalsWrite.{write_trees}
use Rattle.tables.specs.Record.{Tree}
use Rattle.text_utf8.specs.Text.{Utf}

-- n is the greatest depth that this state has seen
abbrev Sees : ℕ → Splitting → Type 0
Sees n (splitting d m cur ss) = m ≡ n
Sees n (over m ss) = m ≡ n
Sees n (wrong r) = Unit {0}

sees-same : (n m : ℕ) (x : Splitting) → n ≡ m → Sees n x → Sees m x
sees-same n m x e h = subst (λ (z : ℕ). Sees z x) e h

pub at_least : (d : ℕ) (ts : List Tok) → d ≤ deepest_from d ts
at_least d [] = omega arith
at_least d (start o ∷ ts) = omega arith
at_least d (end o ∷ ts) = omega arith
at_least d (node o ∷ ts) = at_least d ts
at_least d (prop p e ∷ ts) = at_least d ts

sees-split : (ts : List Tok) (d m : ℕ) (cur : List Tok) (ss : List (List Tok)) → d ≤ m → Sees (max m (deepest_from d ts)) (split false (splitting d m cur ss) ts)
sees-split [] d m cur ss l = omega arith
sees-split (start o ∷ ts) d m cur ss l =
    sees-same (max (max m (suc d)) (deepest_from (suc d) ts)) (max m (max d (deepest_from (suc d) ts))) (split false (splitting (suc d) (max m (suc d)) (start o ∷ cur) ss) ts)
    (omega (arith, l, at_least (suc d) ts)) (sees-split ts (suc d) (max m (suc d)) (start o ∷ cur) ss (omega arith))
sees-split (end o ∷ ts) zero m cur ss l = subst (Sees (max m (max 0 (deepest_from 0 ts)))) (sym (wrong_stays false _ ts)) tt
sees-split (end o ∷ ts) (suc zero) m cur ss l =
    sees-same (max m (deepest_from 0 ts)) (max m (max 1 (deepest_from 0 ts))) (split false (ended false 1 m (end o) cur ss) ts) (omega (arith, l))
    (sees-split ts 0 m [] _ (omega arith))
sees-split (end o ∷ ts) (suc (suc d)) m cur ss l =
    let e : suc (suc d) - 1 ≡ suc d = omega arith in
    sees-same (max m (deepest_from (suc d) ts)) (max m (max (suc (suc d)) (deepest_from (suc (suc d) - 1) ts))) (split false (ended false (suc (suc d)) m (end o) cur ss) ts)
    (one_down (deepest_from (suc d) ts) (deepest_from (suc (suc d) - 1) ts) (ap (λ (k : ℕ). deepest_from k ts) (sym e)))
    (sees-split ts (suc d) m (end o ∷ cur) ss (omega arith))
  where
    one_down : (x y : ℕ) → x ≡ y → max m x ≡ max m (max (suc (suc d)) y)
    one_down x y h = omega (arith, l, h)
sees-split (node o ∷ ts) d m cur ss l = sees-split ts d m (node o ∷ cur) ss l
sees-split (prop p e ∷ ts) d m cur ss l = sees-split ts d m (prop p e ∷ cur) ss l

-- places don't count
deepest-places : (d : ℕ) (ts : List Tok) → deepest_from d (map placeless_tok ts) ≡ deepest_from d ts
deepest-places d [] = refl
deepest-places d (start o ∷ ts) = ap (max d) (deepest-places (suc d) ts)
deepest-places d (end o ∷ ts) = ap (max d) (deepest-places (d - 1) ts)
deepest-places d (node o ∷ ts) = deepest-places d ts
deepest-places d (prop p e ∷ ts) = deepest-places d ts

-- the lexer makes the tokens of the trees of a writing
pub tokens-depth : (ts : List Tree) → Form ts → depth_of (write_trees ts) ≡ deepest_from 0 (tok_trees ts)
tokens-depth ts f =
    let W : List ℕ = write_trees ts in
    let n : ℕ = length W in
    ap (λ (u : Utf). deepest_from 0 (toks_of u W)) (written-ink ts f.some f.plain f.valid)
    ∙ ap (λ (z : List ℕ). deepest_from 0 (lex_from 0 n z).toks) (take-length W)
    ∙ sym (deepest-places 0 (lex_from 0 n W).toks)
    ∙ ap (deepest_from 0) (lex-written n ts f.plain).1

pub written-depth : (ts : List Tree) → Form ts → depth_of (write_trees ts) ≡ deepest (split false (splitting 0 0 [] []) (tok_trees ts))
written-depth ts f =
    let x = split-trees ts 0 [] f.few in
    let s : Sees (max 0 (deepest_from 0 (tok_trees ts))) (splitting 0 x.0 [] (reverse_aux (map tok_tree ts) [])) = subst (Sees (max 0 (deepest_from 0 (tok_trees ts)))) x.1 (sees-split (tok_trees ts) 0 0 [] [] (omega arith)) in
    let e : x.0 ≡ max 0 (deepest_from 0 (tok_trees ts)) = s in
    let m : max 0 (deepest_from 0 (tok_trees ts)) ≡ deepest_from 0 (tok_trees ts) = omega arith in
    tokens-depth ts f ∙ sym m ∙ sym e ∙ sym (ap deepest x.1)
