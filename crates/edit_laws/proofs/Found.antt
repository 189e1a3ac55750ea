-- The value that starts at the end of what stands before it: where it lies in the trimmed-parts text, and the state of the tokens there. Assumes nothing.
use Rattle.lists.proofs.Prelude.{◌≡◌, refl, sym, ap, ap₂, ◌∙◌, subst, ◌⊎◌, inl, inr, ℕ, suc, ◌+◌, ◌≤◌, ◌<◌, arith, true, false, List, [], ◌∷◌, ◌++◌, List-as-Memᴰ, tail-eq_of_cons-eq, head-eq_of_cons-eq, length, take, drop, length-take, length-drop, take-append-add, drop-append-le}
use Rattle.edit_laws.proofs.Accepted.{Between, all-between, on-trees}
use Rattle.lexer_laws.proofs.Inside.{Inside, NotAt, OfVals, Only, inside, vals-map}
use Rattle.lexer_laws.proofs.Starting.{last}
use Rattle.lexer.specs.Closed.{closed_from}
use Rattle.lexer.specs.Token.{Prop, Tok, Val, between, state_after, lex_from, value}
use Rattle.lists.proofs.All.{all_map}
use Rattle.lists.specs.All.{All}
use Rattle.parser.specs.Read.{accepted, parsed}
use Rattle.tables.specs.Record.{Tree, all_nodes, all_props}
use Rattle.text_utf8.proofs.Steps.{place, place_is}

-- ---- lists

pub append-parts : (xs ys us vs : List ℕ) → xs ++ ys ≡ us ++ vs → length xs ≡ length us → (xs ≡ us) × (ys ≡ vs)
append-parts [] ys [] vs e h = (refl, e)
append-parts [] ys (u ∷ us) vs e h = absurd (omega arith)
append-parts (x ∷ xs) ys [] vs e h = absurd (omega arith)
append-parts (x ∷ xs) ys (u ∷ us) vs e h =
    let k = append-parts xs ys us vs (tail-eq_of_cons-eq e) (omega arith) in
    (ap₂ (λ (a : ℕ) (b : List ℕ). a ∷ b) (head-eq_of_cons-eq e) k.0, k.1)

snoc : (b : ℕ) (bs : List ℕ) → (p : List ℕ) × (b ∷ bs ≡ p ++ (last b bs ∷ []))
snoc b [] = ([], refl)
snoc b (x ∷ xs) = let k = snoc x xs in (b ∷ k.0, ap (λ (z : List ℕ). b ∷ z) k.1)

pub ends-in : (bs : List ℕ) (c : ℕ) → last 0 bs ≡ suc c → (p : List ℕ) × (bs ≡ p ++ (suc c ∷ []))
ends-in [] c h = absurd (omega arith)
ends-in (b ∷ bs) c h = let k = snoc b bs in (k.0, k.1 ∙ ap (λ (z : ℕ). k.0 ++ (z ∷ [])) h)

pub trimmed-parts : (f0 m l : ℕ) (pre mid post : List ℕ) → f0 ≤ length pre → l ≡ length pre + (length mid + m)
    → drop f0 (take l (pre ++ (mid ++ post))) ≡ drop f0 pre ++ (mid ++ take m post)
trimmed-parts f0 m l pre mid post h e =
    ap (λ (z : ℕ). drop f0 (take z (pre ++ (mid ++ post)))) e
    ∙ ap (drop f0) (take-append-add pre (mid ++ post) (length mid + m) ∙ ap (λ (z : List ℕ). pre ++ z) (take-append-add mid post m))
    ∙ drop-append-le f0 pre (mid ++ take m post) h

-- ---- the value that starts at the end of `pre`

pub record Found (f0 l : ℕ) (pre old post : List ℕ) (name : List ℕ) (ts : List Tok) : Type 0 where
  pub m : ℕ
  pub post2 : List ℕ
  pub low : f0 ≤ length pre
  pub long : l ≡ length pre + (length old + m)
  pub s : ℕ
  pub i : ℕ
  pub vs : List Val
  pub state : state_after between f0 (drop f0 pre) ≡ value s i name vs false (place f0 (drop f0 pre)) []
  pub before : last 0 (drop f0 pre) ≡ 0x5b
  pub next : take m post ≡ 0x5d ∷ post2
  pub closed-old : closed_from false old ≡ true
  pub only : All (OfVals (Only (length pre) (length pre + length old) name)) ts

pub at_pre : (f0 : ℕ) (pre : List ℕ) → f0 ≤ length pre → place f0 (drop f0 pre) ≡ length pre
at_pre f0 pre h = omega (arith, place_is f0 (drop f0 pre), length-drop f0 pre)

found_in : (f0 l m : ℕ) (pre old post : List ℕ) (ts : List Tree) (p : Prop) (v : Val)
    → parsed false (lex_from f0 l (drop f0 pre ++ (old ++ take m post))).toks ≡ accepted ts
    → List-as-Memᴰ p (all_props (all_nodes ts)) → List-as-Memᴰ v p.vals → v.from ≡ length pre → v.to ≡ length pre + length old
    → f0 ≤ length pre → l ≡ length pre + (length old + m)
    → Found f0 l pre old post p.name (lex_from f0 l (drop f0 pre ++ (old ++ take m post))).toks
found_in f0 l m pre old post ts p v trees mp mv from to low long = go (inside f0 l (drop f0 pre) (old ++ take m post))
  where
    X : List Tok
    X = (lex_from f0 l (drop f0 pre ++ (old ++ take m post))).toks

    q : place f0 (drop f0 pre) ≡ length pre
    q = at_pre f0 pre low

    build : (I : Inside f0 (drop f0 pre) (old ++ take m post) X) → (v.to ≡ place (place f0 (drop f0 pre)) I.body) × (p.name ≡ I.w)
        → (old ≡ I.body) × (take m post ≡ 0x5d ∷ I.post) → Found f0 l pre old post p.name X
    build I o k =
        record {
          m = m;
          post2 = I.post;
          low = low;
          long = long;
          s = I.s;
          i = I.i;
          vs = I.vs;
          state = I.state ∙ ap (λ (z : List ℕ). value I.s I.i z I.vs false (place f0 (drop f0 pre)) []) (sym o.1);
          before = I.before;
          next = k.1;
          closed-old = ap (closed_from false) k.0 ∙ I.closed;
          only = all_map (OfVals (Only (place f0 (drop f0 pre)) (place (place f0 (drop f0 pre)) I.body) I.w))
              (OfVals (Only (length pre) (length pre + length old) p.name))
              (vals-map (Only (place f0 (drop f0 pre)) (place (place f0 (drop f0 pre)) I.body) I.w)
              (Only (length pre) (length pre + length old) p.name)
              (λ n u x y. let r = x (y ∙ sym q) in (r.0 ∙ sym o.0 ∙ to, r.1 ∙ sym o.1)))
              X I.only;
        }

    go : All (OfVals (NotAt (place f0 (drop f0 pre)))) X ⊎ Inside f0 (drop f0 pre) (old ++ take m post) X → Found f0 l pre old post p.name X
    go (inl n) = absurd (on-trees (NotAt (place f0 (drop f0 pre))) X ts p v trees n mp mv (from ∙ sym q))
    go (inr I) =
        let o = on-trees (Only (place f0 (drop f0 pre)) (place (place f0 (drop f0 pre)) I.body) I.w) X ts p v trees I.only mp mv (from ∙ sym q) in
        build I o (append-parts old (take m post) I.body (0x5d ∷ I.post) I.rest-is (omega (arith, q, o.0, place_is (place f0 (drop f0 pre)) I.body)))

module _ (f0 l : ℕ) (pre old post : List ℕ) (ts : List Tree) (p : Prop) (v : Val)
    (trees : parsed false (lex_from f0 l (drop f0 (take l (pre ++ (old ++ post))))).toks ≡ accepted ts)
    (mp : List-as-Memᴰ p (all_props (all_nodes ts))) (mv : List-as-Memᴰ v p.vals)
    (from : v.from ≡ length pre) (to : v.to ≡ length pre + length old) where
  pub bounds : (f0 < length pre) × (length pre + length old < l)
  unfolding Between
  bounds =
      let t : List ℕ = pre ++ (old ++ post) in
      let b = on-trees (Between f0 (place f0 (drop f0 (take l t)))) (lex_from f0 l (drop f0 (take l t))).toks ts p v trees (all-between f0 l (drop f0 (take l t))) mp mv in
      (omega (arith, b.0), omega (arith, b.0, b.1, b.2, place_is f0 (drop f0 (take l t)), length-drop f0 (take l t), length-take l t))

  pub found : (m : ℕ) → l ≡ length pre + (length old + m) → Found f0 l pre old post p.name (lex_from f0 l (drop f0 (take l (pre ++ (old ++ post))))).toks
  found m e =
      let tr = trimmed-parts f0 m l pre old post (omega (arith, bounds.0)) e in
      subst (λ (z : List ℕ). Found f0 l pre old post p.name (lex_from f0 l z).toks) (sym tr)
      (found_in f0 l m pre old post ts p v (subst (λ (z : List ℕ). parsed false (lex_from f0 l z).toks ≡ accepted ts) tr trees) mp mv from to (omega (arith, bounds.0)) e)
