-- How many nodes an accepted reading has: fewer than the number that means none. Assumes nothing.
use Rattle.lists.proofs.Prelude.{◌≡◌, refl, sym, ap, subst, inl, inr, ℕ, zero, suc, ◌+◌, ◌≤◌, arith, List, [], ◌∷◌, ◌++◌, length, length-append, length-reverse, length-take, length-drop, take, drop, Bool, false}
use Rattle.lists.specs.All.{All}
use Rattle.text_utf8.specs.Text.{Ink, blank, inked, whole, utfs}
use Rattle.lexer.specs.Token.{Tok, start, end, node, prop}
use Rattle.lexer_laws.proofs.Invariant.{OfTok}
use Rattle.lexer_laws.proofs.Proper.{HasProper, proper-tokens}
use Rattle.tables.specs.Numbers.{none}
use Rattle.tables.specs.Record.{Node, Tree, all_nodes}
use Rattle.parser.specs.LocalsSlice.{slice_from, rest_from}
use Rattle.parser.specs.Read.{tokenize}
use Rattle.reader_laws.proofs.Grown.{Grew, walk_of, in_order}
use Rattle.reader_laws.proofs.Accepted.{Reading}
use Rattle.reader_laws.proofs.Walks.{Kept, keep-walk}
use Rattle.reader_laws.proofs.Weights.{weight, tokens-weigh, fewer-tokens}

-- ---- a slice and what is behind it

pub slice-rest : (d : ℕ) (ts : List Tok) → slice_from d ts ++ rest_from d ts ≡ ts
unfolding slice_from rest_from
slice-rest d [] = refl
slice-rest d (start o ∷ ts) = ap (λ (z : List Tok). start o ∷ z) (slice-rest (suc d) ts)
slice-rest zero (end o ∷ ts) = refl
slice-rest (suc zero) (end o ∷ ts) = refl
slice-rest (suc (suc d)) (end o ∷ ts) = ap (λ (z : List Tok). end o ∷ z) (slice-rest (suc d) ts)
slice-rest d (node o ∷ ts) = ap (λ (z : List Tok). node o ∷ z) (slice-rest d ts)
slice-rest d (prop p e ∷ ts) = ap (λ (z : List Tok). prop p e ∷ z) (slice-rest d ts)

-- ---- nodes and tokens

-- each node was a token
counts : (base n : ℕ) → Kept base (λ ts cur st g ns. length ns + length ts ≤ n) (λ ns. length ns ≤ n)
counts base n =
    record {
      opening = λ _ h. omega arith;
      closing = λ h. omega arith;
      joining = λ h. omega arith;
      adding = λ h. omega arith;
      over = λ h. omega arith;
      without = omega arith;
    }

pub walk-few : (len : Bool) (base : ℕ) (s : List Tok) → length (walk_of len base s) ≤ length s
walk-few len base s = keep-walk (counts base (length s)) len none [] false [] s (omega arith)

pub few-nodes : (len : Bool) (base : ℕ) (s : List Tok) → length (in_order (walk_of len base s)) ≤ suc (length s)
few-nodes len base s = go (walk_of len base s) (walk-few len base s)
  where
    go : (ns : List Node) → length ns ≤ length s → length (in_order ns) ≤ suc (length s)
    go [] h = omega arith
    go (n ∷ ns) h = omega (arith, length-reverse (n ∷ ns))

module _ (len : Bool) (base : ℕ) (us : List Tok) (ns : List Node) (e : ns ≡ in_order (walk_of len base (slice_from 0 us))) where
  -- nodes come from the slice, and what is behind it is left
  tree-room : length ns + length (rest_from 0 us) ≤ suc (length us)
  tree-room =
      let a : length ns ≤ suc (length (slice_from 0 us)) = rw e (few-nodes len base (slice_from 0 us)) in
      omega (arith, length-append (slice_from 0 us) (rest_from 0 us), ap length (slice-rest 0 us))

  slice-room : length (slice_from 0 us) ≤ length us
  slice-room = omega (arith, length-append (slice_from 0 us) (rest_from 0 us), ap length (slice-rest 0 us))

grew-few : (len : Bool) (base k : ℕ) (us : List Tok) (ts : List Tree) → Grew len base k us ts → length (all_nodes ts) ≤ length us + k
grew-few len base zero us [] g = omega arith
grew-few len base zero us (t ∷ ts) g = absurd g
grew-few len base (suc k) us [] g = absurd g
grew-few len base (suc k) us (t ∷ ts) g =
    omega (arith, tree-room len base us t.nodes g.0.nodes, grew-few len (base + length t.nodes) k (rest_from 0 us) ts g.1, length-append t.nodes (all_nodes ts))

-- what holds of the tree of each slice; its nodes' numbers are below none
grew-each : (len : Bool) (P : Tree → Type 0)
    → ((us : List Tok) (t : Tree) → t.game ≤ 1 → t.nodes ≡ in_order (walk_of len t.root (slice_from 0 us)) → t.root + length (slice_from 0 us) ≤ none → P t)
    → (base k : ℕ) (us : List Tok) (ts : List Tree) → Grew len base k us ts → base + length us + k ≤ none → All P ts
grew-each len P f base zero us [] g b = tt
grew-each len P f base zero us (t ∷ ts) g b = absurd g
grew-each len P f base (suc k) us [] g b = absurd g
grew-each len P f base (suc k) us (t ∷ ts) g b =
    let e : t.nodes ≡ in_order (walk_of len t.root (slice_from 0 us)) = rw g.0.root g.0.nodes in (
      f us t g.0.game e (omega (arith, g.0.root, slice-room len base us t.nodes g.0.nodes)),
      grew-each len P f (base + length t.nodes) k (rest_from 0 us) ts g.1 (omega (arith, tree-room len base us t.nodes g.0.nodes)),
    )

-- ---- tokens and bytes

pub lex-proper : (t : List ℕ) (k : Ink) → utfs (whole blank) 0 t ≡ whole k → All (OfTok HasProper) (tokenize k t).toks
lex-proper t blank h = tt
lex-proper t (inked f l) h = proper-tokens t (inked f l) h f l

lex-weighs : (t : List ℕ) (k : Ink) → weight (tokenize k t).toks ≤ length t
lex-weighs t blank = omega arith
lex-weighs t (inked f l) = omega (arith, tokens-weigh f l (drop f (take l t)), length-drop f (take l t), length-take l t)

module _ {len : Bool} {t : List ℕ} {ts : List Tree} (r : Reading len t ts) where
  -- the tokens that slices are cut from have what all tokens have
  pub toks-have : (P : List Tok → Type 0) → P [] → P (tokenize r.ink t).toks → P r.toks
  toks-have P a b = elim r.from [ inl e ↦ subst P (sym e) b | inr e ↦ subst P (sym e) a ]

  pub proper-toks : All (OfTok HasProper) r.toks
  proper-toks = toks-have (All (OfTok HasProper)) tt (lex-proper t r.ink r.valid)

  pub few-toks : weight r.toks ≤ length t
  few-toks = toks-have (λ us. weight us ≤ length t) (omega arith) (lex-weighs t r.ink)

  room : length r.toks + r.k ≤ none
  room = omega (arith, r.bound, fewer-tokens r.toks proper-toks, few-toks, r.short)

  -- what holds of the tree of each slice
  pub each-tree : (P : Tree → Type 0)
      → ((us : List Tok) (t : Tree) → t.game ≤ 1 → t.nodes ≡ in_order (walk_of len t.root (slice_from 0 us)) → t.root + length (slice_from 0 us) ≤ none → P t) → All P ts
  each-tree P f = grew-each len P f 0 r.k r.toks ts r.grew (omega (arith, room))

  pub nodes-most : length (all_nodes ts) ≤ none
  nodes-most = omega (arith, grew-few len 0 r.k r.toks ts r.grew, room)
