-- Strict reading of a writing gives the same trees, places aside; the writer sees no places. Assumes nothing.
use Rattle.lists.proofs.Prelude.{◌≡◌, refl, sym, ap, ap₂, ◌∙◌, subst, ℕ, ◌+◌, ◌≤◌, ◌<◌, false, List, [], ◌∷◌, ◌++◌, map, ltb, length, take-length, le-ltb}
use Rattle.edit_laws.proofs.Reread.{in-text_limit}
use Rattle.lexer_laws.proofs.Invariant.{OfTok}
use Rattle.lexer.specs.Move.{move_val}
use Rattle.lexer.specs.Token.{End, Lexed, Prop, Tok, Val, done, end, lex_from, node, prop, start}
use Rattle.lists.specs.All.{All}
use Rattle.lists.proofs.Tests.{never}
use Rattle.parser.proofs.Moved.{move-tokens, move_answer}
use Rattle.parser.proofs.MovedKind.{GmStays}
use Rattle.parser.specs.Read.{Answer, accepted, parse_utf8, lexing, parse_slices, refused, read_strict}
use Rattle.parser.specs.Split.{sliced, split, splitting}
use Rattle.serialize_laws.proofs.Resplit.{Few, deepest, planted-written}
use Rattle.serialize_laws.proofs.Regrow.{SoundNodes, SoundTrees, raws-stay}
use Rattle.serialize_laws.proofs.Written.{PlainTree, lex-written, tok_trees}
use Rattle.serialize.proofs.TreeTexts.{tree-text, Alike, alike-tree}
use Rattle.serialize.specs.Branch.{vals_text, write_props, tree_text, trees_text}
use Rattle.serialize.specs.LocalsWrite.{write_tree, write_trees}
use Rattle.tables.specs.Numbers.{text_limit}
use Rattle.tables.specs.Record.{Node, Tree}
use Rattle.text_utf8.specs.Text.{Utf, blank, utfs, whole}
use Rattle.values.specs.Read.{read_identifier}
use Rattle.serialize_laws.specs.Back.{no_place, same_bytes, placeless_prop, placeless_tok, placeless_node, placeless_tree}
use Rattle.serialize_laws.proofs.Inked.{ValidTree, written-ink}

pub gm-same : (ts : List Tok) → All (OfTok (GmStays no_place no_place same_bytes)) ts
gm-same [] = tt
gm-same (t ∷ ts) = (one t, gm-same ts)
  where
    one : (t : Tok) → OfTok (GmStays no_place no_place same_bytes) t
    one (start o) = tt
    one (end o) = tt
    one (node o) = tt
    one (prop p e) = λ _. raws-stay p.vals

-- trees that can be written and read back, the limits aside
pub record Form (ts : List Tree) : Type 0 where
  pub some : 0 < length ts
  pub plain : All PlainTree ts
  pub valid : All ValidTree ts
  pub sound : SoundTrees 0 ts
  pub few : Few ts

-- and their writing is within the reader's limits
pub record Writable (ts : List Tree) : Type 0 where
  pub form : Form ts
  pub shallow : deepest (split false (splitting 0 0 [] []) (tok_trees ts)) ≤ 1024
  pub short : length (write_trees ts) ≤ text_limit

lexed-written : (X : Lexed) (ts : List Tree) → Writable ts → X.end ≡ done → map placeless_tok X.toks ≡ tok_trees ts
    → move_answer no_place no_place same_bytes (lexing false X.end X.toks) ≡ accepted (map placeless_tree ts)
lexed-written X ts w e t =
    ap (λ (z : End). move_answer no_place no_place same_bytes (lexing false z X.toks)) e
    ∙ sym (move-tokens no_place no_place same_bytes false X.toks (gm-same X.toks))
    ∙ ap (λ (z : List Tok). parse_slices false (sliced false (split false (splitting 0 0 [] []) z))) t
    ∙ planted-written ts w.form.some w.form.sound w.form.few w.shallow

-- strict reading of a writing gives the trees, places aside
pub read_back : (ts : List Tree) → Writable ts → move_answer no_place no_place same_bytes (read_strict (write_trees ts)) ≡ accepted (map placeless_tree ts)
read_back ts w =
    let W : List ℕ = write_trees ts in
    let n : ℕ = length W in
    let l = lex-written n ts w.form.plain in
    ap (move_answer no_place no_place same_bytes) (in-text_limit (ltb text_limit n) (parse_utf8 false (utfs (whole blank) 0 W) W) (le-ltb text_limit n w.short))
    ∙ ap (λ (u : Utf). move_answer no_place no_place same_bytes (parse_utf8 false u W)) (written-ink ts w.form.some w.form.plain w.form.valid)
    ∙ ap (λ (z : List ℕ). move_answer no_place no_place same_bytes (lexing false (lex_from 0 n z).end (lex_from 0 n z).toks)) (take-length W)
    ∙ lexed-written (lex_from 0 n W) ts w l.0 l.1

-- ---- writing again

zero-boxed : (vs : List Val) → vals_text (map (move_val no_place no_place same_bytes) vs) ≡ vals_text vs
zero-boxed [] = refl
zero-boxed (v ∷ vs) = ap (λ (z : List ℕ). 0x5b ∷ (v.raw ++ (0x5d ∷ z))) (zero-boxed vs)

zero-props : (ps : List Prop) → write_props (map placeless_prop ps) ≡ write_props ps
zero-props [] = refl
zero-props (p ∷ ps) = ap₂ (λ (y z : List ℕ). read_identifier p.name ++ (y ++ z)) (zero-boxed p.vals) (zero-props ps)

zero-nodes : (ns : List Node) → Alike (map placeless_node ns) ns
zero-nodes [] = tt
zero-nodes (n ∷ ns) = (refl, zero-props n.props, zero-nodes ns)

pub zero-trees : (ts : List Tree) → trees_text (map placeless_tree ts) ≡ trees_text ts
zero-trees [] = refl
zero-trees (t ∷ ts) = ap₂ (λ (y z : List ℕ). y ++ z) (alike-tree t.root t.game t.game (map placeless_node t.nodes) t.nodes (zero-nodes t.nodes)) (zero-trees ts)

walk-nodes : (r k : ℕ) (ns : List Node) → SoundNodes r k ns → write_tree (record { root = r; game = k; nodes = ns }) ≡ tree_text (record { root = r; game = k; nodes = ns })
walk-nodes r k [] h = absurd h
walk-nodes r k (n ∷ ns) h = tree-text r k n ns h.0 h.1.single h.1.good h.1.few

walk-trees : (base : ℕ) (ts : List Tree) → SoundTrees base ts → write_trees ts ≡ trees_text ts
walk-trees base [] h = refl
walk-trees base (t ∷ ts) h =
    ap₂ (λ (y z : List ℕ). y ++ z)
    (walk-nodes t.root t.game t.nodes (subst (λ (r : ℕ). SoundNodes r t.game t.nodes) (sym h.0) h.1))
    (walk-trees (base + length t.nodes) ts h.2)

-- the walk over such trees gives their writing
pub walk-writes : (ts : List Tree) → Form ts → write_trees ts ≡ trees_text ts
walk-writes ts f = walk-trees 0 ts f.sound

-- a strict reading of the writing, values as they are raw, is accepted with trees that are the same but for places
pub record Back (ts : List Tree) : Type 0 where
  pub again : List Tree
  pub accepts : read_strict (trees_text ts) ≡ accepted again
  pub alike : map placeless_tree again ≡ map placeless_tree ts

pub read-back-again : (ts : List Tree) → Writable ts → Back ts
read-back-again ts w = go (read_strict (write_trees ts)) refl (read_back ts w)
  where
    go : (a : Answer) → read_strict (write_trees ts) ≡ a → move_answer no_place no_place same_bytes a ≡ accepted (map placeless_tree ts) → Back ts
    go (refused n p) e h = never cc
    go (accepted us) e h = record { again = us; accepts = ap (read_strict) (sym (walk-writes ts w.form)) ∙ e; alike = cc }
