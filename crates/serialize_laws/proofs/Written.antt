-- Reading back, the tokens: what the lexer makes of the writing, places aside. Assumes nothing.
use Rattle.lists.proofs.Prelude.{◌≡◌, refl, ap, ◌∙◌, subst, ℕ, suc, Bool, true, false, List, [], ◌∷◌, ◌++◌, map, append_assoc, map-append, eqb, pick}
use Rattle.lexer.specs.Token.{Prop, St, Tok, after, between, done, emits, end, state_after, fault, finish, ident, lex_from, node, prop, start, value}
use Rattle.lists.specs.All.{All}
use Rattle.serialize.specs.LocalsWrite.{Open, bracketed, path_left, opened, write_nodes, write_tree, write_trees}
use Rattle.serialize.specs.Branch.{write_props, vals_text}
use Rattle.tables.specs.Numbers.{none}
use Rattle.tables.specs.Record.{Node, Tree}
use Rattle.tables.specs.Rows.{parents}
use Rattle.values.specs.Read.{read_identifier}
use Rattle.serialize.specs.LocalsWrite as Write
use Rattle.serialize_laws.specs.Back.{placeless_prop, placeless_tok}
use Rattle.serialize_laws.proofs.Pieces.{Ready, pend, Reads, reads-nil, reads-append, reads-open, reads-close, reads-node}
use Rattle.serialize_laws.proofs.WrittenProps.{Plain, reads-prop}

abbrev pub tok_props : List Prop → List Tok
tok_props [] = []
tok_props (p ∷ ps) = prop (placeless_prop p) 0 ∷ tok_props ps

reads-props : (ps : List Prop) → All Plain ps → Reads (write_props ps) (tok_props ps)
reads-props [] h = reads-nil
reads-props (p ∷ ps) h =
    subst (λ (z : List ℕ). Reads z (tok_props (p ∷ ps))) (append_assoc (read_identifier p.name) (vals_text p.vals) (write_props ps))
    (reads-append (read_identifier p.name ++ vals_text p.vals) (write_props ps) (prop (placeless_prop p) 0 ∷ []) (tok_props ps) (reads-prop p h.0) (reads-props ps h.1))

abbrev pub tok_shuts : Bool → List Tok → List Tok
tok_shuts true r = end 0 ∷ r
tok_shuts false r = r

abbrev pub tok_ends : ℕ → List Open → List Tok
tok_ends p [] = []
tok_ends p (x ∷ xs) = let r = tok_shuts x.brk (tok_ends p xs) in pick (eqb x.num p) [] r

abbrev pub tok_opened : Bool → List Tok → List Tok
tok_opened true r = start 0 ∷ r
tok_opened false r = r

abbrev pub tok_nodes : (ps : List ℕ) (k : ℕ) → List Open → List Node → List Tok
tok_nodes ps k path [] = tok_ends none path
tok_nodes ps k path (n ∷ ns) =
    tok_ends n.parent path
    ++ tok_opened (bracketed ps n.parent)
    (node 0 ∷ (tok_props n.props ++ tok_nodes ps (suc k) (record { num = k; brk = bracketed ps n.parent } ∷ path_left n.parent path) ns))

abbrev pub tok_tree : Tree → List Tok
tok_tree t = start 0 ∷ (tok_nodes (parents t.nodes) t.root [] t.nodes ++ (end 0 ∷ []))

abbrev pub tok_trees : List Tree → List Tok
tok_trees [] = []
tok_trees (t ∷ ts) = tok_tree t ++ tok_trees ts

reads-shuts : (b : Bool) (bs : List ℕ) (ts : List Tok) → Reads bs ts → Reads (Write.shuts b bs) (tok_shuts b ts)
reads-shuts true bs ts h = reads-append (0x29 ∷ []) bs (end 0 ∷ []) ts reads-close h
reads-shuts false bs ts h = h

reads-ends : (p : ℕ) (path : List Open) → Reads (Write.ends_text p path) (tok_ends p path)
reads-ends p [] = reads-nil
reads-ends p (x ∷ xs) = go (eqb x.num p) (reads-shuts x.brk (Write.ends_text p xs) (tok_ends p xs) (reads-ends p xs))
  where
    go : (b : Bool) → Reads (Write.shuts x.brk (Write.ends_text p xs)) (tok_shuts x.brk (tok_ends p xs))
        → Reads (pick b [] (Write.shuts x.brk (Write.ends_text p xs))) (pick b [] (tok_shuts x.brk (tok_ends p xs)))
    go true h = reads-nil
    go false h = h

reads-opened : (b : Bool) (bs : List ℕ) (ts : List Tok) → Reads bs ts → Reads (opened b bs) (tok_opened b ts)
reads-opened true bs ts h = reads-append (0x28 ∷ []) bs (start 0 ∷ []) ts reads-open h
reads-opened false bs ts h = h

abbrev pub PlainNode : Node → Type 0
PlainNode n = All Plain n.props

reads-nodes : (ps : List ℕ) (k : ℕ) (path : List Open) (ns : List Node) → All PlainNode ns → Reads (write_nodes ps k path ns) (tok_nodes ps k path ns)
reads-nodes ps k path [] h = reads-ends none path
reads-nodes ps k path (n ∷ ns) h =
    let next : List Open = record { num = k; brk = bracketed ps n.parent } ∷ path_left n.parent path in
    let bs : List ℕ = write_props n.props ++ write_nodes ps (suc k) next ns in
    let ts : List Tok = tok_props n.props ++ tok_nodes ps (suc k) next ns in
    reads-append (Write.ends_text n.parent path) (opened (bracketed ps n.parent) (0x3b ∷ bs)) (tok_ends n.parent path) (tok_opened (bracketed ps n.parent) (node 0 ∷ ts))
    (reads-ends n.parent path)
    (reads-opened (bracketed ps n.parent) (0x3b ∷ bs) (node 0 ∷ ts)
    (reads-append (0x3b ∷ []) bs (node 0 ∷ []) ts reads-node
    (reads-append (write_props n.props) (write_nodes ps (suc k) next ns) (tok_props n.props) (tok_nodes ps (suc k) next ns) (reads-props n.props h.0)
    (reads-nodes ps (suc k) next ns h.1))))

abbrev pub PlainTree : Tree → Type 0
PlainTree t = All PlainNode t.nodes

reads-tree : (t : Tree) → PlainTree t → Reads (write_tree t) (tok_tree t)
reads-tree t h =
    reads-append (0x28 ∷ []) (write_nodes (parents t.nodes) t.root [] t.nodes ++ (0x29 ∷ [])) (start 0 ∷ [])
    (tok_nodes (parents t.nodes) t.root [] t.nodes ++ (end 0 ∷ [])) reads-open
    (reads-append (write_nodes (parents t.nodes) t.root [] t.nodes) (0x29 ∷ []) (tok_nodes (parents t.nodes) t.root [] t.nodes) (end 0 ∷ [])
    (reads-nodes (parents t.nodes) t.root [] t.nodes h) reads-close)

reads-trees : (ts : List Tree) → All PlainTree ts → Reads (write_trees ts) (tok_trees ts)
reads-trees [] h = reads-nil
reads-trees (t ∷ ts) h = reads-append (write_tree t) (write_trees ts) (tok_tree t) (tok_trees ts) (reads-tree t h.0) (reads-trees ts h.1)

ready-done : (S : St) (l : ℕ) → Ready S → ((finish S l).end ≡ done) × (map placeless_tok (finish S l).toks ≡ pend S)
ready-done between l r = (refl, refl)
ready-done (ident s w) l r = absurd r
ready-done (value s i w vs esc v x) l r = absurd r
ready-done (after p) l r = (refl, refl)
ready-done (fault n s) l r = absurd r

-- THE TOKENS OF THE WRITING
pub lex-written : (l : ℕ) (ts : List Tree) → All PlainTree ts
    → ((lex_from 0 l (write_trees ts)).end ≡ done) × (map placeless_tok (lex_from 0 l (write_trees ts)).toks ≡ tok_trees ts)
lex-written l ts h =
    let r = reads-trees ts h between 0 tt in
    let d = ready-done (state_after between 0 (write_trees ts)) l r.0 in (
      d.0,
      map-append placeless_tok (emits between 0 (write_trees ts)) (finish (state_after between 0 (write_trees ts)) l).toks
          ∙ ap (λ (z : List Tok). map placeless_tok (emits between 0 (write_trees ts)) ++ z) d.1 ∙ r.1,
    )
