-- Numbers of rows that always suffice for a text of so many bytes, strict and lenient. Assumes nothing.
use Rattle.lists.proofs.Prelude.{◌≡◌, refl, ap, ◌∙◌, subst, ◌⊎◌, inl, inr, ℕ, zero, suc, ◌/◌, ◌<◌, arith, Bool, true, false, List, [], ◌∷◌, head-eq_of_cons-eq, length, take, drop, le-leb}
use Rattle.text_utf8.specs.Text.{Ink, blank, inked}
use Rattle.lexer.specs.Token.{Tok}
use Rattle.tables.specs.Record.{Node, Tree, all_nodes, all_props, all_vals}
use Rattle.tables.specs.Rows.{tables, parents, counts_of}
use Rattle.tables.specs.declared.Counts.{Counts}
use Rattle.parser.specs.LocalsSlice.{first_slices}
use Rattle.parser.specs.Split.{slices}
use Rattle.parser.specs.Read.{Answer, accepted, tokenize, read}
use Rattle.reader.specs.Lent.{Lent, answers}
use Rattle.reader.proofs.Rooms.{tree-count}
use Rattle.tables.proofs.Lengths.{prop-rows-length, val-rows-length, node-rows-length}
use Rattle.tables.specs.Columns.{node_stride}
use Rattle.reader_laws.specs.Enough.{Rows, strict_rows, lenient_rows, Suffices, Lends}
use Rattle.reader_laws.proofs.Accepted.{Reading, reading-is}
use Rattle.reader_laws.proofs.Bracketing.{Ending, Parted, slices-parted}
use Rattle.reader_laws.proofs.Grown.{Grew, walk_of, in_order}
use Rattle.lists.proofs.Tests.{never}
use Rattle.reader_laws.proofs.Sizes.{few-toks, toks-have}
use Rattle.reader_laws.proofs.Spaced.{Spaced, tokens-spaced}
use Rattle.reader_laws.proofs.Totals.{strict-total, lenient-total}
use Rattle.std.specs.Prelude.{Ok}

lex-spaced : (t : List ℕ) (k : Ink) → Spaced false (tokenize k t).toks
lex-spaced t blank = tt
lex-spaced t (inked f l) = tokens-spaced f l (drop f (take l t))

pub grew-some : (len : Bool) (base k : ℕ) (us : List Tok) (ts : List Tree) → Grew len base k us ts → 0 < length (first_slices k us) → 0 < length ts
unfolding first_slices
grew-some len base zero us [] g l = absurd (omega arith)
grew-some len base (suc k) us [] g l = absurd g
grew-some len base k us (t ∷ ts) g l = omega arith

-- the slice without a token: one tree of one empty node
grew_none : (len : Bool) (base k : ℕ) (us : List Tok) (ts : List Tree) → Grew len base k us ts → first_slices k us ≡ [] ∷ []
    → (length ts ≡ 1) × (all_nodes ts ≡ in_order [])
unfolding first_slices
grew_none len base zero us ts g e = never cc
grew_none len base (suc (suc k)) us ts g e = never cc
grew_none len base (suc zero) us [] g e = absurd g
grew_none len base (suc zero) us (t ∷ u ∷ ts) g e = absurd g.1
grew_none len base (suc zero) us (t ∷ []) g e = let n : t.nodes ≡ in_order [] = g.0.nodes ∙ ap (λ (s : List Tok). in_order (walk_of len base s)) (head-eq_of_cons-eq e) in (refl, rw n)

module _ (len : Bool) (t : List ℕ) (ts : List Tree) (h : read len t ≡ accepted ts) where
  abbrev r : Reading len t ts
  r = reading-is len t ts h

  abbrev size : ℕ
  size = length t

  spaced : Spaced false r.toks
  spaced = toks-have r (Spaced false) tt (lex-spaced t r.ink)

  parted : (b : Bool) → len ≡ b → Parted b (slices (first_slices r.k r.toks))
  parted b e = subst (λ (z : Bool). Parted z (slices (first_slices r.k r.toks))) e (subst (Parted len) r.cuts (slices-parted len (tokenize r.ink t).toks))

  abbrev c : Counts
  c = counts_of (tables ts)

  trees-are : c.trees ≡ length ts
  trees-are = tree-count ts

  nodes-are : c.nodes ≡ length (all_nodes ts)
  nodes-are = node-rows-length (parents (all_nodes ts)) 0 0 (all_nodes ts)

  props-are : c.properties ≡ length (all_props (all_nodes ts))
  props-are = prop-rows-length 0 (all_props (all_nodes ts))

  vals_are : c.values ≡ length (all_vals (all_props (all_nodes ts)))
  vals_are = val-rows-length (all_vals (all_props (all_nodes ts)))

  pub strict-enough : len ≡ false → Suffices (strict_rows size) c
  strict-enough s =
      let p = parted false s in
      let o = grew-some len 0 r.k r.toks ts r.grew p.1 in
      let w = few-toks r in
      let x = strict-total len s 0 r.k r.toks ts r.grew p.0 spaced in (
        omega (arith, x.0, trees-are),
        omega (arith, x.1, nodes-are),
        omega (arith, x.2, props-are),
        omega (arith, x.3, x.4, vals_are),
      )

  pub lenient-enough : len ≡ true → Suffices (lenient_rows size) c
  lenient-enough s = go (parted true s)
    where
      go : (first_slices r.k r.toks ≡ [] ∷ []) ⊎ Ending (first_slices r.k r.toks) → Suffices (lenient_rows size) c
      go (inl e) =
          let x = grew_none len 0 r.k r.toks ts r.grew e in
          let n = ap (λ (ns : List Node). length ns) x.1 in
          let p = ap (λ (ns : List Node). length (all_props ns)) x.1 in
          let v = ap (λ (ns : List Node). length (all_vals (all_props ns))) x.1 in
          (omega (arith, x.0, trees-are), omega (arith, nodes-are), omega (arith, props-are), omega (arith, vals_are))
      go (inr e) =
          let w = few-toks r in
          let x = lenient-total len 0 r.k r.toks ts r.grew e spaced in
          (omega (arith, x.0, trees-are), omega (arith, x.1, nodes-are), omega (arith, x.3, props-are), omega (arith, x.4, vals_are))

  -- where they are lent, what is read is accepted: there is no 14
  accepts : (x : Rows) (l : Lent) → Suffices x c → Lends x l → answers (read len t) l ≡ Ok c
  accepts x l n g =
      ap (λ (a : Answer). answers a l) h
      ∙ rw (
        le-leb c.trees (length l.trees / 2) (omega (arith, n.0, g.0)),
        le-leb c.nodes (length l.nodes / node_stride) (omega (arith, n.1, g.1)),
        le-leb c.properties (length l.props / 4) (omega (arith, n.2, g.2)),
        le-leb c.values (length l.vals / 2) (omega (arith, n.3, g.3)),
      )

  pub strict-accepts : len ≡ false → (l : Lent) → Lends (strict_rows size) l → answers (read len t) l ≡ Ok c
  strict-accepts s l g = accepts (strict_rows size) l (strict-enough s) g

  pub lenient-accepts : len ≡ true → (l : Lent) → Lends (lenient_rows size) l → answers (read len t) l ≡ Ok c
  lenient-accepts s l g = accepts (lenient_rows size) l (lenient-enough s) g
