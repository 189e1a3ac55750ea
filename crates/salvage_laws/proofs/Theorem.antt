-- The mended record of a lenient reading can be written and strictly read: as it is, or 9. Assumes nothing.
use Rattle.lists.proofs.Prelude.{◌≡◌, refl, sym, ◌∙◌, subst, ℕ, zero, suc, ◌+◌, ◌≤◌, ◌<◌, arith, Bool, true, List, [], ◌∷◌, map, reverse_aux, length, length-map}
use Rattle.lists.specs.All.{All}
use Rattle.lexer.specs.Token.{Tok}
use Rattle.lexer_laws.proofs.Proper.{HasProper}
use Rattle.tables.specs.Numbers.{depth_limit, text_limit}
use Rattle.tables.specs.Record.{Node, Tree, all_nodes, all_props}
use Rattle.tables.specs.declared.Reason.TheVariants.{TooDeep}
use Rattle.parser.specs.LocalsSlice.{slice_from, rest_from}
use Rattle.parser.specs.Split.{split, splitting}
use Rattle.parser.specs.Read.{accepted, refused, read_strict, read_lenient, tokenize}
use Rattle.reader_laws.proofs.Accepted.{Reading, reading-is}
use Rattle.reader_laws.proofs.Enough.{grew-some}
use Rattle.reader_laws.proofs.Grown.{Grew, walk_of, in_order}
use Rattle.reader_laws.proofs.Properties.{props-proper}
use Rattle.reader_laws.proofs.Sizes.{each-tree, nodes-most}
use Rattle.serialize.specs.Form.{form_tree, writing}
use Rattle.serialize_laws.specs.Same.{ReadsBack}
use Rattle.serialize_laws.proofs.Nested.{GoodR}
use Rattle.serialize_laws.proofs.ReadBack.{Back, Form}
use Rattle.serialize_laws.proofs.BackOrNine.{shallow-back}
use Rattle.serialize_laws.proofs.Normal.{normal-form}
use Rattle.serialize_laws.proofs.Aside.{written-alike, written_twice}
use Rattle.serialize_laws.specs.Back.{BeginsAll, Named}
use Rattle.serialize_laws.specs.Depth.{depth_of}
use Rattle.serialize_laws.proofs.Sounded.{PreTrees, back-again}
use Rattle.serialize_laws.proofs.Sounding.{HasSlice, some-sliced, sound-trees, few-trees, writable}
use Rattle.serialize_laws.proofs.Theorem.{form-back-within, form-too-deep, named-nodes, named-trees}
use Rattle.serialize_laws.proofs.Written.{PlainTree}
use Rattle.salvage_mend.specs.Mend.{mend_tree, mended}
use Rattle.salvage_laws.proofs.MendedNodes.{Roots, InOrder, pre-trees, plain-trees, valid-trees}
use Rattle.salvage_laws.proofs.Order.{Ordered, slice-ordered}
use Rattle.salvage_laws.proofs.Own.{OwnTree, own-mended, sound-own, own-aside}
use Rattle.parser.proofs.More.{lenient-accepts-more}
use Rattle.salvage_laws.specs.Again.{Again}

-- ---- what a reading has

grew-roots : (len : Bool) (base k : ℕ) (us : List Tok) (ts : List Tree) → Grew len base k us ts → Roots base ts
grew-roots len base zero us [] g = tt
grew-roots len base zero us (t ∷ ts) g = absurd g
grew-roots len base (suc k) us [] g = absurd g
grew-roots len base (suc k) us (t ∷ ts) g = (g.0.root, grew-roots len (base + length t.nodes) k (rest_from 0 us) ts g.1)

order-of : (base : ℕ) (ns : List Node) → Ordered base ns → GoodR base (reverse_aux (in_order ns) [])
order-of base [] h = refl
order-of base (n ∷ ns) h = subst (GoodR base) (sym (back-again (n ∷ ns))) h.0

module _ (len : Bool) (t : List ℕ) (ts : List Tree) (r : Reading len t ts) where
  in_order_lem : All InOrder ts
  in_order_lem =
      each-tree r InOrder
      (λ us x g e b. subst (λ (ns : List Node). GoodR x.root (reverse_aux ns [])) (sym e) (order-of x.root (walk_of len x.root (slice_from 0 us)) (slice-ordered x.root len us b)))

  some-tree : 0 < length ts
  some-tree =
      grew-some len 0 r.k r.toks ts r.grew
      (subst HasSlice r.cuts (some-sliced len (split len (splitting 0 0 [] []) (tokenize r.ink t).toks)))

  mended-form : All HasProper (all_props (all_nodes ts)) → Form (mended ts)
  mended-form h =
      let pre : PreTrees 0 (map mend_tree ts) = pre-trees 0 ts (grew-roots len 0 r.k r.toks ts r.grew) in_order_lem (omega (arith, nodes-most r)) in
      let pl : All PlainTree (map mend_tree ts) = plain-trees ts h in
      record {
        some = omega (arith, some-tree, length-map ts mend_tree);
        plain = pl;
        valid = valid-trees ts h;
        sound = sound-trees 0 (map mend_tree ts) pre pl;
        few = few-trees 0 (map mend_tree ts) pre;
      }

-- the mended record of a lenient reading can be written and read back, the limits aside
pub lenient-form : (t : List ℕ) (ts : List Tree) → read_lenient t ≡ accepted ts → Form (mended ts)
lenient-form t ts h = mended-form true t ts (reading-is true t ts h) (props-proper true t ts h)

-- a lenient reading; the writing of its mended record, within the text limit, is strictly read
module _ (t : List ℕ) (ts : List Tree) (h : read_lenient t ≡ accepted ts) (s : length (writing (mended ts)) ≤ text_limit) where
  pub form : Form (mended ts)
  form = lenient-form t ts h

  -- 9 where it is too deep
  pub mended-too-deep : depth_limit < depth_of (writing (mended ts)) → read_strict (writing (mended ts)) ≡ refused TooDeep 0
  mended-too-deep = form-too-deep (mended ts) form s

  module _ (d : depth_of (writing (mended ts)) ≤ depth_limit) where
    pub back : Back (map form_tree (mended ts))
    back = shallow-back (map form_tree (mended ts)) (normal-form (mended ts) form) s d

    -- else accepted, with the mended trees
    pub mended-reads : ReadsBack (mended ts)
    mended-reads = form-back-within (mended ts) form s d

    pub own : All OwnTree back.again
    own =
        let f : Form (map form_tree (mended ts)) = normal-form (mended ts) form in
        own-aside back.again (map form_tree (mended ts)) back.alike (sound-own 0 (map form_tree (mended ts)) f.sound f.plain)

    -- mended again it is the same text: lenient reading gives trees with nothing to mend, whose writing it is
    pub mended-twice : Again (writing (mended ts))
    mended-twice =
        record {
          trees = back.again;
          reads = lenient-accepts-more (writing (mended ts)) back.again back.accepts;
          stays = own-mended back.again own;
          bytes = written-alike back.again (map form_tree (mended ts)) back.alike ∙ written_twice (mended ts);
        }

-- a strictly accepted text, whose trees each begin with `(` and whose raw identifiers are non-empty and uppercase: nothing is mended
module _ (t : List ℕ) (ts : List Tree) (h : read_strict t ≡ accepted ts) (b : BeginsAll t) (nm : All Named (all_props (all_nodes ts))) where
  pub mended-own : (read_lenient t ≡ accepted ts) × (mended ts ≡ ts)
  mended-own =
      let f : Form ts = writable t ts h b (named-trees ts (named-nodes (all_nodes ts) nm)) in
      (lenient-accepts-more t ts h, own-mended ts (sound-own 0 ts f.sound f.plain))
