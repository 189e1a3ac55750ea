-- The scope's "Reading back". Assumes nothing.
use Rattle.lists.proofs.Prelude.{◌≡◌, sym, ◌∙◌, ◌⊎◌, inl, inr, ℕ, ◌≤◌, ◌<◌, List, [], ◌∷◌, map, length}
use Rattle.lists.proofs.All.{all_left, all_right}
use Rattle.lists.specs.All.{All}
use Rattle.parser.proofs.Answers.{not-both}
use Rattle.parser.proofs.Lift.{OfNode, OfTree}
use Rattle.parser.specs.Read.{accepted, refused, read_strict}
use Rattle.serialize_laws.proofs.Aside.{written-alike, written_twice}
use Rattle.serialize_laws.proofs.BackOrNine.{deep-nine, shallow-back}
use Rattle.serialize_laws.proofs.Kept.{same-trees, same-tree-rows, same-node-rows}
use Rattle.serialize_laws.proofs.Normal.{normal-form}
use Rattle.serialize_laws.proofs.ReadBack.{Back, Form}
use Rattle.serialize_laws.proofs.Sounding.{writable}
use Rattle.serialize_laws.specs.Back.{Named, BeginsAll}
use Rattle.serialize_laws.specs.Depth.{depth_of}
use Rattle.serialize_laws.specs.Same.{ReadsBack}
use Rattle.serialize.specs.Form.{form_tree, writing}
use Rattle.tables.proofs.Cases.{below_or}
use Rattle.tables.specs.Numbers.{depth_limit, text_limit}
use Rattle.tables.specs.Record.{Node, Tree, all_nodes, all_props}
use Rattle.tables.specs.declared.Reason.{Reason}
use Rattle.tables.specs.declared.Reason.TheVariants.{TooDeep}

pub named-nodes : (ns : List Node) → All Named (all_props ns) → All (OfNode Named) ns
named-nodes [] h = tt
named-nodes (n ∷ ns) h = (all_left Named n.props (all_props ns) h, named-nodes ns (all_right Named n.props (all_props ns) h))

pub named-trees : (ts : List Tree) → All (OfNode Named) (all_nodes ts) → All (OfTree Named) ts
named-trees [] h = tt
named-trees (t ∷ ts) h = (all_left (OfNode Named) t.nodes (all_nodes ts) h, named-trees ts (all_right (OfNode Named) t.nodes (all_nodes ts) h))

-- trees that can be written and read back; their writing, within the text limit, is read
module _ (ts : List Tree) (f : Form ts) (s : length (writing ts) ≤ text_limit) where
  form : Form (map form_tree ts)
  form = normal-form ts f

  -- within the depth it is read back
  pub form-back-within : depth_of (writing ts) ≤ depth_limit → ReadsBack ts
  form-back-within l =
      let x : Back (map form_tree ts) = shallow-back (map form_tree ts) form s l in
      let same = same-trees ts x.again x.alike in
      record {
        again = x.again;
        accepts = x.accepts;
        same = same;
        tree-rows = same-tree-rows ts x.again same;
        node-rows = same-node-rows ts x.again same;
        bytes = written-alike x.again (map form_tree ts) x.alike ∙ written_twice ts;
      }

  -- above it, and only there, it is 9
  pub form-too-deep : depth_limit < depth_of (writing ts) → read_strict (writing ts) ≡ refused TooDeep 0
  form-too-deep = deep-nine (map form_tree ts) form s

  pub form-only-too-deep : (r : Reason) (p : ℕ) → read_strict (writing ts) ≡ refused r p → depth_limit < depth_of (writing ts)
  form-only-too-deep r p e = below_or depth_limit (depth_of (writing ts)) (λ l. l) (λ l. not-both r p (form-back-within l).again (sym e ∙ (form-back-within l).accepts))

  -- so one of the two
  pub form-reads-back : (read_strict (writing ts) ≡ refused TooDeep 0) ⊎ ReadsBack ts
  form-reads-back = below_or depth_limit (depth_of (writing ts)) (λ l. inl (form-too-deep l)) (λ l. inr (form-back-within l))

-- a text that is strictly accepted, whose trees each begin with `(` and whose raw identifiers are non-empty and uppercase
module _ (t : List ℕ) (ts : List Tree) (h : read_strict t ≡ accepted ts) (b : BeginsAll t) (nm : All Named (all_props (all_nodes ts)))
    (s : length (writing ts) ≤ text_limit) where
  strict-form : Form ts
  strict-form = writable t ts h b (named-trees ts (named-nodes (all_nodes ts) nm))

  pub reads-back-within : depth_of (writing ts) ≤ depth_limit → ReadsBack ts
  reads-back-within = form-back-within ts strict-form s

  pub too-deep : depth_limit < depth_of (writing ts) → read_strict (writing ts) ≡ refused TooDeep 0
  too-deep = form-too-deep ts strict-form s

  pub only-too-deep : (r : Reason) (p : ℕ) → read_strict (writing ts) ≡ refused r p → depth_limit < depth_of (writing ts)
  only-too-deep = form-only-too-deep ts strict-form s

  pub reads-back : (read_strict (writing ts) ≡ refused TooDeep 0) ⊎ ReadsBack ts
  reads-back = form-reads-back ts strict-form s
