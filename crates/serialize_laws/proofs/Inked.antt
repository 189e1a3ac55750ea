-- The writing is valid UTF-8, and trimming takes nothing away. Assumes nothing.
use Rattle.lists.proofs.Prelude.{◌≡◌, refl, sym, ap, ◌∙◌, subst, ℕ, suc, ◌<◌, arith, Bool, true, false, List, [], ◌∷◌, ◌++◌, append_assoc, append-nil, leb, eqb, length, length-append, le-leb, pick}
use Rattle.lexer.specs.Token.{Prop, Val}
use Rattle.lists.proofs.Tests.{and_both}
use Rattle.lists.specs.All.{All}
use Rattle.serialize_laws.specs.Back.{uppers}
use Rattle.text_chars.proofs.Tests.{within-true}
use Rattle.serialize_laws.proofs.WrittenProps.{Plain, letters-same}
use Rattle.serialize_laws.proofs.Written.{PlainNode, PlainTree}
use Rattle.serialize.specs.LocalsWrite.{Open, bracketed, ends_text, path_left, opened, shuts, write_nodes, write_trees}
use Rattle.serialize.specs.Branch.{write_props, vals_text}
use Rattle.tables.specs.Numbers.{none}
use Rattle.tables.specs.Record.{Node, Tree}
use Rattle.tables.specs.Rows.{parents}
use Rattle.text_utf8.proofs.Like.{like-utfs, like-whole}
use Rattle.text_utf8.proofs.Steps.{place, place_is, utfs-append}
use Rattle.text_chars.specs.White.{white, within}
use Rattle.text_utf8.specs.Text.{Ink, Utf, blank, inked, utf, utfs, whole}
use Rattle.values.specs.Read.{read_identifier}
use Rattle.text_utf8.proofs.Blocks.{mark-inked}

-- ---- the writing is valid, and trimming takes nothing away

-- within ink: the bytes are whole characters, and the ink begins where it did
abbrev Fine : List ℕ → Type 0
Fine bs = (a l o : ℕ) → (l2 : ℕ) × (utfs (whole (inked a l)) o bs ≡ whole (inked a l2))

fine-nil : Fine []
fine-nil a l o = (l, refl)

fine-append : (xs ys : List ℕ) → Fine xs → Fine ys → Fine (xs ++ ys)
fine-append xs ys h k a l o =
    let x = h a l o in
    let y = k a x.0 (place o xs) in
    (y.0, utfs-append (whole (inked a l)) o xs ys ∙ ap (λ (u : Utf). utfs u (place o xs) ys) x.1 ∙ y.1)

fine-ascii : (b : ℕ) → leb b 0x7f ≡ true → Fine (b ∷ [])
fine-ascii b h a l o =
    let x = mark-inked (white b) a l o (suc o) in
    (x.0, rw h (ap whole x.1))

fine-cons : (b : ℕ) (bs : List ℕ) → leb b 0x7f ≡ true → Fine bs → Fine (b ∷ bs)
fine-cons b bs h k = fine-append (b ∷ []) bs (fine-ascii b h) k

fine-valid : (bs : List ℕ) (k : Ink) → utfs (whole blank) 0 bs ≡ whole k → Fine bs
fine-valid bs k h a l o = like-whole a k (utfs (whole (inked a l)) o bs) (rw h at (like-utfs a (whole blank) (whole (inked a l)) 0 o bs refl))

fine-upper : (w : List ℕ) → uppers w ≡ true → Fine w
fine-upper [] h = fine-nil
fine-upper (b ∷ bs) h =
    let k = and_both (within 0x41 0x5a b) (uppers bs) h in
    let r = within-true 0x41 0x5a b k.0 in
    fine-cons b bs (le-leb b 0x7f (omega (arith, r.1))) (fine-upper bs k.1)

abbrev pub Valid : Val → Type 0
Valid v = (k : Ink) × (utfs (whole blank) 0 v.raw ≡ whole k)

abbrev pub ValidProp : Prop → Type 0
ValidProp p = All Valid p.vals

abbrev pub ValidNode : Node → Type 0
ValidNode n = All ValidProp n.props

abbrev pub ValidTree : Tree → Type 0
ValidTree t = All ValidNode t.nodes

fine-boxed : (vs : List Val) → All Valid vs → Fine (vals_text vs)
fine-boxed [] h = fine-nil
fine-boxed (v ∷ vs) h =
    fine-cons 0x5b (v.raw ++ (0x5d ∷ vals_text vs)) refl
    (fine-append v.raw (0x5d ∷ vals_text vs) (fine-valid v.raw h.0.0 h.0.1) (fine-cons 0x5d (vals_text vs) refl (fine-boxed vs h.1)))

fine-props : (ps : List Prop) → All Plain ps → All ValidProp ps → Fine (write_props ps)
fine-props [] pl h = fine-nil
fine-props (p ∷ ps) pl h =
    fine-append (read_identifier p.name) (vals_text p.vals ++ write_props ps)
    (subst Fine (sym (letters-same p.name pl.0.upper-case)) (fine-upper p.name pl.0.upper-case))
    (fine-append (vals_text p.vals) (write_props ps) (fine-boxed p.vals h.0) (fine-props ps pl.1 h.1))

fine-shuts : (b : Bool) (bs : List ℕ) → Fine bs → Fine (shuts b bs)
fine-shuts true bs h = fine-cons 0x29 bs refl h
fine-shuts false bs h = h

fine-ends : (p : ℕ) (path : List Open) → Fine (ends_text p path)
fine-ends p [] = fine-nil
fine-ends p (x ∷ xs) = go (eqb x.num p) (fine-shuts x.brk (ends_text p xs) (fine-ends p xs))
  where
    go : (b : Bool) → Fine (shuts x.brk (ends_text p xs)) → Fine (pick b [] (shuts x.brk (ends_text p xs)))
    go true h = fine-nil
    go false h = h

fine-opened : (b : Bool) (bs : List ℕ) → Fine bs → Fine (opened b bs)
fine-opened true bs h = fine-cons 0x28 bs refl h
fine-opened false bs h = h

fine-nodes : (ps : List ℕ) (k : ℕ) (path : List Open) (ns : List Node) → All PlainNode ns → All ValidNode ns → Fine (write_nodes ps k path ns)
fine-nodes ps k path [] pl h = fine-ends none path
fine-nodes ps k path (n ∷ ns) pl h =
    let next : List Open = record { num = k; brk = bracketed ps n.parent } ∷ path_left n.parent path in
    let rest : List ℕ = write_props n.props ++ write_nodes ps (suc k) next ns in
    fine-append (ends_text n.parent path) (opened (bracketed ps n.parent) (0x3b ∷ rest)) (fine-ends n.parent path)
    (fine-opened (bracketed ps n.parent) (0x3b ∷ rest) (fine-cons 0x3b rest refl
    (fine-append (write_props n.props) (write_nodes ps (suc k) next ns) (fine-props n.props pl.0 h.0) (fine-nodes ps (suc k) next ns pl.1 h.1))))

abbrev Framed : List ℕ → Type 0
Framed bs = (mid : List ℕ) × (bs ≡ 0x28 ∷ (mid ++ (0x29 ∷ []))) × Fine mid

framed : (t : Tree) (ts : List Tree) → All PlainTree (t ∷ ts) → All ValidTree (t ∷ ts) → Framed (write_trees (t ∷ ts))
framed t [] pl h =
    let ns : List ℕ = write_nodes (parents t.nodes) t.root [] t.nodes in
    (ns, append-nil (0x28 ∷ (ns ++ (0x29 ∷ []))), fine-nodes (parents t.nodes) t.root [] t.nodes pl.0 h.0)
framed t (u ∷ us) pl h =
    let ns : List ℕ = write_nodes (parents t.nodes) t.root [] t.nodes in
    let x = framed u us pl.1 h.1 in (
      ns ++ (0x29 ∷ (0x28 ∷ x.0)),
      ap (λ (z : List ℕ). 0x28 ∷ z)
          (ap (λ (z : List ℕ). (ns ++ (0x29 ∷ [])) ++ z) x.1 ∙ append_assoc ns (0x29 ∷ []) (0x28 ∷ (x.0 ++ (0x29 ∷ [])))
          ∙ sym (append_assoc ns (0x29 ∷ (0x28 ∷ x.0)) (0x29 ∷ []))),
      fine-append ns (0x29 ∷ (0x28 ∷ x.0)) (fine-nodes (parents t.nodes) t.root [] t.nodes pl.0 h.0)
          (fine-cons 0x29 (0x28 ∷ x.0) refl (fine-cons 0x28 x.0 refl x.2)),
    )

open-ink : utf (whole blank) 0 0x28 ≡ whole (inked 0 1)
unfolding white
open-ink = refl

close-last : (a l o : ℕ) → utf (whole (inked a l)) o 0x29 ≡ whole (inked a (suc o))
unfolding white
close-last a l o = refl

framed-ink : (mid : List ℕ) → Fine mid → utfs (whole blank) 0 (0x28 ∷ (mid ++ (0x29 ∷ []))) ≡ whole (inked 0 (length (0x28 ∷ (mid ++ (0x29 ∷ [])))))
framed-ink mid h =
    let x = h 0 1 1 in
    let n : suc (place 1 mid) ≡ suc (length (mid ++ (0x29 ∷ []))) = omega (arith, place_is 1 mid, length-append mid (0x29 ∷ [])) in
    ap (λ (u : Utf). utfs u 1 (mid ++ (0x29 ∷ []))) open-ink
    ∙ utfs-append (whole (inked 0 1)) 1 mid (0x29 ∷ [])
    ∙ ap (λ (u : Utf). utf u (place 1 mid) 0x29) x.1
    ∙ close-last 0 x.0 (place 1 mid)
    ∙ ap (λ (z : ℕ). whole (inked 0 z)) n

pub written-ink : (ts : List Tree) → 0 < length ts → All PlainTree ts → All ValidTree ts → utfs (whole blank) 0 (write_trees ts) ≡ whole (inked 0 (length (write_trees ts)))
written-ink [] ne pl h = absurd (omega arith)
written-ink (t ∷ ts) ne pl h = go (framed t ts pl h)
  where
    go : Framed (write_trees (t ∷ ts)) → utfs (whole blank) 0 (write_trees (t ∷ ts)) ≡ whole (inked 0 (length (write_trees (t ∷ ts))))
    go x = subst (λ (z : List ℕ). utfs (whole blank) 0 z ≡ whole (inked 0 (length z))) (sym x.1) (framed-ink x.0 x.2)
