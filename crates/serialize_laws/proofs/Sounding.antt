-- Reading back: what strict reading accepts can be written and read back. Assumes nothing.
use Rattle.lists.proofs.Prelude.{◌≡◌, refl, sym, ap, ◌∙◌, subst, ℕ, zero, suc, ◌+◌, ◌≤◌, ◌<◌, arith, Bool, true, false, List, [], ◌∷◌, reverse, ltb, length, length-reverse, length-drop, length-take, take, drop, ltb-false, pick}
use Rattle.edit_laws.proofs.Accepted.{Accepted, accepted-is}
use Rattle.lexer_laws.proofs.Proper.{HasProper, Proper, proper-tokens}
use Rattle.lexer.specs.Token.{Prop, Tok, Val, lex_from}
use Rattle.lists.proofs.All.{all_map}
use Rattle.lists.specs.All.{All}
use Rattle.parser.proofs.Lift.{OfAnswer, OfNode, OfTree, of-tokens}
use Rattle.parser.specs.Read.{Answer, Trees, accepted, answer, parse_utf8, no_trees, parse_gametrees, trees_so_far, parse_slices, refused, read_strict}
use Rattle.parser.specs.Split.{Slices, Splitting, filled, no, over, sliced, slices, split, splitting, wrong}
use Rattle.serialize_laws.proofs.Closing.{OkSlices, SliceOk, ok-tokens}
use Rattle.serialize_laws.proofs.Opening.{Leads, leads-all}
use Rattle.serialize_laws.proofs.ReadBack.{Form}
use Rattle.serialize_laws.proofs.Inked.{Valid, ValidNode, ValidProp, ValidTree}
use Rattle.serialize_laws.proofs.Resplit.{Few}
use Rattle.serialize_laws.proofs.Regrow.{SoundNodes, SoundTrees}
use Rattle.serialize_laws.proofs.Sizes.{Within, few-slices, few-tokens, total}
use Rattle.serialize_laws.proofs.WrittenProps.{Plain, Shut}
use Rattle.serialize_laws.proofs.Written.{PlainNode, PlainTree}
use Rattle.tables.specs.Numbers.{depth_limit, none, text_limit}
use Rattle.tables.specs.Record.{Node, Tree}
use Rattle.tables.specs.declared.Reason.TheVariants.{TextTooLong, TooDeep}
use Rattle.text_utf8.specs.Text.{Utf, blank, inked, utfs, whole}
use Rattle.serialize_laws.specs.Back.{Named, BeginsAll, Each, toks_of}
use Rattle.serialize_laws.proofs.Sounded.{PreNodes, PreTrees, back-again, all-trees}
use Rattle.parser.proofs.Answers.{not-both}

abbrev pub HasSlice : Slices → Type 0
HasSlice (no n) = Unit {0}
HasSlice (slices ss) = 0 < length ss

some-deep : (b : Bool) (ss : List (List Tok)) → 0 < length ss → HasSlice (pick b (no TooDeep) (slices ss))
some-deep true ss h = tt
some-deep false ss h = h

some-filled : (len : Bool) (m : ℕ) (ss : List (List Tok)) → HasSlice (filled len m ss)
some-filled true m [] = omega arith
some-filled false m [] = tt
some-filled len m (s ∷ ss) = some-deep (ltb depth_limit m) (reverse (s ∷ ss)) (omega (arith, length-reverse (s ∷ ss)))

-- splitting that is not refused gives a slice
pub some-sliced : (len : Bool) (x : Splitting) → HasSlice (sliced len x)
some-sliced len (splitting zero m cur ss) = some-filled len m ss
some-sliced true (splitting (suc d) m cur ss) = some-deep (ltb depth_limit m) (reverse (reverse cur ∷ ss)) (omega (arith, length-reverse (reverse cur ∷ ss)))
some-sliced false (splitting (suc d) m cur ss) = tt
some-sliced len (over m ss) = some-filled len m ss
some-sliced len (wrong n) = tt

pre-answer : (ss : List (List Tok)) (r : Trees) (ts : List Tree) → parse_gametrees false (trees_so_far 0 []) ss ≡ r → answer r ≡ accepted ts
    → All Leads ss → All SliceOk ss → total ss ≤ none → PreTrees 0 ts × (length ts ≡ length ss)
pre-answer ss (trees_so_far n vs) ts e h b k l =
    let g = all-trees 0 ss [] n vs b k (omega arith) e in
    let h2 : accepted (reverse vs) ≡ accepted ts = h in
    let q : reverse vs ≡ ts = cc in
    let w : g.0 ≡ ts = sym (back-again g.0) ∙ ap reverse (sym g.1) ∙ q in
    (subst (PreTrees 0) w g.2, sym (ap length w) ∙ g.3)
pre-answer ss (no_trees j) ts e h b k l = not-both j 0 ts h

pre-planted : (x : Slices) (ts : List Tree) → parse_slices false x ≡ accepted ts → Each Leads x → OkSlices x → Within none x → HasSlice x
    → PreTrees 0 ts × (0 < length ts)
pre-planted (no n) ts h b k l m = not-both n 0 ts h
pre-planted (slices ss) ts h b k l m =
    let r = pre-answer ss (parse_gametrees false (trees_so_far 0 []) ss) ts refl h b k l in (r.0, omega (arith, r.1))

plain-props : (ps : List Prop) → All HasProper ps → All Named ps → All Plain ps
plain-props [] h n = tt
plain-props (p ∷ ps) h n = (
  record { named = n.0.0; upper-case = n.0.1; valued = h.0.0; shut = all_map Proper (λ (v : Val). Shut v) (λ v x. x.0) p.vals h.0.1 },
  plain-props ps h.1 n.1,
)

plain-nodes : (ns : List Node) → All (OfNode HasProper) ns → All (OfNode Named) ns → All PlainNode ns
plain-nodes [] h n = tt
plain-nodes (x ∷ xs) h n = (plain-props x.props h.0 n.0, plain-nodes xs h.1 n.1)

plain-trees : (ts : List Tree) → All (OfTree HasProper) ts → All (OfTree Named) ts → All PlainTree ts
plain-trees [] h n = tt
plain-trees (t ∷ ts) h n = (plain-nodes t.nodes h.0 n.0, plain-trees ts h.1 n.1)

valid-props : (ps : List Prop) → All HasProper ps → All ValidProp ps
valid-props [] h = tt
valid-props (p ∷ ps) h = (all_map Proper Valid (λ v x. x.1) p.vals h.0.1, valid-props ps h.1)

valid-nodes : (ns : List Node) → All (OfNode HasProper) ns → All ValidNode ns
valid-nodes [] h = tt
valid-nodes (x ∷ xs) h = (valid-props x.props h.0, valid-nodes xs h.1)

valid-trees : (ts : List Tree) → All (OfTree HasProper) ts → All ValidTree ts
valid-trees [] h = tt
valid-trees (t ∷ ts) h = (valid-nodes t.nodes h.0, valid-trees ts h.1)

sound-nodes : (r k : ℕ) (ns : List Node) → PreNodes r k ns → All PlainNode ns → SoundNodes r k ns
sound-nodes r k [] p h = p
sound-nodes r k (n ∷ ns) p h =
    (p.0, record { plain = (h.0, h.1); single = p.1.single; good = p.1.good; few = p.1.few; game-is = p.1.game-is })

pub sound-trees : (base : ℕ) (ts : List Tree) → PreTrees base ts → All PlainTree ts → SoundTrees base ts
sound-trees base [] p h = tt
sound-trees base (t ∷ ts) p h = (p.0, sound-nodes base t.game t.nodes p.1 h.0, sound-trees (base + length t.nodes) ts p.2 h.1)

few-nodes : (r k : ℕ) (ns : List Node) → PreNodes r k ns → r + length ns ≤ none
few-nodes r k [] p = absurd p
few-nodes r k (n ∷ ns) p = omega (arith, p.1.few)

pub few-trees : (base : ℕ) (ts : List Tree) → PreTrees base ts → Few ts
few-trees base [] p = tt
few-trees base (t ∷ ts) p = (omega (arith, p.0, few-nodes base t.game t.nodes p.1), few-trees (base + length t.nodes) ts p.2)

-- ---- the theorem

in_bounds : (b : Bool) (a : Answer) (ts : List Tree) → pick b (refused TextTooLong 0) a ≡ accepted ts → b ≡ false
in_bounds true a ts e = not-both TextTooLong 0 ts e
in_bounds false a ts e = refl

within-up : (n m : ℕ) (x : Slices) → n ≤ m → Within n x → Within m x
within-up n m (no k) l h = tt
within-up n m (slices ss) l h = omega arith

-- what strict reading accepts, with trees that begin with `(` and upper case identifiers, can be written and read back, limits aside
pub writable : (t : List ℕ) (ts : List Tree) → read_strict t ≡ accepted ts → BeginsAll t → All (OfTree Named) ts
    → Form ts
writable t ts h b nm = go (accepted-is t ts h)
  where
    long : length t ≤ text_limit
    long = ltb-false text_limit (length t) (in_bounds (ltb text_limit (length t)) (parse_utf8 false (utfs (whole blank) 0 t) t) ts h)

    go : Accepted t ts → Form ts
    go A =
        let bs : List ℕ = drop A.f0 (take A.l t) in
        let xs : List Tok = (lex_from A.f0 A.l bs).toks in
        let bg : Each Leads (sliced false (split false (splitting 0 0 [] []) xs)) =
        subst (λ (u : Utf). Each Leads (sliced false (split false (splitting 0 0 [] []) (toks_of u t)))) A.valid (leads-all t b) in
        let wi : Within none (sliced false (split false (splitting 0 0 [] []) xs)) =
        within-up (length xs) none (sliced false (split false (splitting 0 0 [] []) xs))
        (omega (arith, long, few-tokens A.f0 A.l bs, length-drop A.f0 (take A.l t), length-take A.l t)) (few-slices xs) in
        let pr = pre-planted (sliced false (split false (splitting 0 0 [] []) xs)) ts A.trees bg (ok-tokens xs) wi (some-sliced false (split false (splitting 0 0 [] []) xs)) in
        let hp : All (OfTree HasProper) ts =
        subst (OfAnswer HasProper) A.trees (of-tokens HasProper false xs (proper-tokens t (inked A.f0 A.l) A.valid A.f0 A.l)) in
        let pl = plain-trees ts hp nm in
        record {
          some = pr.1;
          plain = pl;
          valid = valid-trees ts hp;
          sound = sound-trees 0 ts pr.0 pl;
          few = few-trees 0 ts pr.0;
        }
