-- A strictly accepted text with nothing to mend and nothing behind its last tree has the empty list. Assumes nothing.
use Rattle.lists.proofs.Prelude.{◌≡◌, refl, sym, ap, ap₂, ◌∙◌, subst, ℕ, zero, suc, ◌+◌, ◌<◌, max, arith, Bool, true, false, false≢true, not, List, [], ◌∷◌, ◌++◌, length, length-reverse, drop, leb, eq-eqb, pick}
use Rattle.lists.specs.All.{All}
use Rattle.lists.specs.Same.{same}
use Rattle.lists.proofs.Tests.{never}
use Rattle.text_utf8.specs.Text.{Utf}
use Rattle.lexer.specs.Token.{Prop, Tok, start, end, node, prop, End, done, broken, Lexed}
use Rattle.values.specs.Read.{read_identifier}
use Rattle.tables.specs.Numbers.{none}
use Rattle.tables.specs.Record.{Node, Tree, all_props}
use Rattle.tables.specs.declared.Reason.{Reason}
use Rattle.tables.specs.declared.Reason.TheVariants.{UnexpectedGameTreeStart, UnexpectedGameTreeEnd, UnexpectedProperty}
use Rattle.parser.specs.Game.{Game, is}
use Rattle.parser.specs.LocalsSlice.{slice_from, rest_from, first_slices}
use Rattle.parser.specs.Split.{Splitting, splitting, over, wrong, splits, split, Slices, no, slices, filled, sliced, split_by_gametree}
use Rattle.parser.specs.Walk.{Walk, walk, halted, stopped, children, walks, walked}
use Rattle.parser.specs.Read.{accepted, read_strict, tokenize, lexing, parse_utf8}
use Rattle.parser.proofs.Runs.{stopped-stays}
use Rattle.parser.proofs.Surveys.{wrong_stays}
use Rattle.parser.proofs.Texts.{text-short}
use Rattle.reader_laws.proofs.Accepted.{Reading, reading-is}
use Rattle.reader_laws.proofs.Grown.{Grew, nodes_of, walk_of, in_order}
use Rattle.serialize_laws.specs.Back.{Named, toks_of}
use Rattle.why_blame.specs.Blame.{nowhere, found, blame, is_stopped}
use Rattle.why_blame.specs.Cuts.{sliced_tokens}
use Rattle.salvage_mend.specs.Mend.{root_game, gms_bad}
use Rattle.salvage_mend.specs.Changes.{Change, unnamed, spelled_anew, prop_change, props_changes, nodes_changes}
use Rattle.salvage_list.specs.Listed.{cut_of, walk_nodes, root_of, trees_changes, tail_of, slices_changes, utf_changes, changes_of}
use Rattle.salvage_list.proofs.Rooted.{changes-append}
use Rattle.salvage_laws.specs.Tail.{AllSliced, NoTail}
use Rattle.salvage_laws.proofs.Own.{OwnNode, OwnTree, read-own, there-some}

-- ---- splitting

slices-never : {A : Type 0} {r : Reason} {ss : List (List Tok)} → no r ≡ slices ss → A
slices-never e = never cc

-- strict splitting that is not refused
abbrev Right : Splitting → Type 0
Right s = (r : Reason) → s ≡ wrong r → ⊥

same-splits : (s : Splitting) (t : Tok) → Right (splits false s t) → splits true s t ≡ splits false s t
same-splits (splitting d m cur ss) (start o) h = refl
same-splits (splitting zero m cur ss) (end o) h = absurd (h UnexpectedGameTreeEnd refl)
same-splits (splitting (suc zero) m cur ss) (end o) h = refl
same-splits (splitting (suc (suc d)) m cur ss) (end o) h = refl
same-splits (splitting d m cur ss) (node o) h = refl
same-splits (splitting d m cur ss) (prop p e) h = refl
same-splits (over m ss) t h = refl
same-splits (wrong r) t h = refl

same-split : (s : Splitting) (ts : List Tok) → Right (split false s ts) → split true s ts ≡ split false s ts
same-split s [] h = refl
same-split s (t ∷ ts) h =
    ap (λ (z : Splitting). split true z ts) (same-splits s t (λ r e. h r (ap (λ (z : Splitting). split false z ts) e ∙ wrong_stays false r ts)))
    ∙ same-split (splits false s t) ts h

same-filled : (m : ℕ) (us ss : List (List Tok)) → filled false m us ≡ slices ss → filled true m us ≡ slices ss
same-filled m [] ss e = slices-never e
same-filled m (u ∷ us) ss e = e

same-sliced : (x : Splitting) (ss : List (List Tok)) → sliced false x ≡ slices ss → sliced true x ≡ slices ss
same-sliced (splitting zero m cur us) ss e = same-filled m us ss e
same-sliced (splitting (suc d) m cur us) ss e = slices-never e
same-sliced (over m us) ss e = same-filled m us ss e
same-sliced (wrong r) ss e = slices-never e

-- the slices of strict splitting are those of lenient splitting
same-slices : (ts : List Tok) (ss : List (List Tok)) → split_by_gametree false ts ≡ slices ss → split_by_gametree true ts ≡ slices ss
same-slices ts ss e =
    ap (sliced true) (same-split (splitting 0 0 [] []) ts (λ r q. slices-never (sym (ap (sliced false) q) ∙ e)))
    ∙ same-sliced (split false (splitting 0 0 [] []) ts) ss e

-- ---- a strict walk that gives nodes: the lenient one gives the same, and halts nowhere

module _ (base : ℕ) where
  abbrev Alike : Walk → Walk → (pre ts : List Tok) → Type 0
  Alike w v pre ts = (walked true base w ts ≡ walked false base v ts) × (blame (walks true base) is_stopped w pre ts ≡ nowhere)

  none-given : {A : Type 0} (r : Reason) (ts : List Tok) → 0 < length (nodes_of (walked false base (stopped r) ts)) → A
  none-given r ts h = absurd (let l : length (nodes_of (walked false base (stopped r) ts)) ≡ 0 = ap (λ (w : Walk). length (nodes_of w)) (stopped-stays false base r ts) in omega arith)

  own-walk : (ts : List Tok) (cur : ℕ) (st : List ℕ) (g : Bool) (ns : List Node) (pre : List Tok) → 0 < length (nodes_of (walked false base (walk cur st g ns) ts))
      → Alike (walk cur st g ns) (walk cur st g ns) pre ts
  own-walk [] cur st g ns pre h = (refl, refl)
  own-walk (start o ∷ ts) cur [] g ns pre h = own-walk ts cur (cur ∷ []) false ns (pre ++ (start o ∷ [])) h
  own-walk (start o ∷ ts) cur (y ∷ st) g ns pre h = go (children y ns) h (own-walk ts cur (cur ∷ y ∷ st) false ns (pre ++ (start o ∷ [])))
    where
      go : (b : Bool) → 0 < length (nodes_of (walked false base (pick b (walk cur (cur ∷ y ∷ st) false ns) (stopped UnexpectedGameTreeStart)) ts)) → (0 < length (nodes_of (walked false base (walk cur (cur ∷ y ∷ st) false ns) ts)) → Alike (walk cur (cur ∷ y ∷ st) false ns) (walk cur (cur ∷ y ∷ st) false ns) (pre ++ (start o ∷ [])) ts)
          → (walked true base (pick b (walk cur (cur ∷ y ∷ st) false ns) (halted ns)) ts ≡ walked false base (pick b (walk cur (cur ∷ y ∷ st) false ns) (stopped UnexpectedGameTreeStart)) ts)
          × (pick (is_stopped (pick b (walk cur (cur ∷ y ∷ st) false ns) (halted ns))) (found (walk cur (y ∷ st) g ns) pre (start o)) (blame (walks true base) is_stopped (pick b (walk cur (cur ∷ y ∷ st) false ns) (halted ns)) (pre ++ (start o ∷ [])) ts) ≡ nowhere)
      go true l k = k l
      go false l k = none-given UnexpectedGameTreeStart ts l
  own-walk (end o ∷ ts) cur [] g ns pre h = none-given UnexpectedGameTreeEnd ts h
  own-walk (end o ∷ ts) cur (y ∷ st) g ns pre h = own-walk ts y st false ns (pre ++ (end o ∷ [])) h
  own-walk (node o ∷ ts) cur st g ns pre h = own-walk ts (base + length ns) st true (record { parent = cur; props = [] } ∷ ns) (pre ++ (node o ∷ [])) h
  own-walk (prop p e ∷ ts) cur st false ns pre h = none-given UnexpectedProperty ts h
  own-walk (prop p e ∷ ts) cur st true [] pre h = none-given UnexpectedProperty ts h
  own-walk (prop p e ∷ ts) cur st true (n ∷ ns) pre h = own-walk ts cur st true (record { parent = n.parent; props = n.props ++ (p ∷ []) } ∷ ns) (pre ++ (prop p e ∷ [])) h

-- ---- properties and nodes with nothing to mend

pub same_self : (w : List ℕ) → same w w ≡ true
same_self [] = refl
same_self (b ∷ w) = rw (eq-eqb b b refl) (same_self w)

own_prop : (k : ℕ) (p : Prop) → Named p → prop_change false k p ≡ []
own_prop k p n = go (leb (length (read_identifier p.name)) 0) (same (read_identifier p.name) p.name) named spelled
  where
    named : not (leb (length (read_identifier p.name)) 0) ≡ true
    named = rw (read-own p n) (there-some p.name n.0)

    spelled : same (read_identifier p.name) p.name ≡ true
    spelled = rw (read-own p n) (same_self p.name)

    go : (a c : Bool) → not a ≡ true → c ≡ true → pick a (unnamed k ∷ []) (pick c [] (spelled_anew k ∷ [])) ≡ []
    go true c e f = absurd (false≢true e)
    go false true e f = refl
    go false false e f = absurd (false≢true f)

own-props : (k : ℕ) (ps : List Prop) → All Named ps → props_changes false k ps ≡ []
own-props k [] h = refl
own-props k (p ∷ ps) h = ap₂ (λ (xs ys : List Change). xs ++ ys) (own_prop k p h.0) (own-props (suc k) ps h.1)

own-rest : (k : ℕ) (ns : List Node) → All OwnNode ns → props_changes false k (all_props ns) ≡ []
own-rest k [] h = refl
own-rest k (n ∷ ns) h =
    changes-append false k n.props (all_props ns)
    ∙ ap₂ (λ (xs ys : List Change). xs ++ ys) (own-props k n.props h.0) (own-rest (k + length n.props) ns h.1)

own-nodes : (k g : ℕ) (ns : List Node) → root_game ns ≡ is g → All OwnNode ns → nodes_changes k ns ≡ []
own-nodes k g [] e h = refl
own-nodes k g (n ∷ ns) e h =
    ap₂ (λ (xs ys : List Change). xs ++ ys) (ap (λ (z : Game). props_changes (gms_bad z) k n.props) e ∙ own-props k n.props h.0) (own-rest (k + length n.props) ns h.1)

-- ---- the trees

ordered : (w : Walk) → 0 < length (nodes_of w) → walk_nodes w ≡ in_order (nodes_of w)
ordered (walk cur st g []) h = absurd (omega arith)
ordered (walk cur st g (n ∷ ns)) h = refl
ordered (halted []) h = absurd (omega arith)
ordered (halted (n ∷ ns)) h = refl
ordered (stopped r) h = absurd (omega arith)

some-ordered : (ns : List Node) → 0 < length (in_order ns)
some-ordered [] = omega arith
some-ordered (n ∷ ns) = omega (arith, length-reverse (n ∷ ns))

root-silent : (i : ℕ) (ns : List Node) → 0 < length ns → root_of i ns ≡ []
root-silent i [] h = absurd (omega arith)
root-silent i (n ∷ ns) h = refl

trees-silent : (i base k n : ℕ) (us : List Tok) (ts : List Tree) → Grew false base n us ts → All OwnTree ts → trees_changes i base k (first_slices n us) ≡ []
unfolding first_slices
trees-silent i base k zero us ts g o = refl
trees-silent i base k (suc n) us [] g o = absurd g
trees-silent i base k (suc n) us (t ∷ ts) g o =
    let S : List Tok = slice_from 0 us in
    let w : Walk = walked true base (walk none [] false []) S in
    let x = own-walk base S none [] false [] [] (g.0.some refl) in
    let e : walk_nodes w ≡ t.nodes = ap walk_nodes x.0 ∙ ordered (walked false base (walk none [] false []) S) (g.0.some refl) ∙ sym g.0.nodes in
    let l : 0 < length t.nodes = subst (λ (ms : List Node). 0 < length ms) (sym g.0.nodes) (some-ordered (walk_of false base S)) in
    let m : max 1 (length (walk_nodes w)) ≡ length t.nodes = ap (λ (ms : List Node). max 1 (length ms)) e ∙ omega arith in
    ap₂ (λ (xs ys : List Change). xs ++ ys) (ap (root_of i) e ∙ root-silent i t.nodes l)
    (ap₂ (λ (xs ys : List Change). xs ++ ys) (ap (nodes_changes k) e ∙ own-nodes k t.game t.nodes o.0.0 o.0.1)
    (ap₂ (λ (xs ys : List Change). xs ++ ys) (ap (cut_of i) x.1)
    (ap (λ (b : ℕ). trees_changes (suc i) (base + b) (k + length (all_props (walk_nodes w))) (first_slices n (rest_from 0 us))) m
    ∙ trees-silent (suc i) (base + length t.nodes) (k + length (all_props (walk_nodes w))) n (rest_from 0 us) ts g.1 o.1)))

-- ---- the text

calm : (e : End) (us : List Tok) (ts : List Tree) → lexing false e us ≡ accepted ts → e ≡ done
calm done us ts h = refl
calm (broken f s) us ts h = never cc

pub own-silent : (t : List ℕ) (ts : List Tree) → read_strict t ≡ accepted ts → All OwnTree ts → NoTail t → changes_of t ≡ []
own-silent t ts h o n =
    let r : Reading false t ts = reading-is false t ts h in
    let l : Lexed = tokenize r.ink t in
    let ss : List (List Tok) = first_slices r.k r.toks in
    let d : l.end ≡ done = calm l.end l.toks ts (sym (ap (λ (u : Utf). parse_utf8 false u t) r.valid) ∙ sym (text-short false t r.short) ∙ h) in
    let q : drop (length (sliced_tokens ss)) l.toks ≡ [] =
    subst (λ (x : Slices). AllSliced x l.toks) r.cuts (subst (λ (u : Utf). AllSliced (split_by_gametree false (toks_of u t)) (toks_of u t)) r.valid n) in
    ap (λ (u : Utf). utf_changes u t) r.valid
    ∙ ap (λ (x : Slices). slices_changes x l) (same-slices l.toks ss r.cuts)
    ∙ ap₂ (λ (xs ys : List Change). xs ++ ys) (trees-silent 0 0 0 r.k r.toks ts r.grew o) (ap₂ tail_of q d)
