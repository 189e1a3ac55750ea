-- What records that are alike answer alike; and what is read back is alike. Assumes nothing.
use Rattle.lists.proofs.Prelude.{ℕ, zero, suc, ◌-◌, ◌≡◌, refl, ap, ap₂, ◌∙◌, Bool, true, false, ◌||◌, false≢true, List, [], ◌∷◌, ◌++◌, ltb, leb, arith, lt-leb, length, get_or, pick}
use Rattle.go.specs.declared.value.GoValue.{GoValue}
use Rattle.lexer.specs.Token.{Prop}
use Rattle.lists.specs.All.{All}
use Rattle.serialize_laws.proofs.Kept.{pairs-length, pairs-append, pairs-map}
use Rattle.fit_rule.specs.Rule.{rule_of}
use Rattle.serialize_laws.proofs.SameRule.{alike-rule}
use Rattle.serialize_laws.proofs.WrittenProps.{letters-same}
use Rattle.serialize_laws.specs.Alike.{AlikeProp, AlikeNode, Alike}
use Rattle.serialize_laws.specs.Back.{some, Named}
use Rattle.serialize_laws.specs.Same.{Pairs, SameProp, SameNode, SameTree}
use Rattle.ask.specs.Ask.{no_prop, go_of, go_at}
use Rattle.serialize.specs.Branch.{nameless}
use Rattle.tables.specs.Record.{Node, Tree, all_nodes, all_props}
use Rattle.values.specs.Read.{read_identifier}

-- ---- what is read back is alike

same-props : (k : ℕ) (ps qs : List Prop) → Pairs (SameProp k) ps qs → Pairs (AlikeProp k) ps qs
same-props k [] [] h = tt
same-props k [] (q ∷ qs) h = h
same-props k (p ∷ ps) [] h = h
same-props k (p ∷ ps) (q ∷ qs) h = (record { name = ap read_identifier h.0.name; value = h.0.value; raws = h.0.raws }, same-props k ps qs h.1)

same_nodes : (k : ℕ) (ns ms : List Node) → Pairs (SameNode k) ns ms → Pairs (AlikeNode k) ns ms
same_nodes k [] [] h = tt
same_nodes k [] (m ∷ ms) h = h
same_nodes k (n ∷ ns) [] h = h
same_nodes k (n ∷ ns) (m ∷ ms) h = (record { parent = h.0.parent; props = same-props k n.props m.props h.0.props }, same_nodes k ns ms h.1)

pub same_alike : (ts us : List Tree) → Pairs SameTree ts us → Alike ts us
same_alike [] [] h = tt
same_alike [] (u ∷ us) h = h
same_alike (t ∷ ts) [] h = h
same_alike (t ∷ ts) (u ∷ us) h =
    (record { root = h.0.root; game = h.0.game; nodes = same_nodes (rule_of t) t.nodes u.nodes h.0.nodes }, same_alike ts us h.1)

-- ---- Go values by number

props-of : (k : ℕ) (ns ms : List Node) → Pairs (AlikeNode k) ns ms → Pairs (AlikeProp k) (all_props ns) (all_props ms)
props-of k [] [] h = tt
props-of k [] (m ∷ ms) h = absurd h
props-of k (n ∷ ns) [] h = absurd h
props-of k (n ∷ ns) (m ∷ ms) h = pairs-append (AlikeProp k) n.props m.props (all_props ns) (all_props ms) h.0.props (props-of k ns ms h.1)

go-in : (k : ℕ) (ps qs : List Prop) → Pairs (AlikeProp k) ps qs → (i : ℕ) → go_of k (get_or qs i no_prop) ≡ go_of k (get_or ps i no_prop)
go-in k [] [] h i = refl
go-in k [] (q ∷ qs) h i = absurd h
go-in k (p ∷ ps) [] h i = absurd h
go-in k (p ∷ ps) (q ∷ qs) h zero = h.0.value
go-in k (p ∷ ps) (q ∷ qs) h (suc i) = go-in k ps qs h.1 i

pub alike-go : (ts us : List Tree) → Alike ts us → (i : ℕ) → go_at us i ≡ go_at ts i
alike-go [] [] h i = refl
alike-go [] (u ∷ us) h i = absurd h
alike-go (t ∷ ts) [] h i = absurd h
alike-go (t ∷ ts) (u ∷ us) h i =
    let T : List Prop = all_props t.nodes in
    let U : List Prop = all_props u.nodes in
    let ps : Pairs (AlikeProp (rule_of t)) T U = props-of (rule_of t) t.nodes u.nodes h.0.nodes in
    ap (λ (k : ℕ). pick (ltb i (length U)) (go_of k (get_or U i no_prop)) (go_at us (i - length U))) (alike-rule t u h.0)
    ∙ ap (λ (g : GoValue). pick (ltb i (length U)) g (go_at us (i - length U))) (go-in (rule_of t) T U ps i)
    ∙ ap (λ (n : ℕ). pick (ltb i n) (go_of (rule_of t) (get_or T i no_prop)) (go_at us (i - n))) (pairs-length (AlikeProp (rule_of t)) T U ps)
    ∙ ap (λ (g : GoValue). pick (ltb i (length T)) (go_of (rule_of t) (get_or T i no_prop)) g) (alike-go ts us h.1 (i - length T))

-- ---- names, and how many there are

abbrev OneName : Prop → Prop → Type 0
OneName p q = read_identifier q.name ≡ read_identifier p.name

names_more : (k : ℕ) (ns ms ns' ms' : List Node) → Pairs (AlikeNode k) ns ms → Pairs OneName (all_props ns') (all_props ms')
    → Pairs OneName (all_props (ns ++ ns')) (all_props (ms ++ ms'))
names_more k [] [] ns' ms' h r = r
names_more k [] (m ∷ ms) ns' ms' h r = absurd h
names_more k (n ∷ ns) [] ns' ms' h r = absurd h
names_more k (n ∷ ns) (m ∷ ms) ns' ms' h r =
    pairs-append OneName n.props m.props (all_props (ns ++ ns')) (all_props (ms ++ ms'))
    (pairs-map (AlikeProp k) OneName (λ p q x. x.name) n.props m.props h.0.props) (names_more k ns ms ns' ms' h.1 r)

names_of : (ts us : List Tree) → Alike ts us → Pairs OneName (all_props (all_nodes ts)) (all_props (all_nodes us))
names_of [] [] h = tt
names_of [] (u ∷ us) h = absurd h
names_of (t ∷ ts) [] h = absurd h
names_of (t ∷ ts) (u ∷ us) h = names_more (rule_of t) t.nodes u.nodes (all_nodes ts) (all_nodes us) h.0.nodes (names_of ts us h.1)

pub alike-properties : (ts us : List Tree) → Alike ts us → length (all_props (all_nodes us)) ≡ length (all_props (all_nodes ts))
alike-properties ts us h = pairs-length OneName (all_props (all_nodes ts)) (all_props (all_nodes us)) (names_of ts us h)

names-alike : (ps qs : List Prop) → Pairs OneName ps qs → nameless qs ≡ nameless ps
names-alike [] [] h = refl
names-alike [] (q ∷ qs) h = absurd h
names-alike (p ∷ ps) [] h = absurd h
names-alike (p ∷ ps) (q ∷ qs) h = ap₂ (λ (w : List ℕ) (b : Bool). leb (length w) 0 || b) h.0 (names-alike ps qs h.1)

pub alike-names : (ts us : List Tree) → Alike ts us → nameless (all_props (all_nodes us)) ≡ nameless (all_props (all_nodes ts))
alike-names ts us h = names-alike (all_props (all_nodes ts)) (all_props (all_nodes us)) (names_of ts us h)

named_some : (w : List ℕ) → some w ≡ true → leb (length w) 0 ≡ false
named_some [] h = absurd (false≢true h)
named_some (b ∷ bs) h = lt-leb (suc (length bs)) 0 (omega arith)

-- upper case identifiers that are not empty read as not empty
pub named-all : (ps : List Prop) → All Named ps → nameless ps ≡ false
named-all [] h = refl
named-all (p ∷ ps) h =
    rw (ap (λ (w : List ℕ). leb (length w) 0) (letters-same p.name h.0.1) ∙ named_some p.name h.0.0) (named-all ps h.1)
