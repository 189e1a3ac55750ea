-- Records that are alike have one writing: the order of a set's points, the spelling of rectangles, white space and places leave no trace. Assumes nothing.
use Rattle.lists.proofs.Prelude.{ℕ, ◌≡◌, refl, sym, ap, ap₂, ◌∙◌, Bool, false, List, [], ◌∷◌, ◌++◌, map}
use Rattle.fit.specs.Record.{raws_of}
use Rattle.go.specs.Normal.{normal, normal_by}
use Rattle.go.specs.declared.value.GoValue.{GoValue}
use Rattle.lexer.specs.Token.{Prop}
use Rattle.go_points.specs.declared.Value.{Value}
use Rattle.go_points.specs.declared.Value.TheVariants.{Other, Invalid, Pass, Move, Handicap, Points}
use Rattle.fit_rule.specs.Rule.{rule_of}
use Rattle.serialize_laws.proofs.SameRule.{alike-rule}
use Rattle.serialize_laws.specs.Alike.{AlikeProp, AlikeNode, AlikeTree, Alike}
use Rattle.serialize_laws.specs.Same.{Pairs, valid}
use Rattle.ask.specs.Ask.{go_of}
use Rattle.serialize.specs.Form.{placeless_val, form_prop, form_node, form_tree, writing}
use Rattle.serialize.proofs.TreeTexts as texts
use Rattle.serialize.proofs.TreeTexts.{alike-tree}
use Rattle.serialize.specs.Branch.{vals_text, write_props, tree_text}
use Rattle.tables.specs.Record.{Node, Tree}
use Rattle.values.specs.Read.{read_identifier}

-- the written form of a valid Go value does not look at the raw values
written-valid : (v : Value) (ms : List Bool) (vs ws : List (List ℕ)) → (valid v ≡ false → vs ≡ ws) → normal_by v ms vs ≡ normal_by v ms ws
unfolding normal_by
written-valid Other ms vs ws h = h refl
written-valid Invalid ms vs ws h = h refl
written-valid Pass ms vs ws h = refl
written-valid (Move x y) ms vs ws h = refl
written-valid (Handicap n) ms vs ws h = refl
written-valid Points ms vs ws h = refl

normal-alike : (k : ℕ) (p q : Prop) → AlikeProp k p q → normal k (read_identifier q.name) (raws_of q) ≡ normal k (read_identifier p.name) (raws_of p)
unfolding normal
normal-alike k p q h =
    ap (λ (g : GoValue). normal_by g.value g.marks (raws_of q)) h.value
    ∙ written-valid (go_of k p).value (go_of k p).marks (raws_of q) (raws_of p) h.raws

props-alike : (k : ℕ) (ps qs : List Prop) → Pairs (AlikeProp k) ps qs → write_props (map (form_prop k) qs) ≡ write_props (map (form_prop k) ps)
props-alike k [] [] h = refl
props-alike k [] (q ∷ qs) h = absurd h
props-alike k (p ∷ ps) [] h = absurd h
props-alike k (p ∷ ps) (q ∷ qs) h =
    ap₂ (λ (w : List ℕ) (z : List ℕ). w ++ z) h.0.name
    (ap₂ (λ (vs : List (List ℕ)) (z : List ℕ). vals_text (map placeless_val vs) ++ z) (normal-alike k p q h.0) (props-alike k ps qs h.1))

nodes-alike : (k : ℕ) (ns ms : List Node) → Pairs (AlikeNode k) ns ms → texts.Alike (map (form_node k) ms) (map (form_node k) ns)
nodes-alike k [] [] h = tt
nodes-alike k [] (m ∷ ms) h = absurd h
nodes-alike k (n ∷ ns) [] h = absurd h
nodes-alike k (n ∷ ns) (m ∷ ms) h = (h.0.parent, props-alike k n.props m.props h.0.props, nodes-alike k ns ms h.1)

tree-alike : (t u : Tree) → AlikeTree t u → tree_text (form_tree u) ≡ tree_text (form_tree t)
tree-alike t u h =
    ap₂ (λ (r k : ℕ). tree_text (record { root = r; game = u.game; nodes = map (form_node k) u.nodes })) h.root (alike-rule t u h)
    ∙ alike-tree t.root u.game t.game (map (form_node (rule_of t)) u.nodes) (map (form_node (rule_of t)) t.nodes) (nodes-alike (rule_of t) t.nodes u.nodes h.nodes)

-- THE VIEWER'S QUESTION
pub same-written : (ts us : List Tree) → Alike ts us → writing ts ≡ writing us
same-written [] [] h = refl
same-written [] (u ∷ us) h = absurd h
same-written (t ∷ ts) [] h = absurd h
same-written (t ∷ ts) (u ∷ us) h = ap₂ (λ (y z : List ℕ). y ++ z) (sym (tree-alike t u h.0)) (same-written ts us h.1)
