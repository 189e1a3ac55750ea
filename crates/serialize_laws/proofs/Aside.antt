-- Places aside: the form of the values and the writing look at no place, and a form of the form is the form. Assumes nothing.
use Rattle.lists.proofs.Prelude.{◌≡◌, refl, sym, ap, ap₂, ◌∙◌, ℕ, List, [], ◌∷◌, map}
use Rattle.lexer.specs.Token.{Prop}
use Rattle.serialize_laws.proofs.FormProps.{form-places, form-twice}
use Rattle.serialize_laws.proofs.ReadBack.{zero-trees}
use Rattle.serialize_laws.proofs.SameRule.{form-rule, aside-rule}
use Rattle.fit_rule.specs.Rule.{rule_of}
use Rattle.serialize_laws.specs.Back.{placeless_prop, placeless_node, placeless_tree}
use Rattle.serialize.specs.Form.{form_prop, form_node, form_tree, writing}
use Rattle.serialize.specs.Branch.{trees_text}
use Rattle.tables.specs.Record.{Node, Tree}

aside-props : (k : ℕ) (ps : List Prop) → map placeless_prop (map (form_prop k) ps) ≡ map placeless_prop (map (form_prop k) (map placeless_prop ps))
aside-props k [] = refl
aside-props k (p ∷ ps) = ap₂ (λ (x : Prop) (y : List Prop). x ∷ y) (form-places k p) (aside-props k ps)

aside-nodes : (k : ℕ) (ns : List Node) → map placeless_node (map (form_node k) ns) ≡ map placeless_node (map (form_node k) (map placeless_node ns))
aside-nodes k [] = refl
aside-nodes k (n ∷ ns) = ap₂ (λ (x : List Prop) (y : List Node). record { parent = n.parent; props = x } ∷ y) (aside-props k n.props) (aside-nodes k ns)

aside-trees : (ts : List Tree) → map placeless_tree (map form_tree ts) ≡ map placeless_tree (map form_tree (map placeless_tree ts))
aside-trees [] = refl
aside-trees (t ∷ ts) = ap₂ (λ (x : List Node) (y : List Tree). record { root = t.root; game = t.game; nodes = x } ∷ y) (aside-nodes (rule_of t) t.nodes ∙ ap (λ (k : ℕ). map placeless_node (map (form_node k) (map placeless_node t.nodes))) (sym (aside-rule t))) (aside-trees ts)

twice-props : (k : ℕ) (ps : List Prop) → map placeless_prop (map (form_prop k) (map (form_prop k) ps)) ≡ map placeless_prop (map (form_prop k) ps)
twice-props k [] = refl
twice-props k (p ∷ ps) = ap₂ (λ (x : Prop) (y : List Prop). x ∷ y) (form-twice k p) (twice-props k ps)

twice-nodes : (k : ℕ) (ns : List Node) → map placeless_node (map (form_node k) (map (form_node k) ns)) ≡ map placeless_node (map (form_node k) ns)
twice-nodes k [] = refl
twice-nodes k (n ∷ ns) = ap₂ (λ (x : List Prop) (y : List Node). record { parent = n.parent; props = x } ∷ y) (twice-props k n.props) (twice-nodes k ns)

twice-trees : (ts : List Tree) → map placeless_tree (map form_tree (map form_tree ts)) ≡ map placeless_tree (map form_tree ts)
twice-trees [] = refl
twice-trees (t ∷ ts) = ap₂ (λ (x : List Node) (y : List Tree). record { root = t.root; game = t.game; nodes = x } ∷ y) (ap (λ (k : ℕ). map placeless_node (map (form_node k) (map (form_node (rule_of t)) t.nodes))) (form-rule t) ∙ twice-nodes (rule_of t) t.nodes) (twice-trees ts)

-- trees that differ in nothing but places are written alike
pub written-alike : (ts us : List Tree) → map placeless_tree ts ≡ map placeless_tree us → writing ts ≡ writing us
written-alike ts us e =
    sym (zero-trees (map form_tree ts))
    ∙ ap trees_text (aside-trees ts ∙ ap (λ (z : List Tree). map placeless_tree (map form_tree z)) e ∙ sym (aside-trees us))
    ∙ zero-trees (map form_tree us)

-- trees in normal form are written as they were
pub written_twice : (ts : List Tree) → writing (map form_tree ts) ≡ writing ts
written_twice ts = sym (zero-trees (map form_tree (map form_tree ts))) ∙ ap trees_text (twice-trees ts) ∙ zero-trees (map form_tree ts)
