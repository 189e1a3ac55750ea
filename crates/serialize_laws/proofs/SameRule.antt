-- The rule of a tree: the values in their normal form, places and records that are alike have one. Assumes nothing.
use Rattle.lists.proofs.Prelude.{ℕ, ◌≡◌, refl, ap, ap₂, ◌∙◌, Bool, true, false, List, [], ◌∷◌, map, pick}
use Rattle.lists.specs.Same.{same}
use Rattle.fit.proofs.RootRows.{same-equal}
use Rattle.fit.specs.Record.{raws_of}
use Rattle.fit_rule.specs.Rule.{rule_by, property_of, first_props, size_of_tree, rule_of}
use Rattle.go.proofs.ReadBack.{normal-other}
use Rattle.go.specs.Value.{is_go, unmarked, value_by, go_value}
use Rattle.go_points.specs.declared.Value.TheVariants.{Other}
use Rattle.go_shape.specs.Shape.{shape_of}
use Rattle.go_shape.specs.declared.Shape.{Shape}
use Rattle.go_shape.specs.declared.Shape.TheVariants.{Unread}
use Rattle.go_size.specs.Root.{SZ, sizes_in, size_by, size_in}
use Rattle.lexer.specs.Token.{Prop}
use Rattle.serialize.specs.Form.{form_prop, form_node, form_tree}
use Rattle.serialize_laws.proofs.FormProps.{raws-back, raws-aside}
use Rattle.serialize_laws.specs.Alike.{AlikeProp, AlikeNode, AlikeTree}
use Rattle.serialize_laws.specs.Back.{placeless_prop, placeless_node, placeless_tree}
use Rattle.serialize_laws.specs.Same.{Pairs, valid}
use Rattle.tables.specs.Record.{Node, Tree}
use Rattle.values.specs.Read.{read_identifier}

-- one size: the same read identifier, and the same raw values where that is SZ
pub record SizedAlike (p q : Prop) : Type 0 where
  pub name : read_identifier q.name ≡ read_identifier p.name
  pub raws : read_identifier p.name ≡ SZ → raws_of q ≡ raws_of p

sizes-alike : (ps qs : List Prop) → Pairs SizedAlike ps qs → sizes_in (map property_of qs) ≡ sizes_in (map property_of ps)
sizes-alike [] [] h = refl
sizes-alike [] (q ∷ qs) h = absurd h
sizes-alike (p ∷ ps) [] h = absurd h
sizes-alike (p ∷ ps) (q ∷ qs) h =
    ap (λ (w : List ℕ). pick (same w SZ) (raws_of q ∷ sizes_in (map property_of qs)) (sizes_in (map property_of qs))) h.0.name
    ∙ go (sizes-alike ps qs h.1) (same (read_identifier p.name) SZ) refl
  where
    go : sizes_in (map property_of qs) ≡ sizes_in (map property_of ps) → (b : Bool) → same (read_identifier p.name) SZ ≡ b
        → pick b (raws_of q ∷ sizes_in (map property_of qs)) (sizes_in (map property_of qs)) ≡ pick b (raws_of p ∷ sizes_in (map property_of ps)) (sizes_in (map property_of ps))
    go rest true e = ap₂ (λ (v : List (List ℕ)) (r : List (List (List ℕ))). v ∷ r) (h.0.raws (same-equal (read_identifier p.name) SZ e)) rest
    go rest false e = rest

-- trees with one game type whose roots have one size have one rule
rule-alike : (t u : Tree) → u.game ≡ t.game → Pairs SizedAlike (first_props t.nodes) (first_props u.nodes) → rule_of u ≡ rule_of t
unfolding rule_of size_of_tree size_in
rule-alike t u g h = ap₂ rule_by g (ap size_by (sizes-alike (first_props t.nodes) (first_props u.nodes) h))

-- SZ is not read as a Go value
size-unread : {w : List ℕ} → w ≡ SZ → shape_of w ≡ Unread
unfolding shape_of
size-unread e = ap shape_of e

-- ---- the form

form-sized : (k : ℕ) (p : Prop) → SizedAlike p (form_prop k p)
form-sized k p =
    record {
      name = refl;
      raws = λ e. raws-back _ ∙ normal-other k (read_identifier p.name) (raws_of p) (size-unread e);
    }

form-sizes : (k : ℕ) (ps : List Prop) → Pairs SizedAlike ps (map (form_prop k) ps)
form-sizes k [] = tt
form-sizes k (p ∷ ps) = (form-sized k p, form-sizes k ps)

form-first : (k : ℕ) (ns : List Node) → Pairs SizedAlike (first_props ns) (first_props (map (form_node k) ns))
form-first k [] = tt
form-first k (n ∷ ns) = form-sizes k n.props

-- A TREE IS WRITTEN WITH ITS OWN RULE
pub form-rule : (t : Tree) → rule_of (form_tree t) ≡ rule_of t
form-rule t = rule-alike t (form_tree t) refl (form-first (rule_of t) t.nodes)

-- ---- places

aside-sizes : (ps : List Prop) → Pairs SizedAlike ps (map placeless_prop ps)
aside-sizes [] = tt
aside-sizes (p ∷ ps) = (record { name = refl; raws = λ e. raws-aside p.vals }, aside-sizes ps)

aside-first : (ns : List Node) → Pairs SizedAlike (first_props ns) (first_props (map placeless_node ns))
aside-first [] = tt
aside-first (n ∷ ns) = aside-sizes n.props

pub aside-rule : (t : Tree) → rule_of (placeless_tree t) ≡ rule_of t
aside-rule t = rule-alike t (placeless_tree t) refl (aside-first t.nodes)

-- ---- records that are alike

go-unread : (k : ℕ) (w : List ℕ) (vs : List (List ℕ)) → shape_of w ≡ Unread → valid (go_value k w vs).value ≡ false
unfolding go_value value_by
go-unread k w vs e = go (is_go k)
  where
    go : (b : Bool) → (let g = pick b (value_by k (shape_of w) vs) (unmarked Other) in valid g.value ≡ false)
    go true = ap (λ (s : Shape). valid (value_by k s vs).value) e
    go false = refl

alike-sizes : (k : ℕ) (ps qs : List Prop) → Pairs (AlikeProp k) ps qs → Pairs SizedAlike ps qs
alike-sizes k [] [] h = tt
alike-sizes k [] (q ∷ qs) h = absurd h
alike-sizes k (p ∷ ps) [] h = absurd h
alike-sizes k (p ∷ ps) (q ∷ qs) h =
    (record { name = h.0.name; raws = λ e. h.0.raws (go-unread k (read_identifier p.name) (raws_of p) (size-unread e)) }, alike-sizes k ps qs h.1)

alike-first : (k : ℕ) (ns ms : List Node) → Pairs (AlikeNode k) ns ms → Pairs SizedAlike (first_props ns) (first_props ms)
alike-first k [] [] h = tt
alike-first k [] (m ∷ ms) h = absurd h
alike-first k (n ∷ ns) [] h = absurd h
alike-first k (n ∷ ns) (m ∷ ms) h = alike-sizes k n.props m.props h.0.props

pub alike-rule : (t u : Tree) → AlikeTree t u → rule_of u ≡ rule_of t
alike-rule t u h = rule-alike t u h.game (alike-first (rule_of t) t.nodes u.nodes h.nodes)
