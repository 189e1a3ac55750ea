-- What trees that are the normal form of others, places aside, have in common with them. Assumes nothing.
use Rattle.lists.proofs.Prelude.{ℕ, suc, ◌+◌, ◌≡◌, refl, sym, ap, ap₂, ◌∙◌, false, false≢true, List, [], ◌∷◌, ◌++◌, map, map-map, head-eq_of_cons-eq, tail-eq_of_cons-eq, length}
use Rattle.lists.proofs.Tests.{never}
use Rattle.go.proofs.ReadBack.{normal-value}
use Rattle.go.specs.Normal.{normal, normal_by}
use Rattle.go.specs.Value.{go_value}
use Rattle.go_points.specs.declared.Value.{Value}
use Rattle.go_points.specs.declared.Value.TheVariants.{Other, Invalid, Pass, Move, Handicap, Points}
use Rattle.lexer.specs.Token.{Prop}
use Rattle.serialize_laws.proofs.FormProps.{raws-aside, raws-back}
use Rattle.serialize_laws.specs.Back.{placeless_prop, placeless_node, placeless_tree}
use Rattle.serialize_laws.specs.Same.{Pairs, valid, SameProp, SameNode, SameTree}
use Rattle.fit.specs.Record.{raws_of, raw_of}
use Rattle.fit_rule.specs.Rule.{rule_of}
use Rattle.serialize_laws.proofs.SameRule.{form-rule, aside-rule}
use Rattle.serialize.specs.Form.{placeless_val, form_prop, form_node, form_tree}
use Rattle.tables.specs.Record.{Node, Tree, all_nodes}
use Rattle.tables.specs.Rows.{parents, node_rows, tables}
use Rattle.values.specs.Read.{read_identifier}

-- ---- from equal images to pairs

module _ {A C : Type 0} (f g : A → C) (R : A → A → Type 0) (step : (x y : A) → f y ≡ g x → R x y) where
  pairs-from : (xs ys : List A) → map f ys ≡ map g xs → Pairs R xs ys
  pairs-from [] [] e = tt
  pairs-from [] (y ∷ ys) e = never cc
  pairs-from (x ∷ xs) [] e = never cc
  pairs-from (x ∷ xs) (y ∷ ys) e = (step x y (head-eq_of_cons-eq e), pairs-from xs ys (tail-eq_of_cons-eq e))

-- a value that is not valid keeps its bytes
pub normal-raws : (k : ℕ) (w : List ℕ) (vs : List (List ℕ)) → valid (go_value k w vs).value ≡ false → normal k w vs ≡ vs
unfolding normal normal_by
normal-raws k w vs h = go (go_value k w vs).value h
  where
    go : (v : Value) → valid v ≡ false → normal_by v (go_value k w vs).marks vs ≡ vs
    go Other e = refl
    go Invalid e = refl
    go Pass e = absurd (false≢true (sym e))
    go (Move x y) e = absurd (false≢true (sym e))
    go (Handicap n) e = absurd (false≢true (sym e))
    go Points e = absurd (false≢true (sym e))

same-prop : (k : ℕ) (p q : Prop) → placeless_prop q ≡ placeless_prop (form_prop k p) → SameProp k p q
same-prop k p q e =
    let name : q.name ≡ p.name = ap (λ (z : Prop). z.name) e in
    let form : List (List ℕ) = normal k (read_identifier p.name) (raws_of p) in
    let raw : raws_of q ≡ form =
    sym (raws-aside q.vals) ∙ ap (λ (z : Prop). map raw_of z.vals) e ∙ raws-aside (map placeless_val form) ∙ raws-back form in
    record {
      name = name;
      normals = raw;
      value = ap₂ (λ (w : List ℕ) (vs : List (List ℕ)). go_value k (read_identifier w) vs) name raw ∙ normal-value k (read_identifier p.name) (raws_of p);
      raws = λ h. raw ∙ normal-raws k (read_identifier p.name) (raws_of p) h;
    }

same-node : (k : ℕ) (n m : Node) → placeless_node m ≡ placeless_node (form_node k n) → SameNode k n m
same-node k n m e =
    record {
      parent = ap (λ (z : Node). z.parent) e;
      props = pairs-from placeless_prop (λ p. placeless_prop (form_prop k p)) (SameProp k) (same-prop k) n.props m.props (ap (λ (z : Node). z.props) e ∙ map-map placeless_prop (form_prop k) n.props);
    }

same-tree : (t u : Tree) → placeless_tree u ≡ placeless_tree (form_tree t) → SameTree t u
same-tree t u e =
    record {
      root = ap (λ (z : Tree). z.root) e;
      game = ap (λ (z : Tree). z.game) e;
      rule = sym (aside-rule u) ∙ ap rule_of e ∙ aside-rule (form_tree t) ∙ form-rule t;
      nodes = pairs-from placeless_node (λ n. placeless_node (form_node (rule_of t) n)) (SameNode (rule_of t)) (same-node (rule_of t)) t.nodes u.nodes
          (ap (λ (z : Tree). z.nodes) e ∙ map-map placeless_node (form_node (rule_of t)) t.nodes);
    }

pub same-trees : (ts us : List Tree) → map placeless_tree us ≡ map placeless_tree (map form_tree ts) → Pairs SameTree ts us
same-trees ts us e = pairs-from placeless_tree (λ t. placeless_tree (form_tree t)) SameTree same-tree ts us (e ∙ map-map placeless_tree form_tree ts)

-- ---- their rows

module _ {A : Type 0} (R : A → A → Type 0) where
  pub pairs-length : (xs ys : List A) → Pairs R xs ys → length ys ≡ length xs
  pairs-length [] [] h = refl
  pairs-length [] (y ∷ ys) h = absurd h
  pairs-length (x ∷ xs) [] h = absurd h
  pairs-length (x ∷ xs) (y ∷ ys) h = ap suc (pairs-length xs ys h.1)

  pub pairs-append : (xs ys zs ws : List A) → Pairs R xs ys → Pairs R zs ws → Pairs R (xs ++ zs) (ys ++ ws)
  pairs-append [] [] zs ws h k = k
  pairs-append [] (y ∷ ys) zs ws h k = absurd h
  pairs-append (x ∷ xs) [] zs ws h k = absurd h
  pairs-append (x ∷ xs) (y ∷ ys) zs ws h k = (h.0, pairs-append xs ys zs ws h.1 k)

  pub pairs-map : (S : A → A → Type 0) → ((x y : A) → R x y → S x y) → (xs ys : List A) → Pairs R xs ys → Pairs S xs ys
  pairs-map S f [] [] h = tt
  pairs-map S f [] (y ∷ ys) h = h
  pairs-map S f (x ∷ xs) [] h = h
  pairs-map S f (x ∷ xs) (y ∷ ys) h = (f x y h.0, pairs-map S f xs ys h.1)

-- as many properties under the same parent
abbrev Level : Node → Node → Type 0
Level n m = (m.parent ≡ n.parent) × (length m.props ≡ length n.props)

level-trees : (ts us : List Tree) → Pairs SameTree ts us → Pairs Level (all_nodes ts) (all_nodes us)
level-trees [] [] h = tt
level-trees [] (u ∷ us) h = absurd h
level-trees (t ∷ ts) [] h = absurd h
level-trees (t ∷ ts) (u ∷ us) h =
    pairs-append Level t.nodes u.nodes (all_nodes ts) (all_nodes us)
    (pairs-map (SameNode (rule_of t)) Level (λ n m s. (s.parent, pairs-length (SameProp (rule_of t)) n.props m.props s.props)) t.nodes u.nodes h.0.nodes)
    (level-trees ts us h.1)

level-parents : (ns ms : List Node) → Pairs Level ns ms → parents ms ≡ parents ns
level-parents [] [] h = refl
level-parents [] (m ∷ ms) h = absurd h
level-parents (n ∷ ns) [] h = absurd h
level-parents (n ∷ ns) (m ∷ ms) h = ap₂ (λ (x : ℕ) (y : List ℕ). x ∷ y) h.0.0 (level-parents ns ms h.1)

level-rows : (qs : List ℕ) (k f : ℕ) (ns ms : List Node) → Pairs Level ns ms → node_rows qs k f ms ≡ node_rows qs k f ns
level-rows qs k f [] [] h = refl
level-rows qs k f [] (m ∷ ms) h = absurd h
level-rows qs k f (n ∷ ns) [] h = absurd h
level-rows qs k f (n ∷ ns) (m ∷ ms) h = rw (h.0.0, h.0.1, level-rows qs (suc k) (f + length n.props) ns ms h.1)

pub same-tree-rows : (ts us : List Tree) → Pairs SameTree ts us → (tables us).trees ≡ (tables ts).trees
same-tree-rows [] [] h = refl
same-tree-rows [] (u ∷ us) h = absurd h
same-tree-rows (t ∷ ts) [] h = absurd h
same-tree-rows (t ∷ ts) (u ∷ us) h = rw (h.0.root, h.0.game, same-tree-rows ts us h.1)

pub same-node-rows : (ts us : List Tree) → Pairs SameTree ts us → (tables us).nodes ≡ (tables ts).nodes
same-node-rows ts us h =
    let l = level-trees ts us h in
    ap (λ (qs : List ℕ). node_rows qs 0 0 (all_nodes us)) (level-parents (all_nodes ts) (all_nodes us) l) ∙ level-rows (parents (all_nodes ts)) 0 0 (all_nodes ts) (all_nodes us) l
