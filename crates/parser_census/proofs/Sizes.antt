-- How many properties and values nodes have, in either order. Assumes nothing.
use Rattle.lists.proofs.Prelude.{ℕ, ◌+◌, ◌≡◌, refl, ap, ◌∙◌, List, [], ◌∷◌, ◌++◌, reverse, reverse-cons, arith, length, length-append}
use Rattle.lexer.specs.Token.{Prop}
use Rattle.tables.specs.Record.{Node, all_props, all_vals}
use Rattle.parser_tree.proofs.Flats.{vals-append, props-append}

-- the properties of the nodes
abbrev pub props_in : List Node → ℕ
props_in ns = length (all_props ns)

-- their values
abbrev pub vals_in : List Node → ℕ
vals_in ns = length (all_vals (all_props ns))

pub props-in-append : (xs ys : List Node) → props_in (xs ++ ys) ≡ props_in xs + props_in ys
props-in-append xs ys = ap length (props-append xs ys) ∙ length-append (all_props xs) (all_props ys)

pub vals-in-append : (xs ys : List Node) → vals_in (xs ++ ys) ≡ vals_in xs + vals_in ys
vals-in-append xs ys =
    ap (λ (z : List Prop). length (all_vals z)) (props-append xs ys) ∙ ap length (vals-append (all_props xs) (all_props ys)) ∙ length-append (all_vals (all_props xs)) (all_vals (all_props ys))

pub props-in-reverse : (ns : List Node) → props_in (reverse ns) ≡ props_in ns
props-in-reverse [] = refl
props-in-reverse (n ∷ ns) =
    let a : props_in (reverse (n ∷ ns)) ≡ props_in (reverse ns ++ (n ∷ [])) = ap props_in (reverse-cons n ns) in
    let b = props-in-append (reverse ns) (n ∷ []) in
    let c = props-in-reverse ns in
    let d = props-in-append (n ∷ []) ns in
    omega (arith, a, b, c, d)

pub vals-in-reverse : (ns : List Node) → vals_in (reverse ns) ≡ vals_in ns
vals-in-reverse [] = refl
vals-in-reverse (n ∷ ns) =
    let a : vals_in (reverse (n ∷ ns)) ≡ vals_in (reverse ns ++ (n ∷ [])) = ap vals_in (reverse-cons n ns) in
    let b = vals-in-append (reverse ns) (n ∷ []) in
    let c = vals-in-reverse ns in
    let d = vals-in-append (n ∷ []) ns in
    omega (arith, a, b, c, d)

-- one property more of the last node
module _ (n : Node) (q : Prop) (ns : List Node) where
  abbrev more : Node
  more = record { parent = n.parent; props = n.props ++ (q ∷ []) }

  pub props-in-more : props_in (more ∷ ns) ≡ props_in (n ∷ ns) + 1
  props-in-more =
      let a = length-append (n.props ++ (q ∷ [])) (all_props ns) in
      let b = length-append n.props (q ∷ []) in
      let c = length-append n.props (all_props ns) in
      omega (arith, a, b, c)

  pub vals-in-more : vals_in (more ∷ ns) ≡ vals_in (n ∷ ns) + length q.vals
  vals-in-more =
      let a : vals_in (more ∷ ns) ≡ length (all_vals (n.props ++ (q ∷ [])) ++ all_vals (all_props ns)) = ap length (vals-append (n.props ++ (q ∷ [])) (all_props ns)) in
      let b = length-append (all_vals (n.props ++ (q ∷ []))) (all_vals (all_props ns)) in
      let c : length (all_vals (n.props ++ (q ∷ []))) ≡ length (all_vals n.props ++ (q.vals ++ [])) = ap length (vals-append n.props (q ∷ [])) in
      let d = length-append (all_vals n.props) (q.vals ++ []) in
      let e = length-append q.vals [] in
      let f : vals_in (n ∷ ns) ≡ length (all_vals n.props ++ all_vals (all_props ns)) = ap length (vals-append n.props (all_props ns)) in
      let g = length-append (all_vals n.props) (all_vals (all_props ns)) in
      omega (arith, a, b, c, d, e, f, g)
