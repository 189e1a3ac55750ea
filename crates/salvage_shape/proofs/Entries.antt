-- How many entries the list of changes has of properties, whatever numbers they have. Assumes nothing.
use Rattle.lists.proofs.Prelude.{◌≡◌, refl, sym, ap, ◌∙◌, ℕ, suc, ◌+◌, arith, Bool, true, false, ◌&&◌, List, [], ◌∷◌, ◌++◌, append-nil, reverse, reverse-cons, length, length-append, length-reverse, leb, pick}
use Rattle.lists.specs.Same.{same}
use Rattle.values.specs.Read.{read_identifier}
use Rattle.lexer.specs.Token.{Prop}
use Rattle.tables.specs.Record.{Node, all_props}
use Rattle.parser_tree.proofs.Flats.{props-append}
use Rattle.fit_rule.specs.Rule.{first_props}
use Rattle.salvage_mend.specs.Mend.{root_game, gms_bad, reads_gm}
use Rattle.salvage_mend.specs.Changes.{unnamed, removed_gm, spelled_anew, prop_change, props_changes, nodes_changes}
use Rattle.salvage_form.specs.Rooted.{root_rule}
use Rattle.salvage_form.specs.declared.root.RootRule.{RootRule}
use Rattle.salvage_shape.specs.LocalsSum.{props_listed, nodes_listed}

-- the rule of the last of these nodes, last first
abbrev pub root_for : RootRule → List Node → RootRule
root_for r [] = record { rule = 0; bad = false }
root_for r (n ∷ []) = r
root_for r (n ∷ m ∷ ns) = record { rule = r.rule; bad = false }

pub lists-append : (bad : Bool) (xs ys : List Prop) → props_listed bad (xs ++ ys) ≡ props_listed bad xs + props_listed bad ys
lists-append bad [] ys = omega arith
lists-append bad (x ∷ xs) ys = let h = lists-append bad xs ys in omega (arith, h)

-- the entries of the properties of these nodes, last first
abbrev pub list_back : RootRule → List Node → ℕ
list_back r [] = 0
list_back r (n ∷ ns) = props_listed (root_for r (n ∷ ns)).bad n.props + list_back r ns

list-snoc : (r : RootRule) (ms : List Node) (n m : Node) (ns : List Node) → ms ≡ reverse (m ∷ ns) → nodes_listed r (ms ++ (n ∷ [])) ≡ props_listed false n.props + nodes_listed r ms
list-snoc r [] n m ns e = absurd (let l : 0 ≡ length (reverse (m ∷ ns)) = ap length e in omega (arith, length-reverse (m ∷ ns)))
list-snoc r (x ∷ ms) n m ns e =
    let a : props_listed false (all_props (ms ++ (n ∷ []))) ≡ props_listed false (all_props ms ++ n.props) =
    ap (props_listed false) (props-append ms (n ∷ []) ∙ ap (λ (z : List Prop). all_props ms ++ z) (append-nil n.props)) in
    let b = lists-append false (all_props ms) n.props in
    omega (arith, a, b)

pub list-reverse : (r : RootRule) (ns : List Node) → list_back r ns ≡ nodes_listed r (reverse ns)
list-reverse r [] = refl
list-reverse r (n ∷ []) = refl
list-reverse r (n ∷ m ∷ ns) =
    ap (λ (z : ℕ). props_listed false n.props + z) (list-reverse r (m ∷ ns))
    ∙ sym (ap (nodes_listed r) (reverse-cons n (m ∷ ns)) ∙ list-snoc r (reverse (m ∷ ns)) n m ns refl)

-- whatever number a property has
change-one : (bad : Bool) (k : ℕ) (p : Prop) → length (prop_change bad k p) ≡ length (prop_change bad 0 p)
change-one bad k p = go (leb (length (read_identifier p.name)) 0) (bad && reads_gm p) (same (read_identifier p.name) p.name)
  where
    go : (a b c : Bool) → length (pick a (unnamed k ∷ []) (pick b (removed_gm k ∷ []) (pick c [] (spelled_anew k ∷ [])))) ≡ length (pick a (unnamed 0 ∷ []) (pick b (removed_gm 0 ∷ []) (pick c [] (spelled_anew 0 ∷ []))))
    go true b c = refl
    go false true c = refl
    go false false true = refl
    go false false false = refl

changes-listed : (bad : Bool) (k : ℕ) (ps : List Prop) → length (props_changes bad k ps) ≡ props_listed bad ps
changes-listed bad k [] = refl
changes-listed bad k (p ∷ ps) =
    let a = length-append (prop_change bad k p) (props_changes bad (suc k) ps) in let b = change-one bad k p in let c = changes-listed bad (suc k) ps in omega (arith, a, b, c)

pub nodes-listed : (k : ℕ) (ns : List Node) → length (nodes_changes k ns) ≡ nodes_listed (root_rule (first_props ns)) ns
unfolding root_rule
nodes-listed k [] = refl
nodes-listed k (n ∷ ns) =
    let b : Bool = gms_bad (root_game (n ∷ ns)) in
    let a = length-append (props_changes b k n.props) (props_changes false (k + length n.props) (all_props ns)) in
    let c = changes-listed b k n.props in
    let d = changes-listed false (k + length n.props) (all_props ns) in
    omega (arith, a, c, d)
