-- Not more entries than properties. Assumes nothing.
use Rattle.lists.proofs.Prelude.{ℕ, suc, ◌+◌, ◌≤◌, Bool, false, List, [], ◌∷◌, arith, length, length-append}
use Rattle.lexer.specs.Token.{Prop}
use Rattle.tables.specs.Record.{Node, all_props}
use Rattle.salvage_mend.specs.Mend.{root_game, gms_bad}
use Rattle.salvage_mend.specs.Changes.{prop_change, props_changes, nodes_changes}
use Rattle.salvage_list.proofs.Puts.{prop-few}

pub changes-few : (b : Bool) (k : ℕ) (ps : List Prop) → length (props_changes b k ps) ≤ length ps
changes-few b k [] = omega arith
changes-few b k (p ∷ ps) = let l = length-append (prop_change b k p) (props_changes b (suc k) ps) in let a = prop-few b k p in let h = changes-few b (suc k) ps in omega arith

pub nodes-few : (k : ℕ) (ns : List Node) → length (nodes_changes k ns) ≤ length (all_props ns)
nodes-few k [] = omega arith
nodes-few k (n ∷ ns) =
    let b : Bool = gms_bad (root_game (n ∷ ns)) in
    let l = length-append (props_changes b k n.props) (props_changes false (k + length n.props) (all_props ns)) in
    let q = length-append n.props (all_props ns) in
    let x = changes-few b k n.props in
    let y = changes-few false (k + length n.props) (all_props ns) in
    omega arith
