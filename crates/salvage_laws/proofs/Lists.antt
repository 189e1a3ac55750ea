-- How long a list can be: two entries a tree, one a property, and the tail. Assumes nothing.
use Rattle.lists.proofs.Prelude.{◌≡◌, sym, ap, ◌∙◌, subst, ℕ, zero, suc, ◌+◌, ◌*◌, ◌≤◌, max, arith, true, false, List, [], ◌∷◌, ◌++◌, length, length-append, drop}
use Rattle.lexer.specs.Token.{Tok, End, done, broken}
use Rattle.tables.specs.Numbers.{none}
use Rattle.tables.specs.Record.{Node, Tree, all_nodes, all_props}
use Rattle.parser.specs.LocalsSlice.{slice_from, rest_from, first_slices}
use Rattle.parser.specs.Walk.{Walk, walk, walks, walked}
use Rattle.parser.specs.Read.{accepted, read_lenient, tokenize}
use Rattle.parser_tree.proofs.Flats.{props-append}
use Rattle.reader_laws.proofs.Accepted.{Reading, reading-is}
use Rattle.reader_laws.proofs.Grown.{Grew}
use Rattle.why_blame.specs.Blame.{Blame, nowhere, found, blame, is_stopped}
use Rattle.why_blame.specs.Cuts.{sliced_tokens}
use Rattle.salvage_mend.specs.Changes.{Change, nodes_changes}
use Rattle.salvage_list.specs.Listed.{cut_of, walk_nodes, root_of, trees_changes, tail_of, changes_of}
use Rattle.salvage_list.proofs.Few.{nodes-few}
use Rattle.salvage_laws.proofs.Says.{OneTree, one-tree, list-is}

cut-few : (i : ℕ) (b : Blame Walk) → length (cut_of i b) ≤ 1
cut-few i nowhere = omega arith
cut-few i (found w pre t) = omega arith

root-few : (i : ℕ) (ns : List Node) → length (root_of i ns) ≤ 1
root-few i [] = omega arith
root-few i (n ∷ ns) = omega arith

tail-few : (ts : List Tok) (e : End) → length (tail_of ts e) ≤ 1
tail-few (t ∷ ts) e = omega arith
tail-few [] (broken f s) = omega arith
tail-few [] done = omega arith

trees-few : (i base k n : ℕ) (us : List Tok) (ts : List Tree) → Grew true base n us ts → length (trees_changes i base k (first_slices n us)) ≤ 2 * length ts + length (all_props (all_nodes ts))
unfolding first_slices
trees-few i base k zero us [] g = omega arith
trees-few i base k zero us (t ∷ ts) g = absurd g
trees-few i base k (suc n) us [] g = absurd g
trees-few i base k (suc n) us (t ∷ ts) g =
    let w : Walk = walked true base (walk none [] false []) (slice_from 0 us) in
    let ns : List Node = walk_nodes w in
    let c : List Change = cut_of i (blame (walks true base) is_stopped (walk none [] false []) [] (slice_from 0 us)) in
    let one : OneTree ns t.nodes = subst (λ (ms : List Node). OneTree ns ms) (sym g.0.nodes) (one-tree w) in
    let r : List Change = trees_changes (suc i) (base + max 1 (length ns)) (k + length (all_props ns)) (first_slices n (rest_from 0 us)) in
    let more : length r ≤ 2 * length ts + length (all_props (all_nodes ts)) =
    subst (λ (b : ℕ). length (trees_changes (suc i) b (k + length (all_props ns)) (first_slices n (rest_from 0 us))) ≤ 2 * length ts + length (all_props (all_nodes ts)))
    (ap (λ (z : ℕ). base + z) one.nodes)
    (trees-few (suc i) (base + length t.nodes) (k + length (all_props ns)) n (rest_from 0 us) ts g.1) in
    let a = length-append (root_of i ns) (nodes_changes k ns ++ (c ++ r)) in
    let b = length-append (nodes_changes k ns) (c ++ r) in
    let d = length-append c r in
    let e = root-few i ns in
    let f = nodes-few k ns in
    let h = cut-few i (blame (walks true base) is_stopped (walk none [] false []) [] (slice_from 0 us)) in
    let p = one.props in
    let q : length (all_props (t.nodes ++ all_nodes ts)) ≡ length (all_props t.nodes) + length (all_props (all_nodes ts)) =
    ap length (props-append t.nodes (all_nodes ts)) ∙ length-append (all_props t.nodes) (all_props (all_nodes ts)) in
    omega arith

-- of the trees and properties of the lenient reading
pub list_length : (t : List ℕ) (ts : List Tree) → read_lenient t ≡ accepted ts → length (changes_of t) ≤ 2 * length ts + length (all_props (all_nodes ts)) + 1
list_length t ts h =
    let r : Reading true t ts = reading-is true t ts h in
    let cs : List Change = trees_changes 0 0 0 (first_slices r.k r.toks) in
    let left : List Tok = drop (length (sliced_tokens (first_slices r.k r.toks))) (tokenize r.ink t).toks in
    let ys : List Change = tail_of left (tokenize r.ink t).end in
    let e : length (changes_of t) ≡ length cs + length ys = ap length (list-is t ts h) ∙ length-append cs ys in
    let a = trees-few 0 0 0 r.k r.toks ts r.grew in
    let b = tail-few left (tokenize r.ink t).end in
    omega arith
