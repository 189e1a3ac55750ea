-- The list of what salvage changed: tree by tree an empty root, the properties by number, a cut; at the end the tail.
use Rattle.std.specs.Prelude.{◌+◌, ◌∷◌, ◌++◌}
use Rattle.lists.specs.Prelude.{ℕ, suc, true, false, List, [], reverse, length, drop, max}
use Rattle.text_utf8.specs.Text.{Utf, whole, part, bad, blank, utfs}
use Rattle.lexer.specs.Token.{Tok, End, done, broken, Lexed, token_place}
use Rattle.tables.specs.Numbers.{none}
use Rattle.tables.specs.Record.{Node, all_props}
use Rattle.parser.specs.Split.{Slices, no, slices, split_by_gametree}
use Rattle.parser.specs.Walk.{Walk, walk, halted, stopped, walks, walked}
use Rattle.parser.specs.Read.{tokenize}
use Rattle.why_blame.specs.Blame.{Blame, nowhere, found, blame, is_stopped}
use Rattle.why_blame.specs.Cuts.{sliced_tokens}
use Rattle.salvage_mend.specs.Changes.{Change, empty_root, cut_short, tail_dropped, nodes_changes}

-- a tree that is cut short: the place of the token at which the walk of its slice halts
abbrev pub cut_of : (tree : ℕ) → Blame Walk → List Change
cut_of i nowhere = []
cut_of i (found w pre t) = cut_short i (token_place t) ∷ []

-- the nodes of a walk, in order
abbrev pub walk_nodes : Walk → List Node
walk_nodes (walk cur st g ns) = reverse ns
walk_nodes (halted ns) = reverse ns
walk_nodes (stopped r) = []

-- a tree without a node is given an empty root
abbrev pub root_of : (tree : ℕ) → List Node → List Change
root_of i [] = empty_root i ∷ []
root_of i (n ∷ ns) = []

-- the trees of the slices, the i-th on; base, k: the numbers of the next node and property
abbrev pub trees_changes : (i base k : ℕ) → List (List Tok) → List Change
trees_changes i base k [] = []
trees_changes i base k (s ∷ ss) =
    let ns = walk_nodes (walked true base (walk none [] false []) s) in
    let r = trees_changes (suc i) (base + max 1 (length ns)) (k + length (all_props ns)) ss in
    root_of i ns ++ (nodes_changes k ns ++ (cut_of i (blame (walks true base) is_stopped (walk none [] false []) [] s) ++ r))

-- the first token, failing or not, in no slice
abbrev pub tail_of : List Tok → End → List Change
tail_of (t ∷ ts) e = tail_dropped (token_place t) ∷ []
tail_of [] (broken f s) = tail_dropped s ∷ []
tail_of [] done = []

-- of the tokens and their slices: tree by tree, at the end the tail
abbrev pub slices_changes : Slices → Lexed → List Change
slices_changes (no r) l = []
slices_changes (slices ss) l = trees_changes 0 0 0 ss ++ tail_of (drop (length (sliced_tokens ss)) l.toks) l.end

-- of a text
abbrev pub utf_changes : Utf → List ℕ → List Change
utf_changes (whole k) t = slices_changes (split_by_gametree true (tokenize k t).toks) (tokenize k t)
utf_changes (part k s n r c) t = []
utf_changes (bad p) t = []

-- the list of a text (SCOPE 285)
abbrev pub changes_of : List ℕ → List Change
changes_of t = utf_changes (utfs (whole blank) 0 t) t
