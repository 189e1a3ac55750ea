-- What salvage changed, property by property, and a record with the listed changes.
use Rattle.std.specs.Prelude.{◌+◌, ◌&&◌, ◌||◌, ◌∷◌, ◌++◌}
use Rattle.lists.specs.Prelude.{ℕ, suc, Bool, false, List, [], length, leb, eqb, pick}
use Rattle.lists.specs.Same.{same}
use Rattle.lexer.specs.Token.{Prop}
use Rattle.values.specs.Read.{read_identifier}
use Rattle.tables.specs.Record.{Node, Tree, all_props}
use Rattle.parser.specs.Game.{GM, game_props, props_named}
use Rattle.salvage_mend.specs.Mend.{reads_gm, root_game, kept_game, gms_bad, respelled}

-- numbers are those of the lenient reading; a place is where bytes were not read from on (SCOPE 285)
pub data Change : Type 0 where
  empty_root : (tree : ℕ) → Change
  unnamed : (property : ℕ) → Change
  removed_gm : (property : ℕ) → Change
  spelled_anew : (property : ℕ) → Change
  cut_short : (tree place : ℕ) → Change
  tail_dropped : (place : ℕ) → Change

-- ---- the list

-- of property k; bad: it is one of a root whose GMs are removed. A property is listed at most once
abbrev pub prop_change : (bad : Bool) (k : ℕ) → Prop → List Change
prop_change bad k p =
    pick (leb (length (read_identifier p.name)) 0) (unnamed k ∷ [])
    (pick (bad && reads_gm p) (removed_gm k ∷ []) (pick (same (read_identifier p.name) p.name) [] (spelled_anew k ∷ [])))

-- of the properties from number k on
abbrev pub props_changes : (bad : Bool) (k : ℕ) → List Prop → List Change
props_changes bad k [] = []
props_changes bad k (p ∷ ps) = prop_change bad k p ++ props_changes bad (suc k) ps

-- of the nodes of a tree, its root first; k: the number of its first property
abbrev pub nodes_changes : (k : ℕ) → List Node → List Change
nodes_changes k [] = []
nodes_changes k (n ∷ ns) = props_changes (gms_bad (root_game (n ∷ ns))) k n.props ++ props_changes false (k + length n.props) (all_props ns)

-- ---- a record with the listed changes

-- property k is listed as removed
abbrev pub left_out : List Change → (k : ℕ) → Bool
left_out [] k = false
left_out (unnamed j ∷ cs) k = eqb j k || left_out cs k
left_out (removed_gm j ∷ cs) k = eqb j k || left_out cs k
left_out (empty_root i ∷ cs) k = left_out cs k
left_out (spelled_anew j ∷ cs) k = left_out cs k
left_out (cut_short i o ∷ cs) k = left_out cs k
left_out (tail_dropped o ∷ cs) k = left_out cs k

-- property k is listed as spelled anew
abbrev pub anew : List Change → (k : ℕ) → Bool
anew [] k = false
anew (spelled_anew j ∷ cs) k = eqb j k || anew cs k
anew (unnamed j ∷ cs) k = anew cs k
anew (removed_gm j ∷ cs) k = anew cs k
anew (empty_root i ∷ cs) k = anew cs k
anew (cut_short i o ∷ cs) k = anew cs k
anew (tail_dropped o ∷ cs) k = anew cs k

-- the properties from number k on: left out, spelled anew, or as they are
abbrev pub change_props : List Change → (k : ℕ) → List Prop → List Prop
change_props cs k [] = []
change_props cs k (p ∷ ps) = let r = change_props cs (suc k) ps in pick (left_out cs k) r (pick (anew cs k) (respelled p ∷ r) (p ∷ r))

-- the nodes
abbrev pub change_nodes : List Change → (k : ℕ) → List Node → List Node
change_nodes cs k [] = []
change_nodes cs k (n ∷ ns) = record { parent = n.parent; props = change_props cs k n.props } ∷ change_nodes cs (k + length n.props) ns

-- the game type of what a root keeps
abbrev pub game_kept : List Node → ℕ
game_kept [] = 0
game_kept (n ∷ ns) = kept_game (game_props (props_named GM n.props))

-- the trees, each with the type of what is kept (SCOPE 281)
abbrev pub change_trees : List Change → (k : ℕ) → List Tree → List Tree
change_trees cs k [] = []
change_trees cs k (t ∷ ts) =
    let ns = change_nodes cs k t.nodes in
    record { root = t.root; game = game_kept ns; nodes = ns } ∷ change_trees cs (k + length (all_props t.nodes)) ts

-- the record with the listed changes (SCOPE 286)
abbrev pub changed : List Change → List Tree → List Tree
changed cs ts = change_trees cs 0 ts
