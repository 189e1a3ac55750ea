-- The mended record: what salvage makes of a lenient reading. No node is added or removed.
use Rattle.std.specs.Prelude.{◌&&◌, ◌∷◌}
use Rattle.lists.specs.Prelude.{ℕ, Bool, true, false, not, List, [], map, length, leb, pick}
use Rattle.lists.specs.Same.{same}
use Rattle.lexer.specs.Token.{Prop}
use Rattle.values.specs.Read.{read_identifier}
use Rattle.tables.specs.Record.{Node, Tree}
use Rattle.parser.specs.Game.{Game, is, no_game, GM, game_props}

-- the identifier reads GM
abbrev pub reads_gm : Prop → Bool
reads_gm p = same (read_identifier p.name) GM

-- the properties that read GM
abbrev pub gms_among : List Prop → List Prop
gms_among [] = []
gms_among (p ∷ ps) = let r = gms_among ps in pick (reads_gm p) (p ∷ r) r

-- the game type that the first node's GMs give, or why they give none
abbrev pub root_game : List Node → Game
root_game [] = is 0
root_game (n ∷ ns) = game_props (gms_among n.props)

-- the game type of the mended tree: that of the GM it keeps; Go without one (SCOPE 281)
abbrev pub kept_game : Game → ℕ
kept_game (is k) = k
kept_game (no_game r) = 0

-- the root's GMs give no game type, and are removed (SCOPE 280)
abbrev pub gms_bad : Game → Bool
gms_bad (is k) = false
gms_bad (no_game r) = true

-- the property stays: its identifier does not read as empty, and it is no GM that is removed (SCOPE 280)
abbrev pub prop_stays : (bad : Bool) → Prop → Bool
prop_stays bad p = not (leb (length (read_identifier p.name)) 0) && not (bad && reads_gm p)

-- under its read identifier (SCOPE 280)
abbrev pub respelled : Prop → Prop
respelled p = record { from = p.from; to = p.to; name = read_identifier p.name; vals = p.vals }

-- the properties that stay
abbrev pub mend_props : (bad : Bool) → List Prop → List Prop
mend_props bad [] = []
mend_props bad (p ∷ ps) = let r = mend_props bad ps in pick (prop_stays bad p) (respelled p ∷ r) r

-- a node; bad: it is a root whose GMs are removed
abbrev pub mend_node : (bad : Bool) → Node → Node
mend_node bad n = record { parent = n.parent; props = mend_props bad n.props }

-- the nodes of a tree, its root first
abbrev pub mend_nodes : (bad : Bool) → List Node → List Node
mend_nodes bad [] = []
mend_nodes bad (n ∷ ns) = mend_node bad n ∷ map (mend_node false) ns

-- a tree
abbrev pub mend_tree : Tree → Tree
mend_tree t = let g = root_game t.nodes in record { root = t.root; game = kept_game g; nodes = mend_nodes (gms_bad g) t.nodes }

-- the mended record (SCOPE 282)
abbrev pub mended : List Tree → List Tree
mended ts = map mend_tree ts
