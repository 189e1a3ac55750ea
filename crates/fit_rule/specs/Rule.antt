-- The rule of a tree, how its values are read: 0 Go where `tt` is a pass, 1 another game, 2 Go where `tt` is a point.
use Rattle.std.specs.Prelude.{◌/◌, ◌&&◌, ◌∷◌}
use Rattle.lists.specs.Prelude.{ℕ, Bool, true, false, List, [], map, eqb, leb, ltb, length, pick}
use Rattle.values.specs.Read.{read_identifier}
use Rattle.lexer.specs.Token.{Prop}
use Rattle.tables.specs.Columns.{tree_stride, node_stride, root_at, game_at, first_prop_at, prop_count_at}
use Rattle.tables.specs.Record.{Node, Tree}
use Rattle.parts_props.specs.Props.{Property, properties_at}
use Rattle.fit.specs.Record.{raws_of}
use Rattle.go_size.specs.Root.{size_in}
use Rattle.go_size.specs.declared.RootSize.{RootSize}
use Rattle.go_size.specs.declared.RootSize.TheVariants.{Absent, Sized, Wrong}

-- `tt` is a pass where there is no SZ, or one valid SZ with both sides at most 19; not where SZ is repeated or invalid (SCOPE 240)
unfoldable pub tt_passes : RootSize → Bool
tt_passes Absent = true
tt_passes (Sized x y) = leb x 19 && leb y 19
tt_passes Wrong = false

-- by the game type, 0 for Go, and the size that the root says
unfoldable pub rule_by : (game : ℕ) → RootSize → ℕ
rule_by game size = pick (eqb game 0) (pick (tt_passes size) 0 2) 1

-- a property as it is asked: its read identifier and its raw values
abbrev pub property_of : Prop → Property
property_of p = record { name = read_identifier p.name; raws = raws_of p }

-- the properties of the first node: in a tree, of its root
abbrev pub first_props : List Node → List Prop
first_props [] = []
first_props (n ∷ ns) = n.props

-- the size that the root of a tree says (SCOPE 241)
unfoldable pub size_of_tree : Tree → RootSize
size_of_tree t = size_in (map property_of (first_props t.nodes))

-- the rule of a tree
unfoldable pub rule_of : Tree → ℕ
rule_of t = rule_by t.game (size_of_tree t)

-- the properties of tree r's root, by their rows; none where a row is not there
unfoldable pub root_properties_at : (text tr nd pr vl : List ℕ) → ℕ → List Property
root_properties_at text tr nd pr vl r =
    pick (ltb r (length tr / tree_stride) && ltb (root_at tr r) (length nd / node_stride))
    (properties_at text pr vl (first_prop_at nd (root_at tr r)) (prop_count_at nd (root_at tr r))) []

-- the size that it says
abbrev pub size_at : (text tr nd pr vl : List ℕ) → ℕ → RootSize
size_at text tr nd pr vl r = size_in (root_properties_at text tr nd pr vl r)

-- the rule of tree r, by its rows
unfoldable pub rule_at : (text tr nd pr vl : List ℕ) → ℕ → ℕ
rule_at text tr nd pr vl r = rule_by (game_at tr r) (size_at text tr nd pr vl r)
