-- The lengths of the properties of a tree once it is mended. Nothing public is stated by these.
use Rattle.std.specs.Prelude.{◌+◌, ◌&&◌, ◌∷◌}
use Rattle.lists.specs.Prelude.{ℕ, Bool, true, false, not, List, [], length, leb, pick}
use Rattle.lists.specs.Same.{same}
use Rattle.values.specs.Read.{read_identifier}
use Rattle.lexer.specs.Token.{Prop}
use Rattle.tables.specs.Record.{Node, all_props}
use Rattle.parser.specs.Game.{GM}
use Rattle.salvage_mend.specs.Mend.{prop_stays}
use Rattle.salvage_mend.specs.Changes.{prop_change}
use Rattle.salvage_form.specs.Measured.{length_of}
use Rattle.salvage_form.specs.declared.root.RootRule.{RootRule}

-- a property stays, by its raw identifier
abbrev pub name_stays : (bad : Bool) → (name : List ℕ) → Bool
name_stays bad w = not (leb (length (read_identifier w)) 0) && not (bad && same (read_identifier w) GM)

-- the length of a property, 0 where it is removed
abbrev pub kept_length : RootRule → Prop → ℕ
kept_length r p = pick (prop_stays r.bad p) (length_of r.rule p) 0

-- what mending leaves of properties; bad: they are those of a root whose GMs are removed
abbrev pub props_length : (rule : ℕ) (bad : Bool) → List Prop → ℕ
props_length rule bad [] = 0
props_length rule bad (p ∷ ps) = pick (prop_stays bad p) (length_of rule p) 0 + props_length rule bad ps

-- of the properties of a tree's nodes, its root first
abbrev pub nodes_length : RootRule → List Node → ℕ
nodes_length r [] = 0
nodes_length r (n ∷ ns) = props_length r.rule r.bad n.props + props_length r.rule false (all_props ns)

-- how many entries the list of changes has of properties; bad: they are those of a root whose GMs are removed
abbrev pub props_listed : (bad : Bool) → List Prop → ℕ
props_listed bad [] = 0
props_listed bad (p ∷ ps) = length (prop_change bad 0 p) + props_listed bad ps

-- of the properties of a tree's nodes, its root first
abbrev pub nodes_listed : RootRule → List Node → ℕ
nodes_listed r [] = 0
nodes_listed r (n ∷ ns) = props_listed r.bad n.props + props_listed false (all_props ns)

-- what holds of the properties of the next node: of the first, x; of any other, the rule so far, and none is removed
abbrev pub rule_after : (first : Bool) → (x was : RootRule) → RootRule
rule_after true x y = x
rule_after false x y = record { rule = y.rule; bad = false }
