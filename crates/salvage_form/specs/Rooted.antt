-- What a root's properties say of its tree once it is mended.
use Rattle.std.specs.Prelude.{◌∷◌}
use Rattle.lists.specs.Prelude.{List, []}
use Rattle.lexer.specs.Token.{Prop}
use Rattle.tables.specs.Numbers.{none}
use Rattle.tables.specs.Record.{Tree}
use Rattle.parser.specs.Game.{game_props}
use Rattle.fit_rule.specs.Rule.{rule_of}
use Rattle.salvage_mend.specs.Mend.{gms_among, gms_bad, mend_tree}
use Rattle.salvage_form.specs.declared.root.RootRule.{RootRule}

-- a tree with a root that has these properties, and no other node
abbrev pub root_alone : List Prop → Tree
root_alone ps = record { root = 0; game = 0; nodes = record { parent = none; props = ps } ∷ [] }

-- the rule of the mended tree, which no other node changes; and whether the root's GMs are removed
unfoldable pub root_rule : List Prop → RootRule
root_rule ps = record { rule = rule_of (mend_tree (root_alone ps)); bad = gms_bad (game_props (gms_among ps)) }
