-- What a root says of its tree, by the game type of its GMs and its size. Nothing public is stated by these.
use Rattle.lists.specs.Prelude.{true, false}
use Rattle.go_size.specs.declared.RootSize.{RootSize}
use Rattle.fit_rule.specs.Rule.{rule_by}
use Rattle.salvage_form.specs.declared.root.RootRule.{RootRule}
use Rattle.std.specs.Prelude.{Result, Ok, Err, ℕ}
use Rattle.tables.specs.declared.Reason.{Reason}

-- where the GMs give no game type, they are removed, and the game is Go
abbrev pub ruled_by : Result ℕ Reason → RootSize → RootRule
ruled_by (Ok k) z = record { rule = rule_by k z; bad = false }
ruled_by (Err r) z = record { rule = rule_by 0 z; bad = true }
