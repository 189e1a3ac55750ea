-- The board size of a tree and its rule, shown as numbers, as the C header says them.
use Rattle.lists.specs.Prelude.{ℕ, [], ltb, get_or, pick}
use Rattle.tables.specs.Memory.{Memory}
use Rattle.tables.specs.Numbers.{number_of}
use Rattle.tables.specs.Record.{Tree}
use Rattle.tables.specs.declared.Reason.TheVariants.{NoSuchNumber, NotFitting}
use Rattle.fit.specs.Fit.{Fit}
use Rattle.fit.specs.Record.{record_in}
use Rattle.go_size.specs.declared.RootSize.{RootSize}
use Rattle.go_size.specs.declared.RootSize.TheVariants.{Absent, Sized, Wrong}
use Rattle.fit_rule.specs.Rule.{size_of_tree, rule_of}
use Rattle.c_size.specs.declared.SgfSize.{SgfSize}

-- kind 0 no SZ, 1 one valid SZ, 2 an SZ that is repeated or invalid; columns and rows, 19 where there is no SZ, 0 where it is wrong (SCOPE 243)
abbrev pub size_in_c : RootSize → (rule : ℕ) → SgfSize
size_in_c Absent rule = record { number = 0; kind = 0; columns = 19; rows = 19; rule = rule }
size_in_c (Sized x y) rule = record { number = 0; kind = 1; columns = x; rows = y; rule = rule }
size_in_c Wrong rule = record { number = 0; kind = 2; columns = 0; rows = 0; rule = rule }

-- a refusal's number, and all else 0
abbrev pub no_size_in_c : (number : ℕ) → SgfSize
no_size_in_c n = record { number = n; kind = 0; columns = 0; rows = 0; rule = 0 }

-- no tree
abbrev pub no_tree : Tree
no_tree = record { root = 0; game = 0; nodes = [] }

-- 19 where the tables don't fit the text; then 16 where r is not below the count; else the size and the rule of tree r (SCOPE 243)
unfoldable pub tree_size_in_c : Memory → ℕ → SgfSize
tree_size_in_c m r =
    pick (Fit m)
    (pick (ltb r m.counts.trees) (let t = get_or (record_in m) r no_tree in size_in_c (size_of_tree t) (rule_of t)) (no_size_in_c (number_of NoSuchNumber)))
    (no_size_in_c (number_of NotFitting))
