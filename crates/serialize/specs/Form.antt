-- What is written: the form of the values, the writing of a record, and the writer's answer.
use Rattle.std.specs.Prelude.{◌-◌, ◌^◌, ◌≡◌, ◌++◌, Result, Ok, Err}
use Rattle.lists.specs.Prelude.{ℕ, not, List, map, ltb, length, drop, pick}
use Rattle.lexer.specs.Token.{Val, Prop}
use Rattle.values.specs.Read.{read_identifier}
use Rattle.go.specs.Normal.{normal}
use Rattle.tables.specs.Record.{Node, Tree, all_nodes, all_props}
use Rattle.tables.specs.Memory.{Memory}
use Rattle.tables.specs.declared.Reason.TheVariants.{NoRoom, EmptyIdentifier, NotFitting}
use Rattle.fit.specs.Fit.{Fit}
use Rattle.fit.specs.Record.{raws_of, record_in}
use Rattle.fit_rule.specs.Rule.{rule_of}
use Rattle.serialize.specs.Branch.{trees_text, nameless}
use Rattle.tables.specs.declared.Reason.{Reason}

-- a value with these bytes that stands in no text yet
abbrev pub placeless_val : List ℕ → Val
placeless_val r = record { from = 0; to = 0; raw = r }

-- a property of a tree with rule k: its values in their normal form
abbrev pub form_prop : (k : ℕ) → Prop → Prop
form_prop k p = record { from = p.from; to = p.to; name = p.name; vals = map placeless_val (normal k (read_identifier p.name) (raws_of p)) }

-- a node
abbrev pub form_node : (k : ℕ) → Node → Node
form_node k n = record { parent = n.parent; props = map (form_prop k) n.props }

-- a tree: the values of all its nodes by its one rule (SCOPE 242)
abbrev pub form_tree : Tree → Tree
form_tree t = record { root = t.root; game = t.game; nodes = map (form_node (rule_of t)) t.nodes }

-- the writing of a record (SCOPE 2, 132, 134)
abbrev pub writing : List Tree → List ℕ
writing ts = trees_text (map form_tree ts)

-- the writer's answer over lent memory: the first refusal that applies, else how many bytes are written (SCOPE 45, 50, 62, 131)
abbrev pub written : Memory → (room : ℕ) → Result ℕ Reason
written m room =
    pick (not (Fit m)) (Err NotFitting)
    (pick (nameless (all_props (all_nodes (record_in m)))) (Err EmptyIdentifier)
    (pick (ltb room (length (writing (record_in m)))) (Err NoRoom)
    (Ok (length (writing (record_in m))))))

-- more bytes than any output has
abbrev pub amplest : ℕ
amplest = 2 ^ 64 - 2

-- the length of a writing without an output: the writer's answer where there is room for anything
abbrev pub written_length : Memory → Result ℕ Reason
written_length m = written m amplest

-- the lent bytes then: the writing and what was behind it; a refusal changes none (SCOPE 57, 58)
abbrev pub output : Result ℕ Reason → (w out : List ℕ) → List ℕ
output (Ok n) w out = w ++ drop n out
output (Err r) w out = out

-- the writer's answer and the lent bytes (SCOPE 122)
pub record WriteIs (m : Memory) (out out' : List ℕ) (r : Result ℕ Reason) : Type 0 where
  pub is : r ≡ written m (length out)
  pub bytes : out' ≡ output r (writing (record_in m)) out
