-- What reading back keeps: parents, roots, game types, rules, identifiers, Go values and other raw values.
use Rattle.std.specs.Prelude.{◌≡◌, ◌∷◌}
use Rattle.lists.specs.Prelude.{ℕ, Bool, true, false, List, []}
use Rattle.ask.specs.Ask.{go_of}
use Rattle.lexer.specs.Token.{Prop}
use Rattle.values.specs.Read.{read_identifier}
use Rattle.go.specs.Normal.{normal}
use Rattle.go_points.specs.declared.Value.{Value}
use Rattle.go_points.specs.declared.Value.TheVariants.{Other, Invalid, Pass, Move, Handicap, Points}
use Rattle.tables.specs.Record.{Node, Tree}
use Rattle.tables.specs.Rows.{tables}
use Rattle.parser.specs.Read.{accepted, read_strict}
use Rattle.fit.specs.Record.{raws_of}
use Rattle.fit_rule.specs.Rule.{rule_of}
use Rattle.serialize.specs.Form.{writing}

-- R holds of the elements of two lists one by one, and none is left over
abbrev pub Pairs : {A : Type 0} → (A → A → Type 0) → List A → List A → Type 0
Pairs R [] [] = Unit {0}
Pairs R [] (y ∷ ys) = ⊥
Pairs R (x ∷ xs) [] = ⊥
Pairs R (x ∷ xs) (y ∷ ys) = R x y × Pairs R xs ys

-- a valid move, handicap or set; any other value is written as it is raw
abbrev pub valid : Value → Bool
valid Other = false
valid Invalid = false
valid Pass = true
valid (Move x y) = true
valid (Handicap n) = true
valid Points = true

-- q is p read back: its values are the normal form of p's, so the Go value is the same, and so are raw values that are no valid Go value (SCOPE 121)
pub record SameProp (k : ℕ) (p q : Prop) : Type 0 where
  pub name : q.name ≡ p.name
  pub normals : raws_of q ≡ normal k (read_identifier p.name) (raws_of p)
  pub value : go_of k q ≡ go_of k p
  pub raws : valid (go_of k p).value ≡ false → raws_of q ≡ raws_of p

-- a node of a tree with rule k
pub record SameNode (k : ℕ) (n m : Node) : Type 0 where
  pub parent : m.parent ≡ n.parent
  pub props : Pairs (SameProp k) n.props m.props

-- a tree: so that it has the rule by which it was written (SCOPE 121, 242)
pub record SameTree (t u : Tree) : Type 0 where
  pub root : u.root ≡ t.root
  pub game : u.game ≡ t.game
  pub rule : rule_of u ≡ rule_of t
  pub nodes : Pairs (SameNode (rule_of t)) t.nodes u.nodes

-- a strict reading of the writing: accepted with the same trees, the same tree and node rows; and writing these gives the same bytes
pub record ReadsBack (ts : List Tree) : Type 0 where
  pub again : List Tree
  pub accepts : read_strict (writing ts) ≡ accepted again
  pub same : Pairs SameTree ts again
  pub tree-rows : (tables again).trees ≡ (tables ts).trees
  pub node-rows : (tables again).nodes ≡ (tables ts).nodes
  pub bytes : writing again ≡ writing ts
