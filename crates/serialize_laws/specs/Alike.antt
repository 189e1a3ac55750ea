-- When two records are the same Go record, however their texts spell it: order of a set's points, rectangles, white space, escapes and places aside.
use Rattle.std.specs.Prelude.{◌≡◌}
use Rattle.lists.specs.Prelude.{ℕ, true, false, List, List-as-Memᴰ}
use Rattle.lists.specs.All.{All}
use Rattle.ask.specs.Ask.{go_of}
use Rattle.lexer.specs.Token.{Prop}
use Rattle.values.specs.Read.{read_identifier}
use Rattle.go.specs.Marks.{all_good, in_some}
use Rattle.go.specs.Value.{areas_of}
use Rattle.go_shape.specs.Shape.{shape_of}
use Rattle.go_shape.specs.declared.Shape.TheVariants.{ManyPoints}
use Rattle.tables.specs.Record.{Node, Tree}
use Rattle.fit.specs.Record.{raws_of}
use Rattle.fit_rule.specs.Rule.{rule_of}
use Rattle.serialize_laws.specs.Same.{Pairs, valid}

-- properties of trees with rule k: the same read identifier and Go value, and the same raw values where that is no valid one
pub record AlikeProp (k : ℕ) (p q : Prop) : Type 0 where
  pub name : read_identifier q.name ≡ read_identifier p.name
  pub value : go_of k q ≡ go_of k p
  pub raws : valid (go_of k p).value ≡ false → raws_of q ≡ raws_of p

-- nodes: the same parent, and properties that are alike, one by one
pub record AlikeNode (k : ℕ) (n m : Node) : Type 0 where
  pub parent : m.parent ≡ n.parent
  pub props : Pairs (AlikeProp k) n.props m.props

-- trees: the same root and game type, and nodes that are alike, one by one, under the rule of the first, which is then that of both
pub record AlikeTree (t u : Tree) : Type 0 where
  pub root : u.root ≡ t.root
  pub game : u.game ≡ t.game
  pub nodes : Pairs (AlikeNode (rule_of t)) t.nodes u.nodes

-- records
abbrev pub Alike : List Tree → List Tree → Type 0
Alike = Pairs AlikeTree

-- two properties of one set of points: every value stands for points, and a point is in the one set exactly where it is in the other
pub record OneSet (p q : Prop) : Type 0 where
  pub name : read_identifier q.name ≡ read_identifier p.name
  pub takes : shape_of (read_identifier p.name) ≡ ManyPoints
  pub good : all_good (areas_of (raws_of p)) ≡ true
  pub good' : all_good (areas_of (raws_of q)) ≡ true
  pub points : (i : ℕ) → in_some (areas_of (raws_of q)) i ≡ in_some (areas_of (raws_of p)) i

-- each of these raw values is one of those: in whatever order, however often
abbrev pub Among : (those these : List (List ℕ)) → Type 0
Among those these = All (λ v. List-as-Memᴰ v those) these
