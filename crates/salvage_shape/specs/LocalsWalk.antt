-- What the walk of a slice for its shape asks for and gives. Nothing public is stated by these.
use Rattle.std.specs.Prelude.{◌+◌, ◌*◌, ◌≤◌, ◌≡◌, ◌∷◌}
use Rattle.lists.specs.Prelude.{ℕ, Bool, true, List, [], length}
use Rattle.tables.specs.Numbers.{text_limit, depth_limit, none}
use Rattle.tables.specs.Record.{all_props}
use Rattle.tables.specs.Rows.{parents}
use Rattle.lexer.specs.Token.{Prop}
use Rattle.parser.specs.LocalsSlice.{Shallow}
use Rattle.parser_tree.specs.LocalsTurns.{BehindIs}
use Rattle.salvage_mend.specs.Changes.{prop_change, nodes_changes}
use Rattle.salvage_list.specs.Listed.{cut_of}
use Rattle.salvage_list.specs.LocalsWalk.{tokens_at, nodes_from, cut_from}
use Rattle.fit_rule.specs.Rule.{first_props}
use Rattle.salvage_form.specs.Measured.{length_limit}
use Rattle.salvage_form.specs.Rooted.{root_rule}
use Rattle.salvage_form.specs.declared.root.RootRule.{RootRule}
use Rattle.salvage_shape.specs.LocalsSum.{kept_length, nodes_length}
use Rattle.salvage_shape.specs.LocalsShape.{leaf, Meets, shape_depth, brackets_of}
use Rattle.salvage_shape.specs.declared.Fate.{Fate}
use Rattle.salvage_shape.specs.declared.TreeShape.{TreeShape}

-- what becomes of a property
pub record FateIs (root : RootRule) (p : Prop) (r : Fate) : Type 0 where
  pub bytes : r.bytes ≡ kept_length root p
  pub bound : r.bytes ≤ length_limit
  pub listed : r.listed ≡ length (prop_change root.bad 0 p)

-- the arrays that the walk is lent: of each list that may be open the node that it stands under, whether it is new, and four numbers
pub record Arrays (a : List ℕ) (ma : List Bool) (ca : List ℕ) : Type 0 where
  pub stack : length a ≡ depth_limit
  pub marks : length ma ≡ depth_limit
  pub cells : length ca ≡ depth_limit * 4

-- what the walk asks for
pub record ShapeReady (u : List ℕ) (from base : ℕ) : Type 0 where
  pub short : length u ≤ text_limit
  pub inside : from ≤ length u
  pub nodes : base ≤ text_limit + text_limit
  pub shallow : Shallow 0 (tokens_at u from)

-- what it gives
pub record ShapeIs (u : List ℕ) (from base : ℕ) (r : TreeShape) : Type 0 where
  pub nodes : r.nodes ≡ length (nodes_from u from base)
  pub brackets : r.brackets ≡ brackets_of (parents (nodes_from u from base))
  pub depth : r.depth ≡ shape_depth base (parents (nodes_from u from base))
  pub behind : BehindIs true u from 0 r.next
  pub meets : Meets base (leaf none ∷ []) (parents (nodes_from u from base))
  pub node-bound : r.nodes + from ≤ r.next
  pub bytes : r.bytes ≡ nodes_length (root_rule (first_props (nodes_from u from base))) (nodes_from u from base)
  pub byte-bound : r.bytes + length_limit * from ≤ length_limit * r.next
  pub listed : (i p : ℕ) → r.listed ≡ length (nodes_changes p (nodes_from u from base)) + length (cut_of i (cut_from u from base))
  pub prop-bound : length (all_props (nodes_from u from base)) + from ≤ r.next
