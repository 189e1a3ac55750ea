-- The tree of one slice, read from the tokens from a place on.
use Rattle.std.specs.Prelude.{◌+◌, ◌*◌, ◌≤◌, ◌<◌, ◌≡◌, ◌∷◌, Result, Ok, Err}
use Rattle.lists.specs.Prelude.{ℕ, Bool, false, List, [], length}
use Rattle.lists.specs.Put.{PutIs}
use Rattle.lexer.specs.Token.{Tok, done, lex_at}
use Rattle.tables.specs.Numbers.{text_limit, none}
use Rattle.tables.specs.Record.{Node, Tree, all_props, all_vals}
use Rattle.tables.specs.Columns.{node_stride, property_stride, value_stride}
use Rattle.tables.specs.Rows.{prop_rows, val_rows}
use Rattle.tables.specs.Flat.{flat_nodes, flat_props, flat_vals}
use Rattle.parser.specs.Walk.{Walk, walk, walked}
use Rattle.parser.specs.Read.{trees_so_far, no_trees, tree_of_walk}
use Rattle.parser.specs.LocalsSlice.{slice_from, rest_from, Shallow}
use Rattle.parser_tree.specs.LocalsFlat.{bare_rows}
use Rattle.parser_tree.specs.LocalsTree.{Left}
use Rattle.tables.specs.declared.Reason.{Reason}

-- the walk of the first slice of the tokens
unfoldable pub walk_of : Bool → (base : ℕ) → List Tok → Walk
walk_of len base ts = walked len base (walk none [] false []) (slice_from 0 ts)

-- what a walk asks for: a text within the limit, few rows so far, no slice too deep, and where reading is strict no fault ahead
pub record Ready (len : Bool) (u : List ℕ) (from base p v : ℕ) : Type 0 where
  pub short : length u ≤ text_limit
  pub inside : from ≤ length u
  pub nodes : base ≤ text_limit + text_limit
  pub props : p ≤ text_limit
  pub vals : v ≤ text_limit
  pub shallow : Shallow 0 (slice_from 0 (lex_at u from).toks)
  pub faultless : len ≡ false → (lex_at u from).end ≡ done

-- es stand in the tables from the rows base, p0 and v0 on; n, p and v are the next rows
pub record Stored (base p0 v0 : ℕ) (es : List Node) (t₀ q₀ w₀ t q w : List ℕ) (n p v : ℕ) : Type 0 where
  pub nodes : n ≡ base + length es
  pub props : p ≡ p0 + length (all_props es)
  pub vals : v ≡ v0 + length (all_vals (all_props es))
  pub tnodes : PutIs t₀ (base * node_stride) (flat_nodes (bare_rows p0 es)) t
  pub tprops : PutIs q₀ (p0 * property_stride) (flat_props (prop_rows v0 (all_props es))) q
  pub tvals : PutIs w₀ (v0 * value_stride) (flat_vals (val_rows (all_vals (all_props es)))) w

-- a tree: its nodes es, in the tables; the place behind its slice, from which the other slices are read; as many rows as bytes, but that an empty root has none
pub record TreeIs (len : Bool) (u : List ℕ) (from base p0 v0 : ℕ) (t₀ q₀ w₀ t q w : List ℕ) (at n p v : ℕ) : Type 0 where
  pub es : List Node
  pub tree :
      (k : ℕ) (ts : List Tree)
      → tree_of_walk len base k (walk_of len base (lex_at u from).toks) ts
      ≡ trees_so_far (base + length es) (record { root = base; game = k; nodes = es } ∷ ts)
  pub stored : Stored base p0 v0 es t₀ q₀ w₀ t q w n p v
  pub more : base < n
  pub rest : rest_from 0 (lex_at u from).toks ≡ (lex_at u at).toks
  pub ends : (lex_at u at).end ≡ (lex_at u from).end
  pub on : from ≤ at
  pub inside : at ≤ length u
  pub node-bound : n + from ≤ base + at + 1
  pub prop-bound : p + from ≤ p0 + at
  pub val-bound : v + from ≤ v0 + at

-- what a walk gives
abbrev pub WalkIs : Bool → (u : List ℕ) (from base p0 v0 : ℕ) (t₀ q₀ w₀ t q w : List ℕ) → Result (ℕ × ℕ × ℕ × ℕ) Reason → Type 0
WalkIs len u from base p0 v0 t₀ q₀ w₀ t q w (Ok (at, n, p, v)) = TreeIs len u from base p0 v0 t₀ q₀ w₀ t q w at n p v
WalkIs len u from base p0 v0 t₀ q₀ w₀ t q w (Err r) =
    (len ≡ false) × ((k : ℕ) (ts : List Tree) → tree_of_walk len base k (walk_of len base (lex_at u from).toks) ts ≡ no_trees r)

-- what the walk asks for: numbers within the limits
pub record Reach (u : List ℕ) (from base p v : ℕ) : Type 0 where
  pub short : length u ≤ text_limit
  pub inside : from ≤ length u
  pub nodes : base ≤ text_limit + text_limit
  pub props : p ≤ text_limit
  pub vals : v ≤ text_limit

-- where a next slice starts: the tokens from there on are those behind this one, and each row took a byte, but that an empty root took none
pub record SliceAt (len : Bool) (u : List ℕ) (from base p0 v0 at n p v : ℕ) : Type 0 where
  pub rest : rest_from 0 (lex_at u from).toks ≡ (lex_at u at).toks
  pub ends : (len ≡ false → (lex_at u from).end ≡ done) → (lex_at u at).end ≡ (lex_at u from).end
  pub on : from ≤ at
  pub inside : at ≤ length u
  pub node-bound : n + from ≤ base + at + 1
  pub prop-bound : p + from ≤ p0 + at
  pub val-bound : v + from ≤ v0 + at

-- of a tree
abbrev pub SliceAfter : Bool → (u : List ℕ) (from base p0 v0 : ℕ) → Result (ℕ × ℕ × ℕ × ℕ) Reason → Type 0
SliceAfter len u from base p0 v0 (Ok (at, n, p, v)) = SliceAt len u from base p0 v0 at n p v
SliceAfter len u from base p0 v0 (Err r) = Unit {0}

-- what is answered and held, by its definition; and where a next slice starts, which follows from it
pub record LeftIs (x : Left) (len : Bool) (u : List ℕ) (from base p0 v0 : ℕ) (t q w : List ℕ) (r : Result (ℕ × ℕ × ℕ × ℕ) Reason) : Type 0 where
  pub answer : r ≡ x.answer
  pub held : record { nodes = t; props = q; vals = w } ≡ x.held
  pub next : SliceAfter len u from base p0 v0 r
