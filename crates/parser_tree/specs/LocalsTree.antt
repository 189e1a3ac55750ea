-- The walk of one slice for every text, place and rows: what is answered, and what the three tables hold after it.
use Rattle.std.specs.Prelude.{◌+◌, ◌*◌, ◌&&◌, ◌∷◌, ◌++◌, Result, Ok, Err}
use Rattle.lists.specs.Prelude.{ℕ, Bool, true, false, List, [], reverse, length, leb, pick}
use Rattle.lists.specs.Put.{put_at}
use Rattle.lexer_scan.specs.Scan.{ident_at}
use Rattle.lexer_scan.specs.declared.Ident.{Ident}
use Rattle.lexer_scan.specs.declared.Ident.TheVariants.{Opens, Missing, Foreign}
use Rattle.lexer.specs.Token.{Tok, start, end, node, prop, End, done, broken, Lexed, lex_at}
use Rattle.lexer.specs.Step.{prop_at}
use Rattle.lexer.specs.declared.Fault.TheVariants.{MissingPropertyIdentifier, UnexpectedEndOfPropertyIdentifier, UnexpectedEndOfPropertyValue}
use Rattle.tables.specs.Numbers.{text_limit, depth_limit, none}
use Rattle.tables.specs.Columns.{node_stride, property_stride, value_stride}
use Rattle.tables.specs.Record.{Node, all_props, all_vals}
use Rattle.tables.specs.Rows.{NodeRow, PropRow, ValRow, prop_rows, val_rows}
use Rattle.tables.specs.declared.Reason.TheVariants.{TooDeep, UnexpectedEndOfData, NoRoom}
use Rattle.parser.specs.Walk.{Walk, walk, halted, stopped, walks}
use Rattle.parser.specs.LocalsSlice.{slice_from}
use Rattle.parser_tree.specs.LocalsFlat.{bare_rows}
use Rattle.tables.specs.declared.Reason.{Reason}

-- ---- the tokens

-- a property from s with a value that does not close: its values before that one, up to the end of the text
abbrev pub open_property : List ℕ → ℕ → Ident → List Tok
open_property u s (Opens k) = prop (prop_at u s k) (length u) ∷ []
open_property u s Missing = []
open_property u s Foreign = []

-- the same, by how the tokens end
abbrev pub open_token : List ℕ → End → List Tok
open_token u done = []
open_token u (broken MissingPropertyIdentifier s) = []
open_token u (broken UnexpectedEndOfPropertyIdentifier s) = []
open_token u (broken UnexpectedEndOfPropertyValue s) = open_property u s (ident_at u s)

-- strict reading does not look ahead, and takes it for a token
abbrev pub token_tail : Bool → List ℕ → End → List Tok
token_tail true u e = []
token_tail false u e = open_token u e

-- the tokens that a walk meets
abbrev pub met_in : Bool → List ℕ → Lexed → List Tok
met_in len u l = l.toks ++ token_tail len u l.end

-- ---- the walk

-- a walk, and its nodes (last first; after a refusal those before it)
pub record Run : Type 0 where
  pub nodes : List Node
  pub walk : Walk

-- no start goes beyond the limit of depth
abbrev pub limited : Tok → Walk → Walk
limited (start o) (walk cur st g ns) = pick (leb (length st) depth_limit) (walk cur st g ns) (stopped TooDeep)
limited (start o) (halted ns) = halted ns
limited (start o) (stopped r) = stopped r
limited (end o) w = w
limited (node o) w = w
limited (prop p e) w = w

-- the nodes after a token
abbrev pub nodes_after : List Node → Walk → List Node
nodes_after ns (walk cur st g ms) = ms
nodes_after ns (halted ms) = ms
nodes_after ns (stopped r) = ns

-- one token, by the walk after it
abbrev pub run_on : Run → Walk → Run
run_on r w = record { nodes = nodes_after r.nodes w; walk = w }

-- all tokens
abbrev pub runs : Bool → (base : ℕ) → Run → List Tok → Run
runs len base r [] = r
runs len base r (t ∷ ts) = runs len base (run_on r (limited t (walks len base r.walk t))) ts

-- of the first slice
unfoldable pub run_of : Bool → (base : ℕ) → List Tok → Run
run_of len base ts = runs len base (record { nodes = []; walk = walk none [] false [] }) (slice_from 0 ts)

-- the place behind a token
abbrev pub token_end : Tok → ℕ
token_end (start o) = o + 1
token_end (end o) = o + 1
token_end (node o) = o + 1
token_end (prop p e) = e

-- the place behind the last of them
unfoldable pub place_behind : ℕ → List Tok → ℕ
place_behind at [] = at
place_behind at (t ∷ ts) = place_behind (token_end t) ts

-- ---- the rows

-- a row at a place, where there is room for it
abbrev pub put_row : List ℕ → ℕ → List ℕ → List ℕ
put_row t at row = pick (leb (at + length row) (length t)) (put_at t at row) t

-- rows one behind the other, each where there is room for it
unfoldable pub put_rows : List ℕ → ℕ → List (List ℕ) → List ℕ
put_rows t at [] = t
put_rows t at (r ∷ rs) = put_rows (put_row t at r) (at + length r) rs

-- the numbers of each node's row
abbrev pub node_lists : List NodeRow → List (List ℕ)
node_lists [] = []
node_lists (r ∷ rs) = (r.parent ∷ r.child ∷ r.sibling ∷ r.first ∷ r.count ∷ r.depth ∷ []) ∷ node_lists rs

-- of each property's
abbrev pub prop_lists : List PropRow → List (List ℕ)
prop_lists [] = []
prop_lists (r ∷ rs) = (r.from ∷ r.to ∷ r.first ∷ r.count ∷ []) ∷ prop_lists rs

-- of each value's
abbrev pub val_lists : List ValRow → List (List ℕ)
val_lists [] = []
val_lists (r ∷ rs) = (r.from ∷ r.to ∷ []) ∷ val_lists rs

-- ---- the answer

-- what the tables hold
pub record Held : Type 0 where
  pub nodes : List ℕ
  pub props : List ℕ
  pub vals : List ℕ

-- the rows from which the tree's go on
pub record Bases : Type 0 where
  pub nodes : ℕ
  pub props : ℕ
  pub vals : ℕ

-- what is answered, and what is held then
pub record Left : Type 0 where
  pub answer : Result (ℕ × ℕ × ℕ × ℕ) Reason
  pub held : Held

-- the nodes es behind those before them
abbrev pub left_with : Bases → Held → Result (ℕ × ℕ × ℕ × ℕ) Reason → (es : List Node) → Left
left_with b m r es =
    record {
      answer = r;
      held = record {
        nodes = put_rows m.nodes (b.nodes * node_stride) (node_lists (bare_rows b.props es));
        props = put_rows m.props (b.props * property_stride) (prop_lists (prop_rows b.vals (all_props es)));
        vals = put_rows m.vals (b.vals * value_stride) (val_lists (val_rows (all_vals (all_props es))));
      };
    }

-- a tree of the nodes es, and the next rows
abbrev pub tree_with : Bases → Held → (at : ℕ) → (es : List Node) → Left
tree_with b m at es =
    left_with b m (Ok (at, b.nodes + length es, b.props + length (all_props es), b.vals + length (all_vals (all_props es)))) es

-- a slice at its end: without any node it is refused, lenient reading makes an empty root
abbrev pub end_left : Bool → Bases → Held → (at : ℕ) → List Node → Left
end_left len b m at (n ∷ ns) = tree_with b m at (reverse (n ∷ ns))
end_left true b m at [] = tree_with b m at (record { parent = none; props = [] } ∷ [])
end_left false b m at [] = left_with b m (Err UnexpectedEndOfData) []

-- by the walk: a refusal leaves the nodes before it
abbrev pub run_left : Bool → Bases → Held → (at : ℕ) → List Node → Walk → Left
run_left len b m at ns (walk cur st g ms) = end_left len b m at ns
run_left len b m at ns (halted ms) = end_left len b m at ns
run_left len b m at ns (stopped r) = left_with b m (Err r) (reverse ns)

-- the tree of the slice that starts at a place, over what is held before
unfoldable pub slice_left : Bool → (u : List ℕ) (from : ℕ) → Bases → Held → Left
slice_left len u from b m =
    let r = run_of len b.nodes (met_in len u (lex_at u from)) in
    run_left len b m (place_behind from (slice_from 0 (met_in len u (lex_at u from)))) r.nodes r.walk

-- a text within the limit, a place in it, and no more rows than texts have
abbrev pub in_reach : (size from : ℕ) → Bases → Bool
in_reach size from b =
    leb size text_limit && leb from size && leb b.nodes (text_limit + text_limit) && leb b.props text_limit && leb b.vals text_limit

-- the same, and beyond the limits nothing is done
abbrev pub tree_left : Bool → (u : List ℕ) (from : ℕ) → Bases → Held → Left
tree_left len u from b m = pick (in_reach (length u) from b) (slice_left len u from b m) (record { answer = Err NoRoom; held = m })
