-- What the steps of the walk do, in the code's own terms. Nothing public is stated by these.
use Rattle.std.specs.Prelude.{◌+◌, ◌-◌, ◌*◌, ◌≤◌, ◌<◌, ◌≡◌, ◌∷◌, Option, Some, None, Result, Ok, Err}
use Rattle.lists.specs.Prelude.{ℕ, Bool, true, false, List, [], length, get_or, eqb}
use Rattle.lists.specs.Put.{PutWhole}
use Rattle.lexer.specs.Token.{done as finished, lex_at}
use Rattle.lexer_scan.specs.Scan.{values_end_at}
use Rattle.lexer.specs.Step.{vals_at, head_at}
use Rattle.lexer.specs.declared.Head.{Head}
use Rattle.lexer.specs.declared.Head.TheVariants.{Start as start, End as end, Node as node, Name as name, Refused as refused, Done as done}
use Rattle.tables.specs.Numbers.{depth_limit, none}
use Rattle.tables.specs.Columns.{node_stride, property_stride, value_stride}
use Rattle.tables.specs.Rows.{val_rows}
use Rattle.tables.specs.declared.Reason.{Reason}
use Rattle.tables.specs.declared.Reason.TheVariants.{UnexpectedEndOfData, UnexpectedGameTreeStart, UnexpectedGameTreeEnd, UnexpectedProperty}
use Rattle.parser.specs.LocalsSlice.{slice_from, rest_from}
use Rattle.parser_tree.specs.declared.Taken.{Taken}
use Rattle.parser_step.specs.LocalsActs.{stack_of, may_open, unclosed}
use Rattle.parser_step.specs.declared.State.{State}
use Rattle.parser_step.specs.declared.Act.{Act}
use Rattle.parser_step.specs.declared.Act.TheVariants.{Start, End, Node, Add, Stop, Over}
use Rattle.parser_tree.specs.LocalsTree.{met_in, place_behind, put_rows, val_lists}

-- more rows than a walk comes to
abbrev pub row_limit : ℕ
row_limit = 4194304

-- the numbers of a state are small
pub record Small (st : State) : Type 0 where
  pub deep : st.depth ≤ depth_limit
  pub nodes : st.nodes ≤ row_limit
  pub props : st.props ≤ row_limit
  pub vals : st.vals ≤ row_limit

-- ---- the state after a token

-- before the first
abbrev pub first_state : (at n p v : ℕ) → State
first_state at n p v = record { at = at; depth = 0; cur = none; nodes = n; props = p; vals = v; first = p; follows = false }

-- behind a start or an end
abbrev pub shut_at : State → (at depth : ℕ) → State
shut_at st at depth =
    record {
      at = at;
      depth = depth;
      cur = st.cur;
      nodes = st.nodes;
      props = st.props;
      vals = st.vals;
      first = st.first;
      follows = false;
    }

-- behind an end at i that leaves a tree open
abbrev pub state_after_end : State → ℕ → List ℕ → State
state_after_end st i a =
    record {
      at = i + 1;
      depth = st.depth - 1;
      cur = get_or a (st.depth - 1) 0;
      nodes = st.nodes;
      props = st.props;
      vals = st.vals;
      first = st.first;
      follows = false;
    }

-- a node at i
abbrev pub noded : State → ℕ → State
noded st i =
    record {
      at = i + 1;
      depth = st.depth;
      cur = st.nodes;
      nodes = st.nodes + 1;
      props = st.props;
      vals = st.vals;
      first = st.props;
      follows = true;
    }

-- a property with c values that ends at e
abbrev pub added : State → (e c : ℕ) → State
added st e c =
    record {
      at = e;
      depth = st.depth;
      cur = st.cur;
      nodes = st.nodes;
      props = st.props + 1;
      vals = st.vals + c;
      first = st.first;
      follows = st.follows;
    }

-- ---- properties

-- where values end, or the text, of so many bytes, if one of them does not close
abbrev pub end_or : ℕ → Option ℕ → ℕ
end_or n (Some e) = e
end_or n None = n

-- the values from k on that close are rows from v0 on
pub record TakenIs (u : List ℕ) (k v0 : ℕ) (w w' : List ℕ) (r : Taken) : Type 0 where
  pub ends : r.end ≡ end_or (length u) (values_end_at u k)
  pub next : r.next ≡ v0 + length (vals_at u k)
  pub rows : w' ≡ put_rows w (v0 * value_stride) (val_lists (val_rows (vals_at u k)))
  pub low : r.next + k ≤ v0 + r.end
  pub inside : r.end ≤ length u

-- the property from i, whose first `[` is at k, is a row, its values are, and its node counts it
pub record AddIs (u : List ℕ) (st : State) (i k : ℕ) (t q w : List ℕ) (r : State) (t' q' w' : List ℕ) : Type 0 where
  pub ends : r.at ≡ end_or (length u) (values_end_at u k)
  pub is : r ≡ added st r.at (length (vals_at u k))
  pub vals : w' ≡ put_rows w (st.vals * value_stride) (val_lists (val_rows (vals_at u k)))
  pub props : PutWhole q (st.props * property_stride) (i ∷ k ∷ st.vals ∷ length (vals_at u k) ∷ []) q'
  pub nodes : PutWhole t (st.nodes * node_stride - 2) ((st.props + 1 - st.first) ∷ 0 ∷ []) t'
  pub low : r.vals + k ≤ st.vals + r.at
  pub inside : r.at ≤ length u

-- ---- what the next token asks for

-- where the tree stops, by the token
abbrev pub StopAt : (len : Bool) (u : List ℕ) (base : ℕ) → State → (a : List ℕ) → Reason → Head → Type 0
StopAt len u base st a r (start i) = (r ≡ UnexpectedGameTreeStart) × (may_open base st.nodes (stack_of a st.depth) ≡ false)
StopAt len u base st a r (end i) = (r ≡ UnexpectedGameTreeEnd) × (st.depth ≡ 0)
StopAt len u base st a r (node i) = ⊥
StopAt len u base st a r (name i k) = (r ≡ UnexpectedProperty) × (unclosed len (values_end_at u k) ≡ false) × (st.follows ≡ false)
StopAt len u base st a r (refused f i) = ⊥
StopAt len u base st a r done = ⊥

-- where the slice ends before o, by the token
abbrev pub OverAt : Bool → List ℕ → State → (o : ℕ) → Head → Type 0
OverAt len u st o (start i) = ⊥
OverAt len u st o (end i) = (st.depth ≡ 1) × (o ≡ i + 1)
OverAt len u st o (node i) = ⊥
OverAt len u st o (name i k) = (unclosed len (values_end_at u k) ≡ true) × (o ≡ st.at)
OverAt len u st o (refused f i) = o ≡ st.at
OverAt len u st o done = o ≡ st.at

-- the next token asks for it
abbrev pub ActIs : (len : Bool) (u : List ℕ) (base : ℕ) → State → (a : List ℕ) → Act → Type 0
ActIs len u base st a (Start i) = (head_at u st.at ≡ start i) × (may_open base st.nodes (stack_of a st.depth) ≡ true)
ActIs len u base st a (End i) = (head_at u st.at ≡ end i) × (1 < st.depth)
ActIs len u base st a (Node i) = head_at u st.at ≡ node i
ActIs len u base st a (Add i k) = (head_at u st.at ≡ name i k) × (unclosed len (values_end_at u k) ≡ false) × (st.follows ≡ true)
ActIs len u base st a (Stop r) = StopAt len u base st a r (head_at u st.at)
ActIs len u base st a (Over o) = OverAt len u st o (head_at u st.at)

-- ---- the end of the slice

-- r is the place behind the slice, of which d trees are open at `from`
pub record BehindIs (len : Bool) (u : List ℕ) (from d r : ℕ) : Type 0 where
  pub place : place_behind from (slice_from d (met_in len u (lex_at u from))) ≡ r
  pub rest : rest_from d (lex_at u from).toks ≡ (lex_at u r).toks
  pub ends : (len ≡ false → (lex_at u from).end ≡ finished) → (lex_at u r).end ≡ (lex_at u from).end
  pub on : from ≤ r
  pub inside : r ≤ length u

-- the tree, by whether it has no node and by leniency
abbrev pub RootBy : (none? len : Bool) → State → (at : ℕ) → List ℕ → Result (ℕ × ℕ × ℕ × ℕ) Reason → List ℕ → Type 0
RootBy false len st at t r t' = (r ≡ Ok (at, st.nodes, st.props, st.vals)) × (t' ≡ t)
RootBy true true st at t r t' =
    (r ≡ Ok (at, st.nodes + 1, st.props, st.vals)) × PutWhole t (st.nodes * node_stride) (none ∷ none ∷ none ∷ st.props ∷ 0 ∷ 0 ∷ []) t'
RootBy true false st at t r t' = (r ≡ Err UnexpectedEndOfData) × (t' ≡ t)

-- the tree whose slice ends before `at`
abbrev pub RootIs : (len : Bool) (base : ℕ) → State → (at : ℕ) → List ℕ → Result (ℕ × ℕ × ℕ × ℕ) Reason → List ℕ → Type 0
RootIs len base st at t r t' = RootBy (eqb st.nodes base) len st at t r t'

-- the tree stops
abbrev pub StopIs : (len : Bool) (u : List ℕ) (base : ℕ) → State → Reason → List ℕ → Result (ℕ × ℕ × ℕ × ℕ) Reason → List ℕ → Type 0
StopIs false u base st reason t r t' = (r ≡ Err reason) × (t' ≡ t)
StopIs true u base st reason t r t' = (at : ℕ) × BehindIs true u st.at st.depth at × RootIs true base st at t r t'
