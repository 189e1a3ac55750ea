-- What the next token asks for, by the state between two tokens.
use Rattle.std.specs.Prelude.{◌+◌, ◌&&◌, ◌∷◌, Option, Some, None}
use Rattle.lists.specs.Prelude.{ℕ, zero, suc, Bool, true, false, List, [], get_or, eqb, ltb, leb, pick}
use Rattle.lexer_scan.specs.Scan.{values_end_at}
use Rattle.lexer.specs.Step.{head_at}
use Rattle.lexer.specs.declared.Head.{Head}
use Rattle.lexer.specs.declared.Head.TheVariants.{Start as start, End as end, Node as node, Name as name, Refused as refused, Done as done}
use Rattle.tables.specs.Numbers.{depth_limit, none}
use Rattle.tables.specs.declared.Reason.TheVariants.{UnexpectedGameTreeStart, UnexpectedGameTreeEnd, UnexpectedProperty}
use Rattle.parser_step.specs.declared.State.{State}
use Rattle.parser_step.specs.declared.Act.{Act}
use Rattle.parser_step.specs.declared.Act.TheVariants.{Start, End, Node, Add, Stop, Over}

-- ---- the stack

-- what is on it, the top first
unfoldable pub stack_of : List ℕ → ℕ → List ℕ
stack_of a zero = []
stack_of a (suc d) = get_or a d 0 ∷ stack_of a d

-- the list of x is not empty, where n nodes exist, and those of this tree from base on
abbrev pub has_child : ℕ → ℕ → ℕ → Bool
has_child base n x = pick (eqb x none) (ltb base n) (ltb (x + 1) n)

-- the list on top of the stack is not empty
abbrev pub may_open : ℕ → ℕ → List ℕ → Bool
may_open base n [] = true
may_open base n (x ∷ st) = has_child base n x

-- a start may be: the array a reaches so deep, and the list on top of the stack is not empty
abbrev pub may_start : (base n depth : ℕ) → List ℕ → Bool
may_start base n depth a = leb depth depth_limit && may_open base n (stack_of a depth)

-- ---- properties

-- a property that closes, by whether one may follow
abbrev pub prop_act : State → (i k : ℕ) → Act
prop_act st i k = pick st.follows (Add i k) (Stop UnexpectedProperty)

-- lenient reading finds a value that does not close; strict reading does not look
abbrev pub unclosed : Bool → Option ℕ → Bool
unclosed false c = false
unclosed true (Some e) = false
unclosed true None = true

-- ---- the next token

-- an end at i, by how many trees are open
abbrev pub end_act : (depth i : ℕ) → Act
end_act depth i = pick (eqb depth 0) (Stop UnexpectedGameTreeEnd) (pick (eqb depth 1) (Over (i + 1)) (End i))

-- by how the token begins; base: the number of the tree's first node, a: the array of the stack
abbrev pub head_act : (len : Bool) (u : List ℕ) (base : ℕ) → State → (a : List ℕ) → Head → Act
head_act len u base st a (start i) = pick (may_start base st.nodes st.depth a) (Start i) (Stop UnexpectedGameTreeStart)
head_act len u base st a (end i) = end_act st.depth i
head_act len u base st a (node i) = Node i
head_act len u base st a (name i k) = pick (unclosed len (values_end_at u k)) (Over st.at) (prop_act st i k)
head_act len u base st a (refused f i) = Over st.at
head_act len u base st a done = Over st.at

-- what the next token of the text asks for
unfoldable pub next_act : (len : Bool) (u : List ℕ) (base : ℕ) → State → (a : List ℕ) → Act
next_act len u base st a = head_act len u base st a (head_at u st.at)
