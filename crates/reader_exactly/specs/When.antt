-- When a reading gives each number: the scope's conditions.
use Rattle.std.specs.Prelude.{◌-◌, ◌^◌, ◌≤◌, ◌≡◌, ◌⊎◌, ◌∷◌, ◌++◌}
use Rattle.lists.specs.Prelude.{ℕ, suc, Bool, true, false, List, [], length, take, drop}
use Rattle.text_chars.specs.Table.{WellFormed}
use Rattle.text_utf8.specs.Trim.{trimmed}
use Rattle.text_utf8.specs.declared.Trimmed.{Trimmed}
use Rattle.text_utf8.specs.declared.Trimmed.TheVariants.{NotUtf8, Blank, Kept}
use Rattle.values.specs.Read.{read_value}
use Rattle.values.specs.Decimal.{decimal_of}
use Rattle.lexer.specs.Token.{Val, Prop, Tok, start, end, node, prop, done, Lexed, lex_at}
use Rattle.lexer.specs.Step.{next_at}
use Rattle.lexer.specs.declared.Fault.{Fault}
use Rattle.lexer.specs.declared.Step.TheVariants.{Refused}
use Rattle.lexer_laws.specs.Reach.{Reaches}
use Rattle.tables.specs.Numbers.{text_limit, none}
use Rattle.tables.specs.Record.{Node, Tree}
use Rattle.parser.specs.Game.{GM, props, props_named, is_i32, is, find_gametype}
use Rattle.parser.specs.Walk.{Walk, walk, children, walked}
use Rattle.parser.specs.Read.{trees_so_far, parse_gametrees}
use Rattle.parser.specs.Balance.{starts, ends, Covered, Balanced}
use Rattle.reader_exactly.specs.Slicing.{Any, slices_from, Deep}

-- within the limit, and well formed by table 3-7: neither 1 nor 2
pub record Valid (t : List ℕ) : Type 0 where
  pub short : length t ≤ text_limit
  pub formed : WellFormed t

-- the tokens of what trimming keeps, and how they end
abbrev pub tokens_in : List ℕ → Trimmed → Lexed
tokens_in t (Kept f l) = lex_at (take l t) f
tokens_in t Blank = record { toks = []; end = done }
tokens_in t (NotUtf8 p) = record { toks = []; end = done }

-- the tokens of a text
abbrev pub tokens_of : List ℕ → Lexed
tokens_of t = tokens_in t (trimmed t)

-- trimming keeps the text from `first` to `last`; a place is reached by tokens from there, and the next token fails so, at p (SCOPE 34-36)
pub record FailsAt (t : List ℕ) (f : Fault) (p : ℕ) : Type 0 where
  pub first : ℕ
  pub last : ℕ
  pub at : ℕ
  pub kept : trimmed t ≡ Kept first last
  pub reached : Reaches (take last t) first at
  pub fails : next_at (take last t) at ≡ Refused f p

-- none of 1 to 5
pub record Lexes (t : List ℕ) : Type 0 where
  pub valid : Valid t
  pub faultless : (tokens_of t).end ≡ done

-- no prefix has more ends than starts, but starts and ends differ in number (SCOPE 38)
pub record Unclosed (ts : List Tok) : Type 0 where
  pub covered : Covered 0 ts
  pub differ : starts ts ≡ ends ts → ⊥

-- neither a start nor an end (SCOPE 39)
pub record Bare (ts : List Tok) : Type 0 where
  pub no_start : starts ts ≡ 0
  pub no_end : ends ts ≡ 0

-- none of 1 to 9
pub record Splits (t : List ℕ) : Type 0 where
  pub lexes : Lexes t
  pub balanced : Balanced (tokens_of t).toks
  pub shallow : Any (Deep 0) (slices_from 0 (tokens_of t).toks) → ⊥

-- P holds of a slice and of the number of nodes before it, where the slices before it are trees
pub record First (P : ℕ → List Tok → Type 0) (ss : List (List Tok)) : Type 0 where
  pub before : List (List Tok)
  pub slice : List Tok
  pub after : List (List Tok)
  pub are : ss ≡ before ++ (slice ∷ after)
  pub nodes : ℕ
  pub trees : List Tree
  pub trees-are : parse_gametrees false (trees_so_far 0 []) before ≡ trees_so_far nodes trees
  pub holds : P nodes slice

-- the GM properties that the game type is taken from
abbrev pub games : List Tok → List Prop
games s = props_named GM (props (drop 2 s))

-- one value that is an optional sign and digits within i32
abbrev pub Numeric : List Val → Type 0
Numeric vs = (v : Val) × (vs ≡ v ∷ []) × (is_i32 (decimal_of (2 ^ 31 - 1) (read_value v.raw)) ≡ true)

-- 12: there is one, without such a value (SCOPE 43)
abbrev pub WrongGame : List Tok → Type 0
WrongGame s = (p : Prop) × (games s ≡ p ∷ []) × (Numeric p.vals → ⊥)

-- 11 of the game type: there are two or more
abbrev pub TwoGames : List Tok → Type 0
TwoGames s = 2 ≤ length (games s)

-- the game type is taken, and the walk comes behind the tokens `front` of the slice to `t`
pub record Comes (base : ℕ) (s front : List Tok) (t : Tok) (w : Walk) : Type 0 where
  pub type : ℕ
  pub typed : find_gametype s ≡ is type
  pub rest : List Tok
  pub are : s ≡ front ++ (t ∷ rest)
  pub walked_to : walked false base (walk none [] false []) front ≡ w

-- 10: a start, where the list on top of the stack is empty (SCOPE 41)
abbrev pub StartsEmpty : (base : ℕ) → List Tok → Type 0
StartsEmpty base s =
    (front : List Tok) × (o cur y : ℕ) × (st : List ℕ) × (g : Bool) × (ns : List Node)
    × Comes base s front (start o) (walk cur (y ∷ st) g ns) × (children y ns ≡ false)

-- 11 of the tree: a property that is not directly after a node or its properties
abbrev pub Loose : (base : ℕ) → List Tok → Type 0
Loose base s =
    (front : List Tok) × (p : Prop) × (e cur : ℕ) × (st : List ℕ) × (ns : List Node) × Comes base s front (prop p e) (walk cur st false ns)

-- 11: by the game type, or by the tree (SCOPE 42)
abbrev pub Unexpected : (base : ℕ) → List Tok → Type 0
Unexpected base s = TwoGames s ⊎ Loose base s

-- how many of the tokens are nodes
abbrev pub nodes : List Tok → ℕ
nodes [] = 0
nodes (start o ∷ ts) = nodes ts
nodes (end o ∷ ts) = nodes ts
nodes (node o ∷ ts) = suc (nodes ts)
nodes (prop p e ∷ ts) = nodes ts

-- 7 of the tree: the game type is taken, the walk ends, and the slice has no node (SCOPE 38)
pub record Nodeless (base : ℕ) (s : List Tok) : Type 0 where
  pub type : ℕ
  pub typed : find_gametype s ≡ is type
  pub cur : ℕ
  pub stack : List ℕ
  pub gate : Bool
  pub made : List Node
  pub ends_so : walked false base (walk none [] false []) s ≡ walk cur stack gate made
  pub none_in : nodes s ≡ 0
