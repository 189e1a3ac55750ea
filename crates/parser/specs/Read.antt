-- Reading: a text to a record, or a number and a place.
use Rattle.std.specs.Prelude.{◌+◌, ◌∷◌}
use Rattle.lists.specs.Prelude.{ℕ, suc, Bool, true, false, List, [], reverse, length, take, drop, ltb, pick}
use Rattle.text_utf8.specs.Text.{Ink, blank, inked, Utf, whole, part, bad, utfs}
use Rattle.lexer.specs.Token.{Tok, End, done, broken, Lexed, lex_from}
use Rattle.tables.specs.Numbers.{text_limit, none, reason_of}
use Rattle.tables.specs.Record.{Node, Tree}
use Rattle.tables.specs.declared.Reason.{Reason}
use Rattle.tables.specs.declared.Reason.TheVariants.{TextTooLong, NotUtf8, UnexpectedEndOfData}
use Rattle.parser.specs.Split.{Slices, no, slices, split_by_gametree}
use Rattle.parser.specs.Game.{Game, is, no_game, find_gametype}
use Rattle.parser.specs.Walk.{Walk, walk, halted, stopped, walked}

-- a record, or why there is none and the place
pub data Answer : Type 0 where
  refused : Reason → (place : ℕ) → Answer
  accepted : List Tree → Answer

-- ---- all trees

-- the number of nodes so far and the trees (last first), or refused
pub data Trees : Type 0 where
  trees_so_far : ℕ → List Tree → Trees
  no_trees : Reason → Trees

-- the nodes of a slice (last first) as a tree: without any it is refused, lenient reading makes an empty root (SCOPE 38, 60, 91, 92)
abbrev pub tree_of_nodes : Bool → (base k : ℕ) → List Node → List Tree → Trees
tree_of_nodes len base k (n ∷ ns) ts = trees_so_far (base + length (n ∷ ns)) (record { root = base; game = k; nodes = reverse (n ∷ ns) } ∷ ts)
tree_of_nodes true base k [] ts = trees_so_far (suc base) (record { root = base; game = k; nodes = record { parent = none; props = [] } ∷ [] } ∷ ts)
tree_of_nodes false base k [] ts = no_trees UnexpectedEndOfData

-- the tree of a slice that was walked
abbrev pub tree_of_walk : Bool → (base k : ℕ) → Walk → List Tree → Trees
tree_of_walk len base k (walk cur st g ns) ts = tree_of_nodes len base k ns ts
tree_of_walk len base k (halted ns) ts = tree_of_nodes len base k ns ts
tree_of_walk len base k (stopped r) ts = no_trees r

-- a slice of this game type; lenient reading turns a refusal into Go (SCOPE 60, 87)
abbrev pub tree_of_game : Bool → ℕ → Game → List Tok → List Tree → Trees
tree_of_game len base (is k) s ts = tree_of_walk len base k (walked len base (walk none [] false []) s) ts
tree_of_game len base (no_game r) s ts = pick len (tree_of_walk true base 0 (walked len base (walk none [] false []) s) ts) (no_trees r)

-- one slice
abbrev pub parse_gametree : Bool → Trees → List Tok → Trees
parse_gametree len (trees_so_far base ts) s = tree_of_game len base (find_gametype s) s ts
parse_gametree len (no_trees r) s = no_trees r

-- all slices (SCOPE 60)
abbrev pub parse_gametrees : Bool → Trees → List (List Tok) → Trees
parse_gametrees len r [] = r
parse_gametrees len r (s ∷ ss) = parse_gametrees len (parse_gametree len r s) ss

-- the trees in text order (SCOPE 54)
abbrev pub answer : Trees → Answer
answer (trees_so_far n ts) = accepted (reverse ts)
answer (no_trees r) = refused r 0

-- ---- the whole, in the order of the numbers

-- the slices (SCOPE 54)
abbrev pub parse_slices : Bool → Slices → Answer
parse_slices len (no r) = refused r 0
parse_slices len (slices ss) = answer (parse_gametrees len (trees_so_far 0 []) ss)

-- the tokens
abbrev pub parsed : Bool → List Tok → Answer
parsed len ts = parse_slices len (split_by_gametree len ts)

-- a fault of the tokens: lenient reading takes those before it (SCOPE 53, 59, 80)
abbrev pub lexing : Bool → End → List Tok → Answer
lexing true e ts = parsed true ts
lexing false done ts = parsed false ts
lexing false (broken f s) ts = refused (reason_of f) s

-- the tokens of what trimming keeps (SCOPE 13)
abbrev pub tokenize : Ink → List ℕ → Lexed
tokenize blank t = record { toks = []; end = done }
tokenize (inked f l) t = lex_from f l (drop f (take l t))

-- UTF-8: a bad sequence, an unfinished one at the end included (SCOPE 33, 51, 59)
abbrev pub parse_utf8 : Bool → Utf → List ℕ → Answer
parse_utf8 len (whole k) t = lexing len (tokenize k t).end (tokenize k t).toks
parse_utf8 len (part k s n r c) t = refused NotUtf8 s
parse_utf8 len (bad p) t = refused NotUtf8 p

-- a reading of a text: the rules that strict and lenient reading share, with the mode (SCOPE 1, 32, 59, 130, 168)
abbrev pub read : Bool → List ℕ → Answer
read len t = pick (ltb text_limit (length t)) (refused TextTooLong 0) (parse_utf8 len (utfs (whole blank) 0 t) t)

-- a strict reading
abbrev pub read_strict : List ℕ → Answer
read_strict t = read false t

-- a lenient reading (SCOPE 67)
abbrev pub read_lenient : List ℕ → Answer
read_lenient t = read true t
