-- The trees of the slices from a place on.
use Rattle.std.specs.Prelude.{◌+◌, ◌≤◌, ◌≡◌, Result, Ok, Err}
use Rattle.lists.specs.Prelude.{ℕ, Bool, true, false, List, [], reverse, length}
use Rattle.lists.specs.All.{All}
use Rattle.lists.specs.Put.{PutIs}
use Rattle.lexer.specs.Token.{Tok, done, lex_at}
use Rattle.tables.specs.Numbers.{text_limit}
use Rattle.tables.specs.Record.{Tree, all_nodes}
use Rattle.tables.specs.Rows.{tree_rows, counts_of, tables}
use Rattle.tables.specs.declared.Counts.{Counts}
use Rattle.tables.specs.Flat.{flat_trees}
use Rattle.parser.specs.Game.{Game, is, no_game, find_gametype}
use Rattle.parser.specs.LocalsSlice.{first_slices, Shallow}
use Rattle.parser.specs.Read.{Trees, trees_so_far, no_trees, parse_gametrees}
use Rattle.parser_tree.specs.LocalsWalks.{Stored}
use Rattle.reader.specs.Lent.{Lent}
use Rattle.tables.specs.declared.Reason.{Reason}

-- the game type as the mode takes it: lenient reading turns a refusal into Go
abbrev pub leniently : Bool → Game → Game
leniently true (is k) = is k
leniently true (no_game r) = is 0
leniently false x = x

-- the trees of the first k slices
unfoldable pub read_of : Bool → ℕ → List Tok → Trees
read_of len k ts = parse_gametrees len (trees_so_far 0 []) (first_slices k ts)

-- what is asked: a text within the limit, no slice too deep, and where reading is strict no fault ahead
pub record SlicesReady (len : Bool) (u : List ℕ) (from count : ℕ) : Type 0 where
  pub short : length u ≤ text_limit
  pub inside : from ≤ length u
  pub bound : count ≤ text_limit + 1
  pub shallow : All (Shallow 0) (first_slices count (lex_at u from).toks)
  pub faultless : len ≡ false → (lex_at u from).end ≡ done

-- each slice is Go, where that is said
abbrev pub GoIf : Bool → List (List Tok) → Type 0
GoIf go ss = go ≡ true → All (λ (s : List Tok). find_gametype s ≡ is 0) ss

-- the trees, whose rows are so many
pub record CountedAs (x : Trees) (c : Counts) : Type 0 where
  pub ts : List Tree
  pub trees-are : x ≡ trees_so_far c.nodes (reverse ts)
  pub counts : counts_of (tables ts) ≡ c

-- what is asked where the rows are counted
pub record FillReady (len go : Bool) (u : List ℕ) (from : ℕ) (c : Counts) : Type 0 where
  pub ready : SlicesReady len u from c.trees
  pub counted : CountedAs (read_of len c.trees (lex_at u from).toks) c
  pub games : GoIf go (first_slices c.trees (lex_at u from).toks)

-- the trees in text order, put into the tables from the first row on where there is room
pub record TreesPutIs (x : Trees) (count : ℕ) (before after : Lent) (n p v : ℕ) : Type 0 where
  pub ts : List Tree
  pub trees-are : x ≡ trees_so_far n (reverse ts)
  pub count-is : length ts ≡ count
  pub bound : n ≤ text_limit + text_limit + 1
  pub ttrees : PutIs before.trees 0 (flat_trees (tree_rows ts)) after.trees
  pub stored : Stored 0 0 0 (all_nodes ts) before.nodes before.props before.vals after.nodes after.props after.vals n p v

-- what comes of it
abbrev pub TreesIs : Trees → ℕ → Lent → Lent → Result (ℕ × ℕ × ℕ) Reason → Type 0
TreesIs x count before after (Ok (n, p, v)) = TreesPutIs x count before after n p v
TreesIs x count before after (Err r) = x ≡ no_trees r

-- the same of a run over tables that nobody keeps
abbrev pub CountIs : Trees → ℕ → Result (ℕ × ℕ × ℕ) Reason → Type 0
CountIs x count r = (before : Lent) × (after : Lent) × TreesIs x count before after r
