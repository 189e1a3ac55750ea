-- The walk of a slice for its entries, and the slices one after the other, in the code's own terms. Nothing public is stated by these.
use Rattle.std.specs.Prelude.{◌+◌, ◌-◌, ◌≤◌, ◌≡◌, ◌++◌}
use Rattle.lists.specs.Prelude.{ℕ, max, true, false, List, [], length, drop}
use Rattle.lists.specs.All.{All}
use Rattle.lexer.specs.Token.{Tok, lex_at}
use Rattle.tables.specs.Numbers.{text_limit, none}
use Rattle.tables.specs.Record.{Node, all_props}
use Rattle.parser.specs.Split.{slices, split_by_gametree}
use Rattle.parser.specs.Walk.{Walk, walk, walks, walked}
use Rattle.parser.specs.LocalsSlice.{slice_from, first_slices, Shallow}
use Rattle.parser_tree.specs.LocalsTurns.{BehindIs}
use Rattle.why_blame.specs.Blame.{Blame, blame, is_stopped}
use Rattle.why_blame.specs.Cuts.{sliced_tokens}
use Rattle.salvage_mend.specs.Changes.{Change, nodes_changes}
use Rattle.salvage_list.specs.Listed.{cut_of, walk_nodes, root_of, trees_changes}
use Rattle.salvage_list.specs.LocalsPuts.{EntriesPut, cut_if}
use Rattle.salvage_list.specs.declared.walk.Stood.{Stood}
use Rattle.salvage_list.specs.declared.Behind.{Behind}

-- the tokens of the slice from a place on
abbrev pub tokens_at : List ℕ → ℕ → List Tok
tokens_at u from = slice_from 0 (lex_at u from).toks

-- the nodes of the slice from a place on
abbrev pub nodes_from : List ℕ → (from base : ℕ) → List Node
nodes_from u from base = walk_nodes (walked true base (walk none [] false []) (tokens_at u from))

-- where its tree is cut short
abbrev pub cut_from : List ℕ → (from base : ℕ) → Blame Walk
cut_from u from base = blame (walks true base) is_stopped (walk none [] false []) [] (tokens_at u from)

-- what the walk of a slice asks for
pub record StandReady (u : List ℕ) (from base p e : ℕ) : Type 0 where
  pub short : length u ≤ text_limit
  pub inside : from ≤ length u
  pub nodes : base ≤ text_limit + text_limit
  pub props : p ≤ from
  pub entries : e ≤ text_limit + text_limit + p
  pub shallow : Shallow 0 (tokens_at u from)

-- what it gives: the nodes, the entries of their properties, where the tree is cut short
pub record StoodIs (u : List ℕ) (from base p e : ℕ) (t : List ℕ) (r : Stood) (t' : List ℕ) : Type 0 where
  pub nodes : r.nodes ≡ base + length (nodes_from u from base)
  pub props : r.properties ≡ p + length (all_props (nodes_from u from base))
  pub put : EntriesPut t e (nodes_changes p (nodes_from u from base)) r.entries t'
  pub cuts : (i : ℕ) → cut_of i (cut_from u from base) ≡ cut_if r.cut i r.place
  pub behind : BehindIs true u from 0 r.next
  pub inside : r.place ≤ length u
  pub node-bound : r.nodes + from ≤ base + r.next
  pub prop-bound : r.properties ≤ r.next
  pub entry-bound : r.entries + p ≤ e + r.properties

-- what is listed of the tree of a slice, and where the next slice starts
pub record TreeListed (u : List ℕ) (from tree base p e : ℕ) (t : List ℕ) (r : Behind) (t' : List ℕ) : Type 0 where
  pub nodes : r.nodes ≡ base + max 1 (length (nodes_from u from base))
  pub props : r.properties ≡ p + length (all_props (nodes_from u from base))
  pub put : EntriesPut t e
      (root_of tree (nodes_from u from base) ++ (nodes_changes p (nodes_from u from base) ++ cut_of tree (cut_from u from base))) r.entries t'
  pub behind : BehindIs true u from 0 r.at
  pub node-bound : r.nodes + from ≤ base + r.at + 1
  pub prop-bound : r.properties ≤ r.at
  pub entry-bound : r.entries + p ≤ e + r.properties + 2

-- what the slices ask for: a text within the limit, so many slices, none too deep
pub record ListReady (u : List ℕ) (from count : ℕ) : Type 0 where
  pub short : length u ≤ text_limit
  pub inside : from ≤ length u
  pub bound : count ≤ text_limit
  pub shallow : All (Shallow 0) (first_slices count (lex_at u from).toks)
  pub are : split_by_gametree true (lex_at u from).toks ≡ slices (first_slices count (lex_at u from).toks)

-- k slices are listed, the next starts at `at`; its nodes are numbered from base on, its properties from p on, its entries from e on
pub record SlicesListed (u : List ℕ) (from count at base p e k : ℕ) (t t' : List ℕ) : Type 0 where
  pub ready : ListReady u from count
  pub inside : at ≤ length u
  pub below : k ≤ count
  pub nodes : base ≤ at + k
  pub props : p ≤ at
  pub entries : e ≤ k + k + p
  pub shallow : All (Shallow 0) (first_slices (count - k) (lex_at u at).toks)
  pub before : List Change
  pub put : EntriesPut t 0 before e t'
  pub same : trees_changes 0 0 0 (first_slices count (lex_at u from).toks) ≡ before ++ trees_changes k base p (first_slices (count - k) (lex_at u at).toks)
  pub rest : drop (length (sliced_tokens (first_slices count (lex_at u from).toks))) (lex_at u from).toks
      ≡ drop (length (sliced_tokens (first_slices (count - k) (lex_at u at).toks))) (lex_at u at).toks
  pub ends : (lex_at u at).end ≡ (lex_at u from).end
