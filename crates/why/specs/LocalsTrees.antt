-- The walk of a slice that looks for the token to blame, and the slices one after the other, in the code's own terms. Nothing public is stated by these.
use Rattle.std.specs.Prelude.{◌+◌, ◌-◌, ◌≤◌, ◌≡◌, Some, None, Result, Ok, Err}
use Rattle.lists.specs.Prelude.{ℕ, true, List, length}
use Rattle.lists.specs.All.{All}
use Rattle.lexer.specs.Token.{Tok, done, lex_at}
use Rattle.tables.specs.Numbers.{text_limit}
use Rattle.parser.specs.LocalsSlice.{slice_from, first_slices, Shallow}
use Rattle.parser_tree.specs.LocalsTurns.{BehindIs}
use Rattle.why.specs.Trees.{tree_blame, nodes_in, slices_blame}
use Rattle.tables.specs.Refusals.{refusal}
use Rattle.why_blame.specs.declared.Fact.{Fact}
use Rattle.tables.specs.declared.Refusal.{Refusal}

-- the slice from a place on
abbrev pub slice_at : List ℕ → ℕ → List Tok
slice_at u from = slice_from 0 (lex_at u from).toks

-- what the walk asks for
pub record SliceReady (u : List ℕ) (from base : ℕ) : Type 0 where
  pub short : length u ≤ text_limit
  pub inside : from ≤ length u
  pub nodes : base ≤ from
  pub shallow : Shallow 0 (slice_at u from)

-- a tree: nothing stops it, it has so many nodes, and the next slice starts there
pub record SoundSlice (u : List ℕ) (from base next n : ℕ) : Type 0 where
  pub none-stops : tree_blame base (slice_at u from) ≡ None
  pub count : n ≡ base + nodes_in base (slice_at u from)
  pub behind : BehindIs true u from 0 next
  pub bound : n ≤ next

-- what the walk finds
abbrev pub FoundIn : (u : List ℕ) (from base : ℕ) → Result (ℕ × ℕ) (Refusal Fact) → Type 0
FoundIn u from base (Err e) = tree_blame base (slice_at u from) ≡ Some (refusal e.reason e.place)
FoundIn u from base (Ok (next, n)) = SoundSlice u from base next n

-- k slices are sound, the next starts at `at` and its nodes are numbered from base on
pub record Searching (u : List ℕ) (from count at base k : ℕ) : Type 0 where
  pub short : length u ≤ text_limit
  pub inside : at ≤ length u
  pub nodes : base ≤ at
  pub below : k ≤ count
  pub shallow : All (Shallow 0) (first_slices (count - k) (lex_at u at).toks)
  pub calm : (lex_at u at).end ≡ done
  pub same : slices_blame 0 0 (first_slices count (lex_at u from).toks) ≡ slices_blame k base (first_slices (count - k) (lex_at u at).toks)
