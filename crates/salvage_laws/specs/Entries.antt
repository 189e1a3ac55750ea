-- When an entry of the list of changes is true of a text and the record that is leniently read from it.
use Rattle.std.specs.Prelude.{◌≡◌, ◌∷◌, ◌++◌}
use Rattle.lists.specs.Prelude.{ℕ, zero, suc, Bool, true, false, List, []}
use Rattle.text_utf8.specs.Text.{Utf, whole, part, bad, blank, utfs}
use Rattle.lexer.specs.Token.{Prop, Tok, End, done, broken, Lexed, token_place}
use Rattle.values.specs.Read.{read_identifier}
use Rattle.tables.specs.Numbers.{none}
use Rattle.tables.specs.Record.{Node, Tree, all_props}
use Rattle.parser.specs.Game.{GM}
use Rattle.parser.specs.Split.{Slices, no, slices, split_by_gametree}
use Rattle.parser.specs.Walk.{Walk, walk, walked}
use Rattle.parser.specs.Read.{tokenize}
use Rattle.why_blame.specs.Blame.{is_stopped}
use Rattle.why_blame.specs.Cuts.{sliced_tokens}
use Rattle.salvage_mend.specs.Mend.{root_game, gms_bad}
use Rattle.salvage_mend.specs.Changes.{Change, empty_root, unnamed, removed_gm, spelled_anew, cut_short, tail_dropped}
use Rattle.salvage_list.specs.Listed.{walk_nodes}

-- number k of a list, counted from 0, is x
abbrev pub Nth : {A : Type 0} → List A → ℕ → A → Type 0
Nth [] k x = ⊥
Nth (y ∷ ys) zero x = y ≡ x
Nth (y ∷ ys) (suc k) x = Nth ys k x

-- ---- properties

-- a property, and whether it is one of a root whose GMs give no game type
pub record Owned : Type 0 where
  pub property : Prop
  pub bad_root : Bool

-- some properties, all of such a root or none
abbrev pub owned_props : (bad_root : Bool) → List Prop → List Owned
owned_props b [] = []
owned_props b (p ∷ ps) = record { property = p; bad_root = b } ∷ owned_props b ps

-- those of the nodes of a tree, its root first
abbrev pub owned_nodes : List Node → List Owned
owned_nodes [] = []
owned_nodes (n ∷ ns) = owned_props (gms_bad (root_game (n ∷ ns))) n.props ++ owned_props false (all_props ns)

-- those of a record, in the order of their numbers
abbrev pub owned_trees : List Tree → List Owned
owned_trees [] = []
owned_trees (t ∷ ts) = owned_nodes t.nodes ++ owned_trees ts

-- its identifier reads as empty
abbrev pub Nameless : Owned → Type 0
Nameless o = read_identifier o.property.name ≡ []

-- it reads GM, and is one of a root whose GMs give no game type
abbrev pub BadGM : Owned → Type 0
BadGM o = (read_identifier o.property.name ≡ GM) × (o.bad_root ≡ true)

-- it stays, and does not read as it is spelled
abbrev pub Misspelled : Owned → Type 0
Misspelled o = (Nameless o → ⊥) × (BadGM o → ⊥) × (read_identifier o.property.name ≡ o.property.name → ⊥)

-- property k of the record, and what holds of it
pub record PropertyIs (ts : List Tree) (k : ℕ) (Is : Owned → Type 0) : Type 0 where
  pub it : Owned
  pub number : Nth (owned_trees ts) k it
  pub so : Is it

-- ---- trees

-- the walk that makes a tree, over these tokens of its slice
abbrev pub walk_over : Tree → List Tok → Walk
walk_over t s = walked true t.root (walk none [] false []) s

-- it makes no node
abbrev pub WithoutNode : Tree → List Tok → Type 0
WithoutNode t s = walk_nodes (walk_over t s) ≡ []

-- it halts at the token that stands at o, and not before
pub record HaltsAt (o : ℕ) (t : Tree) (s : List Tok) : Type 0 where
  pub before : List Tok
  pub here : Tok
  pub behind : List Tok
  pub are : s ≡ before ++ (here ∷ behind)
  pub goes : is_stopped (walk_over t before) ≡ false
  pub halts : is_stopped (walk_over t (before ++ (here ∷ []))) ≡ true
  pub place : token_place here ≡ o

-- tree i of the record, slice i of the tokens, and what holds of them
pub record SlicedTree (ss : List (List Tok)) (ts : List Tree) (i : ℕ) (Is : Tree → List Tok → Type 0) : Type 0 where
  pub tree : Tree
  pub slice : List Tok
  pub number : Nth ts i tree
  pub from : Nth ss i slice
  pub so : Is tree slice

-- ---- the tail

-- the first of these tokens, failing or not, stands at o
abbrev pub FirstAt : (o : ℕ) → List Tok → End → Type 0
FirstAt o (t ∷ ts) e = token_place t ≡ o
FirstAt o [] (broken f s) = s ≡ o
FirstAt o [] done = ⊥

-- behind the slices there are tokens, failing or not, the first of which stands at o
pub record TailAt (o : ℕ) (l : Lexed) (ss : List (List Tok)) : Type 0 where
  pub left : List Tok
  pub are : l.toks ≡ sliced_tokens ss ++ left
  pub first : FirstAt o left l.end

-- ---- an entry

-- of tokens, their slices and the record
abbrev pub EntryOf : Lexed → List (List Tok) → List Tree → Change → Type 0
EntryOf l ss ts (empty_root i) = SlicedTree ss ts i WithoutNode
EntryOf l ss ts (unnamed k) = PropertyIs ts k Nameless
EntryOf l ss ts (removed_gm k) = PropertyIs ts k BadGM
EntryOf l ss ts (spelled_anew k) = PropertyIs ts k Misspelled
EntryOf l ss ts (cut_short i o) = SlicedTree ss ts i (HaltsAt o)
EntryOf l ss ts (tail_dropped o) = TailAt o l ss

-- the tokens of a text that is UTF-8
abbrev pub utf_tokens : Utf → List ℕ → Lexed
utf_tokens (whole k) t = tokenize k t
utf_tokens (part k s n r c) t = record { toks = []; end = done }
utf_tokens (bad p) t = record { toks = []; end = done }

-- of a text
abbrev pub text_tokens : List ℕ → Lexed
text_tokens t = utf_tokens (utfs (whole blank) 0 t) t

-- the slices, where there are any
abbrev pub slices_of : Slices → List (List Tok)
slices_of (no r) = []
slices_of (slices ss) = ss

-- an entry is true of a text and its record (SCOPE 285)
abbrev pub EntryTrue : List ℕ → List Tree → Change → Type 0
EntryTrue t ts c = EntryOf (text_tokens t) (slices_of (split_by_gametree true (text_tokens t).toks)) ts c
