-- Entries put into the lent rows, in the code's own terms. Nothing public is stated by these.
use Rattle.std.specs.Prelude.{◌+◌, ◌*◌, ◌<◌, ◌≡◌, ◌&&◌, ◌∷◌, Option, Some, None}
use Rattle.lists.specs.Prelude.{ℕ, Bool, List, [], length, pick}
use Rattle.lists.specs.Same.{same}
use Rattle.lists.specs.Put.{PutIs}
use Rattle.values.specs.Read.{read_identifier}
use Rattle.parser.specs.Game.{GM}
use Rattle.salvage_mend.specs.Changes.{Change, empty_root, cut_short, tail_dropped}
use Rattle.salvage_list.specs.ListRows.{change_rows}

-- more than any number of an entry
abbrev pub entry_limit : ℕ
entry_limit = 4194304

-- the entries cs, the e-th on, are put where there is room; r: the next
pub record EntriesPut (t : List ℕ) (e : ℕ) (cs : List Change) (r : ℕ) (t' : List ℕ) : Type 0 where
  pub next : r ≡ e + length cs
  pub put : PutIs t (e * 3) (change_rows cs) t'

-- the kind of a property's entry, by its raw identifier; 0: it has none
abbrev pub entry_kind : (bad : Bool) → (name : List ℕ) → ℕ
entry_kind bad w = pick (same (read_identifier w) []) 2 (pick (bad && same (read_identifier w) GM) 4 (pick (same (read_identifier w) w) 0 3))

-- an empty root, or none
abbrev pub root_if : Bool → (tree : ℕ) → List Change
root_if b i = pick b (empty_root i ∷ []) []

-- a cut, or none
abbrev pub cut_if : Bool → (tree place : ℕ) → List Change
cut_if b i o = pick b (cut_short i o ∷ []) []

-- the entry of the tail, in a text of n bytes
abbrev pub TailIs : (n : ℕ) → List Change → Option ℕ → Type 0
TailIs n cs (Some o) = (cs ≡ tail_dropped o ∷ []) × (o < n)
TailIs n cs None = cs ≡ []
