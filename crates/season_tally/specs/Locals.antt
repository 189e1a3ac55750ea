-- What the steps of counting promise each other.
use Rattle.std.specs.Prelude.{◌+◌, ◌/◌, ◌<◌, ◌≤◌, ◌≡◌, ◌∷◌}
use Rattle.lists.specs.Prelude.{ℕ, List, [], ltb, length, take, pick}
use Rattle.lists.specs.Same.{same}
use Rattle.values.specs.Read.{read_identifier}
use Rattle.parts_props.specs.Props.{identifier_at}
use Rattle.parts.specs.Rows.{values_at}
use Rattle.go.specs.Value.{value_by, go_value}
use Rattle.go_shape.specs.declared.Shape.TheVariants.{OneMove}
use Rattle.tables.specs.Columns.{tree_stride, node_stride, root_at, first_prop_at, first_val_at, val_count_at}
use Rattle.tables.specs.Each.{sum}
use Rattle.season_tag.specs.Tag.{tag_of}
use Rattle.season_tally.specs.declared.Moves.{Moves}
use Rattle.season_tally.specs.declared.Tagged.{Tagged}
use Rattle.season_tally.specs.declared.Played.{Played}
use Rattle.season_tally.specs.declared.Played.TheVariants.{Black, White, Passed, Nothing}
use Rattle.season_tally.specs.Tally.{moved_by, played_by, is_black, is_white, is_passed}

-- whose move a read identifier names: that of B, of W, or none
unfoldable pub mover_of : (name : List ℕ) → Played
mover_of name = pick (same name (0x42 ∷ [])) Black (pick (same name (0x57 ∷ [])) White Nothing)

-- what property p counts as under a rule, by its row
unfoldable pub played_at : (rule : ℕ) (text pr vl : List ℕ) → ℕ → Played
played_at rule text pr vl p =
    let name = read_identifier (identifier_at text pr p) in
    played_by name (go_value rule name (values_at text vl (first_val_at pr p) (val_count_at pr p))).value

-- values that are one point under every rule: a move to it is its colour's
abbrev pub AlwaysMoves : List (List ℕ) → Type 0
AlwaysMoves vs = (rule : ℕ) (mine : Played) → moved_by mine (value_by rule OneMove vs).value ≡ mine

-- one property more
abbrev pub one_played : Moves → Played → Moves
one_played m Black = record { black = m.black + 1; white = m.white; passes = m.passes }
one_played m White = record { black = m.black; white = m.white + 1; passes = m.passes }
one_played m Passed = record { black = m.black; white = m.white; passes = m.passes + 1 }
one_played m Nothing = m

-- none of the three is above n
pub record BelowAll (m : Moves) (n : ℕ) : Type 0 where
  pub black : m.black ≤ n
  pub white : m.white ≤ n
  pub passes : m.passes ≤ n

-- f is counted over the numbers below n
pub record Counted (f : ℕ → Played) (n : ℕ) (m : Moves) : Type 0 where
  pub black : m.black ≡ sum (λ p. is_black (f p)) n
  pub white : m.white ≡ sum (λ p. is_white (f p)) n
  pub passes : m.passes ≡ sum (λ p. is_passed (f p)) n

-- from what was counted below `from`, what is counted below `to`, by any f that is g in between
pub record Goes (g : ℕ → Played) (from : ℕ) (before : Moves) (to : ℕ) (after : Moves) : Type 0 where
  pub below : BelowAll after to
  pub counted : (f : ℕ → Played) → ((p : ℕ) → from ≤ p → p < to → f p ≡ g p) → Counted f from before → Counted f to after

-- a tag is that of the first bytes
pub record TagsFirst (bytes : List ℕ) (t : Tagged) : Type 0 where
  pub within : t.at ≤ length bytes
  pub tag : t.tag ≡ tag_of (take t.at bytes)

-- so many trees are rows, and their roots are
pub record RootsLent (m : ℕ) (tr nd : List ℕ) : Type 0 where
  pub lent : m ≤ length tr / tree_stride
  pub roots : (r : ℕ) → r < m → root_at tr r < length nd / node_stride

-- the first property of the next root, or the count of all
unfoldable pub next_first : (tr nd : List ℕ) (m r n : ℕ) → ℕ
next_first tr nd m r n = pick (ltb (r + 1) m) (first_prop_at nd (root_at tr (r + 1))) n
