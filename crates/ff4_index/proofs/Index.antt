-- What the index has: how many rows, none twice, which identifiers, and that it agrees with the shapes of Go's properties. Assumes nothing.
use Rattle.lists.proofs.Prelude.{ℕ, ◌<◌, ◌≡◌, refl, Bool, true, false, ◌&&◌, not, List, [], ◌∷◌, leb, ltb, eqb, pick, length, get_or, map, sym, T}
use Rattle.lists.specs.Same.{same}
use Rattle.go_shape.specs.Shape.{shape_of}
use Rattle.go_shape.specs.declared.Shape.{Shape}
use Rattle.go_shape.specs.declared.Shape.TheVariants.{OneMove, OneNumber, ManyPoints, Unread}
use Rattle.ff4_index.specs.Kinds.{Section, moves, setup, node_annotation, move_annotation, markup, root, game_info, timing, miscellaneous, of_go, section_number}
use Rattle.ff4_index.specs.Kinds.{kind_number, number, move, stones, points_or_none}
use Rattle.ff4_index.specs.Listed.{IndexRow, general_rows, go_rows, ff4, entry_for, entry_in, row_listed, is_listed, entry_of}
use Rattle.ff4_index.specs.Places.{letters_at}
use Rattle.ff4_index.specs.Locals.{cell_entry}
use Rattle.ff4_index.proofs.Cells.{cells, entries}
use Rattle.ff4_index.proofs.Table.{at}

-- 63 general properties
pub general-rows : length general_rows ≡ 63
general-rows = refl

-- and Go's HA, KM, TB, TW
pub go-rows : map (λ (r : IndexRow). r.letters) go_rows ≡ (0x48 ∷ 0x41 ∷ []) ∷ (0x4b ∷ 0x4d ∷ []) ∷ (0x54 ∷ 0x42 ∷ []) ∷ (0x54 ∷ 0x57 ∷ []) ∷ []
go-rows = refl

-- no row behind has the letters of one before
abbrev apart : List IndexRow → Bool
apart [] = true
apart (r ∷ rs) = not (row_listed rs r.letters) && apart rs

pub rows_apart : apart ff4 ≡ true
rows_apart = refl

section-some : (s : Section) → ltb 0 (section_number s) ≡ true
section-some moves = refl
section-some setup = refl
section-some node_annotation = refl
section-some move_annotation = refl
section-some markup = refl
section-some root = refl
section-some game_info = refl
section-some timing = refl
section-some miscellaneous = refl
section-some of_go = refl

section-in : (rs : List IndexRow) (s : List ℕ) → ltb 0 (entry_in rs s).section ≡ row_listed rs s
section-in [] s = refl
section-in (r ∷ rs) s = go (same r.letters s) (section-in rs s)
  where
    go : (t : Bool) → ltb 0 (entry_in rs s).section ≡ row_listed rs s → ltb 0 (pick t (entry_for r) (entry_in rs s)).section ≡ pick t true (row_listed rs s)
    go true h = section-some r.section
    go false h = h

-- an entry has a section exactly where FF[4] lists the identifier, whatever its length
pub listed-exactly : (s : List ℕ) → ltb 0 (entry_of s).section ≡ is_listed s
unfolding entry_of is_listed
listed-exactly s = section-in ff4 s

-- B and W are moves, HA a number, AB, AW, AE, TB and TW lists of stones or points
abbrev agrees : Shape → ℕ → Bool
agrees OneMove k = eqb k (kind_number move)
agrees OneNumber k = eqb k (kind_number number)
agrees ManyPoints k = leb (kind_number stones) k && leb k (kind_number points_or_none)
agrees Unread k = true

shaped : ℕ → ℕ → Bool
shaped i x = agrees (shape_of (letters_at i)) (cell_entry x).kind

is_true : (b : Bool) → T b → b ≡ true
is_true true t = refl
is_true false t = absurd t

shapes : (i : ℕ) → i < 702 → agrees (shape_of (letters_at i)) (cell_entry (get_or cells i 0)).kind ≡ true
unfolding cells shaped shape_of
shapes i h = is_true (shaped i (get_or cells i 0)) (at shaped cells tt i h)

pub shape-agrees : (i : ℕ) → i < 702 → agrees (shape_of (letters_at i)) (entry_of (letters_at i)).kind ≡ true
shape-agrees i h = rw (sym (entries i h)) (shapes i h)
