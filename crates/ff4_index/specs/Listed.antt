-- FF[4]'s property index: 63 general properties, by section, and Go's HA, KM, TB and TW.
use Rattle.std.specs.Prelude.{◌++◌, ◌∷◌}
use Rattle.lists.specs.Prelude.{ℕ, Bool, true, false, List, [], pick}
use Rattle.lists.specs.Same.{same}
use Rattle.ff4_index.specs.Kinds.{ValueKind, none, number, real, double, color, simpletext, text, move, stones, points, points_or_none, point_pairs, labels, text_pair, board_size, figure, kind_number}
use Rattle.ff4_index.specs.Kinds.{PropertyType, no_type, of_move, of_setup, of_root, of_game_info, inherit, type_number}
use Rattle.ff4_index.specs.Kinds.{Section, moves, setup, node_annotation, move_annotation, markup, root, game_info, timing, miscellaneous, of_go, section_number}
use Rattle.ff4_index.specs.declared.Entry.{Entry}

-- a property of the index: the letters of its identifier, and what is said of it
pub record IndexRow : Type 0 where
  pub letters : List ℕ
  pub kind : ValueKind
  pub type : PropertyType
  pub section : Section

-- a row of one letter
abbrev pub one_letter : ℕ → ValueKind → PropertyType → Section → IndexRow
one_letter a k t s = record { letters = a ∷ []; kind = k; type = t; section = s }

-- a row of two letters
abbrev pub two_letters : ℕ → ℕ → ValueKind → PropertyType → Section → IndexRow
two_letters a b k t s = record { letters = a ∷ b ∷ []; kind = k; type = t; section = s }

-- FF[4]'s general properties, by section
abbrev pub general_rows : List IndexRow
general_rows =
    one_letter 0x42 move of_move moves ∷  -- B
    two_letters 0x4b 0x4f none of_move moves ∷  -- KO
    two_letters 0x4d 0x4e number of_move moves ∷  -- MN
    one_letter 0x57 move of_move moves ∷  -- W
    two_letters 0x41 0x42 stones of_setup setup ∷  -- AB
    two_letters 0x41 0x45 points of_setup setup ∷  -- AE
    two_letters 0x41 0x57 stones of_setup setup ∷  -- AW
    two_letters 0x50 0x4c color of_setup setup ∷  -- PL
    one_letter 0x43 text no_type node_annotation ∷  -- C
    two_letters 0x44 0x4d double no_type node_annotation ∷  -- DM
    two_letters 0x47 0x42 double no_type node_annotation ∷  -- GB
    two_letters 0x47 0x57 double no_type node_annotation ∷  -- GW
    two_letters 0x48 0x4f double no_type node_annotation ∷  -- HO
    one_letter 0x4e simpletext no_type node_annotation ∷  -- N
    two_letters 0x55 0x43 double no_type node_annotation ∷  -- UC
    one_letter 0x56 real no_type node_annotation ∷  -- V
    two_letters 0x42 0x4d double of_move move_annotation ∷  -- BM
    two_letters 0x44 0x4f none of_move move_annotation ∷  -- DO
    two_letters 0x49 0x54 none of_move move_annotation ∷  -- IT
    two_letters 0x54 0x45 double of_move move_annotation ∷  -- TE
    two_letters 0x41 0x52 point_pairs no_type markup ∷  -- AR
    two_letters 0x43 0x52 points no_type markup ∷  -- CR
    two_letters 0x44 0x44 points_or_none inherit markup ∷  -- DD
    two_letters 0x4c 0x42 labels no_type markup ∷  -- LB
    two_letters 0x4c 0x4e point_pairs no_type markup ∷  -- LN
    two_letters 0x4d 0x41 points no_type markup ∷  -- MA
    two_letters 0x53 0x4c points no_type markup ∷  -- SL
    two_letters 0x53 0x51 points no_type markup ∷  -- SQ
    two_letters 0x54 0x52 points no_type markup ∷  -- TR
    two_letters 0x41 0x50 text_pair of_root root ∷  -- AP
    two_letters 0x43 0x41 simpletext of_root root ∷  -- CA
    two_letters 0x46 0x46 number of_root root ∷  -- FF
    two_letters 0x47 0x4d number of_root root ∷  -- GM
    two_letters 0x53 0x54 number of_root root ∷  -- ST
    two_letters 0x53 0x5a board_size of_root root ∷  -- SZ
    two_letters 0x41 0x4e simpletext of_game_info game_info ∷  -- AN
    two_letters 0x42 0x52 simpletext of_game_info game_info ∷  -- BR
    two_letters 0x42 0x54 simpletext of_game_info game_info ∷  -- BT
    two_letters 0x43 0x50 simpletext of_game_info game_info ∷  -- CP
    two_letters 0x44 0x54 simpletext of_game_info game_info ∷  -- DT
    two_letters 0x45 0x56 simpletext of_game_info game_info ∷  -- EV
    two_letters 0x47 0x43 text of_game_info game_info ∷  -- GC
    two_letters 0x47 0x4e simpletext of_game_info game_info ∷  -- GN
    two_letters 0x4f 0x4e text of_game_info game_info ∷  -- ON
    two_letters 0x4f 0x54 simpletext of_game_info game_info ∷  -- OT
    two_letters 0x50 0x42 simpletext of_game_info game_info ∷  -- PB
    two_letters 0x50 0x43 simpletext of_game_info game_info ∷  -- PC
    two_letters 0x50 0x57 simpletext of_game_info game_info ∷  -- PW
    two_letters 0x52 0x45 simpletext of_game_info game_info ∷  -- RE
    two_letters 0x52 0x4f simpletext of_game_info game_info ∷  -- RO
    two_letters 0x52 0x55 simpletext of_game_info game_info ∷  -- RU
    two_letters 0x53 0x4f simpletext of_game_info game_info ∷  -- SO
    two_letters 0x54 0x4d real of_game_info game_info ∷  -- TM
    two_letters 0x55 0x53 simpletext of_game_info game_info ∷  -- US
    two_letters 0x57 0x52 simpletext of_game_info game_info ∷  -- WR
    two_letters 0x57 0x54 simpletext of_game_info game_info ∷  -- WT
    two_letters 0x42 0x4c real of_move timing ∷  -- BL
    two_letters 0x4f 0x42 number of_move timing ∷  -- OB
    two_letters 0x4f 0x57 number of_move timing ∷  -- OW
    two_letters 0x57 0x4c real of_move timing ∷  -- WL
    two_letters 0x46 0x47 figure no_type miscellaneous ∷  -- FG
    two_letters 0x50 0x4d number inherit miscellaneous ∷  -- PM
    two_letters 0x56 0x57 points_or_none inherit miscellaneous ∷  -- VW
    []

-- Go's HA, KM, TB and TW
abbrev pub go_rows : List IndexRow
go_rows =
    two_letters 0x48 0x41 number of_game_info of_go ∷  -- HA
    two_letters 0x4b 0x4d real of_game_info of_go ∷  -- KM
    two_letters 0x54 0x42 points_or_none no_type of_go ∷  -- TB
    two_letters 0x54 0x57 points_or_none no_type of_go ∷  -- TW
    []

-- the index (SCOPE 231)
abbrev pub ff4 : List IndexRow
ff4 = general_rows ++ go_rows

-- what is said of no property
abbrev pub unlisted : Entry
unlisted = record { kind = 0; property_type = 0; section = 0 }

-- a row by its numbers
abbrev pub entry_for : IndexRow → Entry
entry_for r = record { kind = kind_number r.kind; property_type = type_number r.type; section = section_number r.section }

-- the first of these rows that has these letters
abbrev pub entry_in : List IndexRow → List ℕ → Entry
entry_in [] s = unlisted
entry_in (r ∷ rs) s = pick (same r.letters s) (entry_for r) (entry_in rs s)

-- one of these rows has these letters
abbrev pub row_listed : List IndexRow → List ℕ → Bool
row_listed [] s = false
row_listed (r ∷ rs) s = pick (same r.letters s) true (row_listed rs s)

-- FF[4] lists a read identifier
unfoldable pub is_listed : List ℕ → Bool
is_listed s = row_listed ff4 s

-- what FF[4] lists of a read identifier; longer and empty ones are unknown (SCOPE 230, 232)
unfoldable pub entry_of : List ℕ → Entry
entry_of s = entry_in ff4 s
