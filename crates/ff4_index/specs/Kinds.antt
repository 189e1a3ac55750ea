-- What FF[4]'s property index says of a property: value kind, property type, section; and their numbers.
use Rattle.lists.specs.Prelude.{ℕ}

-- what the values of a property are
pub data ValueKind : Type 0 where
  unknown : ValueKind
  none : ValueKind
  number : ValueKind
  real : ValueKind
  double : ValueKind
  color : ValueKind
  simpletext : ValueKind
  text : ValueKind
  move : ValueKind
  stones : ValueKind
  points : ValueKind
  points_or_none : ValueKind
  point_pairs : ValueKind
  labels : ValueKind
  text_pair : ValueKind
  board_size : ValueKind
  figure : ValueKind

-- their numbers; `stones` and `points` are lists, `points_or_none` an elist, `point_pairs` and `labels` lists of composed values
abbrev pub kind_number : ValueKind → ℕ
kind_number unknown = 0
kind_number none = 1
kind_number number = 2
kind_number real = 3
kind_number double = 4
kind_number color = 5
kind_number simpletext = 6
kind_number text = 7
kind_number move = 8
kind_number stones = 9
kind_number points = 10
kind_number points_or_none = 11
kind_number point_pairs = 12
kind_number labels = 13
kind_number text_pair = 14
kind_number board_size = 15
kind_number figure = 16

-- where a property may stand
pub data PropertyType : Type 0 where
  no_type : PropertyType
  of_move : PropertyType
  of_setup : PropertyType
  of_root : PropertyType
  of_game_info : PropertyType
  inherit : PropertyType

-- their numbers
abbrev pub type_number : PropertyType → ℕ
type_number no_type = 0
type_number of_move = 1
type_number of_setup = 2
type_number of_root = 3
type_number of_game_info = 4
type_number inherit = 5

-- the part of FF[4] that describes it
pub data Section : Type 0 where
  moves : Section
  setup : Section
  node_annotation : Section
  move_annotation : Section
  markup : Section
  root : Section
  game_info : Section
  timing : Section
  miscellaneous : Section
  of_go : Section

-- their numbers
abbrev pub section_number : Section → ℕ
section_number moves = 1
section_number setup = 2
section_number node_annotation = 3
section_number move_annotation = 4
section_number markup = 5
section_number root = 6
section_number game_info = 7
section_number timing = 8
section_number miscellaneous = 9
section_number of_go = 10
