-- Texts, and how long and how deep their salvage is: by the slices, and by the writing. By computation. Assumes nothing.
use Rattle.lists.proofs.Prelude.{ℕ, List, [], ◌∷◌, ◌≡◌, refl, true, length}
use Prim.Native.String.{String}
use Rattle.text_chars.specs.White.{white}
use Rattle.lexer_scan.specs.Scan.{space}
use Rattle.values.specs.Read.{read_from, read_identifier}
use Rattle.values.specs.Decimal.{decimal_of, digits_from, digit_of}
use Rattle.lexer.specs.Token.{lex_at}
use Rattle.go_points.specs.Area.{area_of, cornered, letter_of, letter, move_of}
use Rattle.go.specs.Marks.{marks_of, marks_from, in_rect}
use Rattle.go.specs.Normal.{normal, normal_by, points_from}
use Rattle.go_shape.specs.Shape.{shape_of}
use Rattle.go.specs.Value.{move_under, value_by, go_value, points_of}
use Rattle.fit_rule.specs.Rule.{tt_passes, rule_by, size_of_tree, rule_of}
use Rattle.go_size.specs.Root.{size_in}
use Rattle.parser.specs.Examples.{bytes}
use Rattle.parser.specs.Split.{Slices, no, slices, split_by_gametree}
use Rattle.parser.specs.Read.{read_lenient}
use Rattle.serialize_laws.specs.Depth.{depth_of}
use Rattle.salvage_form.specs.Rooted.{root_rule}
use Rattle.salvage_laws.specs.Result.{salvage_of}
use Rattle.salvage_size.specs.LocalsSlices.{slices_length, slices_depth}

-- a text, how long its salvage is, and how deep
record Sized : Type 0 where
  text : String
  size : ℕ
  depth : ℕ

abbrev sized_as : String → ℕ → ℕ → Sized
sized_as t n d = record { text = t; size = n; depth = d }

-- chains, forks, forks in forks; empty roots; a cut, a tail, two trees; GMs and names that are removed or spelled anew
abbrev sized_texts : List Sized
sized_texts =
    sized_as "(;)" 3 1
    ∷ sized_as "(;;;)" 5 1
    ∷ sized_as "(;(;(;)))" 5 1
    ∷ sized_as "(;(;)(;))" 9 2
    ∷ sized_as "(;(;(;)(;))(;))" 15 3
    ∷ sized_as "(;(;);)" 9 2
    ∷ sized_as "" 3 1
    ∷ sized_as "(A[]GM[2])" 3 1
    ∷ sized_as "(;(;)A[x];)(;b[x]C[y](;)(;" 17 2
    ∷ sized_as "(;GM[1]GaM[2])" 3 1
    ∷ sized_as "(;GaM[2]Bx[aa];GM[x])" 19 1
    ∷ []

abbrev by_slices : Slices → List ℕ
by_slices (no r) = []
by_slices (slices ss) = slices_length 0 ss ∷ slices_depth 0 ss ∷ []

abbrev sliced : List Sized → List (List ℕ)
sliced [] = []
sliced (r ∷ rs) = by_slices (split_by_gametree true (lex_at (bytes r.text) 0).toks) ∷ sliced rs

abbrev written : List Sized → List (List ℕ)
written [] = []
written (r ∷ rs) = (length (salvage_of (read_lenient (bytes r.text))) ∷ depth_of (salvage_of (read_lenient (bytes r.text))) ∷ []) ∷ written rs

abbrev said : List Sized → List (List ℕ)
said [] = []
said (r ∷ rs) = (r.size ∷ r.depth ∷ []) ∷ said rs

pub sizes-right : (sliced sized_texts ≡ said sized_texts) × (written sized_texts ≡ said sized_texts)
unfolding white space lex_at root_rule read_from read_identifier decimal_of digits_from digit_of rule_of rule_by tt_passes size_of_tree size_in move_under normal normal_by go_value shape_of value_by points_of points_from marks_of marks_from in_rect area_of cornered letter_of letter move_of
sizes-right = (refl, refl)
