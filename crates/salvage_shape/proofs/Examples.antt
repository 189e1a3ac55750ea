-- Texts, and how many nodes stand in brackets and how deep the first tree of each is. By computation. Assumes nothing.
use Rattle.lists.proofs.Prelude.{ℕ, List, [], ◌∷◌, ◌≡◌, refl}
use Prim.Native.String.{String}
use Rattle.text_chars.specs.White.{white}
use Rattle.lexer_scan.specs.Scan.{space}
use Rattle.lexer.specs.Token.{lex_at}
use Rattle.parser.specs.Examples.{bytes}
use Rattle.parser.specs.LocalsSlice.{slice_from}
use Rattle.tables.specs.Rows.{parents}
use Rattle.salvage_list.specs.LocalsWalk.{nodes_from}
use Rattle.salvage_shape.specs.LocalsShape.{shape_depth, brackets_of}

-- a text, how many nodes stand in brackets, the depth
record Shapes : Type 0 where
  text : String
  brackets : ℕ
  depth : ℕ

abbrev shapes_for : String → ℕ → ℕ → Shapes
shapes_for t b d = record { text = t; brackets = b; depth = d }

-- no child without a sibling stands in brackets; a tree that is cut short, or not closed, has the nodes so far
abbrev shaped_texts : List Shapes
shaped_texts =
    shapes_for "(;(;)(;))" 2 2
    ∷ shapes_for "(;(;);)" 2 2
    ∷ shapes_for "(;(;))" 0 1
    ∷ shapes_for "(;P[](;A[])((;B[])))" 2 2
    ∷ shapes_for "(;(;);(;);(;);(;);(;);)" 10 6
    ∷ shapes_for "(;(;(;)(;))(;))" 4 3
    ∷ shapes_for ";;(;)" 0 1
    ∷ shapes_for "((;))" 0 1
    ∷ shapes_for "(;(;(;(;" 0 1
    ∷ shapes_for "(;(;)(;(;)(;" 4 3
    ∷ shapes_for "(;(;)A[x];)" 0 1
    ∷ shapes_for "" 0 1
    ∷ []

abbrev given : List Shapes → List (List ℕ)
given [] = []
given (r ∷ rs) = (brackets_of (parents (nodes_from (bytes r.text) 0 7)) ∷ shape_depth 7 (parents (nodes_from (bytes r.text) 0 7)) ∷ []) ∷ given rs

abbrev said : List Shapes → List (List ℕ)
said [] = []
said (r ∷ rs) = (r.brackets ∷ r.depth ∷ []) ∷ said rs

pub shapes-right : given shaped_texts ≡ said shaped_texts
unfolding white space slice_from lex_at
shapes-right = refl
