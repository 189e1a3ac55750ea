-- Values as they are written.
use Rattle.std.specs.Prelude.{◌∷◌, ◌++◌}
use Rattle.lists.specs.Prelude.{ℕ, List, []}
use Rattle.go.specs.Normal.{normal_by}
use Rattle.go.specs.Value.{value_by}
use Rattle.go_shape.specs.declared.Shape.{Shape}

-- values in their brackets
unfoldable pub raws_text : List (List ℕ) → List ℕ
raws_text [] = []
raws_text (v ∷ vs) = 0x5b ∷ (v ++ (0x5d ∷ raws_text vs))

-- the values of a property of this shape in a Go tree with this rule, as they are written
unfoldable pub form_by : (rule : ℕ) → Shape → List (List ℕ) → List (List ℕ)
form_by rule s vs = let g = value_by rule s vs in normal_by g.value g.marks vs
