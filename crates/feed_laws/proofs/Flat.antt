-- How many numbers rows have. Assumes nothing.
use Rattle.lists.proofs.Prelude.{◌*◌, ◌≡◌, refl, arith, List, [], ◌∷◌, length}
use Rattle.tables.specs.Flat.{flat_props, flat_vals}
use Rattle.tables.specs.Rows.{PropRow, ValRow}

pub length-props : (rs : List PropRow) → length (flat_props rs) ≡ length rs * 4
length-props [] = refl
length-props (r ∷ rs) = let h = length-props rs in omega arith

pub length-vals : (rs : List ValRow) → length (flat_vals rs) ≡ length rs * 2
length-vals [] = refl
length-vals (r ∷ rs) = let h = length-vals rs in omega arith
