-- No side of a board is above 52. Assumes nothing.
use Rattle.lists.proofs.Prelude.{ℕ, ◌≤◌, ◌||◌, List, [], ◌∷◌, eqb, arith}
use Rattle.lists.proofs.Pick.{pick-elim}
use Rattle.values.specs.Decimal.{decimal_of}
use Rattle.values.specs.Read.{read_value}
use Rattle.values.specs.declared.decimal.Number.{Number}
use Rattle.values.specs.declared.decimal.Number.TheVariants as N
use Rattle.values.proofs.Bounds.{Within, decimal-within}
use Rattle.parts_props.specs.Props.{Property}
use Rattle.go_size.specs.Size.{has_colon, before_colon, behind_colon, plus_of, side_of, pair_of, size_of}
use Rattle.go_size.specs.Root.{sizes_in, root_size, size_of_values, size_by, size_in}
use Rattle.go_size.specs.declared.RootSize.{RootSize}
use Rattle.board.specs.Answer.{columns_by, rows_by}
use Rattle.board.specs.Locals.{SidesRight}
use Rattle.std.specs.Prelude.{Option}

-- the sides that a size has
abbrev pub Small : RootSize → Type 0
Small s = SidesRight (columns_by s) (rows_by s)

plus-small : (n : Number) → Within 52 n → plus_of n ≤ 52
plus-small N.Bad h = omega arith
plus-small (N.Plus n) h = h
plus-small (N.Minus n) h = omega arith

side-small : (v : List ℕ) → side_of v ≤ 52
unfolding side_of
side-small v = plus-small (decimal_of 52 v) (decimal-within 52 v)

pair_small : (x y : ℕ) → x ≤ 52 → y ≤ 52 → Small (root_size (pair_of x y))
unfolding pair_of
pair_small x y a b =
    pick-elim (λ (z : Option (ℕ × ℕ)). Small (root_size z)) (eqb x 0 || eqb y 0) (λ e. record { columns = omega arith; rows = omega arith })
    (λ e. record { columns = omega arith; rows = omega arith })

one-small : (v : List ℕ) → Small (root_size (size_of v))
unfolding size_of
one-small v =
    pick-elim (λ (z : Option (ℕ × ℕ)). Small (root_size z)) (has_colon v)
    (λ e. pair_small (side_of (before_colon v)) (side_of (behind_colon v)) (side-small (before_colon v)) (side-small (behind_colon v)))
    (λ e. pair_small (side_of v) (side_of v) (side-small v) (side-small v))

values-small : (vs : List (List ℕ)) → Small (size_of_values vs)
unfolding size_of_values
values-small [] = record { columns = omega arith; rows = omega arith }
values-small (v ∷ []) = one-small (read_value v)
values-small (v ∷ w ∷ vs) = record { columns = omega arith; rows = omega arith }

by-small : (vss : List (List (List ℕ))) → Small (size_by vss)
by-small [] = record { columns = omega arith; rows = omega arith }
by-small (vs ∷ []) = values-small vs
by-small (vs ∷ ws ∷ rest) = record { columns = omega arith; rows = omega arith }

pub size_small : (ps : List Property) → Small (size_in ps)
unfolding size_in
size_small ps = by-small (sizes_in ps)
