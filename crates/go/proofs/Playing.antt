-- A move under a rule. Assumes nothing.
use Rattle.lists.proofs.Prelude.{ℕ, ◌≡◌, true, false, ◌&&◌, eqb}
use Rattle.go.specs.Value.{move_under}
use Rattle.go_points.specs.declared.Value.{Value}
use Rattle.go_points.specs.declared.Value.TheVariants.{Pass, Move}

module _ (rule : ℕ) where
  module _ {v : Value} {x y : ℕ} (e : v ≡ Move x y) where
    pub play-pass : eqb rule 0 && (eqb x 19 && eqb y 19) ≡ true → Pass ≡ move_under rule v
    unfolding move_under
    play-pass h = rw (e, h)

    pub play-point : eqb rule 0 && (eqb x 19 && eqb y 19) ≡ false → Move x y ≡ move_under rule v
    unfolding move_under
    play-point h = rw (e, h)
