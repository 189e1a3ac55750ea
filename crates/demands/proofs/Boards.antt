-- Whether `tt` is a pass is one rule for the Go value and for the board: what `tt_pass` says of the board's sides is what `tt_passes` says of the size. Assumes nothing.
use Rattle.lists.proofs.Prelude.{Bool, true, false, ◌&&◌, ◌≡◌, refl, leb}
use Rattle.lists.proofs.Tests.{never}
use Rattle.go_size.specs.declared.RootSize.{RootSize}
use Rattle.go_size.specs.declared.RootSize.TheVariants.{Absent, Sized, Wrong}
use Rattle.fit_rule.specs.Rule.{tt_passes}
use Rattle.board_node.specs.Node.{tt_pass}
use Rattle.board.specs.Answer.{is_wrong, columns_by, rows_by}

-- on a board of the size that a root says, where that is not wrong
pub tt-one-rule : (s : RootSize) → is_wrong s ≡ false → tt_pass (columns_by s) (rows_by s) 19 19 ≡ tt_passes s
unfolding tt_passes
tt-one-rule Absent h = refl
tt-one-rule (Sized x y) h = go (leb x 19 && leb y 19)
  where
    go : (b : Bool) → (b && (true && true)) ≡ b
    go true = refl
    go false = refl
tt-one-rule Wrong h = never cc
