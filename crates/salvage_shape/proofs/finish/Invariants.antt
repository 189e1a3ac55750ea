use Rattle.lists.proofs.Prelude.{◌≡◌}
use Rattle.salvage_shape.specs.LocalsChain.{close_all, fresh_of, cells_of}
use Rattle.salvage_shape.proofs.finish.Given as goal

abbrev pub invariant-loop-depth : goal.invariant-loop-depth
invariant-loop-depth l =
    close_all l.fresh l.c (fresh_of l.marks l.depth) (cells_of l.cells l.depth) ≡ close_all l.initial.fresh l.initial.c (fresh_of l.marks l.opened) (cells_of l.cells l.opened)
