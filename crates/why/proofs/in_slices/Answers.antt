use Rattle.lists.proofs.Prelude.{arith}
use Rattle.why.proofs.Searched.{searching-first, searched-end, slice-ready, searched-game, searched-stop, searched-empty, searching-more}
use Rattle.why.proofs.in_slices.Goals as goal

pub loop-k-init : goal.loop-k-init
loop-k-init c = searching-first c.requires

pub returns-in-Some : goal.returns-in-Some
returns-in-Some c = searched-game c.loop-k.invariant c.loop-k-test.true c.in_game.ensures c.in-Some.is

pub walk_slice-requires : goal.walk_slice-requires
walk_slice-requires c = slice-ready c.loop-k.invariant c.loop-k-test.true

pub returns-in-Err : goal.returns-in-Err
returns-in-Err c = searched-stop c.loop-k.invariant c.loop-k-test.true c.in_game.ensures c.in-None.is c.walk_slice.ensures c.in-Err.is

pub returns-then-n-base : goal.returns-then-n-base
returns-then-n-base c = searched-empty c.loop-k.invariant c.loop-k-test.true c.in_game.ensures c.in-None.is c.walk_slice.ensures c.in-Ok.is c.if-n-base.true c.first_place.ensures

pub loop-k-preserved : goal.loop-k-preserved
loop-k-preserved c = searching-more c.loop-k.invariant c.loop-k-test.true c.in_game.ensures c.in-None.is c.walk_slice.ensures c.in-Ok.is c.if-n-base.false

pub returns : goal.returns
returns c = searched-end c.loop-k.invariant c.loop-k-test.false
