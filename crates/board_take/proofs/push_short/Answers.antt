use Rattle.lists.proofs.Prelude.{refl}
use Rattle.board_take.specs.LocalsFlood.{Here}
use Rattle.board_take.proofs.Short.{short-put}
use Rattle.board_take.proofs.push_short.Goals as goal

pub returns : goal.returns
returns c = let a = c.args in short-put (Here a.stones.now a.colour a.q) a.queue.now a.n a.q c.requires.0 c.if-n-ge32.false (refl, c.if-q-ge2704.false, c.if-stones-q.false)
