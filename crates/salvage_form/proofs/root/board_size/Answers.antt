use Rattle.salvage_form.proofs.Roots.{board-bad, board-sized}
use Rattle.salvage_form.proofs.root.board_size.Goals as goal

pub returns-in-None : goal.returns-in-None
returns-in-None c = board-bad c.args.value.now c.read_size.ensures c.in-None.is

pub returns-in-Some : goal.returns-in-Some
returns-in-Some c = board-sized c.args.value.now c.read_size.ensures c.in-Some.is
