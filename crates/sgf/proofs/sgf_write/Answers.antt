use Rattle.sgf.proofs.Asking.{write-shown}
use Rattle.sgf.proofs.sgf_write.Goals as goal

pub returns : goal.returns
returns c = write-shown c.write.ensures c.writing_in_c.ensures
