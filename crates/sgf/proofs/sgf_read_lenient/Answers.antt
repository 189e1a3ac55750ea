use Rattle.sgf.proofs.Reading.{lenient-shown}
use Rattle.sgf.proofs.sgf_read_lenient.Goals as goal

pub returns : goal.returns
returns c = lenient-shown c.read_lenient.ensures c.lenient_in_c.ensures
