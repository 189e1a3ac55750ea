use Rattle.sgf.proofs.Reading.{read-shown}
use Rattle.sgf.proofs.sgf_read_strict.Goals as goal

pub returns : goal.returns
returns c = read-shown c.read_strict.ensures c.reading_in_c.ensures
