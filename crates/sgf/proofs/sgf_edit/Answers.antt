use Rattle.sgf.proofs.Asking.{edit-shown}
use Rattle.sgf.proofs.sgf_edit.Goals as goal

pub returns : goal.returns
returns c = edit-shown c.edit-edited.ensures c.edit_in_c.ensures
