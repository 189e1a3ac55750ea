use Rattle.lists.proofs.Prelude.{refl}
use Rattle.parser_tree.proofs.shut.Goals as goal

pub returns : goal.returns
returns c = refl
