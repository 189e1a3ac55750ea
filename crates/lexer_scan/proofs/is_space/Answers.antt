use Rattle.lists.proofs.Prelude.{rules}
use Rattle.lexer_scan.specs.Scan.{space}
use Rattle.lexer_scan.proofs.is_space.Goals as goal

pub returns : goal.returns
unfolding space
returns c = search rules
