use Rattle.lexer.specs.Step.{head_at}
use Rattle.lexer.proofs.next_head.Goals as goal

pub returns : goal.returns
unfolding head_at
returns c = rw (← c.skip_space-at.ensures) c.head_from.ensures
