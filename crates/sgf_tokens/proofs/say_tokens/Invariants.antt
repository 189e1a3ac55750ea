use Rattle.lists.proofs.Prelude.{◌+◌, ◌-◌, length}
use Rattle.sgf_tokens.proofs.say_tokens.Given as goal

abbrev pub decreases-loop-at : goal.decreases-loop-at
decreases-loop-at l = length l.text + 1 - l.at
