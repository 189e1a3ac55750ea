use Rattle.blocks.proofs.Inks.{white-stays}
use Rattle.lists.proofs.Prelude.{arith}
use Rattle.blocks.proofs.holds_white.Goals.{in-Escaped, in_default}
use Rattle.blocks.proofs.holds_white.Goals as goal

pub returns : goal.returns
returns c = elim c.match-matches.branch [
  | in-Escaped w ↦ λ e. grind (arith, e, w.matches-is)
  | in_default w ↦ λ e. white-stays c.args.stands w.in_default.not-Escaped
]
