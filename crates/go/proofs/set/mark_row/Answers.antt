use Rattle.lists.proofs.Prelude.{arith, rules}
use Rattle.go.proofs.Adding.{row-filled}
use Rattle.go.proofs.set.mark_row.Goals as goal

pub returns : goal.returns
returns c = let a = c.args in
    row-filled a.marks.now c.fill.new.self a.x a.from a.to (omega arith) (omega arith) (omega arith) (c.fill.ensures.after (search rules))
