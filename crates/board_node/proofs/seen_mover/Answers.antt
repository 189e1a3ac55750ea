use Rattle.lists.proofs.Prelude.{arith}
use Rattle.board_node.proofs.Seen.{mover-seen}
use Rattle.board_node.proofs.seen_mover.Goals as goal

pub returns-then-end-at : goal.returns-then-end-at
returns-then-end-at c = λ l. absurd (omega arith)

pub returns-then-end-at-ne1 : goal.returns-then-end-at-ne1
returns-then-end-at-ne1 c = λ l. absurd (omega arith)

pub returns-then-text-at : goal.returns-then-text-at
returns-then-text-at c = λ l. absurd (omega arith)

pub returns : goal.returns
returns c = λ l. let a = c.args in mover-seen a.text.now a.properties.now a.p c.wide-at.ensures c.wide-end.ensures c.if-end-at-ne1.false c.if-text-at.false c.requires c.letter_colour.ensures
