use Rattle.lists.proofs.Prelude.{◌∙◌, arith}
use Rattle.fit_nodes.proofs.Children.{child-right, child-off}
use Rattle.fit_nodes.proofs.child_right.Goals as goal

pub returns-then-n-next : goal.returns-then-n-next
returns-then-n-next c = child-off c.requires.1 _ c.requires.2 (λ a b. omega arith)

pub returns-then-wide-k : goal.returns-then-wide-k
returns-then-wide-k c = child-off c.requires.1 _ c.requires.2 (λ a b. c.if-wide-k.true (c.wide.ensures ∙ b))

pub returns : goal.returns
returns c = child-right c.requires.1 _ c.if-n-next.false c.wide.ensures c.if-wide-k.false c.wide-2.ensures
