use Rattle.lists.proofs.Prelude.{◌-◌, ap, ◌∙◌}
use Rattle.fit_nodes.specs.Nodes.{on_path}
use Rattle.fit_nodes.proofs.Parents.{rule-none, rule-zero, rule-path}
use Rattle.fit_nodes.proofs.parent_right.Goals as goal

pub returns-then-parent : goal.returns-then-parent
returns-then-parent c = let a = c.args in rule-none a.nodes.now _ c.if-parent.true

pub returns-then-k-eq0 : goal.returns-then-k-eq0
returns-then-k-eq0 c = let a = c.args in rule-zero a.nodes.now _ c.if-parent.false c.if-k-eq0.true

pub returns : goal.returns
returns c = let a = c.args in c.on_path.ensures ∙ ap (on_path a.nodes.now (a.k - 1)) c.wide.ensures ∙ rule-path a.nodes.now _ c.if-parent.false c.if-k-eq0.false
