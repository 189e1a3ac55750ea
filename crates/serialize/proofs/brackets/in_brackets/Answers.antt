use Rattle.lists.proofs.Prelude.{sym, ap, ◌∙◌, rules}
use Rattle.tables.specs.Columns.{child_at}
use Rattle.serialize.proofs.Climbs.{brackets-root, brackets-later, brackets-first}
use Rattle.serialize.proofs.brackets.in_brackets.Goals as goal

pub returns-then-parent : goal.returns-then-parent
returns-then-parent c = let args = c.args in
    brackets-root args.nodes.now args.k c.if-parent.true

pub overflow_mul-wide : goal.overflow_mul-wide
overflow_mul-wide c = let b = c.requires.above c.if-parent.false in let w = c.wide.ensures in search rules

pub overflow_add-wide : goal.overflow_add-wide
overflow_add-wide c = let b = c.requires.above c.if-parent.false in let w = c.wide.ensures in search rules

pub offset_bounds-nodes-wide : goal.offset_bounds-nodes-wide
offset_bounds-nodes-wide c = let b = c.requires.above c.if-parent.false in let w = c.wide.ensures in search rules

pub bounds-nodes-wide : goal.bounds-nodes-wide
bounds-nodes-wide c = let b = c.requires.above c.if-parent.false in let w = c.wide.ensures in search rules

pub returns-then-wide-k : goal.returns-then-wide-k
returns-then-wide-k c = let args = c.args in
    brackets-later args.nodes.now args.k c.if-parent.false (λ z. c.if-wide-k.true (c.wide-2.ensures ∙ ap (child_at args.nodes.now) c.wide.ensures ∙ z))

pub returns : goal.returns
returns c = let args = c.args in
    brackets-first args.nodes.now args.k c.if-parent.false (ap (child_at args.nodes.now) (sym c.wide.ensures) ∙ sym c.wide-2.ensures ∙ c.if-wide-k.false)
