use Rattle.lists.proofs.Prelude.{◌≡◌, sym, ◌∙◌, subst, arith}
use Rattle.lexer.specs.declared.Head.TheVariants.{Start, End, Name}
use Rattle.lexer.specs.Step.{head_at}
use Rattle.lexer.proofs.Within.{HeadWithin, head-within}
use Rattle.parser_step.proofs.Acts.{asks-by, asks-start, asks_none, asks-last, asks-end, asks-name, asks-follows}
use Rattle.parser_step.proofs.look.Goals as goal

pub returns-then-may_open : goal.returns-then-may_open
returns-then-may_open c = asks-start c.args.lenient c.args.s.now c.args.base c.args.w c.args.stack.now (let starts : head_at c.args.s.now c.args.w.at ≡ Start c.in-Start.i = sym c.next_head.ensures ∙ c.in-Start.is in starts) c.may_open.ensures c.if-may_open.true

pub returns-then-w-eq0 : goal.returns-then-w-eq0
returns-then-w-eq0 c = asks_none c.args.lenient c.args.s.now c.args.base c.args.w c.args.stack.now (let ends : head_at c.args.s.now c.args.w.at ≡ End c.in-End.i = sym c.next_head.ensures ∙ c.in-End.is in ends) c.if-w-eq0.true

pub overflow_add-result : goal.overflow_add-result
overflow_add-result c = let s = c.args.s.now in let b = subst (HeadWithin s _) (let ends : head_at c.args.s.now c.args.w.at ≡ End c.in-End.i = sym c.next_head.ensures ∙ c.in-End.is in ends) (head-within s _) in omega (arith, b.1, c.well_formed)

pub returns-then-w-eq1 : goal.returns-then-w-eq1
returns-then-w-eq1 c = asks-last c.args.lenient c.args.s.now c.args.base c.args.w c.args.stack.now (let ends : head_at c.args.s.now c.args.w.at ≡ End c.in-End.i = sym c.next_head.ensures ∙ c.in-End.is in ends) c.if-w-eq0.false c.if-w-eq1.true

pub returns-then-unclosed : goal.returns-then-unclosed
returns-then-unclosed c = asks-name c.args.lenient c.args.s.now c.args.base c.args.w c.args.stack.now (let names : head_at c.args.s.now c.args.w.at ≡ Name c.in-Name.i c.in-Name.k = sym c.next_head.ensures ∙ c.in-Name.is in names) c.unclosed.ensures c.if-unclosed.true

pub returns-then-w : goal.returns-then-w
returns-then-w c = asks-follows c.args.lenient c.args.s.now c.args.base c.args.w c.args.stack.now (let names : head_at c.args.s.now c.args.w.at ≡ Name c.in-Name.i c.in-Name.k = sym c.next_head.ensures ∙ c.in-Name.is in names) c.unclosed.ensures c.if-unclosed.false c.if-w.true

pub returns-else-may_open : goal.returns-else-may_open
returns-else-may_open c = asks-start c.args.lenient c.args.s.now c.args.base c.args.w c.args.stack.now (let starts : head_at c.args.s.now c.args.w.at ≡ Start c.in-Start.i = sym c.next_head.ensures ∙ c.in-Start.is in starts) c.may_open.ensures c.if-may_open.false

pub returns-else-w-eq1 : goal.returns-else-w-eq1
returns-else-w-eq1 c = asks-end c.args.lenient c.args.s.now c.args.base c.args.w c.args.stack.now (let ends : head_at c.args.s.now c.args.w.at ≡ End c.in-End.i = sym c.next_head.ensures ∙ c.in-End.is in ends) c.if-w-eq0.false c.if-w-eq1.false

pub returns-in-Node : goal.returns-in-Node
returns-in-Node c = asks-by c.args.lenient c.args.s.now c.args.base c.args.w c.args.stack.now (sym c.next_head.ensures ∙ c.in-Node.is)

pub returns-else-w : goal.returns-else-w
returns-else-w c = asks-follows c.args.lenient c.args.s.now c.args.base c.args.w c.args.stack.now (let names : head_at c.args.s.now c.args.w.at ≡ Name c.in-Name.i c.in-Name.k = sym c.next_head.ensures ∙ c.in-Name.is in names) c.unclosed.ensures c.if-unclosed.false c.if-w.false

pub returns-in-Refused : goal.returns-in-Refused
returns-in-Refused c = asks-by c.args.lenient c.args.s.now c.args.base c.args.w c.args.stack.now (sym c.next_head.ensures ∙ c.in-Refused.is)

pub returns-in-Done : goal.returns-in-Done
returns-in-Done c = asks-by c.args.lenient c.args.s.now c.args.base c.args.w c.args.stack.now (sym c.next_head.ensures ∙ c.in-Done.is)
