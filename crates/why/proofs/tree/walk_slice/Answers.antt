use Rattle.lists.proofs.Prelude.{refl, ap, arith}
use Rattle.lexer.specs.Token.{Lexed}
use Rattle.lexer.proofs.Within.{found_within}
use Rattle.parser.proofs.Meets.{meets}
use Rattle.why.proofs.Going.{going-first, start-deep, start-stops, going_start, end-stops, end-tree, going_end}
use Rattle.why.proofs.Props.{going-node, prop-stops, going-prop, none_left}
use Rattle.why.proofs.tree.walk_slice.Goals as goal

pub loop-i-init : goal.loop-i-init
loop-i-init c = going-first _ c.requires refl

pub top-requires : goal.top-requires
top-requires c = c.loop-i.invariant.deep

pub returns-then-not-may_open : goal.returns-then-not-may_open
returns-then-not-may_open c = let w = (found_within c.args.s.now _ _ _ c.next_token.ensures c.in-Start.is) in start-stops c.loop-i.invariant w.0 w.1 (meets c.args.s.now c.loop-i.at c.next_token.ensures c.in-Start.is) c.may_open.ensures c.if-not-may_open.true c.top.ensures

pub offset_bounds-stack-depth : goal.offset_bounds-stack-depth
offset_bounds-stack-depth c = let d = c.loop-i.invariant.deep in omega arith

pub bounds-stack-depth : goal.bounds-stack-depth
bounds-stack-depth c = let w = (found_within c.args.s.now _ _ _ c.next_token.ensures c.in-Start.is) in let d = start-deep c.loop-i.invariant w.0 w.1 (meets c.args.s.now c.loop-i.at c.next_token.ensures c.in-Start.is) in let a = c.loop-i.invariant.array in omega arith

pub overflow_add-depth : goal.overflow_add-depth
overflow_add-depth c = let d = c.loop-i.invariant.deep in omega arith

pub overflow_add-at : goal.overflow_add-at
overflow_add-at c = let w = (found_within c.args.s.now _ _ _ c.next_token.ensures c.in-Start.is) in omega arith

pub loop-i-smaller-in-Start : goal.loop-i-smaller-in-Start
loop-i-smaller-in-Start c = let w = (found_within c.args.s.now _ _ _ c.next_token.ensures c.in-Start.is) in omega arith

pub loop-i-preserved-in-Start : goal.loop-i-preserved-in-Start
loop-i-preserved-in-Start c = let w = (found_within c.args.s.now _ _ _ c.next_token.ensures c.in-Start.is) in going_start c.loop-i.invariant w.0 w.1 (meets c.args.s.now c.loop-i.at c.next_token.ensures c.in-Start.is) c.may_open.ensures c.if-not-may_open.false refl

pub returns-then-depth-eq0 : goal.returns-then-depth-eq0
returns-then-depth-eq0 c = let w = (found_within c.args.s.now _ _ _ c.next_token.ensures c.in-End.is) in end-stops c.loop-i.invariant w.0 w.1 (meets c.args.s.now c.loop-i.at c.next_token.ensures c.in-End.is) c.if-depth-eq0.true

pub overflow_add-result : goal.overflow_add-result
overflow_add-result c = let w = (found_within c.args.s.now _ _ _ c.next_token.ensures c.in-End.is) in omega arith

pub returns-then-depth-eq1 : goal.returns-then-depth-eq1
returns-then-depth-eq1 c = let w = (found_within c.args.s.now _ _ _ c.next_token.ensures c.in-End.is) in end-tree c.loop-i.invariant w.0 w.1 (meets c.args.s.now c.loop-i.at c.next_token.ensures c.in-End.is) c.if-depth-eq1.true

pub offset_bounds-stack-depth-in-End : goal.offset_bounds-stack-depth-in-End
offset_bounds-stack-depth-in-End c = let d = c.loop-i.invariant.deep in omega arith

pub bounds-stack-depth-in-End : goal.bounds-stack-depth-in-End
bounds-stack-depth-in-End c = let d = c.loop-i.invariant.deep in let a = c.loop-i.invariant.array in let h = c.if-depth-eq0.false in omega (arith, h)

pub overflow_add-at-in-End : goal.overflow_add-at-in-End
overflow_add-at-in-End c = let w = (found_within c.args.s.now _ _ _ c.next_token.ensures c.in-End.is) in omega arith

pub loop-i-smaller-in-End : goal.loop-i-smaller-in-End
loop-i-smaller-in-End c = let w = (found_within c.args.s.now _ _ _ c.next_token.ensures c.in-End.is) in omega arith

pub loop-i-preserved-in-End : goal.loop-i-preserved-in-End
loop-i-preserved-in-End c = let w = (found_within c.args.s.now _ _ _ c.next_token.ensures c.in-End.is) in going_end c.loop-i.invariant w.0 w.1 (meets c.args.s.now c.loop-i.at c.next_token.ensures c.in-End.is) c.if-depth-eq0.false c.if-depth-eq1.false refl

pub overflow_cast-cur : goal.overflow_cast-cur
overflow_cast-cur c = let w = (found_within c.args.s.now _ _ _ c.next_token.ensures c.in-Node.is) in let f = c.loop-i.invariant.few in let s = c.loop-i.invariant.short in omega arith

pub overflow_add-n : goal.overflow_add-n
overflow_add-n c = let w = (found_within c.args.s.now _ _ _ c.next_token.ensures c.in-Node.is) in let f = c.loop-i.invariant.few in let s = c.loop-i.invariant.short in omega arith

pub overflow_add-at-in-Node : goal.overflow_add-at-in-Node
overflow_add-at-in-Node c = let w = (found_within c.args.s.now _ _ _ c.next_token.ensures c.in-Node.is) in omega arith

pub loop-i-smaller-in-Node : goal.loop-i-smaller-in-Node
loop-i-smaller-in-Node c = let w = (found_within c.args.s.now _ _ _ c.next_token.ensures c.in-Node.is) in omega arith

pub loop-i-preserved-in-Node : goal.loop-i-preserved-in-Node
loop-i-preserved-in-Node c = let w = (found_within c.args.s.now _ _ _ c.next_token.ensures c.in-Node.is) in going-node c.loop-i.invariant w.0 w.1 (meets c.args.s.now c.loop-i.at c.next_token.ensures c.in-Node.is) refl

pub returns-then-not-follows : goal.returns-then-not-follows
returns-then-not-follows c = prop-stops c.loop-i.invariant _ _ _ (meets c.args.s.now c.loop-i.at c.next_token.ensures c.in-Property.is) c.if-not-follows.true

pub loop-i-smaller : goal.loop-i-smaller
loop-i-smaller c = let w = (found_within c.args.s.now _ _ _ c.next_token.ensures c.in-Property.is) in omega arith

pub loop-i-preserved : goal.loop-i-preserved
loop-i-preserved c = let w = (found_within c.args.s.now _ _ _ c.next_token.ensures c.in-Property.is) in going-prop c.loop-i.invariant _ _ _ (meets c.args.s.now c.loop-i.at c.next_token.ensures c.in-Property.is) (omega arith) w.4 c.if-not-follows.false

pub returns-in-Refused : goal.returns-in-Refused
returns-in-Refused c = none_left c.loop-i.invariant (ap (λ (z : Lexed). z.toks) (meets c.args.s.now c.loop-i.at c.next_token.ensures c.in-Refused.is))

pub returns-in-Done : goal.returns-in-Done
returns-in-Done c = none_left c.loop-i.invariant (ap (λ (z : Lexed). z.toks) (meets c.args.s.now c.loop-i.at c.next_token.ensures c.in-Done.is))
