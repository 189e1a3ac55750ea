use Rattle.salvage_shape.proofs.Nodes.{walking-open, walking-node, prop-over, walking-prop}
use Rattle.salvage_shape.proofs.Lists.{start-over, walking_start, end-over, walking-end}
use Rattle.salvage_shape.proofs.Walking.{walking-first, walking-few, walking-low, none_over}
use Rattle.salvage_shape.proofs.Turns.{more-least}
use Rattle.salvage_list.proofs.Going.{start-deep}
use Rattle.salvage_list.proofs.Puts.{prop-few}
use Rattle.lexer.specs.Step.{prop_at}
use Rattle.parser.proofs.Meets.{meets}
use Rattle.lexer.proofs.Within.{found_within}
use Rattle.lexer.specs.Token.{Lexed}
use Rattle.lists.proofs.Prelude.{refl, ap, arith}
use Rattle.salvage_list.proofs.Stacks.{may-started}
use Rattle.salvage_shape.proofs.shape_of.Goals as goal

pub loop-i-init : goal.loop-i-init
loop-i-init c = walking-first _ _ _ c.requires.0 c.requires.1.stack c.requires.1.marks c.requires.1.cells

pub skip_slice-requires : goal.skip_slice-requires
skip_slice-requires c = (c.loop-i.invariant.go.short, c.loop-i.invariant.go.skip.inside, c.loop-i.invariant.go.deep)

pub overflow_sub-result : goal.overflow_sub-result
overflow_sub-result c = (walking-few c.loop-i.invariant).3

pub finish-requires : goal.finish-requires
finish-requires c = c.loop-i.invariant.go.deep

pub overflow_add-result : goal.overflow_add-result
overflow_add-result c = let h = walking-low c.loop-i.invariant c.finish.ensures in omega (arith, h)

pub overflow_add-result-then-not-may_open : goal.overflow_add-result-then-not-may_open
overflow_add-result-then-not-may_open c = let l = c.loop-i.invariant.sums.few in let s = c.loop-i.invariant.go.short in let i = c.loop-i.invariant.go.skip.inside in omega (arith, l, s, i)

pub returns-then-not-may_open : goal.returns-then-not-may_open
returns-then-not-may_open c = (let w = (found_within c.args.s.now _ _ _ c.next_token.ensures c.in-Start.is) in start-over c.loop-i.invariant w.0 w.1 (meets c.args.s.now c.loop-i.at c.next_token.ensures c.in-Start.is) (may-started c.loop-i.stack c.loop-i.depth c.args.base c.loop-i.n c.loop-i.invariant.go.deep c.may_open.ensures) c.if-not-may_open.true c.skip_slice.ensures c.finish.ensures, record { stack = c.loop-i.invariant.go.array; marks = c.loop-i.invariant.marked; cells = c.loop-i.invariant.kept })

pub offset_bounds-stack-depth : goal.offset_bounds-stack-depth
offset_bounds-stack-depth c = let d = c.loop-i.invariant.go.deep in omega arith

pub bounds-stack-depth : goal.bounds-stack-depth
bounds-stack-depth c = let w = (found_within c.args.s.now _ _ _ c.next_token.ensures c.in-Start.is) in let d = start-deep c.loop-i.invariant.go w.0 w.1 (meets c.args.s.now c.loop-i.at c.next_token.ensures c.in-Start.is) in let a = c.loop-i.invariant.go.array in omega (arith, d, a)

pub bounds-marks-depth : goal.bounds-marks-depth
bounds-marks-depth c = let w = (found_within c.args.s.now _ _ _ c.next_token.ensures c.in-Start.is) in let d = start-deep c.loop-i.invariant.go w.0 w.1 (meets c.args.s.now c.loop-i.at c.next_token.ensures c.in-Start.is) in let a = c.loop-i.invariant.marked in omega (arith, d, a)

pub overflow_add-depth : goal.overflow_add-depth
overflow_add-depth c = let d = c.loop-i.invariant.go.deep in omega arith

pub overflow_add-at : goal.overflow_add-at
overflow_add-at c = let w = (found_within c.args.s.now _ _ _ c.next_token.ensures c.in-Start.is) in omega arith

pub loop-i-smaller-in-Start : goal.loop-i-smaller-in-Start
loop-i-smaller-in-Start c = let w = (found_within c.args.s.now _ _ _ c.next_token.ensures c.in-Start.is) in omega arith

pub loop-i-preserved-in-Start : goal.loop-i-preserved-in-Start
loop-i-preserved-in-Start c = let w = (found_within c.args.s.now _ _ _ c.next_token.ensures c.in-Start.is) in walking_start c.loop-i.invariant w.0 w.1 (meets c.args.s.now c.loop-i.at c.next_token.ensures c.in-Start.is) (may-started c.loop-i.stack c.loop-i.depth c.args.base c.loop-i.n c.loop-i.invariant.go.deep c.may_open.ensures) c.if-not-may_open.false (start-deep c.loop-i.invariant.go w.0 w.1 (meets c.args.s.now c.loop-i.at c.next_token.ensures c.in-Start.is)) refl refl

pub overflow_add-result-then-depth-le1 : goal.overflow_add-result-then-depth-le1
overflow_add-result-then-depth-le1 c = let w = (found_within c.args.s.now _ _ _ c.next_token.ensures c.in-End.is) in omega arith

pub overflow_sub-result-then-depth-le1 : goal.overflow_sub-result-then-depth-le1
overflow_sub-result-then-depth-le1 c = (walking-few c.loop-i.invariant).3

pub finish-requires-then-depth-le1 : goal.finish-requires-then-depth-le1
finish-requires-then-depth-le1 c = c.loop-i.invariant.go.deep

pub overflow_add-result-then-depth-le1-2 : goal.overflow_add-result-then-depth-le1-2
overflow_add-result-then-depth-le1-2 c = let h = walking-low c.loop-i.invariant c.finish-then-depth-le1.ensures in omega (arith, h)

pub overflow_add-result-then-depth-le1-3 : goal.overflow_add-result-then-depth-le1-3
overflow_add-result-then-depth-le1-3 c = let l = c.loop-i.invariant.sums.few in let s = c.loop-i.invariant.go.short in let i = c.loop-i.invariant.go.skip.inside in omega (arith, l, s, i)

pub returns-then-depth-le1 : goal.returns-then-depth-le1
returns-then-depth-le1 c = (let w = (found_within c.args.s.now _ _ _ c.next_token.ensures c.in-End.is) in end-over c.loop-i.invariant w.0 w.1 (meets c.args.s.now c.loop-i.at c.next_token.ensures c.in-End.is) c.if-depth-le1.true c.finish-then-depth-le1.ensures, record { stack = c.loop-i.invariant.go.array; marks = c.loop-i.invariant.marked; cells = c.loop-i.invariant.kept })

pub overflow_sub-depth : goal.overflow_sub-depth
overflow_sub-depth c = let l = c.if-depth-le1.false in omega (arith, l)

pub load-requires : goal.load-requires
load-requires c = let l = c.if-depth-le1.false in let d = c.loop-i.invariant.go.deep in omega (arith, l, d)

pub offset_bounds-stack-depth-in-End : goal.offset_bounds-stack-depth-in-End
offset_bounds-stack-depth-in-End c = let d = c.loop-i.invariant.go.deep in omega arith

pub bounds-stack-depth-in-End : goal.bounds-stack-depth-in-End
bounds-stack-depth-in-End c = let l = c.if-depth-le1.false in let d = c.loop-i.invariant.go.deep in let a = c.loop-i.invariant.go.array in omega (arith, l, d, a)

pub bounds-marks-depth-in-End : goal.bounds-marks-depth-in-End
bounds-marks-depth-in-End c = let l = c.if-depth-le1.false in let d = c.loop-i.invariant.go.deep in let a = c.loop-i.invariant.marked in omega (arith, l, d, a)

pub overflow_add-at-in-End : goal.overflow_add-at-in-End
overflow_add-at-in-End c = let w = (found_within c.args.s.now _ _ _ c.next_token.ensures c.in-End.is) in omega arith

pub loop-i-smaller-in-End : goal.loop-i-smaller-in-End
loop-i-smaller-in-End c = let w = (found_within c.args.s.now _ _ _ c.next_token.ensures c.in-End.is) in omega arith

pub loop-i-preserved-in-End : goal.loop-i-preserved-in-End
loop-i-preserved-in-End c = let w = (found_within c.args.s.now _ _ _ c.next_token.ensures c.in-End.is) in walking-end c.loop-i.invariant w.0 w.1 (meets c.args.s.now c.loop-i.at c.next_token.ensures c.in-End.is) c.if-depth-le1.false refl c.load.ensures c.ended-c.ensures refl

pub overflow_add-i : goal.overflow_add-i
overflow_add-i c = let w = (found_within c.args.s.now _ _ _ c.next_token.ensures c.in-Node.is) in omega arith

pub keep-requires : goal.keep-requires
keep-requires c = (c.loop-i.invariant.go.deep, walking-open c.loop-i.invariant)

pub overflow_add-brackets : goal.overflow_add-brackets
overflow_add-brackets c = let f = walking-few c.loop-i.invariant in let m = c.more-brackets.ensures in let l = more-least c.loop-i.c.kids in omega (arith, f.2, f.4, m, l)

pub overflow_cast-cur : goal.overflow_cast-cur
overflow_cast-cur c = let f = walking-few c.loop-i.invariant in omega (arith, f.4)

pub overflow_add-n : goal.overflow_add-n
overflow_add-n c = let f = walking-few c.loop-i.invariant in omega (arith, f.4)

pub overflow_add-at-in-Node : goal.overflow_add-at-in-Node
overflow_add-at-in-Node c = let w = (found_within c.args.s.now _ _ _ c.next_token.ensures c.in-Node.is) in omega arith

pub loop-i-smaller-in-Node : goal.loop-i-smaller-in-Node
loop-i-smaller-in-Node c = let w = (found_within c.args.s.now _ _ _ c.next_token.ensures c.in-Node.is) in omega arith

pub loop-i-preserved-in-Node : goal.loop-i-preserved-in-Node
loop-i-preserved-in-Node c = let w = (found_within c.args.s.now _ _ _ c.next_token.ensures c.in-Node.is) in walking-node c.loop-i.invariant w.0 w.1 (meets c.args.s.now c.loop-i.at c.next_token.ensures c.in-Node.is) refl c.keep.ensures c.more-brackets.ensures c.joined-c.ensures c.node_rule-root.ensures

pub skip_slice-requires-then-not-follows : goal.skip_slice-requires-then-not-follows
skip_slice-requires-then-not-follows c = (c.loop-i.invariant.go.short, c.loop-i.invariant.go.skip.inside, c.loop-i.invariant.go.deep)

pub overflow_sub-result-then-not-follows : goal.overflow_sub-result-then-not-follows
overflow_sub-result-then-not-follows c = (walking-few c.loop-i.invariant).3

pub finish-requires-then-not-follows : goal.finish-requires-then-not-follows
finish-requires-then-not-follows c = c.loop-i.invariant.go.deep

pub overflow_add-result-then-not-follows : goal.overflow_add-result-then-not-follows
overflow_add-result-then-not-follows c = let h = walking-low c.loop-i.invariant c.finish-then-not-follows.ensures in omega (arith, h)

pub overflow_add-result-then-not-follows-2 : goal.overflow_add-result-then-not-follows-2
overflow_add-result-then-not-follows-2 c = let l = c.loop-i.invariant.sums.few in let s = c.loop-i.invariant.go.short in let i = c.loop-i.invariant.go.skip.inside in omega (arith, l, s, i)

pub returns-then-not-follows : goal.returns-then-not-follows
returns-then-not-follows c = (prop-over c.loop-i.invariant _ _ _ (meets c.args.s.now c.loop-i.at c.next_token.ensures c.in-Property.is) c.if-not-follows.true c.skip_slice-then-not-follows.ensures c.finish-then-not-follows.ensures, record { stack = c.loop-i.invariant.go.array; marks = c.loop-i.invariant.marked; cells = c.loop-i.invariant.kept })

pub fate_at-x-requires : goal.fate_at-x-requires
fate_at-x-requires c = let w = (found_within c.args.s.now _ _ _ c.next_token.ensures c.in-Property.is) in (c.loop-i.invariant.go.short, w.1, omega arith)

pub overflow_add-bytes : goal.overflow_add-bytes
overflow_add-bytes c = let b = c.loop-i.invariant.sums.bound in let h = c.fate_at-x.ensures.bound in let s = c.loop-i.invariant.go.short in let i = c.loop-i.invariant.go.skip.inside in omega (arith, b, h, s, i)

pub overflow_add-listed : goal.overflow_add-listed
overflow_add-listed c = let l = c.loop-i.invariant.sums.few in let s = c.loop-i.invariant.go.short in let i = c.loop-i.invariant.go.skip.inside in let h = c.fate_at-x.ensures.listed in let f = prop-few c.loop-i.root.bad 0 (prop_at c.args.s.now c.in-Property.i c.in-Property.k) in omega (arith, l, s, i, h, f)

pub loop-i-smaller : goal.loop-i-smaller
loop-i-smaller c = let w = (found_within c.args.s.now _ _ _ c.next_token.ensures c.in-Property.is) in omega arith

pub loop-i-preserved : goal.loop-i-preserved
loop-i-preserved c = let w = (found_within c.args.s.now _ _ _ c.next_token.ensures c.in-Property.is) in walking-prop c.loop-i.invariant _ _ _ (meets c.args.s.now c.loop-i.at c.next_token.ensures c.in-Property.is) (omega arith) w.4 c.if-not-follows.false c.fate_at-x.ensures

pub overflow_sub-result-in-Refused : goal.overflow_sub-result-in-Refused
overflow_sub-result-in-Refused c = (walking-few c.loop-i.invariant).3

pub finish-requires-in-Refused : goal.finish-requires-in-Refused
finish-requires-in-Refused c = c.loop-i.invariant.go.deep

pub overflow_add-result-in-Refused : goal.overflow_add-result-in-Refused
overflow_add-result-in-Refused c = let h = walking-low c.loop-i.invariant c.finish-in-Refused.ensures in omega (arith, h)

pub returns-in-Refused : goal.returns-in-Refused
returns-in-Refused c = (none_over c.loop-i.invariant (ap (λ (z : Lexed). z.toks) (meets c.args.s.now c.loop-i.at c.next_token.ensures c.in-Refused.is)) c.finish-in-Refused.ensures, record { stack = c.loop-i.invariant.go.array; marks = c.loop-i.invariant.marked; cells = c.loop-i.invariant.kept })

pub overflow_sub-result-in-Done : goal.overflow_sub-result-in-Done
overflow_sub-result-in-Done c = (walking-few c.loop-i.invariant).3

pub finish-requires-in-Done : goal.finish-requires-in-Done
finish-requires-in-Done c = c.loop-i.invariant.go.deep

pub overflow_add-result-in-Done : goal.overflow_add-result-in-Done
overflow_add-result-in-Done c = let h = walking-low c.loop-i.invariant c.finish-in-Done.ensures in omega (arith, h)

pub returns-in-Done : goal.returns-in-Done
returns-in-Done c = (none_over c.loop-i.invariant (ap (λ (z : Lexed). z.toks) (meets c.args.s.now c.loop-i.at c.next_token.ensures c.in-Done.is)) c.finish-in-Done.ensures, record { stack = c.loop-i.invariant.go.array; marks = c.loop-i.invariant.marked; cells = c.loop-i.invariant.kept })
