use Rattle.salvage_list.proofs.Props.{standing-node, prop-stops, standing-prop, none_left}
use Rattle.salvage_list.proofs.Going.{standing-first, start-deep, start-stops, standing-start}
use Rattle.salvage_list.proofs.Ends.{end-stops, end-tree, standing-end}
use Rattle.parser.proofs.Meets.{meets}
use Rattle.lexer.proofs.Within.{found_within}
use Rattle.lexer.specs.Token.{Lexed}
use Rattle.lists.proofs.Prelude.{refl, ap, arith}
use Rattle.salvage_list.proofs.Stacks.{may-started}
use Rattle.salvage_list.proofs.walk.walk_slice.Goals as goal

pub loop-i-init : goal.loop-i-init
loop-i-init c = standing-first _ _ c.requires refl

pub skip_slice-requires : goal.skip_slice-requires
skip_slice-requires c = (c.loop-i.invariant.go.short, c.loop-i.invariant.go.skip.inside, c.loop-i.invariant.go.deep)

pub shape_of-rows-then-not-may_open : goal.shape_of-rows-then-not-may_open
shape_of-rows-then-not-may_open c = c.loop-i.invariant.has.puts.put.len

pub returns-then-not-may_open : goal.returns-then-not-may_open
returns-then-not-may_open c = let w = (found_within c.args.s.now _ _ _ c.next_token.ensures c.in-Start.is) in start-stops c.loop-i.invariant.go w.0 w.1 (meets c.args.s.now c.loop-i.at c.next_token.ensures c.in-Start.is) (may-started c.loop-i.stack c.loop-i.depth c.args.base c.loop-i.n c.loop-i.invariant.go.deep c.may_open.ensures) c.if-not-may_open.true c.loop-i.invariant.has c.skip_slice.ensures

pub offset_bounds-stack-depth : goal.offset_bounds-stack-depth
offset_bounds-stack-depth c = let d = c.loop-i.invariant.go.deep in omega arith

pub bounds-stack-depth : goal.bounds-stack-depth
bounds-stack-depth c = let w = (found_within c.args.s.now _ _ _ c.next_token.ensures c.in-Start.is) in let d = start-deep c.loop-i.invariant.go w.0 w.1 (meets c.args.s.now c.loop-i.at c.next_token.ensures c.in-Start.is) in let a = c.loop-i.invariant.go.array in omega arith

pub overflow_add-depth : goal.overflow_add-depth
overflow_add-depth c = let d = c.loop-i.invariant.go.deep in omega arith

pub overflow_add-at : goal.overflow_add-at
overflow_add-at c = let w = (found_within c.args.s.now _ _ _ c.next_token.ensures c.in-Start.is) in omega arith

pub loop-i-smaller-in-Start : goal.loop-i-smaller-in-Start
loop-i-smaller-in-Start c = let w = (found_within c.args.s.now _ _ _ c.next_token.ensures c.in-Start.is) in omega arith

pub loop-i-preserved-in-Start : goal.loop-i-preserved-in-Start
loop-i-preserved-in-Start c = let w = (found_within c.args.s.now _ _ _ c.next_token.ensures c.in-Start.is) in standing-start c.loop-i.invariant.go w.0 w.1 (meets c.args.s.now c.loop-i.at c.next_token.ensures c.in-Start.is) (may-started c.loop-i.stack c.loop-i.depth c.args.base c.loop-i.n c.loop-i.invariant.go.deep c.may_open.ensures) c.if-not-may_open.false refl c.loop-i.invariant.has

pub overflow_add-result : goal.overflow_add-result
overflow_add-result c = let w = (found_within c.args.s.now _ _ _ c.next_token.ensures c.in-End.is) in omega arith

pub shape_of-rows-then-depth-eq0 : goal.shape_of-rows-then-depth-eq0
shape_of-rows-then-depth-eq0 c = c.loop-i.invariant.has.puts.put.len

pub returns-then-depth-eq0 : goal.returns-then-depth-eq0
returns-then-depth-eq0 c = let w = (found_within c.args.s.now _ _ _ c.next_token.ensures c.in-End.is) in end-stops c.loop-i.invariant.go w.0 w.1 (meets c.args.s.now c.loop-i.at c.next_token.ensures c.in-End.is) c.loop-i.invariant.has c.if-depth-eq0.true

pub overflow_add-result-then-depth-eq1 : goal.overflow_add-result-then-depth-eq1
overflow_add-result-then-depth-eq1 c = let w = (found_within c.args.s.now _ _ _ c.next_token.ensures c.in-End.is) in omega arith

pub shape_of-rows-then-depth-eq1 : goal.shape_of-rows-then-depth-eq1
shape_of-rows-then-depth-eq1 c = c.loop-i.invariant.has.puts.put.len

pub returns-then-depth-eq1 : goal.returns-then-depth-eq1
returns-then-depth-eq1 c = let w = (found_within c.args.s.now _ _ _ c.next_token.ensures c.in-End.is) in end-tree c.loop-i.invariant.go w.0 w.1 (meets c.args.s.now c.loop-i.at c.next_token.ensures c.in-End.is) c.loop-i.invariant.has c.if-depth-eq1.true

pub offset_bounds-stack-depth-in-End : goal.offset_bounds-stack-depth-in-End
offset_bounds-stack-depth-in-End c = let d = c.loop-i.invariant.go.deep in omega arith

pub bounds-stack-depth-in-End : goal.bounds-stack-depth-in-End
bounds-stack-depth-in-End c = let d = c.loop-i.invariant.go.deep in let a = c.loop-i.invariant.go.array in let h = c.if-depth-eq0.false in omega (arith, h)

pub overflow_add-at-in-End : goal.overflow_add-at-in-End
overflow_add-at-in-End c = let w = (found_within c.args.s.now _ _ _ c.next_token.ensures c.in-End.is) in omega arith

pub loop-i-smaller-in-End : goal.loop-i-smaller-in-End
loop-i-smaller-in-End c = let w = (found_within c.args.s.now _ _ _ c.next_token.ensures c.in-End.is) in omega arith

pub loop-i-preserved-in-End : goal.loop-i-preserved-in-End
loop-i-preserved-in-End c = let w = (found_within c.args.s.now _ _ _ c.next_token.ensures c.in-End.is) in standing-end c.loop-i.invariant.go w.0 w.1 (meets c.args.s.now c.loop-i.at c.next_token.ensures c.in-End.is) c.loop-i.invariant.has c.if-depth-eq0.false c.if-depth-eq1.false refl

pub overflow_add-i : goal.overflow_add-i
overflow_add-i c = let w = (found_within c.args.s.now _ _ _ c.next_token.ensures c.in-Node.is) in omega arith

pub overflow_cast-cur : goal.overflow_cast-cur
overflow_cast-cur c = let w = (found_within c.args.s.now _ _ _ c.next_token.ensures c.in-Node.is) in let f = c.loop-i.invariant.go.few in let s = c.loop-i.invariant.go.short in let l = c.loop-i.invariant.go.low in omega arith

pub overflow_add-n : goal.overflow_add-n
overflow_add-n c = let w = (found_within c.args.s.now _ _ _ c.next_token.ensures c.in-Node.is) in let f = c.loop-i.invariant.go.few in let s = c.loop-i.invariant.go.short in let l = c.loop-i.invariant.go.low in omega arith

pub overflow_add-at-in-Node : goal.overflow_add-at-in-Node
overflow_add-at-in-Node c = let w = (found_within c.args.s.now _ _ _ c.next_token.ensures c.in-Node.is) in omega arith

pub loop-i-smaller-in-Node : goal.loop-i-smaller-in-Node
loop-i-smaller-in-Node c = let w = (found_within c.args.s.now _ _ _ c.next_token.ensures c.in-Node.is) in omega arith

pub loop-i-preserved-in-Node : goal.loop-i-preserved-in-Node
loop-i-preserved-in-Node c = let w = (found_within c.args.s.now _ _ _ c.next_token.ensures c.in-Node.is) in standing-node c.loop-i.invariant.go w.0 w.1 (meets c.args.s.now c.loop-i.at c.next_token.ensures c.in-Node.is) refl c.loop-i.invariant.has c.bad_node-bad.ensures

pub skip_slice-requires-then-not-follows : goal.skip_slice-requires-then-not-follows
skip_slice-requires-then-not-follows c = (c.loop-i.invariant.go.short, c.loop-i.invariant.go.skip.inside, c.loop-i.invariant.go.deep)

pub shape_of-rows-then-not-follows : goal.shape_of-rows-then-not-follows
shape_of-rows-then-not-follows c = c.loop-i.invariant.has.puts.put.len

pub returns-then-not-follows : goal.returns-then-not-follows
returns-then-not-follows c = let w = (found_within c.args.s.now _ _ _ c.next_token.ensures c.in-Property.is) in prop-stops c.loop-i.invariant.go _ _ _ (meets c.args.s.now c.loop-i.at c.next_token.ensures c.in-Property.is) c.loop-i.invariant.has c.if-not-follows.true (omega arith) c.skip_slice-then-not-follows.ensures

pub put_property-e-requires : goal.put_property-e-requires
put_property-e-requires c = let w = (found_within c.args.s.now _ _ _ c.next_token.ensures c.in-Property.is) in let s = c.loop-i.invariant.go.short in let p = c.loop-i.invariant.has.prop-bound in let e = c.loop-i.invariant.has.entry-bound in let n = c.loop-i.invariant.has.entries in (w.1, omega arith, omega arith, omega arith)

pub overflow_add-p : goal.overflow_add-p
overflow_add-p c = let w = (found_within c.args.s.now _ _ _ c.next_token.ensures c.in-Property.is) in let s = c.loop-i.invariant.go.short in let p = c.loop-i.invariant.has.prop-bound in omega arith

pub loop-i-smaller : goal.loop-i-smaller
loop-i-smaller c = let w = (found_within c.args.s.now _ _ _ c.next_token.ensures c.in-Property.is) in omega arith

pub loop-i-preserved : goal.loop-i-preserved
loop-i-preserved c = let w = (found_within c.args.s.now _ _ _ c.next_token.ensures c.in-Property.is) in standing-prop c.loop-i.invariant.go _ _ _ (meets c.args.s.now c.loop-i.at c.next_token.ensures c.in-Property.is) c.loop-i.invariant.has (omega arith) w.4 c.if-not-follows.false c.put_property-e.ensures

pub shape_of-rows-in-Refused : goal.shape_of-rows-in-Refused
shape_of-rows-in-Refused c = c.loop-i.invariant.has.puts.put.len

pub returns-in-Refused : goal.returns-in-Refused
returns-in-Refused c = none_left c.loop-i.invariant.go (ap (λ (z : Lexed). z.toks) (meets c.args.s.now c.loop-i.at c.next_token.ensures c.in-Refused.is)) c.loop-i.invariant.has

pub shape_of-rows-in-Done : goal.shape_of-rows-in-Done
shape_of-rows-in-Done c = c.loop-i.invariant.has.puts.put.len

pub returns-in-Done : goal.returns-in-Done
returns-in-Done c = none_left c.loop-i.invariant.go (ap (λ (z : Lexed). z.toks) (meets c.args.s.now c.loop-i.at c.next_token.ensures c.in-Done.is)) c.loop-i.invariant.has
