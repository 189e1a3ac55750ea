use Rattle.lists.proofs.Prelude.{sym, ◌∙◌, arith}
use Rattle.parser_census.proofs.Turns.{place-first, place-name, place-done, place-less, place-node, place-start, place-last, place_end, odd-node, odd-deep, odd-start, odd-last, odd-end}
use Rattle.parser_census.proofs.Named.{odd-ident, odd-open, place_prop, prop-within, odd-prop, odd-name, place_short, counted-all, counted-open, bracket-still}
use Rattle.lexer_scan.proofs.Bounds.{ident-bounds}
use borrow.Enum.Refused.{opened}
use Rattle.parser_census.proofs.take_census.Goals as goal

pub loop-i-init : goal.loop-i-init
loop-i-init c = place-first _ _ c.skip_space-i.ensures

pub returns-then-s-i : goal.returns-then-s-i
returns-then-s-i c = place-done c.loop-i.invariant c.if-s-i.true c.add_up.ensures

pub returns-then-is_odd : goal.returns-then-is_odd
returns-then-is_odd c = odd-node c.loop-i.invariant c.if-s-i.false c.if-b-eq59.true c.on_node-mode.ensures (sym c.is_odd.ensures ∙ c.if-is_odd.true)

pub overflow_add-n : goal.overflow_add-n
overflow_add-n c = let g = c.well_formed in let b = c.loop-i.invariant.nodes in omega (arith, c.if-s-i.false)

pub overflow_add-i : goal.overflow_add-i
overflow_add-i c = let g = c.well_formed in omega (arith, c.if-s-i.false)

pub loop-i-smaller-then-b-eq59 : goal.loop-i-smaller-then-b-eq59
loop-i-smaller-then-b-eq59 c = place-less c.loop-i.invariant c.if-s-i.false c.skip_space-i-then-b-eq59.ensures

pub loop-i-preserved-then-b-eq59 : goal.loop-i-preserved-then-b-eq59
loop-i-preserved-then-b-eq59 c = place-node c.loop-i.invariant c.if-s-i.false c.skip_space-i-then-b-eq59.ensures c.if-b-eq59.true c.on_node-mode.ensures

pub returns-then-depth-ge-DEPTH_LIMIT : goal.returns-then-depth-ge-DEPTH_LIMIT
returns-then-depth-ge-DEPTH_LIMIT c = odd-deep c.loop-i.invariant c.if-s-i.false c.if-b-eq40.true c.if-depth-ge-DEPTH_LIMIT.true

pub returns-then-is_odd-2 : goal.returns-then-is_odd-2
returns-then-is_odd-2 c = odd-start c.loop-i.invariant c.if-s-i.false c.if-b-eq40.true c.on_start-mode.ensures (sym c.is_odd-then-b-eq40.ensures ∙ c.if-is_odd-2.true)

pub overflow_add-depth : goal.overflow_add-depth
overflow_add-depth c = let g = c.well_formed in let b = c.loop-i.invariant.depth in omega (arith, c.if-s-i.false)

pub overflow_add-i-then-b-eq40 : goal.overflow_add-i-then-b-eq40
overflow_add-i-then-b-eq40 c = let g = c.well_formed in omega (arith, c.if-s-i.false)

pub loop-i-smaller-then-b-eq40 : goal.loop-i-smaller-then-b-eq40
loop-i-smaller-then-b-eq40 c = place-less c.loop-i.invariant c.if-s-i.false c.skip_space-i-then-b-eq40.ensures

pub loop-i-preserved-then-b-eq40 : goal.loop-i-preserved-then-b-eq40
loop-i-preserved-then-b-eq40 c = place-start c.loop-i.invariant c.if-s-i.false c.skip_space-i-then-b-eq40.ensures c.if-b-eq40.true c.if-depth-ge-DEPTH_LIMIT.false c.on_start-mode.ensures

pub returns-then-is_odd-3 : goal.returns-then-is_odd-3
returns-then-is_odd-3 c = odd-last c.loop-i.invariant c.if-s-i.false c.if-b-eq41.true c.if-depth-le1.true c.on_last-mode.ensures (sym c.is_odd-then-depth-le1.ensures ∙ c.if-is_odd-3.true)

pub overflow_add-t : goal.overflow_add-t
overflow_add-t c = let g = c.well_formed in let b = c.loop-i.invariant.trees in omega (arith, c.if-s-i.false)

pub overflow_add-i-then-depth-le1 : goal.overflow_add-i-then-depth-le1
overflow_add-i-then-depth-le1 c = let g = c.well_formed in omega (arith, c.if-s-i.false)

pub loop-i-smaller-then-depth-le1 : goal.loop-i-smaller-then-depth-le1
loop-i-smaller-then-depth-le1 c = place-less c.loop-i.invariant c.if-s-i.false c.skip_space-i-then-depth-le1.ensures

pub loop-i-preserved-then-depth-le1 : goal.loop-i-preserved-then-depth-le1
loop-i-preserved-then-depth-le1 c = place-last c.loop-i.invariant c.if-s-i.false c.skip_space-i-then-depth-le1.ensures c.if-b-eq41.true c.if-depth-le1.true c.on_last-mode.ensures

pub returns-then-is_odd-4 : goal.returns-then-is_odd-4
returns-then-is_odd-4 c = odd-end c.loop-i.invariant c.if-s-i.false c.if-b-eq41.true c.if-depth-le1.false c.on_end-mode.ensures (sym c.is_odd-then-b-eq41.ensures ∙ c.if-is_odd-4.true)

pub overflow_sub-depth : goal.overflow_sub-depth
overflow_sub-depth c = omega (arith, c.if-depth-le1.false)

pub overflow_add-i-then-b-eq41 : goal.overflow_add-i-then-b-eq41
overflow_add-i-then-b-eq41 c = let g = c.well_formed in omega (arith, c.if-s-i.false)

pub loop-i-smaller-then-b-eq41 : goal.loop-i-smaller-then-b-eq41
loop-i-smaller-then-b-eq41 c = place-less c.loop-i.invariant c.if-s-i.false c.skip_space-i-then-b-eq41.ensures

pub loop-i-preserved-then-b-eq41 : goal.loop-i-preserved-then-b-eq41
loop-i-preserved-then-b-eq41 c = place_end c.loop-i.invariant c.if-s-i.false c.skip_space-i-then-b-eq41.ensures c.if-b-eq41.true c.if-depth-le1.false c.on_end-mode.ensures

pub returns-then-not-may_take : goal.returns-then-not-may_take
returns-then-not-may_take c = odd-name c.loop-i.invariant c.if-s-i.false (place-name c.loop-i.invariant c.if-b-eq59.false c.if-b-eq40.false c.if-b-eq41.false) (sym c.may_take.ensures ∙ c.if-not-may_take.true)

pub is_short-requires : goal.is_short-requires
is_short-requires c = (c.if-s-i.false, (place-name c.loop-i.invariant c.if-b-eq59.false c.if-b-eq40.false c.if-b-eq41.false))

pub overflow_add-p : goal.overflow_add-p
overflow_add-p c = let g = c.well_formed in let b = c.loop-i.invariant.props in omega (arith, c.if-s-i.false)

pub overflow_add-v : goal.overflow_add-v
overflow_add-v c = let g = c.well_formed in let b = c.loop-i.invariant.vals in omega (arith, c.if-s-i.false)

pub overflow_add-i-then-is_short : goal.overflow_add-i-then-is_short
overflow_add-i-then-is_short c = let g = c.well_formed in let w = (c.is_short.ensures c.if-is_short.true).inside in omega arith

pub loop-i-smaller-then-is_short : goal.loop-i-smaller-then-is_short
loop-i-smaller-then-is_short c = let w = (c.is_short.ensures c.if-is_short.true).inside in omega arith

pub loop-i-preserved-then-is_short : goal.loop-i-preserved-then-is_short
loop-i-preserved-then-is_short c = place_short c.loop-i.invariant c.if-s-i.false (c.is_short.ensures c.if-is_short.true) (sym c.may_take.ensures ∙ c.if-not-may_take.false)

pub returns-in_default : goal.returns-in_default
returns-in_default c = odd-ident c.loop-i.invariant c.if-s-i.false (place-name c.loop-i.invariant c.if-b-eq59.false c.if-b-eq40.false c.if-b-eq41.false) _ c.ident_end.ensures (opened c.in_default.in_default-own.keys2)

pub count_values-requires : goal.count_values-requires
count_values-requires c = bracket-still c.args.s.now _ _ (sym c.ident_end.ensures ∙ c.in-Opens.is)

pub returns-in_default-count_values : goal.returns-in_default-count_values
returns-in_default-count_values c = odd-open c.loop-i.invariant c.if-s-i.false (place-name c.loop-i.invariant c.if-b-eq59.false c.if-b-eq40.false c.if-b-eq41.false) (sym c.ident_end.ensures ∙ c.in-Opens.is) (counted-open c.args.s.now _ c.count_values.ensures c.in_default-count_values.is)

pub on_property-mode-requires : goal.on_property-mode-requires
on_property-mode-requires c = let b = ident-bounds c.args.s.now _ _ (sym c.ident_end.ensures ∙ c.in-Opens.is) in omega arith

pub returns-then-is_odd-5 : goal.returns-then-is_odd-5
returns-then-is_odd-5 c = odd-prop c.loop-i.invariant c.if-s-i.false (place-name c.loop-i.invariant c.if-b-eq59.false c.if-b-eq40.false c.if-b-eq41.false) (sym c.ident_end.ensures ∙ c.in-Opens.is) (counted-all c.args.s.now _ c.count_values.ensures c.in-Some.is) c.on_property-mode.ensures (sym c.is_odd-in-loop-i.ensures ∙ c.if-is_odd-5.true)

pub overflow_add-p-in-loop-i : goal.overflow_add-p-in-loop-i
overflow_add-p-in-loop-i c = let g = c.well_formed in let b = c.loop-i.invariant.props in omega (arith, c.if-s-i.false)

pub overflow_add-v-in-loop-i : goal.overflow_add-v-in-loop-i
overflow_add-v-in-loop-i c = let g = c.well_formed in let w = prop-within c.loop-i.invariant c.if-s-i.false (place-name c.loop-i.invariant c.if-b-eq59.false c.if-b-eq40.false c.if-b-eq41.false) (sym c.ident_end.ensures ∙ c.in-Opens.is) (counted-all c.args.s.now _ c.count_values.ensures c.in-Some.is) in omega (arith, w.1, w.2)

pub loop-i-smaller : goal.loop-i-smaller
loop-i-smaller c = let w = prop-within c.loop-i.invariant c.if-s-i.false (place-name c.loop-i.invariant c.if-b-eq59.false c.if-b-eq40.false c.if-b-eq41.false) (sym c.ident_end.ensures ∙ c.in-Opens.is) (counted-all c.args.s.now _ c.count_values.ensures c.in-Some.is) in omega (arith, w.0, w.1)

pub loop-i-preserved : goal.loop-i-preserved
loop-i-preserved c = place_prop c.loop-i.invariant c.if-s-i.false (place-name c.loop-i.invariant c.if-b-eq59.false c.if-b-eq40.false c.if-b-eq41.false) (sym c.ident_end.ensures ∙ c.in-Opens.is) (counted-all c.args.s.now _ c.count_values.ensures c.in-Some.is) c.on_property-mode.ensures
