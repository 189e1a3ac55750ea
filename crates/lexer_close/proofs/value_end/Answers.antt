use Rattle.lists.proofs.Prelude.{◌+◌, ap, sym, ◌∙◌, Bool, not, arith, eqb, leb, drop, get_or, rules, not-true}
use Rattle.lists.proofs.Tests.{and_both}
use Rattle.lexer_close.proofs.Steps.{close-past, close-escaped, close-here, close-on}
use Rattle.lexer_close.specs.Close.{close_from}
use Rattle.lexer_close.proofs.value_end.Goals as goal

pub returns-then-s-from : goal.returns-then-s-from
returns-then-s-from c = sym (close-past _ _ _ c.if-s-from.true)

pub past_short-i-requires : goal.past_short-i-requires
past_short-i-requires c = let h = c.if-s-from.false in omega arith

pub loop-i-init : goal.loop-i-init
loop-i-init c = c.past_short-i.ensures.same

pub past_plain-i-requires : goal.past_plain-i-requires
past_plain-i-requires c = let h = c.if-s-i.false in omega arith

pub overflow_add-again : goal.overflow_add-again
overflow_add-again c = let h = c.past_plain-i.ensures.inside in search rules

pub loop-i-smaller-then-escaped : goal.loop-i-smaller-then-escaped
loop-i-smaller-then-escaped c = let h = c.past_plain-i.ensures.order in
    let l = c.if-s-i.false in
    omega arith

pub loop-i-preserved-then-escaped : goal.loop-i-preserved-then-escaped
loop-i-preserved-then-escaped c = let s = c.args.s.now in
    let i = c.loop-i.i in
    c.past_plain-i.ensures.same
    ∙ sym (close-escaped s i c.if-s-i.false)
    ∙ ap (λ (e : Bool). close_from e i (drop i s)) (sym c.if-escaped.true)
    ∙ c.loop-i.invariant

pub past_plain-i-requires-then-again-i : goal.past_plain-i-requires-then-again-i
past_plain-i-requires-then-again-i c = let h = c.if-s-i.false in omega arith

pub overflow_add-again-then-again-i : goal.overflow_add-again-then-again-i
overflow_add-again-then-again-i c = let h = c.past_plain-i-then-again-i.ensures.inside in search rules

pub loop-i-smaller-then-again-i : goal.loop-i-smaller-then-again-i
loop-i-smaller-then-again-i c = let h = c.past_plain-i-then-again-i.ensures.order in
    let l = c.if-s-i.false in
    omega arith

pub loop-i-preserved-then-again-i : goal.loop-i-preserved-then-again-i
loop-i-preserved-then-again-i c = let s = c.args.s.now in
    let i = c.loop-i.i in
    let x = eqb (get_or s i 0) 0x5c in
    let n = not-true x (and_both (leb c.loop-i.again (i + 1)) (not x) c.if-again-i.true).1 in
    let r = c.past_plain-i-then-again-i.result in
    ap (λ (e : Bool). close_from e r (drop r s)) n
    ∙ c.past_plain-i-then-again-i.ensures.same
    ∙ ap (λ (e : Bool). close_from e (i + 1) (drop (i + 1) s)) (sym n)
    ∙ sym (close-on s i c.if-s-i.false c.if-b-eq93.false)
    ∙ ap (λ (e : Bool). close_from e i (drop i s)) (sym c.if-escaped.false)
    ∙ c.loop-i.invariant

pub loop-i-preserved : goal.loop-i-preserved
loop-i-preserved c = let s = c.args.s.now in
    let i = c.loop-i.i in
    sym (close-on s i c.if-s-i.false c.if-b-eq93.false)
    ∙ ap (λ (e : Bool). close_from e i (drop i s)) (sym c.if-escaped.false)
    ∙ c.loop-i.invariant

pub returns-then-s-i : goal.returns-then-s-i
returns-then-s-i c = sym (close-past _ _ _ c.if-s-i.true) ∙ c.loop-i.invariant

pub returns-then-b-eq93 : goal.returns-then-b-eq93
returns-then-b-eq93 c = let s = c.args.s.now in
    let l = c.loop-i in
    sym (close-here s l.i c.if-s-i.false c.if-b-eq93.true)
    ∙ ap (λ (e : Bool). close_from e l.i (drop l.i s)) (sym c.if-escaped.false)
    ∙ l.invariant
