use Rattle.lists.proofs.Prelude.{sym, ◌∙◌}
use Rattle.lexer_scan.proofs.Scans.{ident-past, ident-here, ident-foreign, ident-on}
use Rattle.lexer_scan.proofs.ident_end.Goals as goal

pub returns-then-b-eq91 : goal.returns-then-b-eq91
returns-then-b-eq91 c = let s = c.args.s.now in
    sym (ident-here s _ c.loop-i-test.true c.if-b-eq91.true) ∙ c.loop-i.invariant

pub returns-then-b-ge128 : goal.returns-then-b-ge128
returns-then-b-ge128 c = let s = c.args.s.now in
    let l = c.loop-i in
    sym (ident-foreign s l.i c.loop-i-test.true c.if-b-ge128.true c.if-b-eq91.false) ∙ l.invariant

pub loop-i-preserved : goal.loop-i-preserved
loop-i-preserved c = let s = c.args.s.now in
    let l = c.loop-i in
    sym (ident-on s l.i c.loop-i-test.true c.if-b-ge128.false c.if-b-eq91.false) ∙ l.invariant

pub returns : goal.returns
returns c = sym (ident-past _ _ c.loop-i-test.false) ∙ c.loop-i.invariant
