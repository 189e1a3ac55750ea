use Rattle.lists.proofs.Prelude.{◌+◌, ◌-◌, ◌≡◌, arith, not-false}
use Rattle.lexer_close.specs.LocalsRun.{LeadsTo}
use Rattle.lexer_close.proofs.Leads.{leads-none, leads-on, leads-block}
use Rattle.lexer_close.proofs.runs.past_plain.Goals as goal

pub returns-then-s-from-lt16 : goal.returns-then-s-from-lt16
returns-then-s-from-lt16 c = leads-none _ _ c.requires

pub returns-then-not-all_plain : goal.returns-then-not-all_plain
returns-then-not-all_plain c = leads-none _ _ c.requires

pub returns-then-i-from-lt64 : goal.returns-then-i-from-lt64
returns-then-i-from-lt64 c = let a = c.args in
    let n : a.from + 16 - a.from ≡ 16 = omega arith in
    let h : LeadsTo a.s.now a.from (a.from + 16) =
    leads-block _ _ a.s.now a.from n (omega (arith, c.if-s-from-lt16.false, c.requires)) (c.all_plain.ensures (not-false _ c.if-not-all_plain.false-raw)) in
    leads-on h c.past_blocks-i.ensures.0

pub returns : goal.returns
returns c = let a = c.args in
    let n : a.from + 16 - a.from ≡ 16 = omega arith in
    let h : LeadsTo a.s.now a.from (a.from + 16) =
    leads-block _ _ a.s.now a.from n (omega (arith, c.if-s-from-lt16.false, c.requires)) (c.all_plain.ensures (not-false _ c.if-not-all_plain.false-raw)) in
    leads-on h (leads-on c.past_blocks-i.ensures.0 c.past_blocks.ensures.0)
