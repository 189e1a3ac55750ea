use Rattle.lists.proofs.Prelude.{sym, ◌∙◌, arith, not-false}
use Rattle.lexer_close.proofs.Leads.{leads-on, leads_one}
use Rattle.lexer_close.proofs.runs.past_short.Goals as goal

pub loop-i-preserved : goal.loop-i-preserved
loop-i-preserved c = let i = c.loop-i.i in
    leads-on c.loop-i.invariant (leads_one c.args.s.now i (omega arith) (sym c.is_plain.ensures ∙ not-false _ c.if-not-is_plain.false-raw))
