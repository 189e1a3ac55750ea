use Rattle.lists.proofs.Prelude.{◌+◌, ◌-◌, ◌≡◌, arith, not-false}
use Rattle.lexer_close.proofs.Leads.{leads-on, leads-block}
use Rattle.lexer_close.proofs.runs.past_blocks.Goals as goal

pub loop-i-preserved : goal.loop-i-preserved
loop-i-preserved g c = let i = c.loop-i.i in
    let n : i + g.row.N - i ≡ g.row.N = omega arith in (
      leads-on c.loop-i.invariant.0 (leads-block _ _ c.args.s.now i n (omega arith) (c.all_plain.ensures (not-false _ c.if-not-all_plain.false-raw))),
      omega arith,
    )
