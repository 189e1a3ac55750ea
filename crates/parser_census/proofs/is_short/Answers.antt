use Rattle.lists.proofs.Prelude.{false≢true, arith}
use Rattle.parser_census.proofs.Places.{short-is}
use Rattle.parser_census.proofs.is_short.Goals as goal

pub returns-then-s-i-lt6 : goal.returns-then-s-i-lt6
returns-then-s-i-lt6 c = λ e. absurd (false≢true e)

pub returns : goal.returns
returns c = let t = c.if-s-i-lt6.false in let a = c.args in λ e. short-is a.s.now a.i (omega (arith, c.requires.0)) c.requires.1 c.is_plain.ensures c.is_plain-2.ensures e
