use Rattle.ask_simple.proofs.Answers.{simple-is}
use Rattle.ask_simple.proofs.value_of.Goals as goal

pub returns : goal.returns
returns c = let a = c.args in let p = a.properties.now in let v = a.values.now in let t = a.text.now in simple-is a.game t p v a.p c.wide-start.ensures c.wide-end.ensures c.wide-first.ensures c.wide-count.ensures c.simple_value.ensures
