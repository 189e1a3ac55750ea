use Rattle.ask.proofs.Shows.{go-is}
use Rattle.ask.proofs.value_of.Goals as goal

pub returns : goal.returns
returns c = let a = c.args in let p = a.properties.now in let v = a.values.now in let t = a.text.now in go-is a.rule t p v a.p c.wide-start.ensures c.wide-end.ensures c.wide-first.ensures c.wide-count.ensures c.go_value.ensures
