use Rattle.lists.proofs.Prelude.{sym, ap, ◌∙◌, arith}
use Rattle.ask_value.specs.Access.{handed}
use Rattle.ask_value.proofs.Inside.{access-inside, part-handed}
use Rattle.tables.specs.Memory.{memory}
use Rattle.ask_value.proofs.value.Goals as goal

pub slice_bounds-result-count : goal.slice_bounds-result-count
slice_bounds-result-count c = let a = c.args in let h = access-inside (memory a.text.now a.used a.counts a.trees.now a.nodes.now a.properties.now a.values.now) a.k _ _ (sym c.access.ensures ∙ c.in-Ok.is) in omega arith

pub slice_bounds-result-start : goal.slice_bounds-result-start
slice_bounds-result-start c = let a = c.args in let h = access-inside (memory a.text.now a.used a.counts a.trees.now a.nodes.now a.properties.now a.values.now) a.k _ _ (sym c.access.ensures ∙ c.in-Ok.is) in omega arith

pub slice_bounds-result-end : goal.slice_bounds-result-end
slice_bounds-result-end c = let a = c.args in let h = access-inside (memory a.text.now a.used a.counts a.trees.now a.nodes.now a.properties.now a.values.now) a.k _ _ (sym c.access.ensures ∙ c.in-Ok.is) in omega arith

pub returns-in-Ok : goal.returns-in-Ok
returns-in-Ok c = let a = c.args in part-handed a.text.now (sym c.access.ensures ∙ c.in-Ok.is)

pub returns-in-Err : goal.returns-in-Err
returns-in-Err c = let a = c.args in ap (handed a.text.now) (sym c.in-Err.is ∙ c.access.ensures)
