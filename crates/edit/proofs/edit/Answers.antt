use Rattle.edit.proofs.Given.{given, given-replaceable, given-new, given-end, edit-refused, edit-given}
use Rattle.edit.proofs.Beside.{names_apart, values-apart}
use Rattle.fit.proofs.Whole.{fit-lent as fit-held}
use Rattle.lists.proofs.Prelude.{arith, sym, ◌∙◌}
use Rattle.tables.specs.Memory.{memory}
use Rattle.edit.proofs.edit.Goals as goal

pub span_of-span-requires : goal.span_of-span-requires
span_of-span-requires c = let a = c.args in let m = memory a.text.now a.used a.counts a.trees.now a.nodes.now a.properties.now a.values.now in let x = given m a.k a.new.now _ (sym c.in-Ok.is ∙ c.answer.ensures) in let h = (fit-held m x.fit).1.values in omega (arith, x.below)

pub move_properties-requires : goal.move_properties-requires
move_properties-requires c = let a = c.args in let m = memory a.text.now a.used a.counts a.trees.now a.nodes.now a.properties.now a.values.now in let x = given m a.k a.new.now _ (sym c.in-Ok.is ∙ c.answer.ensures) in let s = c.span_of-span.ensures in ((fit-held m x.fit).1.properties, names_apart m x.fit a.k x.below s.0 s.1, omega (arith, s.0, s.1, (given-replaceable m a.k a.new.now x).within.order), omega (arith, s.1, given-end m a.k a.new.now x), given-new m a.k a.new.now x)

pub move_values-requires : goal.move_values-requires
move_values-requires c = let a = c.args in let m = memory a.text.now a.used a.counts a.trees.now a.nodes.now a.properties.now a.values.now in let x = given m a.k a.new.now _ (sym c.in-Ok.is ∙ c.answer.ensures) in let s = c.span_of-span.ensures in ((fit-held m x.fit).1.values, x.below, values-apart m x.fit a.k x.below s.0 s.1, omega (arith, s.0, s.1, (given-replaceable m a.k a.new.now x).within.order), omega (arith, s.1, given-end m a.k a.new.now x), given-new m a.k a.new.now x)

pub returns-in-Err : goal.returns-in-Err
returns-in-Err c = edit-refused _ _ _ (sym c.in-Err.is ∙ c.answer.ensures)

pub returns-in-Ok : goal.returns-in-Ok
returns-in-Ok c = let a = c.args in let m = memory a.text.now a.used a.counts a.trees.now a.nodes.now a.properties.now a.values.now in let x = given m a.k a.new.now _ (sym c.in-Ok.is ∙ c.answer.ensures) in let s = c.span_of-span.ensures in edit-given m a.k a.new.now x s.0 s.1 c.replace.ensures c.move_properties.ensures c.move_values.ensures
