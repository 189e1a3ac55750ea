use Rattle.ask.proofs.Shows.{part-shown, part-shown-in}
use Rattle.ask.specs.Ask.{display, display_in}
use Rattle.ask_value.proofs.Inside.{access-inside}
use Rattle.lists.proofs.Prelude.{arith, sym, ap, ◌∙◌}
use Rattle.tables.specs.Memory.{memory}
use Rattle.ask.proofs.display.Goals as goal

pub slice_bounds-display_raw-count : goal.slice_bounds-display_raw-count
slice_bounds-display_raw-count c = let a = c.args in let h = access-inside (memory a.text.now a.used a.counts a.trees.now a.nodes.now a.properties.now a.values.now) a.k _ _ (sym c.access.ensures ∙ c.in-Ok.is) in omega arith

pub slice_bounds-display_raw-start : goal.slice_bounds-display_raw-start
slice_bounds-display_raw-start c = let a = c.args in let h = access-inside (memory a.text.now a.used a.counts a.trees.now a.nodes.now a.properties.now a.values.now) a.k _ _ (sym c.access.ensures ∙ c.in-Ok.is) in omega arith

pub slice_bounds-display_raw-end : goal.slice_bounds-display_raw-end
slice_bounds-display_raw-end c = let a = c.args in let h = access-inside (memory a.text.now a.used a.counts a.trees.now a.nodes.now a.properties.now a.values.now) a.k _ _ (sym c.access.ensures ∙ c.in-Ok.is) in omega arith

pub returns-in-Ok : goal.returns-in-Ok
returns-in-Ok c = let a = c.args in record { is = c.display_raw.ensures.value ∙ part-shown a.text.now a.out.now a.kind (sym c.access.ensures ∙ c.in-Ok.is); bytes = c.display_raw.ensures.out_after ∙ part-shown-in a.text.now a.out.now a.kind (sym c.access.ensures ∙ c.in-Ok.is) }

pub returns-in-Err : goal.returns-in-Err
returns-in-Err c = let a = c.args in record { is = ap (λ z. display a.text.now z a.kind a.out.now) (sym c.in-Err.is ∙ c.access.ensures); bytes = ap (λ z. display_in a.text.now z a.kind a.out.now) (sym c.in-Err.is ∙ c.access.ensures) }
