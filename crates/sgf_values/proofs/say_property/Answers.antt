use Rattle.lists.proofs.Prelude.{arith}
use Rattle.sgf_values.proofs.say_property.Goals as goal

pub overflow_add-first : goal.overflow_add-first
overflow_add-first c = omega (arith, c.property_cell-first.ensures, c.property_cell-count.ensures)
