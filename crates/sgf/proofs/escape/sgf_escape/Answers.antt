use Rattle.lists.proofs.Prelude.{ap, ◌∙◌}
use Rattle.ask.specs.Ask.{display_for}
use Rattle.c_answers.specs.Structs.{display_in_c}
use Rattle.sgf.proofs.escape.sgf_escape.Goals as goal
use Rattle.std.specs.Prelude.{Option, ℕ}

pub returns : goal.returns
returns c = let escape = c.escape in
    record { is = c.value_in_c.ensures ∙ ap (λ (y : Option ℕ). display_in_c (display_for y)) escape.ensures.value; bytes = escape.ensures.out_after }
