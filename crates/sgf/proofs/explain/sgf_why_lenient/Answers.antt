use Rattle.lists.proofs.Prelude.{ap, ◌∙◌}
use Rattle.c_why.specs.WhyInC.{why_in_c}
use Rattle.sgf.proofs.explain.sgf_why_lenient.Goals as goal

pub returns : goal.returns
returns c = c.why_in_c.ensures ∙ ap why_in_c c.lenient.ensures
