use Rattle.c_feed.specs.Parts.{part_in_c}
use Rattle.lists.proofs.Prelude.{ap, ◌∙◌}
use Rattle.sgf.proofs.feeds.sgf_corrected.Goals as goal

pub returns : goal.returns
returns c = c.part_in_c.ensures ∙ ap part_in_c c.look_up.ensures
