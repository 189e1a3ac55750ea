use Rattle.c_feed.specs.Parts.{found_in_c}
use Rattle.lists.proofs.Prelude.{ap, ◌∙◌}
use Rattle.sgf.proofs.feeds.sgf_feed_find.Goals as goal

pub returns : goal.returns
returns c = c.found_in_c.ensures ∙ ap found_in_c c.find.ensures
