use Rattle.c_feed.specs.Parts.{check_in_c}
use Rattle.lists.proofs.Prelude.{ap, ◌∙◌}
use Rattle.sgf.proofs.feeds.sgf_feed_check.Goals as goal

pub returns : goal.returns
returns c = c.check_in_c.ensures ∙ ap check_in_c c.check_feed.ensures
