use Rattle.c_feed.proofs.Shown.{correct-shown}
use Rattle.sgf.proofs.feeds.sgf_correct.Goals as goal

pub returns : goal.returns
returns c = correct-shown c.apply-applied.ensures c.applied_in_c.ensures
