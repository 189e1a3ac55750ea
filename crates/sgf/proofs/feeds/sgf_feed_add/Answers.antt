use Rattle.c_feed.proofs.Shown.{put-shown}
use Rattle.sgf.proofs.feeds.sgf_feed_add.Goals as goal

pub returns : goal.returns
returns c = put-shown c.put_correction.ensures c.made_in_c.ensures
