use Rattle.c_feed.proofs.Shown.{put-shown}
use Rattle.sgf.proofs.feeds.sgf_feed_begin.Goals as goal

pub returns : goal.returns
returns c = put-shown c.put_count.ensures c.made_in_c.ensures
