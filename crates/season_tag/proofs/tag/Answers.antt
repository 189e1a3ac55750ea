use Rattle.season_tag.specs.Tag.{tag_of}
use Rattle.season_tag.proofs.tag.Goals as goal

pub returns : goal.returns
unfolding tag_of
returns c = c.tag_on.ensures
