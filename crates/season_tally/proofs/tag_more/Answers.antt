use Rattle.lists.proofs.Prelude.{arith, rules}
use Rattle.season_tally.proofs.Tagging.{tags-more}
use Rattle.season_tally.proofs.tag_more.Goals as goal

pub overflow_sub-bytes : goal.overflow_sub-bytes
overflow_sub-bytes c = let w = c.requires.within in search rules

pub returns-then-bytes-at-lt8 : goal.returns-then-bytes-at-lt8
returns-then-bytes-at-lt8 c = c.requires

pub overflow_add-to : goal.overflow_add-to
overflow_add-to c = let w = c.requires.within in search rules

pub slice_bounds-tag_on-count : goal.slice_bounds-tag_on-count
slice_bounds-tag_on-count c = let w = c.requires.within in search rules

pub slice_bounds-tag_on-start : goal.slice_bounds-tag_on-start
slice_bounds-tag_on-start c = let w = c.requires.within in search rules

pub slice_bounds-tag_on-end : goal.slice_bounds-tag_on-end
slice_bounds-tag_on-end c = let w = c.requires.within in search rules

pub returns : goal.returns
returns c = let w = c.requires.within in
    tags-more c.args.bytes.now c.requires _ (omega arith) (omega arith) c.tag_on.ensures
