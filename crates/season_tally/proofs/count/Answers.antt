use Rattle.lists.proofs.Prelude.{rules}
use Rattle.tables.specs.Memory.{memory}
use Rattle.fit.proofs.Clauses.{fit-clauses}
use Rattle.season_tally.proofs.Walk.{tally-is}
use Rattle.season_tally.proofs.Tagging.{tags-all}
use Rattle.season_tally.proofs.count.Goals as goal

pub slice_bounds-tag_on-count : goal.slice_bounds-tag_on-count
slice_bounds-tag_on-count c = let w = c.count_moves-all.ensures.1.within in search rules

pub slice_bounds-tag_on-start : goal.slice_bounds-tag_on-start
slice_bounds-tag_on-start c = let w = c.count_moves-all.ensures.1.within in search rules

pub slice_bounds-tag_on-end : goal.slice_bounds-tag_on-end
slice_bounds-tag_on-end c = let w = c.count_moves-all.ensures.1.within in search rules

pub returns : goal.returns
returns c = let a = c.args in
    let g = c.count_moves-all in
    (tally-is (fit-clauses (memory a.text.now a.used a.counts a.trees.now a.nodes.now a.properties.now a.values.now) c.requires) g.result.moves g.ensures.0, tags-all a.bytes.now g.ensures.1 c.tag_on.ensures)
