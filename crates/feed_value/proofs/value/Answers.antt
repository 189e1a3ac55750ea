use Rattle.lists.proofs.Prelude.{sym, ap, ◌∙◌, arith}
use Rattle.tables.specs.Memory.{memory}
use Rattle.fit_spans.proofs.Lists.{part_slice}
use Rattle.feed_value.specs.Look.{handed_out}
use Rattle.feed_value.proofs.Looking.{record-inside, feed-inside}
use Rattle.feed_value.proofs.value.Goals as goal

pub slice_bounds-result-count : goal.slice_bounds-result-count
slice_bounds-result-count c = let a = c.args in
    let m = memory a.text.now a.used a.counts a.trees.now a.nodes.now a.properties.now a.values.now in
    let h = record-inside m a.feed.now a.k c.in-Record.start c.in-Record.end (sym c.look_up.ensures ∙ c.in-Record.is) in
    omega (arith, h.0, h.1)

pub slice_bounds-result-start : goal.slice_bounds-result-start
slice_bounds-result-start c = let a = c.args in
    let m = memory a.text.now a.used a.counts a.trees.now a.nodes.now a.properties.now a.values.now in
    let h = record-inside m a.feed.now a.k c.in-Record.start c.in-Record.end (sym c.look_up.ensures ∙ c.in-Record.is) in
    omega (arith, h.0, h.1)

pub slice_bounds-result-end : goal.slice_bounds-result-end
slice_bounds-result-end c = let a = c.args in
    let m = memory a.text.now a.used a.counts a.trees.now a.nodes.now a.properties.now a.values.now in
    let h = record-inside m a.feed.now a.k c.in-Record.start c.in-Record.end (sym c.look_up.ensures ∙ c.in-Record.is) in
    omega (arith, h.0, h.1)

pub slice_bounds-result-count-in-Feed : goal.slice_bounds-result-count-in-Feed
slice_bounds-result-count-in-Feed c = let a = c.args in
    let m = memory a.text.now a.used a.counts a.trees.now a.nodes.now a.properties.now a.values.now in
    let h = feed-inside m a.feed.now a.k c.in-Feed.start c.in-Feed.end (sym c.look_up.ensures ∙ c.in-Feed.is) in
    omega (arith, h.0, h.1)

pub slice_bounds-result-start-in-Feed : goal.slice_bounds-result-start-in-Feed
slice_bounds-result-start-in-Feed c = let a = c.args in
    let m = memory a.text.now a.used a.counts a.trees.now a.nodes.now a.properties.now a.values.now in
    let h = feed-inside m a.feed.now a.k c.in-Feed.start c.in-Feed.end (sym c.look_up.ensures ∙ c.in-Feed.is) in
    omega (arith, h.0, h.1)

pub slice_bounds-result-end-in-Feed : goal.slice_bounds-result-end-in-Feed
slice_bounds-result-end-in-Feed c = let a = c.args in
    let m = memory a.text.now a.used a.counts a.trees.now a.nodes.now a.properties.now a.values.now in
    let h = feed-inside m a.feed.now a.k c.in-Feed.start c.in-Feed.end (sym c.look_up.ensures ∙ c.in-Feed.is) in
    omega (arith, h.0, h.1)

pub returns-in-Record : goal.returns-in-Record
returns-in-Record c = let a = c.args in
    let m = memory a.text.now a.used a.counts a.trees.now a.nodes.now a.properties.now a.values.now in
    part_slice c.in-Record.start c.in-Record.end a.text.now ∙ ap (handed_out a.text.now a.feed.now) (sym c.in-Record.is ∙ c.look_up.ensures)

pub returns-in-Feed : goal.returns-in-Feed
returns-in-Feed c = let a = c.args in
    let m = memory a.text.now a.used a.counts a.trees.now a.nodes.now a.properties.now a.values.now in
    part_slice c.in-Feed.start c.in-Feed.end a.feed.now ∙ ap (handed_out a.text.now a.feed.now) (sym c.in-Feed.is ∙ c.look_up.ensures)

pub returns-in-Refused : goal.returns-in-Refused
returns-in-Refused c = let a = c.args in
    ap (handed_out a.text.now a.feed.now) (sym c.in-Refused.is ∙ c.look_up.ensures)
