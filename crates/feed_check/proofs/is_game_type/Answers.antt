use Rattle.lists.proofs.Prelude.{sym, ap, ap₂, ◌∙◌, ◌&&◌, arith, lt-ltb, le-ltb, slice}
use Rattle.lists.specs.Same.{same}
use Rattle.parser.specs.Game.{GM}
use Rattle.tables.specs.Columns.{name_from_at, name_to_at}
use Rattle.fit_spans.proofs.Lists.{part_slice}
use Rattle.feed_check.proofs.is_game_type.Goals as goal

pub returns-then-n-p : goal.returns-then-n-p
returns-then-n-p c = let a = c.args in
    sym (ap (λ x. x && same (slice (name_from_at a.properties.now a.p) (name_to_at a.properties.now a.p) a.text.now) GM) (le-ltb a.p a.n c.if-n-p.true))

pub slice_bounds-is_gm-count : goal.slice_bounds-is_gm-count
slice_bounds-is_gm-count c = let h = c.requires.1 _ c.if-n-p.false in
    omega (arith, h, c.wide-start.ensures, c.wide-end.ensures)

pub slice_bounds-is_gm-start : goal.slice_bounds-is_gm-start
slice_bounds-is_gm-start c = let h = c.requires.1 _ c.if-n-p.false in
    omega (arith, h, c.wide-start.ensures, c.wide-end.ensures)

pub slice_bounds-is_gm-end : goal.slice_bounds-is_gm-end
slice_bounds-is_gm-end c = let h = c.requires.1 _ c.if-n-p.false in
    omega (arith, h, c.wide-start.ensures, c.wide-end.ensures)

pub returns : goal.returns
returns c = let a = c.args in
    c.is_gm.ensures
    ∙ ap (λ z. same z GM) (part_slice c.wide-start.result c.wide-end.result a.text.now ∙ ap₂ (λ x y. slice x y a.text.now) c.wide-start.ensures c.wide-end.ensures)
    ∙ sym (ap (λ x. x && same (slice (name_from_at a.properties.now a.p) (name_to_at a.properties.now a.p) a.text.now) GM) (lt-ltb a.p a.n c.if-n-p.false))
