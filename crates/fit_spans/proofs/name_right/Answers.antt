use Rattle.fit_spans.proofs.Scans.{name-is}
use Rattle.lists.proofs.Prelude.{arith}
use Rattle.fit_spans.proofs.name_right.Goals as goal

pub slice_bounds-is_plain-count : goal.slice_bounds-is_plain-count
slice_bounds-is_plain-count c = omega (arith, c.wide-start.ensures, c.wide-end.ensures, c.requires.1, c.requires.2)

pub slice_bounds-is_plain-start : goal.slice_bounds-is_plain-start
slice_bounds-is_plain-start c = omega (arith, c.wide-start.ensures, c.wide-end.ensures, c.requires.1, c.requires.2)

pub slice_bounds-is_plain-end : goal.slice_bounds-is_plain-end
slice_bounds-is_plain-end c = omega (arith, c.wide-start.ensures, c.wide-end.ensures, c.requires.1, c.requires.2)

pub returns : goal.returns
returns c = name-is c.args.text.now c.args.properties.now c.args.k c.wide-start.ensures c.wide-end.ensures c.is_plain.ensures
