use Rattle.lists.proofs.Prelude.{arith, sym, ◌∙◌, length-take-le}
use Rattle.reader.proofs.Simple.{known-long, known-short}
use Rattle.text_utf8.proofs.Extent.{trim-bounds}
use Rattle.reader.proofs.known_text.Goals as goal

pub returns-then-text-gt-TEXT_LIMIT : goal.returns-then-text-gt-TEXT_LIMIT
returns-then-text-gt-TEXT_LIMIT c = known-long c.args.text.now c.if-text-gt-TEXT_LIMIT.true

pub slice_bounds-known_part-end : goal.slice_bounds-known_part-end
slice_bounds-known_part-end c = let w = trim-bounds c.args.text.now c.in-Kept.first c.in-Kept.last (sym c.trim.ensures ∙ c.in-Kept.is) in let l = length-take-le c.in-Kept.last c.args.text.now w.1 in omega arith

pub returns-in-NotUtf8 : goal.returns-in-NotUtf8
returns-in-NotUtf8 c = known-short c.args.text.now c.if-text-gt-TEXT_LIMIT.false c.trim.ensures c.in-NotUtf8.is

pub returns-in-Blank : goal.returns-in-Blank
returns-in-Blank c = known-short c.args.text.now c.if-text-gt-TEXT_LIMIT.false c.trim.ensures c.in-Blank.is

pub returns-in-Kept : goal.returns-in-Kept
returns-in-Kept c = c.known_part.ensures ∙ known-short c.args.text.now c.if-text-gt-TEXT_LIMIT.false c.trim.ensures c.in-Kept.is
