use Rattle.lists.proofs.Prelude.{arith, sym, ◌∙◌, length-take-le}
use Rattle.text_utf8.proofs.Extent.{trim-bounds}
use Rattle.why.proofs.Texts.{text-long, text-short}
use Rattle.why.proofs.Seeking.{kept-sought, blank-sought}
use Rattle.why.proofs.in_text.Goals as goal

pub returns-then-text-gt-TEXT_LIMIT : goal.returns-then-text-gt-TEXT_LIMIT
returns-then-text-gt-TEXT_LIMIT c = text-long c.args.lenient c.args.text.now c.if-text-gt-TEXT_LIMIT.true

pub in_tokens-requires : goal.in_tokens-requires
in_tokens-requires c = (omega arith, omega arith)

pub slice_bounds-in_part-end : goal.slice_bounds-in_part-end
slice_bounds-in_part-end c = let w = trim-bounds c.args.text.now c.in-Kept.first c.in-Kept.last (sym c.trim.ensures ∙ c.in-Kept.is) in let l = length-take-le c.in-Kept.last c.args.text.now w.1 in omega arith

pub in_part-requires : goal.in_part-requires
in_part-requires c = let w = trim-bounds c.args.text.now c.in-Kept.first c.in-Kept.last (sym c.trim.ensures ∙ c.in-Kept.is) in let l = length-take-le c.in-Kept.last c.args.text.now w.1 in let h = c.if-text-gt-TEXT_LIMIT.false in (omega arith, omega arith)

pub returns-in-NotUtf8 : goal.returns-in-NotUtf8
returns-in-NotUtf8 c = text-short c.args.lenient c.args.text.now c.if-text-gt-TEXT_LIMIT.false (sym c.trim.ensures ∙ c.in-NotUtf8.is)

pub returns-in-Blank : goal.returns-in-Blank
returns-in-Blank c = blank-sought c.args.lenient c.args.text.now c.if-text-gt-TEXT_LIMIT.false (sym c.trim.ensures ∙ c.in-Blank.is) c.in_tokens.ensures

pub returns-in-Kept : goal.returns-in-Kept
returns-in-Kept c = kept-sought c.args.lenient c.args.text.now c.if-text-gt-TEXT_LIMIT.false (sym c.trim.ensures ∙ c.in-Kept.is) c.in_part.ensures
