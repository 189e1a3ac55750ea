use Rattle.salvage_list.proofs.Texts.{listed-long, listed-bad, listed-blank, listed_kept}
use Rattle.salvage_list.proofs.Puts.{puts-as, puts_none}
use Rattle.text_utf8.proofs.Extent.{trim-bounds}
use Rattle.lists.proofs.Prelude.{arith, sym, ◌∙◌, length-take-le}
use Rattle.salvage_list.proofs.put_all.Goals as goal

pub returns-then-text-gt-TEXT_LIMIT : goal.returns-then-text-gt-TEXT_LIMIT
returns-then-text-gt-TEXT_LIMIT c = puts-as (puts_none _ 0) (sym (listed-long c.args.text.now c.if-text-gt-TEXT_LIMIT.true))

pub slice_bounds-put_tokens-end-in-Kept : goal.slice_bounds-put_tokens-end-in-Kept
slice_bounds-put_tokens-end-in-Kept c = let w = (trim-bounds c.args.text.now c.in-Kept.first c.in-Kept.last (sym c.trim.ensures ∙ c.in-Kept.is)) in let l = (length-take-le c.in-Kept.last c.args.text.now w.1) in omega arith

pub put_tokens-requires-in-Kept : goal.put_tokens-requires-in-Kept
put_tokens-requires-in-Kept c = let w = (trim-bounds c.args.text.now c.in-Kept.first c.in-Kept.last (sym c.trim.ensures ∙ c.in-Kept.is)) in let l = (length-take-le c.in-Kept.last c.args.text.now w.1) in let h = c.if-text-gt-TEXT_LIMIT.false in (omega arith, omega arith)

pub returns-in-NotUtf8 : goal.returns-in-NotUtf8
returns-in-NotUtf8 c = puts-as (puts_none _ 0) (sym (listed-bad c.args.text.now c.if-text-gt-TEXT_LIMIT.false c.trim.ensures c.in-NotUtf8.is))

pub returns-in-Blank : goal.returns-in-Blank
returns-in-Blank c = puts-as c.put_tokens.ensures (sym (listed-blank c.args.text.now c.if-text-gt-TEXT_LIMIT.false c.trim.ensures c.in-Blank.is))

pub returns-in-Kept : goal.returns-in-Kept
returns-in-Kept c = puts-as c.put_tokens-in-Kept.ensures (sym (listed_kept c.args.text.now c.if-text-gt-TEXT_LIMIT.false c.trim.ensures c.in-Kept.is))
