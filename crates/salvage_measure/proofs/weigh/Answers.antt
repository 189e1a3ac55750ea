use Rattle.salvage_measure.proofs.Texts.{measured-long, measured-bad, measured-blank, measured-kept, none_told, found-told, blank-weighed}
use Rattle.salvage_list.proofs.Texts.{listed-long, listed-bad, listed-blank, listed_kept}
use Rattle.text_utf8.proofs.Extent.{trim-bounds}
use Rattle.lists.proofs.Prelude.{arith, sym, ap, ◌∙◌, length, length-take-le}
use Rattle.salvage_measure.proofs.weigh.Goals as goal

pub returns-then-text-gt-TEXT_LIMIT : goal.returns-then-text-gt-TEXT_LIMIT
returns-then-text-gt-TEXT_LIMIT c = (record { result = c.together.ensures.0 ∙ measured-long c.args.text.now c.if-text-gt-TEXT_LIMIT.true; changes = c.together.ensures.1 ∙ ap length (sym (listed-long c.args.text.now c.if-text-gt-TEXT_LIMIT.true)) }, none_told c.args.text.now c.together.result c.together.ensures.4)

pub slice_bounds-weigh_tokens-end : goal.slice_bounds-weigh_tokens-end
slice_bounds-weigh_tokens-end c = let w = (trim-bounds c.args.text.now c.in-Kept.first c.in-Kept.last (sym c.trim.ensures ∙ c.in-Kept.is)) in let l = (length-take-le c.in-Kept.last c.args.text.now w.1) in omega (arith, w.1, l)

pub weigh_tokens-requires : goal.weigh_tokens-requires
weigh_tokens-requires c = let w = (trim-bounds c.args.text.now c.in-Kept.first c.in-Kept.last (sym c.trim.ensures ∙ c.in-Kept.is)) in let l = (length-take-le c.in-Kept.last c.args.text.now w.1) in let h = c.if-text-gt-TEXT_LIMIT.false in let w0 = w.0 in let w1 = w.1 in (omega (arith, w0, w1, l, h), omega (arith, w0, w1, l, h))

pub returns-in-NotUtf8 : goal.returns-in-NotUtf8
returns-in-NotUtf8 c = (record { result = c.together-in-NotUtf8.ensures.0 ∙ measured-bad c.args.text.now c.if-text-gt-TEXT_LIMIT.false c.trim.ensures c.in-NotUtf8.is; changes = c.together-in-NotUtf8.ensures.1 ∙ ap length (sym (listed-bad c.args.text.now c.if-text-gt-TEXT_LIMIT.false c.trim.ensures c.in-NotUtf8.is)) }, none_told c.args.text.now c.together-in-NotUtf8.result c.together-in-NotUtf8.ensures.4)

pub returns-in-Blank : goal.returns-in-Blank
returns-in-Blank c = (record { result = measured-blank c.args.text.now c.if-text-gt-TEXT_LIMIT.false c.trim.ensures c.in-Blank.is (blank-weighed c.together-in-Blank.result c.together-in-Blank.ensures.0 c.together-in-Blank.ensures.1).result; changes = (blank-weighed c.together-in-Blank.result c.together-in-Blank.ensures.0 c.together-in-Blank.ensures.1).changes ∙ ap length (sym (listed-blank c.args.text.now c.if-text-gt-TEXT_LIMIT.false c.trim.ensures c.in-Blank.is)) }, none_told c.args.text.now c.together-in-Blank.result c.together-in-Blank.ensures.4)

pub returns-in-Kept : goal.returns-in-Kept
returns-in-Kept c = (record { result = measured-kept c.args.text.now c.if-text-gt-TEXT_LIMIT.false c.trim.ensures c.in-Kept.is c.weigh_tokens.ensures.0.result; changes = c.weigh_tokens.ensures.0.changes ∙ ap length (sym (listed_kept c.args.text.now c.if-text-gt-TEXT_LIMIT.false c.trim.ensures c.in-Kept.is)) }, found-told c.args.text.now c.if-text-gt-TEXT_LIMIT.false c.trim.ensures c.in-Kept.is c.weigh_tokens.result c.weigh_tokens.ensures.1)
