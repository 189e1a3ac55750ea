use Rattle.lists.proofs.Prelude.{ℕ, sym, ap, ◌∙◌, List, [], ◌∷◌, arith, length, slice, length-slice}
use Rattle.lexer_scan.proofs.Bounds.{value-is}
use Rattle.parser_game.proofs.GameValues.{part-is}
use Rattle.serialize_values.specs.LocalsForm.{form_by, raws_text}
use Rattle.salvage_form.proofs.Scanned.{raws-more, raws-shut}
use Rattle.salvage_form.proofs.Lengths.{length_none, length-many}
use borrow.Enum.Refused.{opened}
use Rattle.salvage_form.proofs.one_length.Goals as goal

pub returns-in_default : goal.returns-in_default
returns-in_default c = (length_none c.args.rule c.args.shape c.requires.1 (raws-shut c.args.s.now c.args.k c.next_value.ensures (opened c.in_default.in_default-own.keys2)), omega arith)

pub slice_bounds-alone_length-count : goal.slice_bounds-alone_length-count
slice_bounds-alone_length-count c = let w = (value-is c.args.s.now _ _ _ _ (sym c.next_value.ensures ∙ c.in-Value.is)) in let f = w.from in let g = w.forward in let i = w.inside in let o = w.on in let t = w.still in omega arith

pub slice_bounds-alone_length-start : goal.slice_bounds-alone_length-start
slice_bounds-alone_length-start c = let w = (value-is c.args.s.now _ _ _ _ (sym c.next_value.ensures ∙ c.in-Value.is)) in let f = w.from in let g = w.forward in let i = w.inside in let o = w.on in let t = w.still in omega arith

pub slice_bounds-alone_length-end : goal.slice_bounds-alone_length-end
slice_bounds-alone_length-end c = let w = (value-is c.args.s.now _ _ _ _ (sym c.next_value.ensures ∙ c.in-Value.is)) in let f = w.from in let g = w.forward in let i = w.inside in let o = w.on in let t = w.still in omega arith

pub alone_length-requires : goal.alone_length-requires
alone_length-requires c = (let p = c.requires.0 in let q = ap length (part-is c.args.s.now c.in-Value.a c.in-Value.e (value-is c.args.s.now _ _ _ _ (sym c.next_value.ensures ∙ c.in-Value.is)).forward (let w = (value-is c.args.s.now _ _ _ _ (sym c.next_value.ensures ∙ c.in-Value.is)) in let f = w.from in let g = w.forward in let i = w.inside in let o = w.on in let t = w.still in omega arith)) in let l = length-slice c.in-Value.a c.in-Value.e c.args.s.now (let w = (value-is c.args.s.now _ _ _ _ (sym c.next_value.ensures ∙ c.in-Value.is)) in let f = w.from in let g = w.forward in let i = w.inside in let o = w.on in let t = w.still in omega arith) in let w = (value-is c.args.s.now _ _ _ _ (sym c.next_value.ensures ∙ c.in-Value.is)) in let f = w.from in let g = w.forward in let i = w.inside in let o = w.on in let t = w.still in omega arith, c.requires.1)

pub returns-in_default-next_value : goal.returns-in_default-next_value
returns-in_default-next_value c = (c.alone_length.ensures.0 ∙ ap (λ (z : List (List ℕ)). length (raws_text (form_by c.args.rule c.args.shape z))) (ap (λ (z : List ℕ). z ∷ []) (part-is c.args.s.now c.in-Value.a c.in-Value.e (value-is c.args.s.now _ _ _ _ (sym c.next_value.ensures ∙ c.in-Value.is)).forward (let w = (value-is c.args.s.now _ _ _ _ (sym c.next_value.ensures ∙ c.in-Value.is)) in let f = w.from in let g = w.forward in let i = w.inside in let o = w.on in let t = w.still in omega arith)) ∙ sym ((raws-more c.args.s.now c.args.k _ _ _ c.next_value.ensures c.in-Value.is) ∙ ap (λ (z : List (List ℕ)). slice c.in-Value.a c.in-Value.e c.args.s.now ∷ z) (raws-shut c.args.s.now _ c.next_value-2.ensures (opened c.in_default-next_value.in_default-next_value-own.keys2)))), c.alone_length.ensures.1)

pub returns : goal.returns
returns c = let b = c.raw_length.ensures.1 in let p = c.requires.0 in (length-many c.args.rule c.args.shape c.requires.1 _ _ _ ((raws-more c.args.s.now c.args.k _ _ _ c.next_value.ensures c.in-Value.is) ∙ ap (λ (z : List (List ℕ)). slice c.in-Value.a c.in-Value.e c.args.s.now ∷ z) (raws-more c.args.s.now _ _ _ _ c.next_value-2.ensures c.in-Value-next_value.is)) c.raw_length.ensures.0, omega arith)
