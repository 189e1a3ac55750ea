use Rattle.lists.proofs.Prelude.{ℕ, ◌+◌, ap, ap₂, ◌∙◌, List, arith, length, length-slice}
use Rattle.values.specs.Read.{read_identifier}
use Rattle.go.specs.Normal.{normal}
use Rattle.parser_game.proofs.GameValues.{part-is}
use Rattle.serialize_values.specs.LocalsForm.{raws_text}
use Rattle.salvage_form.specs.Measured.{raws_at}
use Rattle.salvage_form.specs.LocalsMeasured.{form_length}
use Rattle.salvage_form.proofs.form_length.Goals as goal

pub values_length-requires : goal.values_length-requires
values_length-requires c = c.requires.0

pub overflow_add-result : goal.overflow_add-result
overflow_add-result c = let p = c.requires.0 in let q = ap length (part-is c.args.s.now c.args.i c.args.k c.requires.1 c.requires.2) in let l = length-slice c.args.i c.args.k c.args.s.now c.requires.2 in let a = c.count_letters-letters.ensures.1 in let b = c.values_length.ensures.1 in let r = c.requires.2 in omega arith

pub returns : goal.returns
unfolding form_length
returns c = let p = c.requires.0 in let q = ap length (part-is c.args.s.now c.args.i c.args.k c.requires.1 c.requires.2) in let l = length-slice c.args.i c.args.k c.args.s.now c.requires.2 in let a = c.count_letters-letters.ensures.1 in let b = c.values_length.ensures.1 in let r = c.requires.2 in (ap₂ (λ (x y : ℕ). x + y) (c.count_letters-letters.ensures.0 ∙ ap (λ (z : List ℕ). length (read_identifier z)) (part-is c.args.s.now c.args.i c.args.k c.requires.1 c.requires.2)) (c.values_length.ensures.0 ∙ ap (λ (z : List ℕ). length (raws_text (normal c.args.rule (read_identifier z) (raws_at c.args.s.now c.args.k)))) (part-is c.args.s.now c.args.i c.args.k c.requires.1 c.requires.2)), omega arith)
