use Rattle.lists.proofs.Prelude.{ℕ, refl, sym, ap, ◌∙◌, List, arith, length}
use Rattle.values.specs.Read.{read_identifier}
use Rattle.go.proofs.ReadBack.{normal-unknown}
use Rattle.serialize_values.specs.LocalsForm.{raws_text}
use Rattle.serialize_values.proofs.Forms.{normal-shaped, set-form}
use Rattle.salvage_form.specs.Measured.{raws_at}
use Rattle.salvage_form.proofs.Lengths.{form-unread}
use Rattle.salvage_form.proofs.values_length.Goals as goal

pub returns-then-not-rule : goal.returns-then-not-rule
returns-then-not-rule c = let b = c.raw_length.ensures.1 in let p = c.requires in (c.raw_length.ensures.0 ∙ ap (λ (z : List (List ℕ)). length (raws_text z)) (sym (normal-unknown c.args.rule (read_identifier c.args.name.now) (raws_at c.args.s.now c.args.k) c.if-not-rule.true)), omega arith)

pub set_length-requires : goal.set_length-requires
set_length-requires c = c.requires

pub returns-in-ManyPoints : goal.returns-in-ManyPoints
returns-in-ManyPoints c = (c.set_length.ensures.0 ∙ ap (λ (z : List (List ℕ)). length (raws_text z)) (set-form c.args.rule (raws_at c.args.s.now c.args.k) ∙ normal-shaped c.args.rule (read_identifier c.args.name.now) (raws_at c.args.s.now c.args.k) c.if-not-rule.false c.shape_of-shape.ensures c.in-ManyPoints.is), c.set_length.ensures.1)

pub returns-in-Unread : goal.returns-in-Unread
returns-in-Unread c = let b = c.raw_length-in-Unread.ensures.1 in let p = c.requires in (c.raw_length-in-Unread.ensures.0 ∙ ap (λ (z : List (List ℕ)). length (raws_text z)) (form-unread c.args.rule (raws_at c.args.s.now c.args.k) ∙ normal-shaped c.args.rule (read_identifier c.args.name.now) (raws_at c.args.s.now c.args.k) c.if-not-rule.false c.shape_of-shape.ensures c.in-Unread.is), omega arith)

pub one_length-requires : goal.one_length-requires
one_length-requires c = (c.requires, c.in_default.not-ManyPoints)

pub returns : goal.returns
returns c = (c.one_length.ensures.0 ∙ ap (λ (z : List (List ℕ)). length (raws_text z)) (normal-shaped c.args.rule (read_identifier c.args.name.now) (raws_at c.args.s.now c.args.k) c.if-not-rule.false c.shape_of-shape.ensures refl), c.one_length.ensures.1)
