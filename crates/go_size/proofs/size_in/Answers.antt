use Rattle.parts.specs.Rows.{values_at}
use Rattle.go_size.specs.Root.{size_of_values}
use Rattle.lists.proofs.Prelude.{ℕ, ap₂, ◌+◌, ◌∙◌, ap}
use Rattle.go_size.proofs.Sizes.{size-absent, size-several, size-single}
use Rattle.go_size.proofs.size_in.Goals as goal

pub returns-then-to-p : goal.returns-then-to-p
returns-then-to-p c = let a = c.args in
    let f = c.next_size-p in
    size-absent a.text.now a.properties.now a.values.now a.first a.count _ f.result (ap (λ n. a.first + n) c.row_count.ensures) f.ensures c.if-to-p.true

pub returns-then-q-to : goal.returns-then-q-to
returns-then-q-to c = let a = c.args in
    let f = c.next_size-p in
    let g = c.next_size-q in
    size-several a.text.now a.properties.now a.values.now a.first a.count _ f.result (ap (λ n. a.first + n) c.row_count.ensures) f.ensures c.if-to-p.false g.result g.ensures c.if-q-to.true

pub returns : goal.returns
returns c = let f = c.next_size-p in
    let g = c.next_size-q in
    c.one_size.ensures ∙ ap₂ (λ (a b : ℕ). size_of_values (values_at c.args.text.now c.args.values.now a b)) c.wide-start.ensures c.wide-many.ensures ∙ size-single c.args.text.now c.args.properties.now c.args.values.now c.args.first c.args.count _ f.result (ap (λ n. c.args.first + n) c.row_count.ensures) f.ensures c.if-to-p.false g.result g.ensures c.if-q-to.false
