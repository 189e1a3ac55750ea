use Rattle.lists.proofs.Prelude.{◌+◌, ◌≡◌, refl, sym, ap, ◌∙◌, arith, eq-eqb}
use Rattle.fit_spans.proofs.Scans.{boxed-none, boxed-other, boxed-is}
use Rattle.fit_spans.proofs.is_boxed.Goals as goal
use Rattle.std.specs.Prelude.{Some}

pub returns-then-start-eq0 : goal.returns-then-start-eq0
returns-then-start-eq0 c = let a = c.args in boxed-none a.text.now _ _ c.requires.0 c.requires.1 c.if-start-eq0.true

pub returns-then-text-start-ne91 : goal.returns-then-text-start-ne91
returns-then-text-start-ne91 c = let a = c.args in boxed-other a.text.now _ _ c.requires.0 c.requires.1 c.if-start-eq0.false c.if-text-start-ne91.true

pub returns-then-is_pair : goal.returns-then-is_pair
returns-then-is_pair c = let a = c.args in
    let e : a.start + 2 ≡ a.end = omega arith in
    sym (eq-eqb a.end a.end refl)
    ∙ boxed-is a.text.now a.start a.end c.requires.0 c.requires.1 c.if-start-eq0.false c.if-text-start-ne91.false (Some a.end)
    (sym (c.is_pair.ensures.1 c.if-is_pair.true ∙ ap Some e))

pub returns-in-Some : goal.returns-in-Some
returns-in-Some c = let a = c.args in boxed-is a.text.now _ _ c.requires.0 c.requires.1 c.if-start-eq0.false c.if-text-start-ne91.false _ (sym c.in-Some.is ∙ c.value_end.ensures)

pub returns-in-None : goal.returns-in-None
returns-in-None c = let a = c.args in boxed-is a.text.now _ _ c.requires.0 c.requires.1 c.if-start-eq0.false c.if-text-start-ne91.false _ (sym c.in-None.is ∙ c.value_end.ensures)
