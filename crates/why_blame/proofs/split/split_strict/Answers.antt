use Rattle.lists.proofs.Prelude.{ℕ, Bool, refl, sym, ap, ◌∙◌, subst, ltb, pick}
use Rattle.tables.specs.Numbers.{depth_limit}
use Rattle.why_blame.specs.LocalsCuts.{StopsBy}
use Rattle.why_blame.specs.declared.Fact.TheVariants.{EndBeyond, StaysOpen, TooDeep}
use Rattle.why_blame.proofs.Ended.{cut-beyond, cut-open-strict, cut-shut, cut-none-strict, stops-open}
use Rattle.why_blame.proofs.Faults.{cut-fault, cut-whole}
use Rattle.why_blame.proofs.split.split_strict.Goals as goal
use Rattle.std.specs.Prelude.{Ok, Err}
use Rattle.tables.specs.Refusals.{refusal}

pub returns-in-Broken : goal.returns-in-Broken
returns-in-Broken c = cut-fault c.split_tokens-x.ensures.0 c.args.size c.first_fault.ensures c.in-Broken.is c.in_token.ensures

pub returns-then-x : goal.returns-then-x
returns-then-x c = cut-whole c.split_tokens-x.ensures.0 c.args.size c.first_fault.ensures c.in_default.is (let s = subst (λ (b : Bool). StopsBy b c.args.s.now c.split_tokens-x.result.at c.split_tokens-x.result.depth) c.if-x.true c.split_tokens-x.ensures.1 in ap (λ (z : ℕ). Err (refusal EndBeyond z)) c.first_place.ensures ∙ cut-beyond c.split_tokens-x.ensures.0 c.args.size s.0 s.1.1)

pub returns-then-x-ne0 : goal.returns-then-x-ne0
returns-then-x-ne0 c = cut-whole c.split_tokens-x.ensures.0 c.args.size c.first_fault.ensures c.in_default.is (ap (λ (z : ℕ). Err (refusal (StaysOpen c.split_tokens-x.result.depth) z)) c.first_place-then-x-ne0.ensures ∙ cut-open-strict c.split_tokens-x.ensures.0 c.args.size (stops-open c.split_tokens-x.result.beyond c.args.s.now c.split_tokens-x.result.at c.split_tokens-x.result.depth c.split_tokens-x.ensures.1 c.if-x-ne0.true) c.if-x-ne0.true)

pub returns-then-x-eq0 : goal.returns-then-x-eq0
returns-then-x-eq0 c = cut-whole c.split_tokens-x.ensures.0 c.args.size c.first_fault.ensures c.in_default.is (cut-none-strict c.split_tokens-x.ensures.0 c.args.size {b = c.split_tokens-x.result.beyond} c.split_tokens-x.ensures.1 (λ e. sym c.if-x.false ∙ e) c.if-x-ne0.false c.if-x-eq0.true refl)

pub returns : goal.returns
returns c = cut-whole c.split_tokens-x.ensures.0 c.args.size c.first_fault.ensures c.in_default.is (c.unless_deep.ensures ∙ ap (λ (q : ℕ). pick (ltb depth_limit c.split_tokens-x.result.deepest) (Err (refusal TooDeep c.split_tokens-x.result.deep)) (Ok (c.split_tokens-x.result.slices, q))) c.first_place-2.ensures ∙ cut-shut c.split_tokens-x.ensures.0 c.args.size {b = c.split_tokens-x.result.beyond} c.split_tokens-x.ensures.1 (λ e. sym c.if-x.false ∙ e) c.if-x-ne0.false c.if-x-eq0.false)
