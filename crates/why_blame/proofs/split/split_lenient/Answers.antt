use Rattle.lists.proofs.Prelude.{ℕ, true, refl, ap, ◌∙◌, arith, ◌+◌, ltb, pick}
use Rattle.tables.specs.Numbers.{depth_limit}
use Rattle.why_blame.specs.declared.Fact.TheVariants.{TooDeep}
use Rattle.why_blame.proofs.Ended.{cut-open-lenient, cut-shut, cut-none-lenient, stops-open}
use Rattle.why_blame.proofs.split.split_lenient.Goals as goal
use Rattle.std.specs.Prelude.{Ok, Err}
use Rattle.tables.specs.Refusals.{refusal}

pub overflow_add-x : goal.overflow_add-x
overflow_add-x c = let r = c.split_tokens-x.ensures.0.room in omega arith

pub returns-then-x-ne0 : goal.returns-then-x-ne0
returns-then-x-ne0 c = c.unless_deep.ensures ∙ ap (λ (q : ℕ). pick (ltb depth_limit c.split_tokens-x.result.deepest) (Err (refusal TooDeep c.split_tokens-x.result.deep)) (Ok (c.split_tokens-x.result.slices + 1, q))) c.first_place.ensures ∙ cut-open-lenient c.split_tokens-x.ensures.0 c.args.size (stops-open c.split_tokens-x.result.beyond c.args.s.now c.split_tokens-x.result.at c.split_tokens-x.result.depth c.split_tokens-x.ensures.1 c.if-x-ne0.true) c.if-x-ne0.true

pub returns-then-x-eq0 : goal.returns-then-x-eq0
returns-then-x-eq0 c = ap (λ (z : ℕ). Ok (0, z)) c.first_place-then-x-eq0.ensures ∙ cut-none-lenient c.split_tokens-x.ensures.0 c.args.size {b = c.split_tokens-x.result.beyond} {len = true} c.split_tokens-x.ensures.1 (λ e. refl) c.if-x-ne0.false c.if-x-eq0.true refl

pub returns : goal.returns
returns c = c.unless_deep-2.ensures ∙ ap (λ (q : ℕ). pick (ltb depth_limit c.split_tokens-x.result.deepest) (Err (refusal TooDeep c.split_tokens-x.result.deep)) (Ok (c.split_tokens-x.result.slices, q))) c.first_place-2.ensures ∙ cut-shut c.split_tokens-x.ensures.0 c.args.size {b = c.split_tokens-x.result.beyond} {len = true} c.split_tokens-x.ensures.1 (λ e. refl) c.if-x-ne0.false c.if-x-eq0.false
