use Rattle.lists.proofs.Prelude.{ℕ, ◌≤◌, ◌<◌, ◌≡◌, sym, ap, ◌∙◌, Bool, List, arith, lt-ltb, le-ltb, ltb, length, length-take-le, pick}
use Rattle.text_utf8.specs.Trim.{trimmed}
use Rattle.text_utf8.specs.declared.Trimmed.{Trimmed}
use Rattle.text_utf8.proofs.Extent.{trim-bounds}
use Rattle.tables.specs.Numbers.{text_limit}
use Rattle.tables.specs.declared.Reason.TheVariants.{TextTooLong}
use Rattle.parser_split.specs.LocalsPlans.{plan_kept, plan_text}
use Rattle.parser_split.proofs.plan_text.Goals as goal
use Rattle.std.specs.Prelude.{Err}
use Rattle.tables.specs.Refusals.{refusal}

module _ (len : Bool) (t : List ℕ) where
  by-limit : {b : Bool} → b ≡ ltb text_limit (length t) → pick b (Err (refusal TextTooLong 0)) (plan_kept len t (trimmed t)) ≡ plan_text len t
  by-limit e = ap (λ (z : Bool). pick z (Err (refusal TextTooLong 0)) (plan_kept len t (trimmed t))) e

  plan-long : text_limit < length t → Err (refusal TextTooLong 0) ≡ plan_text len t
  plan-long h = by-limit (sym (lt-ltb text_limit (length t) h))

  plan-short : length t ≤ text_limit → {x y : Trimmed} → x ≡ trimmed t → x ≡ y → plan_kept len t y ≡ plan_text len t
  plan-short h e q = ap (plan_kept len t) (sym q ∙ e) ∙ by-limit (sym (le-ltb text_limit (length t) h))

pub returns-then-text-gt-TEXT_LIMIT : goal.returns-then-text-gt-TEXT_LIMIT
returns-then-text-gt-TEXT_LIMIT c = plan-long c.args.lenient c.args.text.now c.if-text-gt-TEXT_LIMIT.true

pub slice_bounds-plan_tokens-end-in-Kept : goal.slice_bounds-plan_tokens-end-in-Kept
slice_bounds-plan_tokens-end-in-Kept c = let w = trim-bounds c.args.text.now c.in-Kept.first c.in-Kept.last (sym c.trim.ensures ∙ c.in-Kept.is) in
    let l = length-take-le c.in-Kept.last c.args.text.now w.1 in
    omega arith

pub returns-in-NotUtf8 : goal.returns-in-NotUtf8
returns-in-NotUtf8 c = plan-short c.args.lenient c.args.text.now c.if-text-gt-TEXT_LIMIT.false c.trim.ensures c.in-NotUtf8.is

pub returns-in-Blank : goal.returns-in-Blank
returns-in-Blank c = c.plan_tokens.ensures ∙ plan-short c.args.lenient c.args.text.now c.if-text-gt-TEXT_LIMIT.false c.trim.ensures c.in-Blank.is

pub returns-in-Kept : goal.returns-in-Kept
returns-in-Kept c = c.plan_tokens-in-Kept.ensures ∙ plan-short c.args.lenient c.args.text.now c.if-text-gt-TEXT_LIMIT.false c.trim.ensures c.in-Kept.is
