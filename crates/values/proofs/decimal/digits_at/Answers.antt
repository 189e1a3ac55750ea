use Rattle.lists.proofs.Prelude.{ℕ, ◌≡◌, refl, sym, ap, ◌∙◌, Bool, false, arith, List, drop}
use Rattle.values.specs.Read.{read_value}
use Rattle.values.specs.Decimal.{signed, digits_from}
use Rattle.values.proofs.Steps.{stepped}
use Rattle.values.proofs.Digits.{Head, digits-end, digits-none, digits-bad, digits-large, digits-on}
use Rattle.values.proofs.decimal.digits_at.Goals as goal

-- the loop's head: the digits from `at` on lead to what the slice's digits spell
abbrev head :
    (s : List ℕ) (from most : ℕ) (minus any : Bool) (acc at : ℕ) →
    digits_from any minus most acc (read_value (drop at s)) ≡ digits_from false minus most 0 (read_value (drop from s)) → Head
head s from most minus any acc at h = record {
  any = any;
  minus = minus;
  most = most;
  acc = acc;
  s = s;
  at = at;
  answer = digits_from false minus most 0 (read_value (drop from s));
  inv = h;
}

pub returns-then-d-gt9 : goal.returns-then-d-gt9
returns-then-d-gt9 c =
    digits-bad
    (head c.args.s.now c.args.from c.args.most c.args.minus c.loop-b.any c.loop-b.acc c.loop-b.at c.loop-b.invariant.0)
    c.in-Some.b _ c.digit_of-d.result (stepped _ _ c.in-Some.ensures refl) c.digit_of-d.ensures c.if-d-gt9.true

pub returns-then-most-acc : goal.returns-then-most-acc
returns-then-most-acc c =
    digits-large
    (head c.args.s.now c.args.from c.args.most c.args.minus c.loop-b.any c.loop-b.acc c.loop-b.at c.loop-b.invariant.0)
    c.in-Some.b _ c.digit_of-d.result (stepped _ _ c.in-Some.ensures refl) c.digit_of-d.ensures (omega arith)

pub returns-then-most-acc-2 : goal.returns-then-most-acc-2
returns-then-most-acc-2 c =
    digits-large
    (head c.args.s.now c.args.from c.args.most c.args.minus c.loop-b.any c.loop-b.acc c.loop-b.at c.loop-b.invariant.0)
    c.in-Some.b _ c.digit_of-d.result (stepped _ _ c.in-Some.ensures refl) c.digit_of-d.ensures (omega arith)

pub loop-b-smaller : goal.loop-b-smaller
loop-b-smaller c = let h = stepped c.args.s.now c.loop-b.at c.in-Some.ensures refl in omega arith

pub loop-b-preserved : goal.loop-b-preserved
loop-b-preserved c = (
  digits-on
      (head c.args.s.now c.args.from c.args.most c.args.minus c.loop-b.any c.loop-b.acc c.loop-b.at c.loop-b.invariant.0)
      c.in-Some.b _ c.digit_of-d.result (stepped _ _ c.in-Some.ensures refl) c.digit_of-d.ensures (omega arith),
  omega arith,
)

pub returns-then-not-any : goal.returns-then-not-any
returns-then-not-any c =
    digits-none
    (head c.args.s.now c.args.from c.args.most c.args.minus c.loop-b.any c.loop-b.acc c.loop-b.at c.loop-b.invariant.0)
    (stepped _ _ c.in-None.ensures refl) c.if-not-any.true

pub returns-then-minus : goal.returns-then-minus
returns-then-minus c =
    ap (λ b. signed b c.loop-b.acc) (sym c.if-minus.true) ∙
    digits-end
    (head c.args.s.now c.args.from c.args.most c.args.minus c.loop-b.any c.loop-b.acc c.loop-b.at c.loop-b.invariant.0)
    (stepped _ _ c.in-None.ensures refl) c.if-not-any.false (omega arith)

pub returns-else-minus : goal.returns-else-minus
returns-else-minus c =
    ap (λ b. signed b c.loop-b.acc) (sym c.if-minus.false) ∙
    digits-end
    (head c.args.s.now c.args.from c.args.most c.args.minus c.loop-b.any c.loop-b.acc c.loop-b.at c.loop-b.invariant.0)
    (stepped _ _ c.in-None.ensures refl) c.if-not-any.false (omega arith)
