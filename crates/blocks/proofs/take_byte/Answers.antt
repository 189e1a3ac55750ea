use Rattle.blocks_step.specs.declared.Utf8.TheVariants.{Whole}
use Rattle.blocks_step.specs.declared.Char.TheVariants.{Goes}
use Rattle.blocks.specs.Room.{room, keeps, goes_back, past_limit}
use Rattle.blocks.proofs.Taking.{took-past, took, took-back, took-white, took-ink}
use Rattle.lists.proofs.Prelude.{ap, sym, ◌∙◌, add-one, ℕ}
use Rattle.blocks.proofs.take_byte.Goals as goal

pub returns-then-at-ge-LIMIT : goal.returns-then-at-ge-LIMIT
unfolding past_limit
returns-then-at-ge-LIMIT c = took-past c.args.k c.args.rows.now c.args.b c.if-at-ge-LIMIT.true

pub returns-in-Ended-true : goal.returns-in-Ended-true
unfolding goes_back
returns-in-Ended-true c = ap (λ (z : ℕ). room (record { total = z; utf8 = Whole; last = c.args.k.last; now = c.args.k.kept; count = c.args.k.held; kept = c.args.k.kept; held = c.args.k.held }) c.args.rows.now) (add-one c.args.k.total)
    ∙ took-back c.args.k c.args.rows.now c.args.b c.if-at-ge-LIMIT.false c.in-Ended-true.field-0 c.in-Ended-true.field-0-test (sym c.in-Ended-true.is ∙ c.utf8_next.ensures) c.if-k-eq0.true

pub returns-in-Ended-true-2 : goal.returns-in-Ended-true-2
returns-in-Ended-true-2 c = c.go_on.ensures ∙ took-white c.args.k c.args.rows.now c.args.b c.if-at-ge-LIMIT.false c.in-Ended-true.field-0 c.in-Ended-true.field-0-test (sym c.in-Ended-true.is ∙ c.utf8_next.ensures) c.if-k-eq0.false

pub returns-in-Ended-false : goal.returns-in-Ended-false
unfolding keeps
returns-in-Ended-false c = ap keeps c.go_on-g.ensures ∙ took-ink c.args.k c.args.rows.now c.args.b c.if-at-ge-LIMIT.false c.in-Ended-false.field-0 c.in-Ended-false.field-0-test (sym c.in-Ended-false.is ∙ c.utf8_next.ensures)

pub returns-in-Goes : goal.returns-in-Goes
returns-in-Goes c = c.go_on-in-Goes.ensures ∙ took c.args.k c.args.rows.now c.args.b c.if-at-ge-LIMIT.false (Goes c.in-Goes.stands) (sym c.in-Goes.is ∙ c.utf8_next.ensures)
