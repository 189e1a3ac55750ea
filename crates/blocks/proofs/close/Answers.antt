use Rattle.blocks.proofs.Ending.{closes-after, closes-refused, closes-short, closes-rows, closes-full, closes-last}
use Rattle.blocks.specs.Close.{closing}
use Rattle.lists.proofs.Prelude.{sym, ap, ◌∙◌}
use Rattle.blocks.proofs.close.Goals as goal

pub returns-then-state-ne0 : goal.returns-then-state-ne0
returns-then-state-ne0 c = closes-after c.args.state c.args.rows.now c.if-state-ne0.true

pub returns-then-room-n : goal.returns-then-room-n
returns-then-room-n c = closes-short c.args.state c.args.rows.now c.if-state-ne0.false c.in-Rows.count c.wide-n.result c.wide-n.ensures _ _ (sym c.in-Rows.is ∙ c.closing_of.ensures ∙ ap closing c.known_of.ensures) c.if-room-n.true c.refuse-then-room-n.ensures.0 c.refuse-then-room-n.ensures.1

pub returns-then-room-n-2 : goal.returns-then-room-n-2
returns-then-room-n-2 c = closes-full c.args.state c.args.rows.now c.if-state-ne0.false c.in-Last.count c.wide-n-in-Last.result c.wide-n-in-Last.ensures _ _ c.in-Last.from c.in-Last.to (sym c.in-Last.is ∙ c.closing_of.ensures ∙ ap closing c.known_of.ensures) c.if-room-n-2.true c.refuse-then-room-n-2.ensures.0 c.refuse-then-room-n-2.ensures.1

pub returns-in-Refused : goal.returns-in-Refused
returns-in-Refused c = closes-refused c.args.state c.args.rows.now c.if-state-ne0.false c.in-Refused.number c.in-Refused.place (sym c.in-Refused.is ∙ c.closing_of.ensures ∙ ap closing c.known_of.ensures) _ _ c.refuse.ensures.0 c.refuse.ensures.1

pub returns-else-room-n : goal.returns-else-room-n
returns-else-room-n c = closes-rows c.args.state c.args.rows.now c.if-state-ne0.false c.in-Rows.count c.wide-n.result c.wide-n.ensures _ _ (sym c.in-Rows.is ∙ c.closing_of.ensures ∙ ap closing c.known_of.ensures) c.if-room-n.false c.accept.ensures c.clear.ensures

pub returns-else-room-n-2 : goal.returns-else-room-n-2
returns-else-room-n-2 c = closes-last c.args.state c.args.rows.now c.if-state-ne0.false c.in-Last.count c.wide-n-in-Last.result c.wide-n-in-Last.ensures _ _ c.in-Last.from c.in-Last.to (sym c.in-Last.is ∙ c.closing_of.ensures ∙ ap closing c.known_of.ensures) c.if-room-n-2.false c.accept-in-Last.ensures _ c.put.ensures c.clear-in-Last.ensures
