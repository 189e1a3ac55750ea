use Rattle.parser_census.proofs.Modes.{root-typed, root-other, typed-twice, typed-other}
use Rattle.parser_census.proofs.on_property.Goals as goal

pub returns-then-is_gm : goal.returns-then-is_gm
returns-then-is_gm c = root-typed _ c.is_gm.ensures c.in-Root.is c.if-is_gm.true c.on_type.ensures

pub returns-then-is_gm-2 : goal.returns-then-is_gm-2
returns-then-is_gm-2 c = typed-twice _ c.is_gm-in-Typed.ensures c.in-Typed.is c.if-is_gm-2.true

pub returns-else-is_gm : goal.returns-else-is_gm
returns-else-is_gm c = root-other _ c.is_gm.ensures c.in-Root.is c.if-is_gm.false

pub returns-else-is_gm-2 : goal.returns-else-is_gm-2
returns-else-is_gm-2 c = typed-other _ c.is_gm-in-Typed.ensures c.in-Typed.is c.if-is_gm-2.false
