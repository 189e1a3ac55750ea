use Rattle.parts_props.specs.Props.{properties_at}
use Rattle.salvage_rows.specs.LocalsGM.{game_in}
use Rattle.salvage_rows.proofs.Kept.{good-told, bad-told}
use Rattle.salvage_rows.proofs.gms_bad.Goals as goal

pub returns-in-Ok : goal.returns-in-Ok
returns-in-Ok c = let args = c.args in
    good-told (game_in (properties_at args.text.now args.properties.now args.values.now args.first args.count)) c.game_in.ensures c.in-Ok.is

pub returns-in-Err : goal.returns-in-Err
returns-in-Err c = let args = c.args in
    bad-told (game_in (properties_at args.text.now args.properties.now args.values.now args.first args.count)) c.game_in.ensures c.in-Err.is
