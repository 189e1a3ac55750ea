use Rattle.salvage_measure.proofs.Texts.{measured-kept, found-told}
use Rattle.salvage_measure.proofs.Known.{known-listed}
use Rattle.salvage_list.proofs.Texts.{listed_kept}
use Rattle.reader.proofs.Simple.{known_is, known-inside}
use Rattle.lists.proofs.Prelude.{arith, refl, sym, ap, ◌∙◌, length, length-take-le}
use Rattle.salvage_measure.proofs.weigh_known.Goals as goal

pub slice_bounds-weigh_slices-end : goal.slice_bounds-weigh_slices-end
slice_bounds-weigh_slices-end c = let l = length-take-le c.in-Some.last c.args.text.now (known-inside (known_is c.args.text.now c.requires c.in-Some.is)) in omega arith

pub weigh_slices-requires : goal.weigh_slices-requires
weigh_slices-requires c = known-listed (known_is c.args.text.now c.requires c.in-Some.is)

pub returns-in-Some : goal.returns-in-Some
returns-in-Some c = let t = c.args.text.now in
    let k = known_is t c.requires c.in-Some.is in (
      record {
        result = measured-kept t k.short refl k.kept c.weigh_slices.ensures.0.result;
        changes = c.weigh_slices.ensures.0.changes ∙ ap length (sym (listed_kept t k.short refl k.kept));
      },
      found-told t k.short refl k.kept c.weigh_slices.result c.weigh_slices.ensures.1,
    )
