use Rattle.salvage_list.proofs.Texts.{listed_kept}
use Rattle.salvage_list.proofs.Puts.{puts-as}
use Rattle.text_utf8.proofs.Extent.{trim-bounds}
use Rattle.lists.proofs.Prelude.{arith, refl, sym, length-take-le}
use Rattle.salvage_list.proofs.put_found.Goals as goal

pub slice_bounds-put_slices-end : goal.slice_bounds-put_slices-end
slice_bounds-put_slices-end c = let w = trim-bounds c.args.text.now c.args.first c.args.last c.requires.kept in let l = length-take-le c.args.last c.args.text.now w.1 in omega arith

pub put_slices-requires : goal.put_slices-requires
put_slices-requires c = c.requires.ready

pub returns : goal.returns
returns c = puts-as c.put_slices.ensures (sym (listed_kept c.args.text.now c.requires.short refl c.requires.kept))
