-- The number that `depth_of` gives is the depth of the writing of the record, and of the mended record. Assumes nothing.
use Rattle.lists.proofs.Prelude.{ℕ, ◌≡◌, sym, ap, ◌∙◌, ◌/◌, min, true, List, arith, length}
use Rattle.tables.specs.Columns.{node_stride}
use Rattle.tables.specs.Memory.{Memory}
use Rattle.fit.specs.Fit.{Fit}
use Rattle.fit.specs.Record.{record_in}
use Rattle.fit.proofs.Clauses.{fit-clauses}
use Rattle.parser.specs.Read.{accepted, read_lenient}
use Rattle.serialize.specs.Form.{writing}
use Rattle.serialize_laws.specs.Depth.{depth_of}
use Rattle.serialize_laws.proofs.ReadBack.{Form}
use Rattle.salvage_mend.specs.Mend.{mended}
use Rattle.salvage_laws.proofs.Theorem.{lenient-form}
use Rattle.salvage_depth.specs.LocalsDepth.{most_open, depth_in}
use Rattle.salvage_depth.proofs.Opened.{highest_of, mended-highest, writing-depth}
use Rattle.salvage_depth.proofs.Counted.{rows-counted}

module _ (m : Memory) (fit : Fit m ≡ true) where
  depth-highest : depth_in m.nodes m.counts.nodes ≡ highest_of (record_in m)
  depth-highest =
      let f = fit-clauses m fit in
      let e : min m.counts.nodes (length m.nodes / node_stride) ≡ m.counts.nodes = omega (arith, f.held.nodes) in
      ap (most_open m.nodes) e ∙ rows-counted f

  -- of the record, where it can be written and read back, the limits aside
  pub record-depth : Form (record_in m) → depth_in m.nodes m.counts.nodes ≡ depth_of (writing (record_in m))
  record-depth f = depth-highest ∙ sym (writing-depth (record_in m) f)

  -- of the mended record of a lenient reading
  pub mended-depth : (t : List ℕ) → read_lenient t ≡ accepted (record_in m) → depth_in m.nodes m.counts.nodes ≡ depth_of (writing (mended (record_in m)))
  mended-depth t h = depth-highest ∙ sym (mended-highest (record_in m)) ∙ sym (writing-depth (mended (record_in m)) (lenient-form t (record_in m) h))
