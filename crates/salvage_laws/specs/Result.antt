-- What salvage writes.
use Rattle.lists.specs.Prelude.{ℕ, List, []}
use Rattle.parser.specs.Read.{Answer, refused, accepted}
use Rattle.serialize.specs.Form.{writing}
use Rattle.salvage_mend.specs.Mend.{mended}

-- the writing of the mended record of a lenient reading
abbrev pub salvage_of : Answer → List ℕ
salvage_of (refused r p) = []
salvage_of (accepted ts) = writing (mended ts)
