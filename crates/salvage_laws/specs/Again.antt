-- Mended once more.
use Rattle.std.specs.Prelude.{◌≡◌}
use Rattle.lists.specs.Prelude.{ℕ, List}
use Rattle.tables.specs.Record.{Tree}
use Rattle.parser.specs.Read.{accepted, read_lenient}
use Rattle.serialize.specs.Form.{writing}
use Rattle.salvage_mend.specs.Mend.{mended}

-- a text whose lenient reading has nothing to mend, and which is its own writing (SCOPE 283)
pub record Again (w : List ℕ) : Type 0 where
  pub trees : List Tree
  pub reads : read_lenient w ≡ accepted trees
  pub stays : mended trees ≡ trees
  pub bytes : writing trees ≡ w
