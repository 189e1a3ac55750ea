-- Memory without tables: `(;C[a])` with no tree row lent and 9 of 7 bytes in use. Read cell by cell it has the rows of the record, and yet it holds no reading. Assumes nothing.
use Rattle.lists.proofs.Prelude.{false, List, [], ◌∷◌, ◌≡◌, refl}
use Rattle.text_chars.specs.White.{white}
use Rattle.lexer_scan.specs.Scan.{space}
use Rattle.tables.specs.Each.{tabulate}
use Rattle.tables.specs.Memory.{Memory, memory}
use Rattle.tables.specs.Numbers.{none}
use Rattle.tables.specs.Record.{Tree}
use Rattle.tables.proofs.Cases.{true-false}
use Rattle.fit.specs.Fit.{Fit}
use Rattle.parser.specs.Examples.{bytes}
use Rattle.edit_laws.specs.Calls.{text_rows}
use Rattle.edit_laws.specs.Fresh.{Fresh}
use Rattle.edit_laws.specs.Run.{Reads}

abbrev pub bare : Memory
bare = memory (bytes "(;C[a])") 9 (record { trees = 1; nodes = 1; properties = 1; values = 1 }) [] (none ∷ none ∷ none ∷ 0 ∷ 1 ∷ 0 ∷ []) (2 ∷ 3 ∷ 0 ∷ 1 ∷ []) (4 ∷ 5 ∷ [])

abbrev read_as : List Tree
read_as =
    record {
      root = 0;
      game = 0;
      nodes = record { parent = none; props = record { from = 2; to = 3; name = 0x43 ∷ []; vals = record { from = 4; to = 5; raw = 0x61 ∷ [] } ∷ [] } ∷ [] } ∷ [];
    }
    ∷ []

-- cells that are not there read as 0
pub bare-reads : Reads (text_rows bare)
unfolding white space tabulate
bare-reads = record { trees = read_as; reads = refl; same_rows = refl }

bare-unfit : Fit bare ≡ false
unfolding Fit
bare-unfit = refl

pub bare-not-fresh : Fresh bare → ⊥
bare-not-fresh f = true-false (Fit bare) f.fits bare-unfit
