-- The used text of lent memory and its rows, with other bytes for its values.
use Rattle.lists.specs.Prelude.{ℕ, List, slice}
use Rattle.tables.specs.Columns.{val_from_at, val_to_at}
use Rattle.tables.specs.Memory.{Memory}
use Rattle.tables.specs.Rows.{Tables}
use Rattle.fit.specs.Record.{rows_in, text_in}
use Rattle.feed_laid.specs.Laid.{laid, laid_rows}

-- the text with f k for the bytes of each value k
abbrev pub laid_text : Memory → (ℕ → List ℕ) → List ℕ
laid_text m f = laid (text_in m) (rows_in m).vals f

-- its rows
abbrev pub laid_tables : Memory → (ℕ → List ℕ) → Tables
laid_tables m f = laid_rows (val_from_at m.values) (val_to_at m.values) m.counts.values (rows_in m) f

-- the bytes that value k has
abbrev pub own_bytes : Memory → ℕ → List ℕ
own_bytes m k = slice (val_from_at m.values k) (val_to_at m.values k) (text_in m)
