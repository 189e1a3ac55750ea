-- A salvage shown as the C header says it.
use Rattle.std.specs.Prelude.{◌≡◌, Result, Ok, Err}
use Rattle.lists.specs.Prelude.{ℕ, List}
use Rattle.tables.specs.Numbers.{number_of}
use Rattle.parser.specs.Read.{read_lenient}
use Rattle.reader.specs.Lent.{Lent}
use Rattle.salvage_laws.specs.Result.{salvage_of}
use Rattle.salvage_list.specs.ListRows.{text_changes}
use Rattle.salvage.specs.Salvage.{salvage_at, tables_left, list_left, bytes_left}
use Rattle.c_salvage.specs.declared.SgfSalvage.{SgfSalvage}
use Rattle.tables.specs.declared.Counts.{Counts}
use Rattle.tables.specs.declared.Reason.{Reason}
use Rattle.tables.specs.declared.Refusal.{Refusal}

-- done: how many bytes and changes, and the counts; refused: the number, its place, and nothing else (SCOPE 296)
abbrev pub salvage_in_c : Result (Counts × ℕ × ℕ) (Refusal Reason) → SgfSalvage
salvage_in_c (Ok (c, n, k)) = record { number = 0; reserved = 0; place = 0; length = n; changes = k; counts = c }
salvage_in_c (Err e) =
    record {
      number = number_of e.reason;
      reserved = 0;
      place = e.place;
      length = 0;
      changes = 0;
      counts = record { trees = 0; nodes = 0; properties = 0; values = 0 };
    }

-- a salvage shown as numbers, and all that is lent after it: tables, list and output (SCOPE 291, 293, 294)
pub record SalvageInC (t : List ℕ) (before after : Lent) (list list' out out' : List ℕ) (r : SgfSalvage) : Type 0 where
  pub is : r ≡ salvage_in_c (salvage_at t before list out)
  pub tables : after ≡ tables_left (salvage_at t before list out) (read_lenient t) before
  pub changes : list' ≡ list_left (salvage_at t before list out) (text_changes t) list
  pub bytes : out' ≡ bytes_left (salvage_at t before list out) (salvage_of (read_lenient t)) out
