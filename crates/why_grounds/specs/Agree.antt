-- An explanation and a reading agree.
use Rattle.std.specs.Prelude.{◌≡◌, Result, Ok, Err, ℕ}
use Rattle.tables.specs.Rows.{tables, counts_of}
use Rattle.parser.specs.Read.{Answer, refused, accepted}
use Rattle.why_blame.specs.Numbered.{fact_reason}
use Rattle.tables.specs.declared.Counts.{Counts}
use Rattle.why_blame.specs.declared.Fact.{Fact}
use Rattle.tables.specs.declared.Refusal.{Refusal}

-- refused: by the number of the fact; accepted: with the counts of its rows (SCOPE 261)
abbrev pub SameVerdict : Answer → Result (Counts × ℕ) (Refusal Fact) → Type 0
SameVerdict (refused r p) (Err e) = fact_reason e.reason ≡ r
SameVerdict (refused r p) (Ok (c, q)) = ⊥
SameVerdict (accepted ts) (Err e) = ⊥
SameVerdict (accepted ts) (Ok (c, q)) = c ≡ counts_of (tables ts)
