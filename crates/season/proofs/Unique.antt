-- No second answer: two answers that meet the contract of a public function are equal. Assumes nothing.
use Rattle.lists.proofs.Prelude.{ℕ, ◌≡◌, sym, ◌∙◌, List}
use Rattle.tables.specs.Memory.{Memory}
use Rattle.parser.specs.Read.{Answer}
use Rattle.reader.specs.Lent.{Lent}
use Rattle.season_totals.specs.declared.Line.{Line}
use Rattle.season.specs.Season.{LineIs, RecordLineIs}

pub line-once : (a : Answer) (before x y : Lent) (out v w : List ℕ) (r s : Line) → LineIs a before x out v r → LineIs a before y out w s → (r ≡ s) × (x ≡ y) × (v ≡ w)
line-once a before x y out v w r s f g = (f.line ∙ sym g.line, f.tables ∙ sym g.tables, f.bytes ∙ sym g.bytes)

pub record-line-once : (m : Memory) (out v w : List ℕ) (r s : Line) → RecordLineIs m out v r → RecordLineIs m out w s → (r ≡ s) × (v ≡ w)
record-line-once m out v w r s f g = (f.line ∙ sym g.line, f.bytes ∙ sym g.bytes)
