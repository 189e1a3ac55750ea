-- No second answer: two answers that meet the contract of a public function are equal. Assumes nothing.
use Rattle.lists.proofs.Prelude.{ℕ, List, ◌≡◌, sym, ◌∙◌}
use Rattle.lists.specs.Once.{Once}
use Rattle.lists.proofs.Once.{once_is}
use Rattle.tables.specs.Memory.{Memory}
use Rattle.fit.specs.Record.{record_in}
use Rattle.season_tally.specs.Tally.{tally_of, tally_answer, WriteTallyIs}
use Rattle.std.specs.Prelude.{Result}
use Rattle.tables.specs.declared.Reason.{Reason}
use Rattle.season_totals.specs.declared.Tally.{Tally}

pub count-once : (m : Memory) → Once (λ r. r ≡ tally_of (record_in m))
count-once m = once_is (tally_of (record_in m))

pub tally-once : (m : Memory) → Once (λ r. r ≡ tally_answer m)
tally-once m = once_is (tally_answer m)

pub write-tally-once : (m : Memory) (out v w : List ℕ) (r s : Result (ℕ × Tally × ℕ) Reason) → WriteTallyIs m out v r → WriteTallyIs m out w s → (r ≡ s) × (v ≡ w)
write-tally-once m out v w r s f g = (f.answer ∙ sym g.answer, f.bytes ∙ sym g.bytes)
