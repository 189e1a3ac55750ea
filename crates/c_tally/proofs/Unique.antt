-- No second answer: two answers that meet the contract of a public function are equal. Assumes nothing.
use Rattle.lists.proofs.Prelude.{ℕ, List, ◌≡◌, sym, ◌∙◌}
use Rattle.lists.specs.Once.{Once}
use Rattle.lists.proofs.Once.{once_is}
use Rattle.tables.specs.Memory.{Memory}
use Rattle.c_tally.specs.TallyInC.{tally_or_number}
use Rattle.c_tally.specs.LineInC.{LineInC}
use Rattle.c_tally.specs.declared.SgfLine.{SgfLine}
use Rattle.c_tally.specs.declared.SgfTally.{SgfTally}

-- sgf_tally
pub tally-in-c-once : (m : Memory) → Once (λ (r : SgfTally). r ≡ tally_or_number m)
tally-in-c-once m = once_is (tally_or_number m)

-- sgf_line: the answer and the bytes lent
pub line-in-c-once : (m : Memory) (out x y : List ℕ) (r s : SgfLine) → LineInC m out x r → LineInC m out y s → (r ≡ s) × (x ≡ y)
line-in-c-once m out x y r s p q = (p.is ∙ sym q.is, p.bytes ∙ sym q.bytes)
