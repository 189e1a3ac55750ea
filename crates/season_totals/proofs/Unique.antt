-- No second answer: two answers that meet the contract of a public function are equal. Assumes nothing.
use Rattle.lists.proofs.Prelude.{ℕ, ◌≡◌, sym, ap, ◌∙◌, List}
use Rattle.lists.specs.Once.{Once}
use Rattle.lists.proofs.Once.{once_is}
use Rattle.store_bytes.specs.LocalsWrote.{Wrote}
use Rattle.season_totals.specs.declared.Line.{Line}
use Rattle.season_totals.specs.declared.Totals.{Totals}
use Rattle.season_totals.specs.Totals.{line_sums, added_to}
use Rattle.season_totals.specs.Report.{line_text, totals_text}

pub line-sums-once : (l : Line) → Once (λ (r : Totals). r.sums ≡ line_sums l)
line-sums-once l r s p q = ap (λ (z : List ℕ). record { sums = z }) (p ∙ sym q)

pub added-once : (xs ys : List ℕ) → Once (λ r. r ≡ added_to xs ys)
added-once xs ys = once_is (added_to xs ys)

pub put-line-once : (l : Line) (name out : List ℕ) (at : ℕ) (x y : List ℕ) (r s : ℕ) → Wrote (line_text l name) out at x r → Wrote (line_text l name) out at y s
    → (x ≡ y) × (r ≡ s)
put-line-once l name out at x y r s f g = (f.bytes ∙ sym g.bytes, f.place ∙ sym g.place)

pub put-totals-once : (sums out : List ℕ) (at : ℕ) (x y : List ℕ) (r s : ℕ) → Wrote (totals_text sums) out at x r → Wrote (totals_text sums) out at y s → (x ≡ y) × (r ≡ s)
put-totals-once sums out at x y r s f g = (f.bytes ∙ sym g.bytes, f.place ∙ sym g.place)
