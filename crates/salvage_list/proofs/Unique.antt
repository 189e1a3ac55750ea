-- No second answer of a public function of `salvage_list`. Assumes nothing.
use Rattle.lists.proofs.Prelude.{ℕ, ◌≡◌, List, length}
use Rattle.lists.specs.Once.{Once}
use Rattle.lists.proofs.Once.{once_is}
use Rattle.salvage_list.specs.ListRows.{text_changes, with_changes}

pub count-changes-once : (t : List ℕ) → Once (λ (r : ℕ). r ≡ length (text_changes t))
count-changes-once t = once_is (length (text_changes t))

-- the number of entries is that of `count_changes`
pub put-changes-once : (t rows : List ℕ) → Once (λ (r : List ℕ). r ≡ with_changes (text_changes t) rows)
put-changes-once t rows = once_is (with_changes (text_changes t) rows)
