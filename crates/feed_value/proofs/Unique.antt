-- No second answer: two answers that meet the contract of a public function are equal; of `value`, what the part holds. Assumes nothing.
use Rattle.lists.proofs.Prelude.{ℕ, ◌≡◌, List}
use Rattle.lists.specs.Once.{Once}
use Rattle.lists.proofs.Once.{once_is}
use Rattle.tables.specs.Memory.{Memory}
use Rattle.feed_value.specs.Look.{looked_up, corrected_value}

pub look-up-once : (m : Memory) (w : List ℕ) (k : ℕ) → Once (λ r. r ≡ looked_up m w k)
look-up-once m w k = once_is (looked_up m w k)

pub value-once : (m : Memory) (w : List ℕ) (k : ℕ) → Once (λ r. r ≡ corrected_value m w k)
value-once m w k = once_is (corrected_value m w k)
