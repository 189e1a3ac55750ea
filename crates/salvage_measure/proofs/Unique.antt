-- No second answer of the public functions of `salvage_measure`. Assumes nothing.
use Rattle.lists.proofs.Prelude.{ℕ, ◌≡◌, sym, ◌∙◌, List}
use Rattle.lists.specs.Once.{Once}
use Rattle.lists.proofs.Once.{once_is}
use Rattle.salvage_measure.specs.Measure.{text_measure, WeighedIs}
use Rattle.salvage_measure.specs.declared.Measured.{Measured}
use Rattle.salvage_measure.specs.declared.Weighed.{Weighed}
use Rattle.salvage_mend.specs.Changes.{Change}

pub measure-once : (t : List ℕ) → Once (λ (r : Measured). r ≡ text_measure t)
measure-once t = once_is (text_measure t)

pub weigh-once : (m : Measured) (cs : List Change) (x y : Weighed) → WeighedIs m cs x → WeighedIs m cs y → (x.result ≡ y.result) × (x.changes ≡ y.changes)
weigh-once m cs x y p q = (p.result ∙ sym q.result, p.changes ∙ sym q.changes)
