-- No second answer of the exported comparison of an identifier. Assumes nothing.
use Rattle.lists.proofs.Prelude.{ℕ, ◌≡◌, List}
use Rattle.lists.specs.Once.{Once}
use Rattle.lists.proofs.Once.{once_is}
use Rattle.lists.specs.Same.{same}
use Rattle.values.specs.Read.{read_identifier}
use Rattle.sgf.specs.NamedInC.{named_in_c}

pub sgf-is-named-once : (s w : List ℕ) → Once (λ (r : ℕ). r ≡ named_in_c (same (read_identifier s) w))
sgf-is-named-once s w = once_is (named_in_c (same (read_identifier s) w))
