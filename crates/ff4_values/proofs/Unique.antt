-- No second answer of a public function. Assumes nothing.
use Rattle.lists.proofs.Prelude.{ℕ, ◌≡◌, List}
use Rattle.lists.specs.Once.{Once}
use Rattle.lists.proofs.Once.{once_is}
use Rattle.values.specs.Read.{read_identifier}
use Rattle.parts.specs.Rows.{values_at}
use Rattle.ff4_values.specs.Simple.{simple_value}
use Rattle.ff4_values.specs.declared.Simple.{Simple}

pub simple-value-once : (rule : ℕ) (s text vl : List ℕ) (first count : ℕ) → Once (λ (r : Simple). r ≡ simple_value rule (read_identifier s) (values_at text vl first count))
simple-value-once rule s text vl first count = once_is (simple_value rule (read_identifier s) (values_at text vl first count))
