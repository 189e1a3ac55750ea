-- No second answer of a public function. Assumes nothing.
use Rattle.lists.proofs.Prelude.{ℕ, Bool, ◌≡◌, List}
use Rattle.lists.specs.Once.{Once}
use Rattle.lists.proofs.Once.{once_is}
use Rattle.lists.specs.Same.{same}
use Rattle.values.specs.Read.{read_identifier}
use Rattle.parts_props.specs.Props.{rows_from, identifier_at, named_at}

pub row-count-once : (pr : List ℕ) (first count : ℕ) → Once (λ (r : ℕ). r ≡ rows_from pr first count)
row-count-once pr first count = once_is (rows_from pr first count)

pub identifier-at-once : (text pr : List ℕ) (p : ℕ) → Once (λ (r : List ℕ). r ≡ identifier_at text pr p)
identifier-at-once text pr p = once_is (identifier_at text pr p)

pub reads-as-once : (s w : List ℕ) → Once (λ (r : Bool). r ≡ same (read_identifier s) w)
reads-as-once s w = once_is (same (read_identifier s) w)

pub is-named-once : (text pr w : List ℕ) (p : ℕ) → Once (λ (r : Bool). r ≡ named_at text pr w p)
is-named-once text pr w p = once_is (named_at text pr w p)
