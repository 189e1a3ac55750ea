-- No second answer of a public function. Assumes nothing.
use Rattle.lists.proofs.Prelude.{ℕ, ◌≡◌, List}
use Rattle.lists.specs.Once.{Once}
use Rattle.lists.proofs.Once.{once_is}
use Rattle.values.specs.Read.{read_value}
use Rattle.parts_props.specs.Props.{properties_at}
use Rattle.go_size.specs.Size.{size_of}
use Rattle.go_size.specs.Root.{size_in}
use Rattle.go_size.specs.declared.RootSize.{RootSize}
use Rattle.std.specs.Prelude.{Option}

pub read-size-once : (s : List ℕ) → Once (λ (r : Option (ℕ × ℕ)). r ≡ size_of (read_value s))
read-size-once s = once_is (size_of (read_value s))

pub size-in-once : (text pr vl : List ℕ) (first count : ℕ) → Once (λ (r : RootSize). r ≡ size_in (properties_at text pr vl first count))
size-in-once text pr vl first count = once_is (size_in (properties_at text pr vl first count))
