-- No second answer of a public function. Assumes nothing.
use Rattle.lists.proofs.Prelude.{ℕ, ◌≡◌, List}
use Rattle.lists.specs.Once.{Once}
use Rattle.lists.proofs.Once.{once_is}
use Rattle.values.specs.Read.{read_identifier}
use Rattle.ff4_index.specs.Listed.{entry_of}
use Rattle.ff4_index.specs.declared.Entry.{Entry}

pub entry-of-once : (s : List ℕ) → Once (λ (r : Entry). r ≡ entry_of (read_identifier s))
entry-of-once s = once_is (entry_of (read_identifier s))
