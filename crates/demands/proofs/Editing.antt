-- The edit of a record that strict reading gave, whole. Assumes nothing.
use Rattle.lists.proofs.Prelude.{ℕ, ◌≤◌, ◌<◌, true, List, [], ◌∷◌, ◌≡◌, length}
use Rattle.text_chars.specs.Table.{WellFormed}
use Rattle.lexer.specs.Closed.{closed}
use Rattle.tables.specs.Memory.{Memory}
use Rattle.tables.specs.Numbers.{text_limit}
use Rattle.parser.specs.Game.{GM}
use Rattle.c_answers.specs.declared.SgfEdit.{SgfEdit}
use Rattle.sgf.specs.ChangeInC.{EditInC}
use Rattle.edit_laws.specs.Edits.{owner, new_length, Edits}
use Rattle.edit_laws.specs.Fresh.{Fresh}
use Rattle.demands.specs.Calls.{counts_in, goes_on, none, call}
use Rattle.demands.proofs.CallsShown.{calls-shown}
use Rattle.demands.proofs.Edited.{edit-changes}
use Rattle.demands.proofs.Rereadings.{calls-fresh}

pub edit-fresh : (m : Memory) → Fresh m → (m' : Memory) (k : ℕ) (new : List ℕ) (r : SgfEdit) → EditInC m m' k new r
    → k < m.counts.values → (owner m k ≡ GM → ⊥) → WellFormed new → closed new ≡ true → new_length m k (length new) ≤ text_limit → new_length m k (length new) ≤ length m.text
    → (r.number ≡ 0) × (r.used ≡ new_length m k (length new)) × (counts_in r ≡ m.counts) × Edits m k new m' × Fresh (goes_on m' r)
edit-fresh m f m' k new r s below free valid shut short room =
    let e = edit-changes m m' k new r s (record { fits = f.fits; below = below; free = free; valid = valid; shut = shut; short = short; room = room }) in
    (e.0, e.1, e.2, e.3, calls-fresh m (goes_on m' r) (record { value = k; bytes = new } ∷ []) f (calls-shown (call r m' s none)))
