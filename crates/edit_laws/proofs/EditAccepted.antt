-- An edit that nothing forbids is accepted, and leaves what the scope says: bytes and places. Assumes nothing.
use Rattle.lists.proofs.Prelude.{ℕ, List, ◌≡◌, sym, ap, ◌∙◌, subst, subst⁻¹, arith, length}
use Rattle.tables.specs.Columns.{val_from_at, val_to_at}
use Rattle.tables.specs.Memory.{Memory}
use Rattle.edit_answer.specs.Edit.{Outcome}
use Rattle.edit_answer.specs.Answer.{outcome_of}
use Rattle.edit_answer.proofs.Fitting.{fit-within}
use Rattle.edit_answer.proofs.Judged.{new_text, length-new}
use Rattle.edit.specs.Lent.{memory_after}
use Rattle.edit.proofs.Given.{Given, given}
use Rattle.edit_laws.specs.Edits.{new_length, Allowed, BytesEdited, Edits}
use Rattle.edit_laws.proofs.BytesLeft.{bytes_left}
use Rattle.edit_laws.proofs.Judging.{allowed-given}
use Rattle.edit_laws.proofs.PlacesLeft.{places-left}

module _ (m : Memory) (k : ℕ) (new : List ℕ) (a : Allowed m k new) where
  abbrev L : ℕ
  L = new_length m k (length new)

  abbrev Text : List ℕ
  Text = new_text m k new

  x : Given m k new L
  x = given m k new L (sym (allowed-given m k new a))

  long : length Text ≡ L
  long = length-new m k new a.fits a.below

  pub allowed-leaves : (m' : Memory) → m' ≡ memory_after (outcome_of m k new) m → Edits m k new m'
  allowed-leaves m' e =
      subst⁻¹ (Edits m k new) (e ∙ ap (λ (o : Outcome). memory_after o m) x.is)
      (record {
        bytes = subst (BytesEdited m.text m.used (val_from_at m.values k) (val_to_at m.values k) new _) long
            (bytes_left m.text new m.used (val_from_at m.values k) (val_to_at m.values k)
            (fit-within m a.fits k a.below) (omega (arith, long, a.room)));
        places = places-left m k new x;
      })
