-- Demand 1 of the functions of corrections, each over its contract: 19, 24, then for each correction 16, 17, 2, 18; 1 and 14 of sgf_correct, 16 for the value asked for of sgf_corrected. Assumes nothing.
use Rattle.lists.proofs.Prelude.{ℕ, ◌<◌, Bool, List, ◌≡◌, ap}
use Rattle.tables.specs.Memory.{Memory}
use Rattle.c_answers.specs.Structs.{no_counts}
use Rattle.c_answers.specs.declared.SgfEdit.{SgfEdit}
use Rattle.c_answers.specs.declared.SgfWriting.{SgfWriting}
use Rattle.feed_check.specs.Check.{feed_checked}
use Rattle.feed_value.specs.Look.{looked_up}
use Rattle.c_feed.specs.Parts.{part_in_c, found_in_c, check_in_c, PutInC, CorrectInC}
use Rattle.c_feed.specs.declared.SgfCheck.{SgfCheck}
use Rattle.c_feed.specs.declared.SgfPart.{SgfPart}
use Rattle.demands.specs.Calls.{counts_in}
use Rattle.demands.specs.Requests.{Only, OnlyAt, FeedBecause, LookBecause, ApplyBecause, PutBecause}
use Rattle.demands.proofs.Fed as fed
use Rattle.demands.proofs.FedInto as into
use Rattle.demands.proofs.FedApplied as applied
use Rattle.std.specs.Prelude.{Option, Some, None}
-- sgf_correct: any other number than 0 leaves every byte of the buffer and every number of the tables
pub use Rattle.c_feed.proofs.Corrected.{correct-refused}
-- sgf_feed_find answers as sgf_corrected where sgf_feed_check gives 0
pub use Rattle.c_feed.proofs.Checked.{find-agrees}

module _ (m : Memory) (w : List ℕ) where
  -- sgf_feed_check: 19, 24, then for each correction 16, 17, 2, 18, with the place
  pub check-exactly : (c : SgfCheck) → c ≡ check_in_c (feed_checked m w) → OnlyAt (FeedBecause m w) c.number c.place
  check-exactly = fed.check-only m w

  -- sgf_corrected: the same, then 16 for k itself
  pub corrected-exactly : (k : ℕ) (r : SgfPart) → r ≡ part_in_c (looked_up m w k) → OnlyAt (LookBecause m w k) r.number r.place
  corrected-exactly = into.look-only m w

  -- refused: an empty part
  pub corrected-zeros : (k : ℕ) (r : SgfPart) → r ≡ part_in_c (looked_up m w k) → 0 < r.number → (r.source ≡ 0) × (r.from ≡ 0) × (r.to ≡ 0)
  corrected-zeros = into.look-zeros m w

  -- sgf_correct: as sgf_feed_check, then 1 and 14 on the final length
  pub correct-exactly : (m' : Memory) (r : SgfEdit) → CorrectInC m m' w r → OnlyAt (ApplyBecause m w) r.number r.place
  correct-exactly = applied.apply-only m w

  -- refused: no length and no counts
  pub correct-zeros : (m' : Memory) (r : SgfEdit) → CorrectInC m m' w r → 0 < r.number → (r.used ≡ 0) × (counts_in r ≡ no_counts)
  correct-zeros = applied.apply-zeros m w

-- sgf_feed_find: 0
pub find-number : (x : Option (ℕ × ℕ)) (r : SgfPart) → r ≡ found_in_c x → r.number ≡ 0
find-number (Some (a, e)) r h = ap (λ (z : SgfPart). z.number) h
find-number None r h = ap (λ (z : SgfPart). z.number) h

module _ (held : Bool) (bytes out out' : List ℕ) (r : SgfWriting) (s : PutInC held bytes out out' r) where
  -- sgf_feed_begin and sgf_feed_add: 24, 14
  pub put-exactly : Only (PutBecause held bytes out) r.number
  put-exactly = into.put_only held bytes out out' r s

  -- any other number than 0 leaves every byte of the output
  pub put-stays : 0 < r.number → out' ≡ out
  put-stays = into.put-stays held bytes out out' r s

  -- and gives no length
  pub put-zeros : 0 < r.number → r.length ≡ 0
  put-zeros = into.put-zeros held bytes out out' r s
