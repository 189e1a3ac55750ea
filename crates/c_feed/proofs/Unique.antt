-- No second answer: two answers that meet the contract of a public function are equal. Assumes nothing.
use Rattle.lists.proofs.Prelude.{ℕ, Bool, List, ◌≡◌, sym, ◌∙◌}
use Rattle.lists.specs.Once.{Once}
use Rattle.lists.proofs.Once.{once_is}
use Rattle.tables.specs.Memory.{Memory}
use Rattle.feed.specs.Feed.{listing}
use Rattle.feed.specs.Find.{found_in}
use Rattle.feed_check.specs.Check.{feed_checked}
use Rattle.feed_value.specs.Look.{looked_up}
use Rattle.feed_value.specs.declared.Looked.{Looked}
use Rattle.tables.specs.declared.Counts.{Counts}
use Rattle.c_answers.specs.declared.SgfEdit.{SgfEdit}
use Rattle.c_answers.specs.declared.SgfWriting.{SgfWriting}
use Rattle.c_feed.specs.Parts.{part_in_c, found_in_c, check_in_c, made_in_c, PutInC, applied_in_c, CorrectInC}
use Rattle.std.specs.Prelude.{Option, Result, ⊤}
use Rattle.feed_check.specs.declared.FeedRefusal.{FeedRefusal}
use Rattle.feed.specs.declared.make.MakeFault.{MakeFault}
use Rattle.tables.specs.declared.Refusal.{Refusal}

pub part-in-c-once : (x : Looked) → Once (λ r. r ≡ part_in_c x)
part-in-c-once x = once_is (part_in_c x)

pub found-in-c-once : (x : Option (ℕ × ℕ)) → Once (λ r. r ≡ found_in_c x)
found-in-c-once x = once_is (found_in_c x)

pub check-in-c-once : (x : Result ⊤ (Refusal FeedRefusal)) → Once (λ r. r ≡ check_in_c x)
check-in-c-once x = once_is (check_in_c x)

pub made-in-c-once : (x : Result ℕ MakeFault) → Once (λ r. r ≡ made_in_c x)
made-in-c-once x = once_is (made_in_c x)

pub applied-in-c-once : (c : Counts) (x : Result ℕ (Refusal FeedRefusal)) → Once (λ r. r ≡ applied_in_c c x)
applied-in-c-once c x = once_is (applied_in_c c x)

-- of the exported functions

pub corrected-once : (m : Memory) (w : List ℕ) (k : ℕ) → Once (λ r. r ≡ part_in_c (looked_up m w k))
corrected-once m w k = part-in-c-once (looked_up m w k)

pub feed-check-once : (m : Memory) (w : List ℕ) → Once (λ r. r ≡ check_in_c (feed_checked m w))
feed-check-once m w = check-in-c-once (feed_checked m w)

pub feed-find-once : (w : List ℕ) (k : ℕ) → Once (λ r. r ≡ found_in_c (found_in (listing w).entries k))
feed-find-once w k = found-in-c-once (found_in (listing w).entries k)

-- of sgf_feed_begin and sgf_feed_add
pub put-once : (held : Bool) (bytes out x y : List ℕ) (r r' : SgfWriting) → PutInC held bytes out x r → PutInC held bytes out y r' → (x ≡ y) × (r ≡ r')
put-once held bytes out x y r r' f g = (f.memory ∙ sym g.memory, f.is ∙ sym g.is)

pub correct-once : (m x y : Memory) (w : List ℕ) (r r' : SgfEdit) → CorrectInC m x w r → CorrectInC m y w r' → (x ≡ y) × (r ≡ r')
correct-once m x y w r r' f g = (f.memory ∙ sym g.memory, f.is ∙ sym g.is)
