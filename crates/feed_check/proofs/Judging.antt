-- What bytes, corrections and feeds are answered, test by test. Assumes nothing.
use Rattle.lists.proofs.Prelude.{ℕ, ◌≡◌, refl, sym, ap, ap₂, ◌∙◌, Bool, true, false, not, List, [], ◌∷◌, ltb, pick}
use types.Run.{OneOf, miss}
use denote.Enum.Declared.{tag_of}
use Rattle.lists.specs.Same.{same}
use Rattle.text_utf8.specs.Trim.{trimmed}
use Rattle.text_utf8.specs.declared.Trimmed.{Trimmed}
use Rattle.text_utf8.specs.declared.Trimmed.TheVariants.{NotUtf8 as BadAt, Blank, Kept}
use Rattle.text_utf8.specs.contracts.Trimmed as trimmed-type
use Rattle.lexer.specs.Closed.{closed}
use Rattle.parser.specs.Game.{GM}
use Rattle.tables.specs.Rows.{PropRow}
use Rattle.tables.specs.Memory.{Memory}
use Rattle.fit.specs.Fit.{Fit}
use Rattle.fit.specs.Record.{rows_in, text_in}
use Rattle.edit_answer.specs.Edit.{owner_name}
use Rattle.feed.specs.Feed.{Entry, listing}
use Rattle.feed_check.specs.Check.{shut_judged, bytes_judged, bytes_at, correction_judged, first_refusal, corrections_judged, feed_checked}
use Rattle.feed_check.specs.LocalsOwner.{tested_by}
use Rattle.feed_check.specs.declared.FeedRefusal.{FeedRefusal}
use Rattle.feed_check.specs.declared.FeedRefusal.TheVariants.{NotFitting, Malformed, NoSuchNumber, GameTypeFixed}
use Rattle.std.specs.Prelude.{Result, Ok, Err, ⊤}
use Rattle.tables.specs.Refusals.{refusal}
use Rattle.tables.specs.declared.Refusal.{Refusal}

-- valid bytes are judged by whether they are closed
pub bytes-valid : (at : ℕ) (x : Trimmed) (shut : Bool) → OneOf (1 ∷ 2 ∷ []) (tag_of trimmed-type.the_type x) → bytes_judged at x shut ≡ shut_judged shut
bytes-valid at (BadAt p) shut z = absurd (miss (1 ∷ 2 ∷ []) 0 tt z)
bytes-valid at Blank shut z = refl
bytes-valid at (Kept f l) shut z = refl

pub tested-unknown : (known fixed : Bool) (r : Result ⊤ (Refusal FeedRefusal)) → not known ≡ true → Err (refusal NoSuchNumber 0) ≡ tested_by known fixed r
tested-unknown known fixed r h = sym (ap (λ (b : Bool). pick b (Err (refusal NoSuchNumber 0)) (pick fixed (Err (refusal GameTypeFixed 0)) r)) h)

pub tested-fixed : (known fixed : Bool) (r : Result ⊤ (Refusal FeedRefusal)) → not known ≡ false → fixed ≡ true → Err (refusal GameTypeFixed 0) ≡ tested_by known fixed r
tested-fixed known fixed r h k = sym (ap₂ (λ (b d : Bool). pick b (Err (refusal NoSuchNumber 0)) (pick d (Err (refusal GameTypeFixed 0)) r)) h k)

pub tested-bytes : (known fixed : Bool) (r : Result ⊤ (Refusal FeedRefusal)) → not known ≡ false → fixed ≡ false → r ≡ tested_by known fixed r
tested-bytes known fixed r h k = sym (ap₂ (λ (b d : Bool). pick b (Err (refusal NoSuchNumber 0)) (pick d (Err (refusal GameTypeFixed 0)) r)) h k)

-- ---- one correction after another

module _ (t : List ℕ) (rs : List PropRow) (total : ℕ) (w : List ℕ) where
  pub judged-none : corrections_judged t rs total w [] ≡ Ok tt
  unfolding corrections_judged
  judged-none = refl

  module _ (x : Entry) (xs : List Entry) (fixed : Bool) (is : fixed ≡ same (owner_name t rs x.value) GM) where
    -- its tests, as the code makes them
    pub tested-is : tested_by (ltb x.value total) fixed (bytes_judged x.from (trimmed (bytes_at w x)) (closed (bytes_at w x))) ≡ correction_judged t rs total w x
    tested-is = ap (λ (b : Bool). tested_by (ltb x.value total) b (bytes_judged x.from (trimmed (bytes_at w x)) (closed (bytes_at w x)))) is

    pub judged-refused : (f : FeedRefusal) (p : ℕ)
        → tested_by (ltb x.value total) fixed (bytes_judged x.from (trimmed (bytes_at w x)) (closed (bytes_at w x))) ≡ Err (refusal f p)
        → corrections_judged t rs total w (x ∷ xs) ≡ Err (refusal f p)
    unfolding corrections_judged
    judged-refused f p e = ap (λ (r : Result ⊤ (Refusal FeedRefusal)). first_refusal r (corrections_judged t rs total w xs)) (sym tested-is ∙ e)

    pub judged-passed : tested_by (ltb x.value total) fixed (bytes_judged x.from (trimmed (bytes_at w x)) (closed (bytes_at w x))) ≡ Ok tt
        → corrections_judged t rs total w (x ∷ xs) ≡ corrections_judged t rs total w xs
    unfolding corrections_judged
    judged-passed e = ap (λ (r : Result ⊤ (Refusal FeedRefusal)). first_refusal r (corrections_judged t rs total w xs)) (sym tested-is ∙ e)

-- ---- the whole feed

module _ (m : Memory) (w : List ℕ) where
  pub checked-misfit : Fit m ≡ false → Err (refusal NotFitting 0) ≡ feed_checked m w
  unfolding feed_checked
  checked-misfit h = rw h

  pub checked-malformed : Fit m ≡ true → (listing w).whole ≡ false → Err (refusal Malformed 0) ≡ feed_checked m w
  unfolding feed_checked
  checked-malformed h k = rw (h, k)

  pub checked-judged : Fit m ≡ true → (listing w).whole ≡ true → corrections_judged (text_in m) (rows_in m).props m.counts.values w (listing w).entries ≡ feed_checked m w
  unfolding feed_checked
  checked-judged h k = rw (h, k)
