-- What a feed that passes says of each value that it corrects: its bytes may stand for that value. Assumes nothing.
use Rattle.lists.proofs.Prelude.{ℕ, true, false, not, ◌≡◌, refl, ap, ◌∙◌, subst, subst₂, Bool, List, [], ◌∷◌, eqb, ltb, eqb-true, slice, pick}
use Rattle.lists.specs.Same.{same}
use Rattle.lists.proofs.Tests.{never}
use Rattle.text_utf8.specs.Text.{Ink, blank, inked, Utf, whole, part, bad, utfs}
use Rattle.text_utf8.specs.Trim.{trim_of, trimmed}
use Rattle.lexer.specs.Closed.{closed}
use Rattle.parser.specs.Game.{GM}
use Rattle.tables.specs.Memory.{Memory}
use Rattle.tables.specs.Rows.{PropRow}
use Rattle.tables.proofs.Cases.{either-bool}
use Rattle.fit.specs.Record.{rows_in, text_in}
use Rattle.edit_answer.specs.Edit.{owner_name}
use Rattle.feed.specs.Feed.{Entry, listing}
use Rattle.feed.specs.Find.{found_in}
use Rattle.feed_check.specs.Check.{shut_judged, bytes_judged, correction_judged, first_refusal, corrections_judged, feed_checked}
use Rattle.feed_check.specs.declared.FeedRefusal.TheVariants.{NoSuchNumber, GameTypeFixed}
use Rattle.feed_check.proofs.Judging.{checked-malformed, checked-judged}
use Rattle.feed_value.proofs.Looking.{passed-fit}
use Rattle.std.specs.Prelude.{Option, Some, None, Result, Ok, Err, ⊤}
use Rattle.tables.specs.Refusals.{refusal}
use Rattle.feed_check.specs.declared.FeedRefusal.{FeedRefusal}
use Rattle.tables.specs.declared.Refusal.{Refusal}

abbrev passes : Result ⊤ (Refusal FeedRefusal) → ℕ
passes (Ok tt) = 1
passes (Err e) = 0

abbrev is_at : Option (ℕ × ℕ) → ℕ
is_at (Some (x, y)) = 1
is_at None = 0

abbrev start_of : Option (ℕ × ℕ) → ℕ
start_of (Some (x, y)) = x
start_of None = 0

abbrev end_of : Option (ℕ × ℕ) → ℕ
end_of (Some (x, y)) = y
end_of None = 0

-- bytes that may stand for a value
pub record Fine (owner new : List ℕ) : Type 0 where
  pub free : same owner GM ≡ false
  pub ink : Ink
  pub valid : utfs (whole blank) 0 new ≡ whole ink
  pub shut : closed new ≡ true

shut-passed : (b : Bool) → shut_judged b ≡ Ok tt → b ≡ true
shut-passed true h = refl
shut-passed false h = never (ap passes h)

bytes-passed : (owner new : List ℕ) (at : ℕ) → same owner GM ≡ false → bytes_judged at (trimmed new) (closed new) ≡ Ok tt → Fine owner new
unfolding trimmed
bytes-passed owner new at g h = go (utfs (whole blank) 0 new) refl h
  where
    go : (u : Utf) → utfs (whole blank) 0 new ≡ u → bytes_judged at (trim_of u) (closed new) ≡ Ok tt → Fine owner new
    go (whole blank) e k = record { free = g; ink = blank; valid = e; shut = shut-passed (closed new) k }
    go (whole (inked f l)) e k = record { free = g; ink = inked f l; valid = e; shut = shut-passed (closed new) k }
    go (part i s n r x) e k = never (ap passes k)
    go (bad p) e k = never (ap passes k)

module _ (t : List ℕ) (rs : List PropRow) (total : ℕ) (w : List ℕ) where
  one-passed : (k a e : ℕ) → correction_judged t rs total w (record { value = k; from = a; to = e }) ≡ Ok tt → Fine (owner_name t rs k) (slice a e w)
  one-passed k a e h = go (not (ltb k total)) (same (owner_name t rs k) GM) refl h
    where
      go : (b g : Bool) → same (owner_name t rs k) GM ≡ g
          → pick b (Err (refusal NoSuchNumber 0)) (pick g (Err (refusal GameTypeFixed 0)) (bytes_judged a (trimmed (slice a e w)) (closed (slice a e w)))) ≡ Ok tt → Fine (owner_name t rs k) (slice a e w)
      go true g i z = never (ap passes z)
      go false true i z = never (ap passes z)
      go false false i z = bytes-passed (owner_name t rs k) (slice a e w) a i z

  -- the first refusal is none
  both-passed : (x y : Result ⊤ (Refusal FeedRefusal)) → first_refusal x y ≡ Ok tt → (x ≡ Ok tt) × (y ≡ Ok tt)
  both-passed (Ok tt) y h = (refl, h)
  both-passed (Err e) y h = never (ap passes h)

  found-fine : (xs : List Entry) (k a e : ℕ) → corrections_judged t rs total w xs ≡ Ok tt → found_in xs k ≡ Some (a, e) → Fine (owner_name t rs k) (slice a e w)
  unfolding corrections_judged found_in
  found-fine [] k a e h f = never (ap is_at f)
  found-fine (x ∷ xs) k a e h f = go (eqb x.value k) refl f (λ z. found-fine xs k a e (both-passed (correction_judged t rs total w x) (corrections_judged t rs total w xs) h).1 z)
    where
      b : (correction_judged t rs total w x ≡ Ok tt) × (corrections_judged t rs total w xs ≡ Ok tt)
      b = both-passed (correction_judged t rs total w x) (corrections_judged t rs total w xs) h

      go : (c : Bool) → eqb x.value k ≡ c → pick c (Some (x.from, x.to)) (found_in xs k) ≡ Some (a, e) → (found_in xs k ≡ Some (a, e) → Fine (owner_name t rs k) (slice a e w)) → Fine (owner_name t rs k) (slice a e w)
      go true q z later =
          let i : x.value ≡ k = eqb-true x.value k q in
          let j : x.from ≡ a = ap start_of z in
          let l : x.to ≡ e = ap end_of z in
          subst (λ (y : ℕ). Fine (owner_name t rs y) (slice a e w)) i
          (subst₂ (λ (y v : ℕ). Fine (owner_name t rs x.value) (slice y v w)) j l (one-passed x.value x.from x.to b.0))
      go false q z later = later z

module _ (m : Memory) (w : List ℕ) (passed : feed_checked m w ≡ Ok tt) where
  all-passed : corrections_judged (text_in m) (rows_in m).props m.counts.values w (listing w).entries ≡ Ok tt
  all-passed =
      let fit = passed-fit m w passed in
      either-bool (listing w).whole (λ b. checked-judged m w fit b ∙ passed) (λ b. never (ap passes (checked-malformed m w fit b ∙ passed)))

  -- the bytes of a corrected value
  pub corrected-fine : (k a e : ℕ) → found_in (listing w).entries k ≡ Some (a, e) → Fine (owner_name (text_in m) (rows_in m).props k) (slice a e w)
  corrected-fine k a e f = found-fine (text_in m) (rows_in m).props m.counts.values w (listing w).entries k a e all-passed f
