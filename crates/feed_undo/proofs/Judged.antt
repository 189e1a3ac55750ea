-- A feed that passes the check, by its corrections: each has a number below the count, is of no game type, and its bytes are valid and closed. Assumes nothing.
use Rattle.lists.proofs.Prelude.{ℕ, ◌<◌, Bool, true, false, not, ◌≡◌, refl, ap, ◌∙◌, List, [], ◌∷◌, map, ltb, ltb-true, lt-ltb, pick}
use Rattle.lists.specs.All.{All}
use Rattle.lists.specs.Same.{same}
use Rattle.lists.proofs.Tests.{never}
use Rattle.text_utf8.specs.Text.{Ink, blank, inked, Utf, whole, part, bad, utfs}
use Rattle.text_utf8.specs.Trim.{trim_of, trimmed}
use Rattle.lexer.specs.Closed.{closed}
use Rattle.tables.specs.Memory.{Memory}
use Rattle.tables.specs.Rows.{PropRow}
use Rattle.parser.specs.Game.{GM}
use Rattle.fit.specs.Fit.{Fit}
use Rattle.fit.specs.Record.{rows_in, text_in}
use Rattle.edit_answer.specs.Edit.{owner_name}
use Rattle.feed.specs.Feed.{Correction, Entry, correction_at, listing, corrections}
use Rattle.feed_check.specs.Check.{bytes_judged, bytes_at, correction_judged, first_refusal, corrections_judged, feed_checked}
use Rattle.feed_check.specs.declared.FeedRefusal.TheVariants.{NotFitting, Malformed, NoSuchNumber, GameTypeFixed}
use Rattle.std.specs.Prelude.{Result, Ok, Err, ⊤}
use Rattle.tables.specs.Refusals.{refusal}
use Rattle.feed_check.specs.declared.FeedRefusal.{FeedRefusal}
use Rattle.tables.specs.declared.Refusal.{Refusal}

-- what a correction that passes is
pub record Good (t : List ℕ) (rs : List PropRow) (total : ℕ) (c : Correction) : Type 0 where
  pub below : c.value < total
  pub free : same (owner_name t rs c.value) GM ≡ false
  pub ink : Ink
  pub valid : utfs (whole blank) 0 c.bytes ≡ whole ink
  pub shut : closed c.bytes ≡ true

record Tests (b g : Bool) (u : Utf) (d : Bool) : Type 0 where
  known : b ≡ true
  free : g ≡ false
  ink : Ink
  valid : u ≡ whole ink
  shut : d ≡ true

tests-of : (at : ℕ) (b g : Bool) (u : Utf) (d : Bool) → pick (not b) (Err (refusal NoSuchNumber 0)) (pick g (Err (refusal GameTypeFixed 0)) (bytes_judged at (trim_of u) d)) ≡ Ok tt → Tests b g u d
tests-of at false g u d e = never cc
tests-of at true true u d e = never cc
tests-of at true false (part k s n r x) d e = never cc
tests-of at true false (bad p) d e = never cc
tests-of at true false (whole blank) false e = never cc
tests-of at true false (whole (inked f l)) false e = never cc
tests-of at true false (whole blank) true e = record { known = refl; free = refl; ink = blank; valid = refl; shut = refl }
tests-of at true false (whole (inked f l)) true e = record { known = refl; free = refl; ink = inked f l; valid = refl; shut = refl }

of-tests : (at : ℕ) (b g : Bool) (u : Utf) (d : Bool) (k : Ink) → b ≡ true → g ≡ false → u ≡ whole k → d ≡ true
    → pick (not b) (Err (refusal NoSuchNumber 0)) (pick g (Err (refusal GameTypeFixed 0)) (bytes_judged at (trim_of u) d)) ≡ Ok tt
of-tests at b g u d blank eb eg eu ed = rw (eb, eg, eu, ed)
of-tests at b g u d (inked f l) eb eg eu ed = rw (eb, eg, eu, ed)

first-passed : (x y : Result ⊤ (Refusal FeedRefusal)) → first_refusal x y ≡ Ok tt → (x ≡ Ok tt) × (y ≡ Ok tt)
first-passed (Ok tt) y e = (refl, e)
first-passed (Err r) y e = never cc

module _ (t : List ℕ) (rs : List PropRow) (total : ℕ) (w : List ℕ) where
  one-good : (x : Entry) → correction_judged t rs total w x ≡ Ok tt → Good t rs total (correction_at w x)
  unfolding trimmed
  one-good x e =
      let r = tests-of x.from (ltb x.value total) (same (owner_name t rs x.value) GM) (utfs (whole blank) 0 (bytes_at w x)) (closed (bytes_at w x)) e in
      record { below = ltb-true x.value total r.known; free = r.free; ink = r.ink; valid = r.valid; shut = r.shut }

  good-one : (x : Entry) → Good t rs total (correction_at w x) → correction_judged t rs total w x ≡ Ok tt
  unfolding trimmed
  good-one x g =
      of-tests x.from (ltb x.value total) (same (owner_name t rs x.value) GM) (utfs (whole blank) 0 (bytes_at w x)) (closed (bytes_at w x)) g.ink
      (lt-ltb x.value total g.below) g.free g.valid g.shut

  pub judged-good : (es : List Entry) → corrections_judged t rs total w es ≡ Ok tt → All (Good t rs total) (map (correction_at w) es)
  unfolding corrections_judged
  judged-good [] e = tt
  judged-good (x ∷ es) e = let z = first-passed (correction_judged t rs total w x) (corrections_judged t rs total w es) e in (one-good x z.0, judged-good es z.1)

  pub good-judged : (es : List Entry) → All (Good t rs total) (map (correction_at w) es) → corrections_judged t rs total w es ≡ Ok tt
  unfolding corrections_judged
  good-judged [] g = refl
  good-judged (x ∷ es) g = ap (λ (c : Result ⊤ (Refusal FeedRefusal)). first_refusal c (corrections_judged t rs total w es)) (good-one x g.0)
      ∙ good-judged es g.1

-- the whole check
three : (a b : Bool) (c : Result ⊤ (Refusal FeedRefusal)) → pick a (pick b c (Err (refusal Malformed 0))) (Err (refusal NotFitting 0)) ≡ Ok tt
    → (a ≡ true) × (b ≡ true) × (c ≡ Ok tt)
three true true c e = (refl, refl, e)
three true false c e = never cc
three false b c e = never cc

module _ (m : Memory) (w : List ℕ) where
  pub passed-good : feed_checked m w ≡ Ok tt → (Fit m ≡ true) × ((listing w).whole ≡ true) × All (Good (text_in m) (rows_in m).props m.counts.values) (corrections w)
  unfolding feed_checked
  passed-good e =
      let z = three (Fit m) (listing w).whole (corrections_judged (text_in m) (rows_in m).props m.counts.values w (listing w).entries) e in
      (z.0, z.1, judged-good (text_in m) (rows_in m).props m.counts.values w (listing w).entries z.2)

  pub good-passed : Fit m ≡ true → (listing w).whole ≡ true → All (Good (text_in m) (rows_in m).props m.counts.values) (corrections w)
      → feed_checked m w ≡ Ok tt
  unfolding feed_checked
  good-passed f h g = rw (f, h) (good-judged (text_in m) (rows_in m).props m.counts.values w (listing w).entries g)
