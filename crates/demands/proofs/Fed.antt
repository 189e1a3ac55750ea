-- The exported functions of feeds: when each number is given, and its place; what a refusal leaves. Assumes nothing.
use Rattle.lists.proofs.Prelude.{ℕ, ◌+◌, ◌<◌, Bool, true, false, List, [], ◌∷◌, ◌⊎◌, inl, inr, ⊎_elim, ◌≡◌, refl, sym, ap, ◌∙◌, subst₂, arith, lt-ltb, le-ltb}
use Rattle.lists.specs.Same.{same}
use Rattle.text_chars.specs.Table.{WellFormed}
use Rattle.text_utf8.specs.Trim.{trimmed}
use Rattle.text_utf8.specs.declared.Trimmed.{Trimmed}
use Rattle.text_utf8.specs.declared.Trimmed.TheVariants.{NotUtf8 as BadAt, Blank, Kept}
use Rattle.text_utf8.proofs.WellFormed.{well-or-bad, bad-trimmed, well-formed-trimmed}
use Rattle.lexer.specs.Closed.{closed}
use Rattle.tables.specs.Memory.{Memory}
use Rattle.tables.proofs.Cases.{either-bool, below_or, true-false}
use Rattle.parser.specs.Game.{GM}
use Rattle.fit.specs.Fit.{Fit}
use Rattle.fit.specs.Record.{rows_in, text_in}
use Rattle.fit.proofs.RootRows.{same-equal}
use Rattle.edit_laws.specs.Edits.{owner}
use Rattle.feed.specs.Feed.{Entry, listing}
use Rattle.feed_check.specs.Check.{feed_checked, bytes_at, shut_judged, bytes_judged, correction_judged, corrections_judged, first_refusal}
use Rattle.feed_check.specs.declared.FeedRefusal.TheVariants.{NotFitting, Malformed, NoSuchNumber, GameTypeFixed, NotUtf8}
use Rattle.c_feed.specs.Parts.{check_in_c}
use Rattle.c_feed.specs.declared.SgfCheck.{SgfCheck}
use Rattle.c_feed.proofs.Corrected.{no_zero}
use Rattle.demands.specs.Requests.{OnlyAt, CorrectionBecause, passes, CorrectionsBecause, FeedBecause}
use Rattle.demands.specs.Requests as when
use Rattle.std.specs.Prelude.{Result, Ok, Err, ⊤}
use Rattle.tables.specs.Refusals.{refusal}
use Rattle.feed_check.specs.declared.FeedRefusal.{FeedRefusal}
use Rattle.tables.specs.declared.Refusal.{Refusal}

-- given for a reason, and each reason gives its own: then only so
pub only_at : (Because : (number place : ℕ) → Type 0) (n p : ℕ) → (a : ℕ) × (b : ℕ) × Because a b → ((a b : ℕ) → Because a b → (n ≡ a) × (p ≡ b)) → OnlyAt Because n p
only_at Because n p (a, b, x) h = record { only = subst₂ Because (sym (h a b x).0) (sym (h a b x).1) x; always = h }

-- a check says a number and a place
abbrev pub Says : Result ⊤ (Refusal FeedRefusal) → (number place : ℕ) → Type 0
Says c n p = ((check_in_c c).number ≡ n) × ((check_in_c c).place ≡ p)

says : {c d : Result ⊤ (Refusal FeedRefusal)} → c ≡ d → Says c (check_in_c d).number (check_in_c d).place
says e = (ap (λ (z : Result ⊤ (Refusal FeedRefusal)). (check_in_c z).number) e, ap (λ (z : Result ⊤ (Refusal FeedRefusal)). (check_in_c z).place) e)

-- 0 is said where it passes
pub says-passed : (c : Result ⊤ (Refusal FeedRefusal)) {p : ℕ} → Says c 0 p → c ≡ Ok tt
says-passed (Ok tt) h = refl
says-passed (Err e) h = no_zero e.reason h.0

well-judged : (at : ℕ) (b : List ℕ) (c : Bool) → WellFormed b → bytes_judged at (trimmed b) c ≡ shut_judged c
well-judged at b c v = go (trimmed b) refl
  where
    go : (u : Trimmed) → trimmed b ≡ u → bytes_judged at u c ≡ shut_judged c
    go (BadAt p) e = absurd (well-formed-trimmed b v p e)
    go Blank e = refl
    go (Kept f l) e = refl

module _ (m : Memory) (w : List ℕ) where
  -- ---- one correction

  module _ (x : Entry) where
    abbrev here : Result ⊤ (Refusal FeedRefusal)
    here = correction_judged (text_in m) (rows_in m).props m.counts.values w x

    not-gm : (owner m x.value ≡ GM → ⊥) → same (owner m x.value) GM ≡ false
    not-gm h = either-bool (same (owner m x.value) GM) (λ e. absurd (h (same-equal (owner m x.value) GM e))) (λ e. e)

    is-gm : owner m x.value ≡ GM → same (owner m x.value) GM ≡ true
    is-gm h = ap (λ (z : List ℕ). same z GM) h

    by_bytes : x.value < m.counts.values → (owner m x.value ≡ GM → ⊥) → here ≡ bytes_judged x.from (trimmed (bytes_at w x)) (closed (bytes_at w x))
    by_bytes l g = rw (lt-ltb x.value m.counts.values l, not-gm g)

    one-says : {n p : ℕ} → CorrectionBecause m w x n p → Says here n p
    one-says (when.beyond l) = says {c = here} {d = Err (refusal NoSuchNumber 0)} (rw (le-ltb x.value m.counts.values l))
    one-says (when.fixed l g) = says {c = here} {d = Err (refusal GameTypeFixed 0)} (rw (lt-ltb x.value m.counts.values l, is-gm g))
    one-says (when.garbled l g p b) = says {c = here} {d = Err (refusal NotUtf8 (x.from + p))} (by_bytes l g ∙ rw (bad-trimmed (bytes_at w x) p b))
    one-says (when.open-ended l g v c) = says {c = here} {d = shut_judged false} (by_bytes l g ∙ well-judged x.from (bytes_at w x) (closed (bytes_at w x)) v ∙ ap shut_judged c)
    one-says (when.passes l g v c) = says {c = here} {d = Ok tt} (by_bytes l g ∙ well-judged x.from (bytes_at w x) (closed (bytes_at w x)) v ∙ ap shut_judged c)

    abbrev Decided : Type 0
    Decided = CorrectionBecause m w x 0 0 ⊎ ((n : ℕ) × (p : ℕ) × (0 < n) × CorrectionBecause m w x n p)

    one_free : x.value < m.counts.values → (owner m x.value ≡ GM → ⊥) → Decided
    one_free l g =
        ⊎_elim (λ v. either-bool (closed (bytes_at w x)) (λ c. inl (passes l g v c)) (λ c. inr (18, 0, omega arith, when.open-ended l g v c)))
        (λ b. inr (2, x.from + b.0, omega arith, when.garbled l g b.0 b.1)) (well-or-bad (bytes_at w x))

    one-decided : Decided
    one-decided =
        below_or x.value m.counts.values
        (λ l. either-bool (same (owner m x.value) GM)
        (λ g. inr (17, 0, omega arith, when.fixed l (same-equal (owner m x.value) GM g)))
        (λ g. one_free l (λ e. true-false (same (owner m x.value) GM) (is-gm e) g)))
        (λ l. inr (16, 0, omega arith, when.beyond l))

  -- ---- corrections one after another

  first_says : (c d : Result ⊤ (Refusal FeedRefusal)) {n p : ℕ} → 0 < n → Says c n p → Says (first_refusal c d) n p
  first_says (Ok tt) d l h = absurd (omega (arith, l, h.0))
  first_says (Err e) d l h = h

  later-says : (c d : Result ⊤ (Refusal FeedRefusal)) {n p : ℕ} → Says c 0 0 → Says d n p → Says (first_refusal c d) n p
  later-says (Ok tt) d z h = h
  later-says (Err e) d z h = no_zero e.reason z.0

  abbrev these : List Entry → Result ⊤ (Refusal FeedRefusal)
  these xs = corrections_judged (text_in m) (rows_in m).props m.counts.values w xs

  all_say : {xs : List Entry} {n p : ℕ} → CorrectionsBecause m w xs n p → Says (these xs) n p
  unfolding corrections_judged
  all_say when.all_pass = (refl, refl)
  all_say (when.first {x = x} {xs = xs} l b) = first_says (here x) (these xs) l (one-says x b)
  all_say (when.later {x = x} {xs = xs} b bs) = later-says (here x) (these xs) (one-says x b) (all_say bs)

  all-decided : (xs : List Entry) → (n : ℕ) × (p : ℕ) × CorrectionsBecause m w xs n p
  all-decided [] = (0, 0, when.all_pass)
  all-decided (x ∷ xs) =
      ⊎_elim (λ b. let r = all-decided xs in (r.0, r.1, when.later b r.2)) (λ b. (b.0, b.1, when.first b.2 b.3)) (one-decided x)

  -- ---- the feed

  pub feed-says : {n p : ℕ} → FeedBecause m w n p → Says (feed_checked m w) n p
  unfolding feed_checked
  feed-says (when.misfit f) = says {c = feed_checked m w} {d = Err (refusal NotFitting 0)} (rw f)
  feed-says (when.malformed f l) = says {c = feed_checked m w} {d = Err (refusal Malformed 0)} (rw (f, l))
  feed-says (when.judged f l b) = let e : feed_checked m w ≡ these (listing w).entries = rw (f, l) in let h = all_say b in ((says e).0 ∙ h.0, (says e).1 ∙ h.1)

  pub feed-decided : (n : ℕ) × (p : ℕ) × FeedBecause m w n p
  feed-decided =
      either-bool (Fit m)
      (λ f. either-bool (listing w).whole
      (λ l. let r = all-decided (listing w).entries in (r.0, r.1, when.judged f l r.2))
      (λ l. (24, 0, when.malformed f l)))
      (λ f. (19, 0, when.misfit f))

  -- sgf_feed_check
  pub check-only : (c : SgfCheck) → c ≡ check_in_c (feed_checked m w) → OnlyAt (FeedBecause m w) c.number c.place
  check-only c s =
      only_at (FeedBecause m w) c.number c.place feed-decided
      (λ n p b. let h = feed-says b in (ap (λ (z : SgfCheck). z.number) s ∙ h.0, ap (λ (z : SgfCheck). z.place) s ∙ h.1))
