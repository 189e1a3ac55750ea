-- 19 and 24 of sgf_feed_check exactly when; the other numbers exactly when a correction is refused so and all before it pass. Assumes nothing.
use Rattle.lists.proofs.Prelude.{ℕ, Bool, true, false, not, List, [], ◌∷◌, ◌++◌, ◌≡◌, ◌↔◌, refl, sym, ap, ◌∙◌, arith, pick, ltb}
use Rattle.lists.proofs.Tests.{never}
use Rattle.lists.specs.Same.{same}
use Rattle.text_utf8.specs.Trim.{trimmed}
use Rattle.text_utf8.specs.declared.Trimmed.{Trimmed}
use Rattle.text_utf8.specs.declared.Trimmed.TheVariants.{NotUtf8 as BadAt, Blank, Kept}
use Rattle.lexer.specs.Closed.{closed}
use Rattle.parser.specs.Game.{GM}
use Rattle.tables.specs.Memory.{Memory}
use Rattle.tables.specs.Rows.{PropRow}
use Rattle.tables.proofs.Cases.{either-bool}
use Rattle.fit.specs.Fit.{Fit}
use Rattle.fit.specs.Record.{rows_in, text_in}
use Rattle.edit_answer.specs.Edit.{owner_name}
use Rattle.feed.specs.Feed.{Entry, listing}
use Rattle.feed_check.specs.Check.{feed_checked, bytes_at, bytes_judged, correction_judged, corrections_judged, first_refusal}
use Rattle.feed_check.specs.declared.FeedRefusal.{FeedRefusal}
use Rattle.feed_check.specs.declared.FeedRefusal.TheVariants.{NoSuchNumber, GameTypeFixed, NotUtf8, NotClosed}
use Rattle.c_feed.specs.Parts.{check_in_c}
use Rattle.c_feed.specs.declared.SgfCheck.{SgfCheck}
use Rattle.c_feed.proofs.Checked.{misfit-checked, malformed-checked, judged-checked}
use Rattle.std.specs.Prelude.{Result, Ok, Err, ⊤}
use Rattle.tables.specs.Refusals.{refusal}
use Rattle.tables.specs.declared.Refusal.{Refusal}

not-both : {A : Type 0} (f : FeedRefusal) (p : ℕ) → ◌≡◌ {A = Result ⊤ (Refusal FeedRefusal)} (Err (refusal f p)) (Ok tt) → A
not-both f p e = never cc

-- ---- what a correction can be refused for

pub data OfCorrection : Result ⊤ (Refusal FeedRefusal) → Type 0 where
  passes : OfCorrection (Ok tt)
  unknown : (p : ℕ) → OfCorrection (Err (refusal NoSuchNumber p))
  fixed : (p : ℕ) → OfCorrection (Err (refusal GameTypeFixed p))
  foreign : (p : ℕ) → OfCorrection (Err (refusal NotUtf8 p))
  unclosed : (p : ℕ) → OfCorrection (Err (refusal NotClosed p))

module _ (t : List ℕ) (rs : List PropRow) (total : ℕ) (w : List ℕ) where
  of_one : (x : Entry) → OfCorrection (correction_judged t rs total w x)
  of_one x = go (ltb x.value total) (same (owner_name t rs x.value) GM) (trimmed (bytes_at w x)) (closed (bytes_at w x))
    where
      go : (a b : Bool) (u : Trimmed) (d : Bool) → OfCorrection (pick (not a) (Err (refusal NoSuchNumber 0)) (pick b (Err (refusal GameTypeFixed 0)) (bytes_judged x.from u d)))
      go false b u d = unknown 0
      go true true u d = fixed 0
      go true false (BadAt p) d = foreign _
      go true false Blank true = passes
      go true false Blank false = unclosed 0
      go true false (Kept f l) true = passes
      go true false (Kept f l) false = unclosed 0

  of-first : (x y : Result ⊤ (Refusal FeedRefusal)) → OfCorrection x → OfCorrection y → OfCorrection (first_refusal x y)
  of-first (Ok tt) y a b = b
  of-first (Err e) y a b = a

  pub of-all : (xs : List Entry) → OfCorrection (corrections_judged t rs total w xs)
  unfolding corrections_judged
  of-all [] = passes
  of-all (x ∷ xs) = of-first (correction_judged t rs total w x) (corrections_judged t rs total w xs) (of_one x) (of-all xs)

  -- ---- the first correction that is refused

  pub record FirstRefused (xs : List Entry) (f : FeedRefusal) (p : ℕ) : Type 0 where
    pub before : List Entry
    pub one : Entry
    pub behind : List Entry
    pub split : xs ≡ before ++ (one ∷ behind)
    pub pass : corrections_judged t rs total w before ≡ Ok tt
    pub refused : correction_judged t rs total w one ≡ Err (refusal f p)

  pub refused-first : (xs : List Entry) (f : FeedRefusal) (p : ℕ) → corrections_judged t rs total w xs ≡ Err (refusal f p) → FirstRefused xs f p
  unfolding corrections_judged
  refused-first [] f p h = not-both f p (sym h)
  refused-first (x ∷ xs) f p h = go (correction_judged t rs total w x) refl (refused-first xs f p)
    where
      go : (y : Result ⊤ (Refusal FeedRefusal)) → correction_judged t rs total w x ≡ y
          → (corrections_judged t rs total w xs ≡ Err (refusal f p) → FirstRefused xs f p) → FirstRefused (x ∷ xs) f p
      go (Ok tt) e k =
          let z = k (sym (ap (λ (v : Result ⊤ (Refusal FeedRefusal)). first_refusal v (corrections_judged t rs total w xs)) e) ∙ h) in
          record {
            before = x ∷ z.before;
            one = z.one;
            behind = z.behind;
            split = ap (λ (v : List Entry). x ∷ v) z.split;
            pass = ap (λ (v : Result ⊤ (Refusal FeedRefusal)). first_refusal v (corrections_judged t rs total w z.before)) e ∙ z.pass;
            refused = z.refused;
          }
      go (Err r) e k =
          record { before = []; one = x; behind = xs; split = refl; pass = refl; refused = e ∙ sym (ap (λ (v : Result ⊤ (Refusal FeedRefusal)). first_refusal v (corrections_judged t rs total w xs)) e) ∙ h }

  pub first-refused : (before : List Entry) (one : Entry) (behind : List Entry) (f : FeedRefusal) (p : ℕ)
      → corrections_judged t rs total w before ≡ Ok tt → correction_judged t rs total w one ≡ Err (refusal f p) → corrections_judged t rs total w (before ++ (one ∷ behind)) ≡ Err (refusal f p)
  unfolding corrections_judged
  first-refused [] one behind f p h e = ap (λ (v : Result ⊤ (Refusal FeedRefusal)). first_refusal v (corrections_judged t rs total w behind)) e
  first-refused (x ∷ xs) one behind f p h e = go (correction_judged t rs total w x) refl (first-refused xs one behind f p)
    where
      go : (y : Result ⊤ (Refusal FeedRefusal)) → correction_judged t rs total w x ≡ y
          → (corrections_judged t rs total w xs ≡ Ok tt → correction_judged t rs total w one ≡ Err (refusal f p) → corrections_judged t rs total w (xs ++ (one ∷ behind)) ≡ Err (refusal f p))
          → first_refusal (correction_judged t rs total w x) (corrections_judged t rs total w (xs ++ (one ∷ behind))) ≡ Err (refusal f p)
      go (Ok tt) y k =
          ap (λ (v : Result ⊤ (Refusal FeedRefusal)). first_refusal v (corrections_judged t rs total w (xs ++ (one ∷ behind)))) y
          ∙ k (sym (ap (λ (v : Result ⊤ (Refusal FeedRefusal)). first_refusal v (corrections_judged t rs total w xs)) y) ∙ h) e
      go (Err e) y k = not-both e.reason e.place (sym (ap (λ (v : Result ⊤ (Refusal FeedRefusal)). first_refusal v (corrections_judged t rs total w xs)) y) ∙ h)

-- ---- 19 and 24

of_number : {A : Type 0} (x : Result ⊤ (Refusal FeedRefusal)) → OfCorrection x → ((check_in_c x).number ≡ 19 → A) × ((check_in_c x).number ≡ 24 → A)
of_number _ passes = ((λ h. absurd (omega (arith, h))), (λ h. absurd (omega (arith, h))))
of_number _ (unknown p) = ((λ h. absurd (omega (arith, h))), (λ h. absurd (omega (arith, h))))
of_number _ (fixed p) = ((λ h. absurd (omega (arith, h))), (λ h. absurd (omega (arith, h))))
of_number _ (foreign p) = ((λ h. absurd (omega (arith, h))), (λ h. absurd (omega (arith, h))))
of_number _ (unclosed p) = ((λ h. absurd (omega (arith, h))), (λ h. absurd (omega (arith, h))))

module _ (m : Memory) (w : List ℕ) (c : SgfCheck) (s : c ≡ check_in_c (feed_checked m w)) where
  judged : Fit m ≡ true → (listing w).whole ≡ true → {A : Type 0} → (c.number ≡ 19 → A) × (c.number ≡ 24 → A)
  judged f l =
      let e = ap (λ (y : SgfCheck). y.number) (judged-checked m w c s f l) in
      let o = of_number _ (of-all (text_in m) (rows_in m).props m.counts.values w (listing w).entries) in
      ((λ h. o.0 (sym e ∙ h)), (λ h. o.1 (sym e ∙ h)))

  pub misfit-exactly : (c.number ≡ 19) ↔ (Fit m ≡ false)
  misfit-exactly = (
    (λ h. either-bool (Fit m)
        (λ f. either-bool (listing w).whole (λ l. (judged f l).0 h) (λ l. absurd (omega (arith, h, malformed-checked m w c s f l))))
        (λ f. f)),
    misfit-checked m w c s,
  )

  pub malformed-exactly : (c.number ≡ 24) ↔ ((Fit m ≡ true) × ((listing w).whole ≡ false))
  malformed-exactly = (
    (λ h. either-bool (Fit m)
        (λ f. either-bool (listing w).whole (λ l. (judged f l).1 h) (λ l. (f, l)))
        (λ f. absurd (omega (arith, h, misfit-checked m w c s f)))),
    (λ x. malformed-checked m w c s x.0 x.1),
  )
