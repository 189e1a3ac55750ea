-- A text with some of its values as corrected: the text goes by the bytes of its own values alone, and longer bytes make it longer. Assumes nothing.
use Rattle.lists.proofs.Prelude.{ℕ, zero, suc, ◌+◌, ◌-◌, ◌≤◌, ◌<◌, true, ◌≡◌, sym, ap, ap₂, ◌∙◌, arith, List, length, leb, ltb, lt-ltb, le-ltb, ltb-true, ltb-false, eq-eqb, ne_eqb, le-leb, lt-leb, leb-true, leb-false}
use Rattle.lists.proofs.Tests.{same_or}
use Rattle.tables.specs.Each.{sum}
use Rattle.tables.specs.Memory.{Memory}
use Rattle.tables.proofs.Cases.{either-bool}
use Rattle.fit.specs.Fit.{Fit}
use Rattle.fit.specs.Record.{rows_in, text_in}
use Rattle.feed_laid.specs.Laid.{with}
use Rattle.feed_laid.specs.OfMemory.{laid_text, own_bytes}
use Rattle.feed_laid.proofs.Places.{sum_more, sum-none}
use Rattle.feed_laid.proofs.OverMemory.{count, own-text}
use Rattle.feed_laid.proofs.Texts as texts
use Rattle.feed_laws.specs.Corrected.{new_bytes}
use Rattle.feed_laws.specs.LocalsSweep.{until, lesser}
use Rattle.feed_laws.proofs.Lengths.{laid-length}

-- ---- bytes up to a value, and others from it on

module _ (g h : ℕ → List ℕ) where
  pub until-below : (k j : ℕ) → j < k → until k g h j ≡ g j
  until-below k j l = rw (lt-ltb j k l)

  pub until-from : (k j : ℕ) → k ≤ j → until k g h j ≡ h j
  until-from k j l = rw (le-ltb j k l)

  -- one value more
  pub until-with : (k j : ℕ) → with (until k g h) k (g k) j ≡ until (suc k) g h j
  until-with k j =
      same_or j k (λ e. rw (eq-eqb j k e) (ap g (sym e) ∙ sym (until-below (suc k) j (omega arith))))
      (λ e. rw (ne_eqb j k e)
      (either-bool (ltb j k)
      (λ b. let l = ltb-true j k b in until-below k j l ∙ sym (until-below (suc k) j (omega arith)))
      (λ b. let l = ltb-false j k b in until-from k j l ∙ sym (until-from (suc k) j (omega arith)))))

  -- values that have the same bytes in both
  pub until_skip : (k i : ℕ) → k ≤ i → ((j : ℕ) → k ≤ j → j < i → g j ≡ h j) → (j : ℕ) → until k g h j ≡ until i g h j
  until_skip k i l e j =
      either-bool (ltb j k)
      (λ b. let x = ltb-true j k b in until-below k j x ∙ sym (until-below i j (omega arith)))
      (λ b. let x = ltb-false j k b in
      until-from k j x ∙ either-bool (ltb j i) (λ c. let y = ltb-true j i c in sym (e j x y) ∙ sym (until-below i j y)) (λ c. sym (until-from i j (ltb-false j i c))))

-- ---- sums of what is equal, or not greater, below a number

pub sum_below : (g h : ℕ → ℕ) (k : ℕ) → ((j : ℕ) → j < k → g j ≡ h j) → sum g k ≡ sum h k
sum_below g h zero e = sum-none g ∙ sym (sum-none h)
sum_below g h (suc k) e = sum_more g k ∙ ap₂ (λ (x y : ℕ). x + y) (sum_below g h k (λ j l. e j (omega arith))) (e k (omega arith)) ∙ sym (sum_more h k)

pub sum-least : (g h : ℕ → ℕ) (k : ℕ) → ((j : ℕ) → j < k → g j ≤ h j) → sum g k ≤ sum h k
sum-least g h zero e = omega (arith, sum-none g, sum-none h)
sum-least g h (suc k) e = omega (arith, sum_more g k, sum_more h k, sum-least g h k (λ j l. e j (omega arith)), e k (omega arith))

-- ---- the text

module _ (m : Memory) (fit : Fit m ≡ true) where
  abbrev n : ℕ
  n = m.counts.values

  -- it goes by the bytes of its own values alone
  pub laid_same : (f g : ℕ → List ℕ) → ((j : ℕ) → j < n → f j ≡ g j) → laid_text m f ≡ laid_text m g
  laid_same f g e =
      texts.laid_same (text_in m) f g 0 0 (rows_in m).vals (λ j _ l. e j (omega (arith, count m fit, l)))

  -- and is no longer than with bytes that are no shorter
  pub laid-least : (f g : ℕ → List ℕ) → ((j : ℕ) → j < n → length (f j) ≤ length (g j)) → length (laid_text m f) ≤ length (laid_text m g)
  laid-least f g e = omega (arith, laid-length m fit f, laid-length m fit g, sum-least (λ j. length (f j)) (λ j. length (g j)) n e)

  module _ (w : List ℕ) where
    abbrev new : ℕ → List ℕ
    new = new_bytes m w

    abbrev own : ℕ → List ℕ
    own = own_bytes m

    pub lesser-new : (j : ℕ) → length (new j) ≤ length (own j) → lesser m w j ≡ new j
    lesser-new j h = rw (le-leb (length (new j)) (length (own j)) h)

    pub lesser-own : (j : ℕ) → length (own j) < length (new j) → lesser m w j ≡ own j
    lesser-own j h = rw (lt-leb (length (new j)) (length (own j)) h)

    pub lesser-same : (j : ℕ) → new j ≡ own j → lesser m w j ≡ own j
    lesser-same j e = either-bool (leb (length (new j)) (length (own j))) (λ b. lesser-new j (leb-true _ _ b) ∙ e) (λ b. lesser-own j (leb-false _ _ b))

    -- as long as the shorter of the two
    pub lesser-size : (j : ℕ) → length (lesser m w j) ≡ length (own j) - (length (own j) - length (new j))
    lesser-size j =
        either-bool (leb (length (new j)) (length (own j)))
        (λ b. let l = leb-true (length (new j)) (length (own j)) b in ap length (lesser-new j l) ∙ omega arith)
        (λ b. let l = leb-false (length (new j)) (length (own j)) b in ap length (lesser-own j l) ∙ omega arith)

    -- on the way no text is longer than the old one, or than the one as corrected
    pub way-shorter : (k : ℕ) → length (laid_text m (until k (lesser m w) own)) ≤ length (text_in m)
    way-shorter k =
        let s = laid-least (until k (lesser m w) own) own (λ j l. either-bool (ltb j k)
        (λ b. omega (arith, ap length (until-below (lesser m w) own k j (ltb-true j k b)), lesser-size j)) (λ b. omega (arith, ap length (until-from (lesser m w) own k j (ltb-false j k b))))) in
        omega (arith, s, ap length (own-text m fit))

    pub way-longer : (k : ℕ) → length (laid_text m (until k new (lesser m w))) ≤ length (laid_text m new)
    way-longer k =
        laid-least (until k new (lesser m w)) new (λ j l. either-bool (ltb j k)
        (λ b. omega (arith, ap length (until-below new (lesser m w) k j (ltb-true j k b)))) (λ b. omega (arith, ap length (until-from new (lesser m w) k j (ltb-false j k b)), lesser-size j)))
