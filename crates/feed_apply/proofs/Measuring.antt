-- How long values and the text before them are, as corrected, and where they then stand. Assumes nothing.
use Rattle.lists.proofs.Prelude.{ℕ, zero, suc, ◌+◌, ◌-◌, ◌≤◌, ◌<◌, true, ◌≡◌, refl, ap, arith, List, length, length-slice}
use Rattle.tables.specs.Columns.{val_from_at, val_to_at}
use Rattle.tables.specs.Each.{sum}
use Rattle.tables.specs.Memory.{Memory}
use Rattle.fit.specs.Fit.{Fit}
use Rattle.fit.specs.Record.{text_in}
use Rattle.feed.specs.Feed.{listing}
use Rattle.feed.specs.Find.{found_in}
use Rattle.feed.proofs.Lying.{found_inside}
use Rattle.feed_laid.specs.Laid.{shift}
use Rattle.feed_laid.specs.OfMemory.{own_bytes}
use Rattle.feed_laid.proofs.OverMemory.{order, apart, inside}
use Rattle.feed_laid.proofs.Places.{sum_more, sum-none}
use Rattle.feed_laws.specs.Corrected.{bytes_for, new_bytes}
use Rattle.feed_laws.specs.LocalsSweep.{until, lesser}
use Rattle.feed_laws.proofs.Partly.{until-below, sum_below, lesser-size}
use Rattle.feed_apply.specs.LocalsAlong.{size_for}
use Rattle.feed_apply.specs.LocalsSizes.{old_size, new_size, grown_to, shrunk_to, spanned_to, Spread}
use Rattle.feed_apply.proofs.Sizes.{grown-none, grown-more, shrunk-none, shrunk-more, spanned-low}
use Rattle.std.specs.Prelude.{Option, Some, None}

module _ (m : Memory) (fit : Fit m ≡ true) (w : List ℕ) where
  abbrev vl : List ℕ
  vl = m.values

  abbrev n : ℕ
  n = m.counts.values

  abbrev a : ℕ → ℕ
  a = val_from_at vl

  abbrev e : ℕ → ℕ
  e = val_to_at vl

  abbrev new : ℕ → List ℕ
  new = new_bytes m w

  abbrev own : ℕ → List ℕ
  own = own_bytes m

  abbrev less : ℕ → List ℕ
  less = lesser m w

  pub spread : Spread vl n (length (text_in m))
  spread = record { order = order m fit; apart = apart m fit; inside = inside m fit }

  -- ---- sizes

  pub own-size : (j : ℕ) → j < n → length (own j) ≡ old_size vl j
  own-size j l = length-slice (a j) (e j) (text_in m) (inside m fit j l)

  pub new-size : (j : ℕ) → j < n → length (new j) ≡ new_size vl w j
  new-size j l = go (found_in (listing w).entries j) refl
    where
      go : (x : Option (ℕ × ℕ)) → found_in (listing w).entries j ≡ x → length (bytes_for w x (own j)) ≡ size_for x (old_size vl j)
      go (Some (b, z)) f = length-slice b z w (found_inside w j b z f).1
      go None f = own-size j l

  less-sum : (k : ℕ) → k ≤ n → sum (λ j. length (less j)) k + shrunk_to vl w k ≡ spanned_to vl k
  unfolding spanned_to
  less-sum zero h = omega (arith, sum-none (λ j. length (less j)), shrunk-none vl w, sum-none (λ j. old_size vl j))
  less-sum (suc k) h =
      omega (arith, less-sum k (omega arith), sum_more (λ j. length (less j)) k, shrunk-more vl w k, sum_more (λ j. old_size vl j) k, lesser-size m fit w k, own-size k (omega arith), new-size k (omega arith))

  pub new-sum : (k : ℕ) → k ≤ n → sum (λ j. length (new j)) k + shrunk_to vl w k ≡ spanned_to vl k + grown_to vl w k
  unfolding spanned_to
  new-sum zero h = omega (arith, sum-none (λ j. length (new j)), shrunk-none vl w, grown-none vl w, sum-none (λ j. old_size vl j))
  new-sum (suc k) h =
      omega (arith, new-sum k (omega arith), sum_more (λ j. length (new j)) k, shrunk-more vl w k, grown-more vl w k, sum_more (λ j. old_size vl j) k, new-size k (omega arith))

  -- ---- places

  pub less-start : (k : ℕ) → k < n → shift a e (until k less own) k (a k) ≡ a k - shrunk_to vl w k
  unfolding shift spanned_to
  less-start k h =
      let s = sum_below (λ j. length (until k less own j)) (λ j. length (less j)) k (λ j l. ap length (until-below less own k j l)) in
      omega (arith, s, less-sum k (omega arith), spanned-low vl w n (length (text_in m)) spread k h)

  pub new-start : (k : ℕ) → k < n → shift a e (until k new less) k (a k) ≡ a k + grown_to vl w k - shrunk_to vl w k
  unfolding shift spanned_to
  new-start k h =
      let s = sum_below (λ j. length (until k new less j)) (λ j. length (new j)) k (λ j l. ap length (until-below new less k j l)) in
      omega (arith, s, new-sum k (omega arith), spanned-low vl w n (length (text_in m)) spread k h)
