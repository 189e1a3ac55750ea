-- What values grow and shrink by, value by value. Assumes nothing.
use Rattle.lists.proofs.Prelude.{ℕ, zero, suc, ◌+◌, ◌-◌, ◌≤◌, ◌<◌, ◌≡◌, sym, ap, ◌∙◌, arith, add-one, List}
use Rattle.lists.proofs.Tests.{same_or}
use Rattle.tables.specs.Columns.{val_from_at, val_to_at}
use Rattle.feed.specs.Feed.{listing}
use Rattle.feed.specs.Find.{found_in}
use Rattle.feed_laid.proofs.Places.{sum_more, sum-none, old-low}
use Rattle.feed_apply.specs.LocalsAlong.{size_for, Uncorrected, Stands}
use Rattle.feed_apply.specs.LocalsSizes.{old_size, new_size, grown_to, shrunk_to, spanned_to, Spread, Tallied}
use Rattle.feed_apply.specs.declared.along.Along.{Along}
use Rattle.std.specs.Prelude.{Option, Some, None}

module _ (vl w : List ℕ) where
  pub grown-none : grown_to vl w 0 ≡ 0
  unfolding grown_to
  grown-none = sum-none (λ j. new_size vl w j - old_size vl j)

  pub shrunk-none : shrunk_to vl w 0 ≡ 0
  unfolding shrunk_to
  shrunk-none = sum-none (λ j. old_size vl j - new_size vl w j)

  pub grown-more : (k : ℕ) → grown_to vl w (suc k) ≡ grown_to vl w k + (new_size vl w k - old_size vl k)
  unfolding grown_to
  grown-more k = sum_more (λ j. new_size vl w j - old_size vl j) k

  pub shrunk-more : (k : ℕ) → shrunk_to vl w (suc k) ≡ shrunk_to vl w k + (old_size vl k - new_size vl w k)
  unfolding shrunk_to
  shrunk-more k = sum_more (λ j. old_size vl j - new_size vl w j) k

  pub spanned-none : spanned_to vl 0 ≡ 0
  unfolding spanned_to
  spanned-none = sum-none (λ j. old_size vl j)

  pub spanned-more : (k : ℕ) → spanned_to vl (suc k) ≡ spanned_to vl k + old_size vl k
  unfolding spanned_to
  spanned-more k = sum_more (λ j. old_size vl j) k

  pub size_none : (k : ℕ) → found_in (listing w).entries k ≡ None → new_size vl w k ≡ old_size vl k
  size_none k h = ap (λ (x : Option (ℕ × ℕ)). size_for x (old_size vl k)) h

  pub size-at : (k a e : ℕ) → found_in (listing w).entries k ≡ Some (a, e) → new_size vl w k ≡ e - a
  size-at k a e h = ap (λ (x : Option (ℕ × ℕ)). size_for x (old_size vl k)) h

  -- values that are not corrected change nothing
  pub tally-skip : (low high : ℕ) → low ≤ high → Uncorrected w low high → (grown_to vl w high ≡ grown_to vl w low) × (shrunk_to vl w high ≡ shrunk_to vl w low)
  tally-skip low zero l u = let z : 0 ≡ low = omega arith in (ap (grown_to vl w) z, ap (shrunk_to vl w) z)
  tally-skip low (suc h) l u =
      same_or low (suc h) (λ z. (ap (grown_to vl w) (sym z), ap (shrunk_to vl w) (sym z)))
      (λ z. let r = tally-skip low h (omega arith) (λ j a b. u j a (omega arith)) in
      let s = size_none h (u h (omega arith) (omega arith)) in
      (omega (arith, r.0, grown-more h, s), omega (arith, r.1, shrunk-more h, s)))

  pub grown-up : (k n : ℕ) → k ≤ n → grown_to vl w k ≤ grown_to vl w n
  grown-up k zero h = let z : k ≡ 0 = omega arith in omega (arith, ap (grown_to vl w) z)
  grown-up k (suc n) h = same_or k (suc n) (λ z. omega (arith, ap (grown_to vl w) z)) (λ z. omega (arith, grown-up k n (omega arith), grown-more n))

  pub shrunk-spanned : (k : ℕ) → shrunk_to vl w k ≤ spanned_to vl k
  shrunk-spanned zero = omega (arith, shrunk-none)
  shrunk-spanned (suc k) = omega (arith, shrunk-spanned k, shrunk-more k, spanned-more k)

  module _ (n bytes : ℕ) (x : Spread vl n bytes) where
    pub spanned-low : (k : ℕ) → k < n → spanned_to vl k ≤ val_from_at vl k
    unfolding spanned_to
    spanned-low k h = old-low (val_from_at vl) (val_to_at vl) n x.order x.apart k h

    pub shrunk-start : (k : ℕ) → k < n → shrunk_to vl w k ≤ val_from_at vl k
    shrunk-start k h = omega (arith, shrunk-spanned k, spanned-low k h)

    pub shrunk-end : (k : ℕ) → k < n → shrunk_to vl w (suc k) ≤ val_to_at vl k
    shrunk-end k h = omega (arith, shrunk-start k h, shrunk-more k, x.order k h)

  -- ---- the walk

  pub tallied-begin : {n : ℕ} {r : Along} → Stands w n r × Uncorrected w 0 r.due × (r.grown ≡ 0) × (r.shrunk ≡ 0) → Tallied vl w n r
  tallied-begin {n} {r} h =
      let t = tally-skip 0 r.due (omega arith) h.1 in
      record { stands = h.0; grown = omega (arith, h.2, t.0, grown-none); shrunk = omega (arith, h.3, t.1, shrunk-none) }

  pub tallied-pass : {n old : ℕ} {s r : Along} → Tallied vl w n s → s.due < n → old ≡ old_size vl s.due
      → Stands w n r × Uncorrected w (s.due + 1) r.due × (s.due < r.due) × (r.grown ≡ s.grown + (s.to - s.from - old)) × (r.shrunk ≡ s.shrunk + (old - (s.to - s.from)))
      → Tallied vl w n r
  tallied-pass {n} {old} {s} {r} t l e h =
      let k = tally-skip (s.due + 1) r.due (omega (arith, h.2)) h.1 in
      let z = size-at s.due s.from s.to (t.stands.here l) in
      let g : grown_to vl w (s.due + 1) ≡ grown_to vl w (suc s.due) = ap (grown_to vl w) (add-one s.due) in
      let d : shrunk_to vl w (s.due + 1) ≡ shrunk_to vl w (suc s.due) = ap (shrunk_to vl w) (add-one s.due) in
      record {
        stands = h.0;
        grown = omega (arith, h.3, k.0, g, grown-more s.due, z, e, t.grown);
        shrunk = omega (arith, h.4, k.1, d, shrunk-more s.due, z, e, t.shrunk);
      }

  -- at a value that it stands at or before, with no correction between
  pub tallied-at : (n k : ℕ) {s : Along} → Tallied vl w n s → k ≤ s.due → Uncorrected w k s.due → (s.grown ≡ grown_to vl w k) × (s.shrunk ≡ shrunk_to vl w k)
  tallied-at n k {s} x l u = let t = tally-skip k s.due l u in (x.grown ∙ t.0, x.shrunk ∙ t.1)

-- ---- the walk beside the rows: value k is next

module _ (vl w : List ℕ) (n : ℕ) where
  pub record Beside (k : ℕ) (s : Along) : Type 0 where
    pub stands : Stands w n s
    pub bare : Uncorrected w k s.due
    pub bound : k ≤ s.due
    pub grown : s.grown ≡ grown_to vl w k
    pub shrunk : s.shrunk ≡ shrunk_to vl w k

  pub beside-begin : {r : Along} → Stands w n r × Uncorrected w 0 r.due × (r.grown ≡ 0) × (r.shrunk ≡ 0) → Beside 0 r
  beside-begin h = record { stands = h.0; bare = h.1; bound = omega arith; grown = h.2 ∙ sym (grown-none vl w); shrunk = h.3 ∙ sym (shrunk-none vl w) }

  -- the same at a later value with no correction between
  pub beside_at : {k : ℕ} {s : Along} → Beside k s → (j : ℕ) → k ≤ j → j ≤ s.due → (s.grown ≡ grown_to vl w j) × (s.shrunk ≡ shrunk_to vl w j)
  beside_at {k} x j a b = let t = tally-skip vl w k j a (λ i c d. x.bare i c (omega arith)) in (x.grown ∙ sym t.0, x.shrunk ∙ sym t.1)

  pub beside-pass : {k old : ℕ} {s r : Along} → Beside k s → s.due < n → old ≡ old_size vl s.due
      → Stands w n r × Uncorrected w (s.due + 1) r.due × (s.due < r.due) × (r.grown ≡ s.grown + (s.to - s.from - old)) × (r.shrunk ≡ s.shrunk + (old - (s.to - s.from)))
      → Beside (s.due + 1) r
  beside-pass {k} {old} {s} {r} x l e h =
      let t = beside_at x s.due x.bound (omega arith) in
      let z = size-at vl w s.due s.from s.to (x.stands.here l) in
      let g : grown_to vl w (s.due + 1) ≡ grown_to vl w (suc s.due) = ap (grown_to vl w) (add-one s.due) in
      let d : shrunk_to vl w (s.due + 1) ≡ shrunk_to vl w (suc s.due) = ap (shrunk_to vl w) (add-one s.due) in
      record {
        stands = h.0;
        bare = h.1;
        bound = omega (arith, h.2);
        grown = omega (arith, h.3, t.0, g, grown-more vl w s.due, z, e);
        shrunk = omega (arith, h.4, t.1, d, shrunk-more vl w s.due, z, e);
      }
