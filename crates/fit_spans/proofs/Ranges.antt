-- The loop over ranges, and what gapless ranges say. Assumes nothing.
use Rattle.lists.proofs.Prelude.{ℕ, zero, suc, ◌+◌, ◌*◌, ◌-◌, ◌≤◌, ◌<◌, Bool, true, false, List, ◌&&◌, and_assoc, and-false, and-true, ◌≡◌, refl, sym, ap, ap₂, ◌∙◌, subst, suc-mul, mul-le-mul_right, add-one, arith, eqb, eq-eqb, ne_eqb, eqb-true, leb, le-leb, lt-leb}
use Rattle.tables.specs.Each.{each, sum}
use Rattle.tables.specs.declared.Counts.{Counts}
use Rattle.tables.specs.Columns.{first_prop_at, prop_count_at, first_val_at, val_count_at}
use Rattle.fit_spans.specs.Ranges.{gapless, has_value, ranges_fit}
use Rattle.tables.proofs.Cases.{and_left, and_right}
use Rattle.tables.proofs.Each.{each_at, each_more, each-end, each-fails, each_all}

module _ (first count : ℕ → ℕ) where
  sum-far : (d k : ℕ) → sum count k ≤ sum count (k + d)
  unfolding sum
  sum-far zero k = let e : k + 0 ≡ k = omega arith in rw e (omega arith)
  sum-far (suc d) k = let e : k + suc d ≡ suc (k + d) = omega arith in let r = sum-far d k in rw e (omega arith)

  pub sum-up : (k n : ℕ) → k ≤ n → sum count k ≤ sum count n
  sum-up k n h = let e : k + (n - k) ≡ n = omega arith in subst (λ (z : ℕ). sum count k ≤ sum count z) e (sum-far (n - k) k)

  pub sum-next : (k : ℕ) → sum count (k + 1) ≡ sum count k + count k
  unfolding sum
  sum-next k = rw add-one

  pub sum-suc : (k : ℕ) → sum count (suc k) ≡ sum count k + count k
  unfolding sum
  sum-suc k = refl

  -- ---- gapless ranges

  abbrev Follows : ℕ → Bool
  Follows k = eqb (first k) (sum count k)

  module _ (n total : ℕ) (g : gapless first count n total ≡ true) where
    pub gapless-first : (k : ℕ) → k < n → first k ≡ sum count k
    gapless-first k l = eqb-true (first k) (sum count k) (each_at Follows n k (and_left (each n Follows) (eqb (sum count n) total) g) l)

    pub gapless-sum : sum count n ≡ total
    gapless-sum = eqb-true (sum count n) total (and_right (each n Follows) (eqb (sum count n) total) g)

    pub gapless-in : (k : ℕ) → k < n → first k + count k ≤ total
    gapless-in k l = omega (arith, gapless-first k l, gapless-sum, sum-up (k + 1) n (omega arith), sum-next k)

  -- ---- the loop: s is the sum of the counts of the first k rows

  pub record Ranged (n total s k : ℕ) : Type 0 where
    pub rows : k ≤ n
    pub most : s ≤ total
    pub is : s ≡ sum count k
    pub so_far : each k Follows ≡ true

  pub ranged-none : (n total : ℕ) → Ranged n total 0 0
  unfolding sum each
  ranged-none n total = record { rows = omega arith; most = omega arith; is = refl; so_far = refl }

  module _ {n total s k : ℕ} (x : Ranged n total s k) where
    pub ranged-more : k < n → {a q : ℕ} → a ≡ first k → q ≡ count k → a ≡ s → q ≤ total - s → Ranged n total (s + q) (k + 1)
    ranged-more h {a} {q} ea eq b c =
        let m = x.most in
        record {
          rows = omega arith;
          most = omega arith;
          is = omega (arith, x.is, sum-next k);
          so_far = each_more Follows k x.so_far (eq-eqb (first k) (sum count k) (sym ea ∙ b ∙ x.is));
        }

    pub ranged-gap : k < n → {a : ℕ} → a ≡ first k → (a ≡ s → ⊥) → false ≡ gapless first count n total
    ranged-gap h ea b = rw (← each-fails Follows k n h (ne_eqb (first k) (sum count k) (λ z. b (ea ∙ z ∙ sym x.is))))

    pub ranged-over : k < n → {q : ℕ} → q ≡ count k → total - s < q → false ≡ gapless first count n total
    ranged-over h eq b =
        let w : sum count n ≡ total → ⊥ = λ z. omega (arith, x.most, x.is, sum-next k, sum-up (k + 1) n (omega arith)) in
        rw (ne_eqb (sum count n) total w) (sym (and-false (each n Follows)))

    pub ranged-end : n ≤ k → eqb s total ≡ gapless first count n total
    ranged-end h =
        let r = x.rows in
        let e : k ≡ n = omega arith in
        rw (← each-end Follows k n r h x.so_far, x.is, e)

-- ---- beside them, that no row counts less than a number

module _ (first count : ℕ → ℕ) (n total least : ℕ) where
  abbrev Enough : ℕ → Bool
  Enough k = leb least (count k)

  abbrev Both : Bool
  Both = gapless first count n total && each n Enough

  pub both-gap : false ≡ gapless first count n total → false ≡ Both
  both-gap e = ap (λ (z : Bool). z && each n Enough) e

  pub both-less : (k : ℕ) → k < n → {q : ℕ} → q ≡ count k → q < least → false ≡ Both
  both-less k h eq l =
      sym (and-false (gapless first count n total))
      ∙ ap (λ (z : Bool). gapless first count n total && z) (each-fails Enough k n h (lt-leb least (count k) (omega (arith, eq, l))))

  pub both_end : {r : Bool} → r ≡ gapless first count n total → (k : ℕ) → k ≤ n → n ≤ k → each k Enough ≡ true → r ≡ Both
  both_end e k a b h = e ∙ sym (and-true (gapless first count n total)) ∙ ap (λ (z : Bool). gapless first count n total && z) (each-end Enough k n a b h)

pub counts-more : (count : ℕ → ℕ) (least k : ℕ) → each k (λ j. leb least (count j)) ≡ true → {q : ℕ} → q ≡ count k → least ≤ q → each (k + 1) (λ j. leb least (count j)) ≡ true
counts-more count least k h eq l = each_more (λ j. leb least (count j)) k h (le-leb least (count k) (omega (arith, eq, l)))

-- no row counts less than 0
none-less : (count : ℕ → ℕ) (n : ℕ) → each n (λ k. leb 0 (count k)) ≡ true
none-less count n = each_all (λ k. leb 0 (count k)) n (λ k h. le-leb 0 (count k) (omega arith))

-- ranges of nodes, and of properties, which have a value each
pub ranges-are : (c : Counts) (nd pr : List ℕ) {a b : Bool}
    → a ≡ (gapless (first_prop_at nd) (prop_count_at nd) c.nodes c.properties && each c.nodes (λ k. leb 0 (prop_count_at nd k)))
    → b ≡ (gapless (first_val_at pr) (val_count_at pr) c.properties c.values && each c.properties (has_value pr)) → a && b ≡ ranges_fit c nd pr
unfolding ranges_fit
ranges-are c nd pr x y =
    let g = gapless (first_prop_at nd) (prop_count_at nd) c.nodes c.properties in
    let h = gapless (first_val_at pr) (val_count_at pr) c.properties c.values in
    ap₂ ◌&&◌ (x ∙ ap (λ (z : Bool). g && z) (none-less (prop_count_at nd) c.nodes) ∙ and-true g) y ∙ sym (and_assoc g h (each c.properties (has_value pr)))

-- cell j of row k lies in a table of n rows of w cells
pub cell_in : (k n w j len : ℕ) → k < n → n * w ≤ len → j < w → k * w + j < len
cell_in k n w j len a b c =
    let d : suc k * w ≤ n * w = mul-le-mul_right w a in
    let e : suc k * w ≡ k * w + w = suc-mul k w in
    omega arith
