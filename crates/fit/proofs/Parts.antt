-- Parts of lists: of a run of numbered elements, and of a list that ranges without gap cut. Assumes nothing.
use Rattle.lists.proofs.Prelude.{ℕ, zero, suc, ◌+◌, ◌-◌, ◌≤◌, ◌<◌, true, List, [], ◌∷◌, ◌++◌, map, ◌≡◌, refl, sym, ap, ap₂, ◌∙◌, arith, length, take, drop, get_or, length-drop, drop-drop, take-add, take-length, length-take-le}
use Rattle.tables.specs.Each.{sum, tabulate}
pub use Rattle.tables.proofs.Tabulate.{tabulate-length, tabulate-at}
use Rattle.fit_spans.specs.Ranges.{gapless}
use Rattle.fit_spans.proofs.Ranges.{sum-suc, sum-up, gapless-first, gapless-sum, gapless-in}

module _ {A : Type 0} (f : ℕ → A) where
  pub tabulate-last : (k n : ℕ) → tabulate f k (suc n) ≡ tabulate f k n ++ (f (k + n) ∷ [])
  unfolding tabulate
  tabulate-last k zero = let e : k + 0 ≡ k = omega arith in rw e
  tabulate-last k (suc n) = let e : k + suc n ≡ suc k + n = omega arith in rw e (ap (λ (z : List A). f k ∷ z) (tabulate-last (suc k) n))

  -- the code's `k + 1`
  pub tabulate-next : (k n : ℕ) → k < n → tabulate f k (n - k) ≡ f k ∷ tabulate f (k + 1) (n - (k + 1))
  unfolding tabulate
  tabulate-next k n h =
      let e : n - k ≡ suc (n - (k + 1)) = omega arith in
      let s : suc k ≡ k + 1 = omega arith in
      ap (tabulate f k) e ∙ ap (λ (z : ℕ). f k ∷ tabulate f z (n - (k + 1))) s

  pub tabulate-none : (k n : ℕ) → tabulate f k (n - n) ≡ []
  unfolding tabulate
  tabulate-none k n = let e : n - n ≡ 0 = omega arith in ap (tabulate f k) e

  pub tabulate-drop : (a k n : ℕ) → drop a (tabulate f k n) ≡ tabulate f (k + a) (n - a)
  unfolding tabulate
  tabulate-drop zero k n =
      let e : k + 0 ≡ k = omega arith in
      let d : n - 0 ≡ n = omega arith in
      rw (e, d)
  tabulate-drop (suc a) k zero = let d : 0 - suc a ≡ 0 = omega arith in rw d
  tabulate-drop (suc a) k (suc n) =
      let e : k + suc a ≡ suc k + a = omega arith in
      let d : suc n - suc a ≡ n - a = omega arith in
      rw (e, d) (tabulate-drop a (suc k) n)

  pub tabulate-take : (m k n : ℕ) → m ≤ n → take m (tabulate f k n) ≡ tabulate f k m
  unfolding tabulate
  tabulate-take zero k n h = refl
  tabulate-take (suc m) k zero h = absurd (omega arith)
  tabulate-take (suc m) k (suc n) h = ap (λ (z : List A). f k ∷ z) (tabulate-take m (suc k) n (omega arith))

  pub map-tabulate : {B : Type 0} (g : A → B) (k n : ℕ) → map g (tabulate f k n) ≡ tabulate (λ i. g (f i)) k n
  unfolding tabulate
  map-tabulate g k zero = refl
  map-tabulate g k (suc n) = ap (λ (z : List _). g (f k) ∷ z) (map-tabulate g (suc k) n)

  -- the m from a on of n, of a run from 0
  pub tabulate-part : (a m n : ℕ) → a + m ≤ n → take m (drop a (tabulate f 0 n)) ≡ tabulate f a m
  tabulate-part a m n h =
      let o : 0 + a ≡ a = omega arith in
      ap (take m) (tabulate-drop a 0 n ∙ ap (λ (z : ℕ). tabulate f z (n - a)) o) ∙ tabulate-take m a (n - a) (omega arith)

-- where two are equal, so are their elements
pub tabulate-same : {A : Type 0} (f g : ℕ → A) (n : ℕ) → tabulate f 0 n ≡ tabulate g 0 n → (k : ℕ) → k < n → f k ≡ g k
tabulate-same {A} f g n h k l =
    let e : 0 + k ≡ k = omega arith in
    ap f (sym e) ∙ sym (tabulate-at f 0 n k (f 0) l) ∙ ap (λ (z : List A). get_or z k (f 0)) h ∙ tabulate-at g 0 n k (f 0) l ∙ ap g e

-- ---- a list cut by ranges

-- a part and the part behind it
take_on : {A : Type 0} (x y s : ℕ) (l : List A) → take x (drop s l) ++ take y (drop (s + x) l) ≡ take (x + y) (drop s l)
take_on x y s l = ap (λ z. take x (drop s l) ++ take y z) (sym (drop-drop x s l)) ∙ sym (take-add x y (drop s l))

module _ {A : Type 0} (xs : List A) (first count : ℕ → ℕ) where
  -- the range of row k
  abbrev pub part : ℕ → List A
  part k = take (count k) (drop (first k) xs)

  -- those of the m rows from a on, joined
  abbrev pub joined : (a m : ℕ) → List A
  joined a zero = []
  joined a (suc m) = part a ++ joined (suc a) m

  -- they are one part, up to the first behind them
  pub joined-part : (n : ℕ) → ((k : ℕ) → k < n → first k ≡ sum count k) → (a m : ℕ) → a + m ≤ n → joined a m ≡ take (sum count (a + m) - sum count a) (drop (sum count a) xs)
  joined-part n follow a zero h = let e : sum count (a + 0) - sum count a ≡ 0 = let z : a + 0 ≡ a = omega arith in rw z (omega arith) in rw e
  joined-part n follow a (suc m) h =
      let S : ℕ → ℕ = sum count in
      let x : ℕ = count a in
      let c : a + suc m ≡ suc a + m = omega arith in
      let b : S (suc a) ≡ S a + x = sum-suc first count a in
      let u = sum-up first count (suc a) (suc a + m) (omega arith) in
      let d : x + (S (suc a + m) - S (suc a)) ≡ S (a + suc m) - S a = rw c (omega arith) in
      ap₂ (λ (y z : List A). y ++ z) (ap (λ (z : ℕ). take x (drop z xs)) (follow a (omega arith)))
      (joined-part n follow (suc a) m (omega arith) ∙ ap (λ (z : ℕ). take (S (suc a + m) - S (suc a)) (drop z xs)) b)
      ∙ take_on x (S (suc a + m) - S (suc a)) (S a) xs ∙ ap (λ (z : ℕ). take z (drop (S a) xs)) d

  module _ (n : ℕ) (g : gapless first count n (length xs) ≡ true) where
    pub part_length : (k : ℕ) → k < n → length (part k) ≡ count k
    part_length k l = length-take-le (count k) (drop (first k) xs) (omega (arith, gapless-in first count n (length xs) g k l, length-drop (first k) xs))

    pub joined-all : joined 0 n ≡ xs
    unfolding sum
    joined-all =
        let z : 0 + n ≡ n = omega arith in
        let s : sum count (0 + n) - 0 ≡ length xs = ap (λ (k : ℕ). sum count k - 0) z ∙ omega (arith, gapless-sum first count n (length xs) g) in
        joined-part n (gapless-first first count n (length xs) g) 0 n (omega arith) ∙ ap (λ (k : ℕ). take k xs) s ∙ take-length xs
