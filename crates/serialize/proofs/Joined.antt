-- Texts one after another, counted from the first: what the walk joins from the last. Assumes nothing.
use Rattle.lists.proofs.Prelude.{ℕ, zero, suc, ◌+◌, List, [], ◌++◌, append_assoc, append-nil, ◌≡◌, refl, sym, ap, ◌∙◌, arith}
use Rattle.serialize.specs.LocalsWalk.{texts}

-- the texts of the m numbers from k on
unfoldable pub joined : (ℕ → List ℕ) → (k m : ℕ) → List ℕ
joined f k zero = []
joined f k (suc m) = f k ++ joined f (suc k) m

module _ (f : ℕ → List ℕ) where
  joined-last : (k m : ℕ) → joined f k (suc m) ≡ joined f k m ++ f (k + m)
  unfolding joined
  joined-last k zero = let e : k + 0 ≡ k = omega arith in rw e (append-nil (f k))
  joined-last k (suc m) =
      let e : k + suc m ≡ suc k + m = omega arith in
      rw e (ap (λ (z : List ℕ). f k ++ z) (joined-last (suc k) m) ∙ sym (append_assoc (f k) (joined f (suc k) m) (f (suc k + m))))

  pub texts-joined : (n : ℕ) → texts f n ≡ joined f 0 n
  unfolding texts joined
  texts-joined zero = refl
  texts-joined (suc n) =
      let e : 0 + n ≡ n = omega arith in
      ap (λ (z : List ℕ). z ++ f n) (texts-joined n) ∙ ap (λ (z : ℕ). joined f 0 n ++ f z) (sym e) ∙ sym (joined-last 0 n)

  pub joined-more : (x y k : ℕ) → joined f k (x + y) ≡ joined f k x ++ joined f (k + x) y
  unfolding joined
  joined-more zero y k =
      let e : k + 0 ≡ k = omega arith in
      let d : 0 + y ≡ y = omega arith in
      rw (e, d)
  joined-more (suc x) y k =
      let e : k + suc x ≡ suc k + x = omega arith in
      let d : suc x + y ≡ suc (x + y) = omega arith in
      rw (e, d) (ap (λ (z : List ℕ). f k ++ z) (joined-more x y (suc k)) ∙ sym (append_assoc (f k) (joined f (suc k) x) (joined f (suc k + x) y)))

module _ (f : ℕ → List ℕ) (a : ℕ) where
  joined-from : (k m : ℕ) → joined (λ i. f (a + i)) k m ≡ joined f (a + k) m
  unfolding joined
  joined-from k zero = refl
  joined-from k (suc m) = let e : a + suc k ≡ suc (a + k) = omega arith in ap (λ (z : List ℕ). f (a + k) ++ z) (joined-from (suc k) m ∙ ap (λ (z : ℕ). joined f z m) e)

  pub texts-from : (m : ℕ) → texts (λ i. f (a + i)) m ≡ joined f a m
  texts-from m = let e : a + 0 ≡ a = omega arith in texts-joined (λ i. f (a + i)) m ∙ joined-from 0 m ∙ ap (λ (z : ℕ). joined f z m) e
