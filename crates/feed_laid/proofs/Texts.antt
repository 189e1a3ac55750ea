-- Other bytes for one value: the text is that with the value's part replaced. Assumes nothing.
use Rattle.lists.proofs.Prelude.{◌≡◌, refl, sym, ap, ap₂, ◌∙◌, ℕ, zero, suc, ◌+◌, ◌<◌, ◌≤◌, arith, List, [], ◌∷◌, ◌++◌, append_assoc, length, drop, length-append, slice, take_at, drop_at, eq-eqb, ne_eqb}
use Rattle.edit_splice.specs.Splice.{pasted}
use Rattle.tables.specs.Rows.{ValRow}
use Rattle.feed_laid.specs.Laid.{with, laid_from, laid}

-- before the bytes of the i-th value, and behind them
abbrev pub before : (t : List ℕ) → (ℕ → List ℕ) → (o k i : ℕ) → List ValRow → List ℕ
before t f o k i [] = []
before t f o k zero (v ∷ vs) = slice o v.from t
before t f o k (suc i) (v ∷ vs) = slice o v.from t ++ (f k ++ before t f v.to (suc k) i vs)

abbrev pub behind : (t : List ℕ) → (ℕ → List ℕ) → (k i : ℕ) → List ValRow → List ℕ
behind t f k i [] = []
behind t f k zero (v ∷ vs) = laid_from t f v.to (suc k) vs
behind t f k (suc i) (v ∷ vs) = behind t f (suc k) i vs

pub laid-split : (t : List ℕ) (f : ℕ → List ℕ) (o k i : ℕ) (vs : List ValRow) → i < length vs → laid_from t f o k vs ≡ before t f o k i vs ++ (f (k + i) ++ behind t f k i vs)
laid-split t f o k i [] h = absurd (omega arith)
laid-split t f o k zero (v ∷ vs) h = let e : k + 0 ≡ k = omega arith in ap (λ (n : ℕ). slice o v.from t ++ (f n ++ laid_from t f v.to (suc k) vs)) (sym e)
laid-split t f o k (suc i) (v ∷ vs) h =
    let e : suc k + i ≡ k + suc i = omega arith in
    ap (λ (z : List ℕ). slice o v.from t ++ (f k ++ z)) (laid-split t f v.to (suc k) i vs (omega arith))
    ∙ ap (λ (n : ℕ). slice o v.from t ++ (f k ++ (before t f v.to (suc k) i vs ++ (f n ++ behind t f (suc k) i vs)))) e
    ∙ ap (λ (z : List ℕ). slice o v.from t ++ z) (sym (append_assoc (f k) (before t f v.to (suc k) i vs) (f (k + suc i) ++ behind t f (suc k) i vs)))
    ∙ sym (append_assoc (slice o v.from t) (f k ++ before t f v.to (suc k) i vs) (f (k + suc i) ++ behind t f (suc k) i vs))

-- only the bytes of the values there matter
pub laid_same : (t : List ℕ) (f g : ℕ → List ℕ) (o k : ℕ) (vs : List ValRow) → ((j : ℕ) → k ≤ j → j < k + length vs → f j ≡ g j) → laid_from t f o k vs ≡ laid_from t g o k vs
laid_same t f g o k [] h = refl
laid_same t f g o k (v ∷ vs) h =
    ap₂ (λ (x y : List ℕ). slice o v.from t ++ (x ++ y)) (h k (omega arith) (omega arith)) (laid_same t f g v.to (suc k) vs (λ j a b. h j (omega arith) (omega arith)))

before_same : (t : List ℕ) (f g : ℕ → List ℕ) (o k i : ℕ) (vs : List ValRow) → ((j : ℕ) → j < k + i → f j ≡ g j) → before t f o k i vs ≡ before t g o k i vs
before_same t f g o k i [] h = refl
before_same t f g o k zero (v ∷ vs) h = refl
before_same t f g o k (suc i) (v ∷ vs) h =
    ap₂ (λ (x y : List ℕ). slice o v.from t ++ (x ++ y)) (h k (omega arith)) (before_same t f g v.to (suc k) i vs (λ j a. h j (omega arith)))

behind-same : (t : List ℕ) (f g : ℕ → List ℕ) (k i : ℕ) (vs : List ValRow) → ((j : ℕ) → k + i < j → f j ≡ g j) → behind t f k i vs ≡ behind t g k i vs
behind-same t f g k i [] h = refl
behind-same t f g k zero (v ∷ vs) h = laid_same t f g v.to (suc k) vs (λ j a b. h j (omega arith))
behind-same t f g k (suc i) (v ∷ vs) h = behind-same t f g (suc k) i vs (λ j a. h j (omega arith))

with-other : (f : ℕ → List ℕ) (k : ℕ) (new : List ℕ) (j : ℕ) → (j ≡ k → ⊥) → f j ≡ with f k new j
with-other f k new j h = rw (ne_eqb j k h)

with-own : (f : ℕ → List ℕ) (k : ℕ) (new : List ℕ) → with f k new k ≡ new
with-own f k new = rw (eq-eqb k k refl)

pasted_at : (p x s new : List ℕ) (q e : ℕ) → length p ≡ q → length p + length x ≡ e → pasted (p ++ (x ++ s)) q e new ≡ p ++ (new ++ s)
pasted_at p x s new q e hq he =
    ap₂ (λ (y z : List ℕ). y ++ (new ++ z)) (take_at p (x ++ s) q hq)
    (ap (drop e) (sym (append_assoc p x s)) ∙ drop_at (p ++ x) s e (length-append p x ∙ he))

-- the bytes of value k replaced where they stand
pub laid-pasted : (t : List ℕ) (f : ℕ → List ℕ) (k : ℕ) (new : List ℕ) (vs : List ValRow) → k < length vs → (q e : ℕ)
    → length (before t f 0 0 k vs) ≡ q → q + length (f k) ≡ e → pasted (laid t vs f) q e new ≡ laid t vs (with f k new)
laid-pasted t f k new vs h q e hq he =
    let g = with f k new in
    let z : 0 + k ≡ k = omega arith in
    let P = before t f 0 0 k vs in
    let S = behind t f 0 k vs in
    ap (λ (y : List ℕ). pasted y q e new) (laid-split t f 0 0 k vs h ∙ ap (λ (n : ℕ). P ++ (f n ++ S)) z)
    ∙ pasted_at P (f k) S new q e hq (omega (arith, hq, he))
    ∙ ap₂ (λ (x y : List ℕ). x ++ (new ++ y)) (before_same t f g 0 0 k vs (λ j a. with-other f k new j (λ w. absurd (omega arith))))
    (behind-same t f g 0 k vs (λ j a. with-other f k new j (λ w. absurd (omega arith))))
    ∙ ap (λ (y : List ℕ). before t g 0 0 k vs ++ (y ++ behind t g 0 k vs)) (sym (with-own f k new) ∙ ap g (sym z))
    ∙ sym (laid-split t g 0 0 k vs h)
