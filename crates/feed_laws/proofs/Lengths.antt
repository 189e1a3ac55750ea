-- How long the text as corrected is: by the change of each value. Assumes nothing.
use Rattle.lists.proofs.Prelude.{ℕ, suc, ◌+◌, ◌-◌, true, ◌≡◌, ap, ◌∙◌, arith, List, [], ◌∷◌, ◌++◌, length, slice, length-append, length-slice, length-drop}
use Rattle.tables.specs.Columns.{val_from_at, val_to_at}
use Rattle.tables.specs.Each.{sum}
use Rattle.tables.specs.Memory.{Memory}
use Rattle.tables.specs.Rows.{ValRow}
use Rattle.fit.specs.Fit.{Fit}
use Rattle.fit.specs.Record.{rows_in, text_in}
use Rattle.feed_laid.specs.Laid.{laid_from}
use Rattle.feed_laid.specs.OfMemory.{laid_text}
use Rattle.feed_laid.proofs.Lengths.{Chain, from_of, to_of, sum-front, sum_same}
use Rattle.feed_laid.proofs.Places.{sum-none}
use Rattle.feed_laid.proofs.OverMemory.{chain, count, sums_at}

-- from a place on
length_from : (t : List ℕ) (f : ℕ → List ℕ) (vs : List ValRow) (o k : ℕ) → Chain (length t) o vs
    → length (laid_from t f o k vs) + o + sum (λ j. to_of vs j - from_of vs j) (length vs) ≡ length t + sum (λ j. length (f (k + j))) (length vs)
length_from t f [] o k c =
    omega (arith, length-drop o t, c, sum-none (λ j. to_of [] j - from_of [] j), sum-none (λ j. length (f (k + j))))
length_from t f (v ∷ vs) o k c =
    let r = length_from t f vs v.to (suc k) c.3 in
    let a = sum-front (λ j. to_of (v ∷ vs) j - from_of (v ∷ vs) j) (length vs) in
    let b = sum-front (λ j. length (f (k + j))) (length vs) in
    let z : k + 0 ≡ k = omega arith in
    let d : length (f (k + 0)) ≡ length (f k) = ap (λ (n : ℕ). length (f n)) z in
    let s : sum (λ j. length (f (k + suc j))) (length vs) ≡ sum (λ j. length (f (suc k + j))) (length vs) =
    sum_same (λ j. length (f (k + suc j))) (λ j. length (f (suc k + j))) (λ j. let w : k + suc j ≡ suc k + j = omega arith in ap (λ (n : ℕ). length (f n)) w) (length vs) in
    let l1 = length-append (slice o v.from t) (f k ++ laid_from t f v.to (suc k) vs) in
    let l2 = length-append (f k) (laid_from t f v.to (suc k) vs) in
    let l3 = length-slice o v.from t (omega (arith, c.1, c.2)) in
    omega (arith, r, a, b, d, s, l1, l2, l3, c.0, c.1)

-- the text with any bytes for its values: what the values had, taken off, and what they have, put on
pub laid-length : (m : Memory) → Fit m ≡ true → (f : ℕ → List ℕ)
    → length (laid_text m f) + sum (λ j. val_to_at m.values j - val_from_at m.values j) m.counts.values ≡ length (text_in m) + sum (λ j. length (f j)) m.counts.values
laid-length m fit f =
    let r = length_from (text_in m) f (rows_in m).vals 0 0 (chain m fit) in
    let n = m.counts.values in
    let e = count m fit in
    let x : sum (λ j. to_of (rows_in m).vals j - from_of (rows_in m).vals j) (length (rows_in m).vals) ≡ sum (λ j. val_to_at m.values j - val_from_at m.values j) n =
    ap (sum (λ j. to_of (rows_in m).vals j - from_of (rows_in m).vals j)) e ∙ sums_at m fit n (omega arith) in
    let y : sum (λ j. length (f (0 + j))) (length (rows_in m).vals) ≡ sum (λ j. length (f j)) n =
    sum_same (λ j. length (f (0 + j))) (λ j. length (f j)) (λ j. let w : 0 + j ≡ j = omega arith in ap (λ (i : ℕ). length (f i)) w) (length (rows_in m).vals) ∙ ap (sum (λ j. length (f j))) e in
    omega (arith, r, x, y)
