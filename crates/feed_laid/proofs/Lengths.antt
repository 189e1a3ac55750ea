-- Where a value's bytes stand in a text by its values; and that its own bytes give the text itself. Assumes nothing.
use Rattle.lists.proofs.Prelude.{◌≡◌, refl, sym, ap, ap₂, ◌∙◌, ℕ, zero, suc, ◌+◌, ◌-◌, ◌<◌, ◌≤◌, arith, List, [], ◌∷◌, ◌++◌, length, take, drop, get_or, length-append, take-append-drop, slice, length-slice, length-take-le, drop-append-le}
use Rattle.tables.specs.Rows.{ValRow}
use Rattle.tables.specs.Each.{sum}
use Rattle.feed_laid.specs.Laid.{laid_from, shift}
use Rattle.feed_laid.proofs.Places.{sum_more, sum-none}
use Rattle.feed_laid.proofs.Texts.{before}

-- the values stand one behind the other, from o on, in a text of L bytes
abbrev pub Chain : (L o : ℕ) → List ValRow → Type 0
Chain L o [] = o ≤ L
Chain L o (v ∷ vs) = (o ≤ v.from) × (v.from ≤ v.to) × (v.to ≤ L) × Chain L v.to vs

-- where value j starts, and ends
abbrev pub from_of : List ValRow → ℕ → ℕ
from_of vs j = (get_or vs j (record { from = 0; to = 0 })).from

abbrev pub to_of : List ValRow → ℕ → ℕ
to_of vs j = (get_or vs j (record { from = 0; to = 0 })).to

pub sum-front : (g : ℕ → ℕ) (i : ℕ) → sum g (suc i) ≡ g 0 + sum (λ j. g (suc j)) i
sum-front g zero = omega (arith, sum_more g 0, sum-none g, sum-none (λ j. g (suc j)))
sum-front g (suc i) = omega (arith, sum_more g (suc i), sum-front g i, sum_more (λ j. g (suc j)) i)

pub sum_same : (g h : ℕ → ℕ) → ((j : ℕ) → g j ≡ h j) → (i : ℕ) → sum g i ≡ sum h i
sum_same g h e zero = sum-none g ∙ sym (sum-none h)
sum_same g h e (suc i) = sum_more g i ∙ ap₂ (λ (x y : ℕ). x + y) (sum_same g h e i) (e i) ∙ sym (sum_more h i)

-- how many bytes stand before the i-th value
length_before : (t : List ℕ) (f : ℕ → List ℕ) (vs : List ValRow) (o k i : ℕ) → Chain (length t) o vs → i < length vs
    → length (before t f o k i vs) + o + sum (λ j. to_of vs j - from_of vs j) i ≡ from_of vs i + sum (λ j. length (f (k + j))) i
length_before t f [] o k i c h = absurd (omega arith)
length_before t f (v ∷ vs) o k zero c h =
    omega (arith, length-slice o v.from t (omega (arith, c.1, c.2)), c.0, sum-none (λ j. to_of (v ∷ vs) j - from_of (v ∷ vs) j), sum-none (λ j. length (f (k + j))))
length_before t f (v ∷ vs) o k (suc i) c h =
    let r = length_before t f vs v.to (suc k) i c.3 (omega arith) in
    let a = sum-front (λ j. to_of (v ∷ vs) j - from_of (v ∷ vs) j) i in
    let b = sum-front (λ j. length (f (k + j))) i in
    let z : k + 0 ≡ k = omega arith in
    let d : length (f (k + 0)) ≡ length (f k) = ap (λ (n : ℕ). length (f n)) z in
    let s : sum (λ j. length (f (k + suc j))) i ≡ sum (λ j. length (f (suc k + j))) i =
    sum_same (λ j. length (f (k + suc j))) (λ j. length (f (suc k + j))) (λ j. let w : k + suc j ≡ suc k + j = omega arith in ap (λ (n : ℕ). length (f n)) w) i in
    let l1 = length-append (slice o v.from t) (f k ++ before t f v.to (suc k) i vs) in
    let l2 = length-append (f k) (before t f v.to (suc k) i vs) in
    let l3 = length-slice o v.from t (omega (arith, c.1, c.2)) in
    omega (arith, r, a, b, d, s, l1, l2, l3, c.0, c.1)

-- it is where value k stands by number
pub before-shift : (t : List ℕ) (f : ℕ → List ℕ) (vs : List ValRow) (k : ℕ) → Chain (length t) 0 vs → k < length vs
    → sum (λ j. to_of vs j - from_of vs j) k ≤ from_of vs k → length (before t f 0 0 k vs) ≡ shift (from_of vs) (to_of vs) f k (from_of vs k)
unfolding shift
before-shift t f vs k c h low =
    let r = length_before t f vs 0 0 k c h in
    let s = sum_same (λ j. length (f (0 + j))) (λ j. length (f j)) (λ j. let w : 0 + j ≡ j = omega arith in ap (λ (n : ℕ). length (f n)) w) k in
    omega (arith, r, s, low)

-- ---- the values' own bytes

drop-parts : (t : List ℕ) (o a : ℕ) → o ≤ a → a ≤ length t → slice o a t ++ drop a t ≡ drop o t
drop-parts t o a h k = sym (ap (drop o) (sym (take-append-drop a t)) ∙ drop-append-le o (take a t) (drop a t) (omega (arith, length-take-le a t k)))

pub laid-own : (t : List ℕ) (f : ℕ → List ℕ) (vs : List ValRow) (o k : ℕ) → Chain (length t) o vs → ((j : ℕ) → j < length vs → f (k + j) ≡ slice (from_of vs j) (to_of vs j) t)
    → laid_from t f o k vs ≡ drop o t
laid-own t f [] o k c h = refl
laid-own t f (v ∷ vs) o k c h =
    let z : k + 0 ≡ k = omega arith in
    let own : f k ≡ slice v.from v.to t = ap f (sym z) ∙ h 0 (omega arith) in
    ap₂ (λ (x y : List ℕ). slice o v.from t ++ (x ++ y)) own
    (laid-own t f vs v.to (suc k) c.3 (λ j l. let w : suc k + j ≡ k + suc j = omega arith in ap f w ∙ h (suc j) (omega arith)))
    ∙ ap (λ (z : List ℕ). slice o v.from t ++ z) (drop-parts t v.from v.to c.1 c.2)
    ∙ drop-parts t o v.from c.0 (omega (arith, c.1, c.2))
