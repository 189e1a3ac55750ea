-- What stands between the values of a text stays, whatever bytes the values have: a place before value k, by its number. Assumes nothing.
use Rattle.lists.proofs.Prelude.{ℕ, zero, suc, ◌+◌, ◌-◌, ◌≤◌, ◌<◌, Bool, true, false, ◌≡◌, refl, sym, ap, ap₂, ◌∙◌, subst, arith, List, [], ◌∷◌, ◌++◌, append_assoc, map, ltb, length, take, drop, slice, take-take, take-append-add, take-append-le, drop-append-add, drop-drop, length-append, length-slice, length-take-le, pick}
use Rattle.lists.proofs.Places.{drop-take}
use Rattle.lists.specs.All.{All}
use Rattle.tables.specs.Columns.{val_from_at, val_to_at}
use Rattle.tables.specs.Each.{sum}
use Rattle.tables.specs.Memory.{Memory}
use Rattle.tables.specs.Rows.{PropRow, ValRow}
use Rattle.fit.specs.Fit.{Fit}
use Rattle.fit.specs.Record.{rows_in, text_in}
use Rattle.edit_answer.specs.Edit.{owner_row, owner_name}
use Rattle.feed_laid.specs.Laid.{shift, laid_prop}
use Rattle.feed_laid.specs.OfMemory.{laid_text, laid_tables}
use Rattle.feed_laid.proofs.Edited.{Named}
use Rattle.feed_laid.proofs.Lengths.{from_of, to_of}
use Rattle.feed_laid.proofs.OverMemory.{order, inside, apart, all_named, count, from_at, to_at, ahead}
use Rattle.feed_laid.proofs.Places.{sum-none, old-in}
use Rattle.feed_laid.proofs.Texts.{before, behind, laid-split}

-- ---- parts of lists

slice-behind : (x y : List ℕ) (n a b : ℕ) → length x ≡ n → slice (n + a) (n + b) (x ++ y) ≡ slice a b y
slice-behind x y n a b h =
    subst (λ (k : ℕ). slice (k + a) (k + b) (x ++ y) ≡ slice a b y) h
    (ap (drop (length x + a)) (take-append-add x y b) ∙ drop-append-add x (take b y) a)

slice-within : (t : List ℕ) (o c x y : ℕ) → o ≤ c → c ≤ length t → o + y ≤ c → slice x y (slice o c t) ≡ slice (o + x) (o + y) t
slice-within t o c x y h k l =
    ap (drop x) (sym (drop-take o y (take c t) (omega (arith, length-take-le c t k))) ∙ ap (drop o) (take-take (o + y) c t l))
    ∙ drop-drop x o (take (o + y) t)

-- a place counted from behind, and from the front
from_front : (P F G o c p : ℕ) → F + G ≡ P → G ≡ c - o → o ≤ p → p ≤ c → P - (c - p) ≡ F + (p - o)
from_front P F G o c p l g lo hi = omega arith

size_in : (G o c r : ℕ) → G ≡ c - o → o ≤ r → r ≤ c → r - o ≤ G
size_in G o c r g lo hi = omega arith

rest_of : (o p : ℕ) → o ≤ p → o + (p - o) ≡ p
rest_of o p h = omega arith

from-behind : (S L c b p : ℕ) → c ≡ b → S ≤ p → p ≤ b → p - S + L ≡ (b - S + L) - (c - p)
from-behind S L c b p e h k = omega arith

-- ---- the part before the i-th value: what comes before the gap, and the gap

abbrev gap_from : (o i : ℕ) → List ValRow → ℕ
gap_from o zero vs = o
gap_from o (suc i) [] = o
gap_from o (suc i) (v ∷ vs) = gap_from v.to i vs

gap-behind : (o i : ℕ) (vs : List ValRow) → i < length vs → gap_from o (suc i) vs ≡ to_of vs i
gap-behind o i [] h = absurd (omega arith)
gap-behind o zero (v ∷ vs) h = refl
gap-behind o (suc i) (v ∷ vs) h = gap-behind v.to i vs (omega arith)

module _ (t : List ℕ) (f : ℕ → List ℕ) where
  abbrev front : (o k i : ℕ) → List ValRow → List ℕ
  front o k zero vs = []
  front o k (suc i) [] = []
  front o k (suc i) (v ∷ vs) = slice o v.from t ++ (f k ++ front v.to (suc k) i vs)

  before-gap : (o k i : ℕ) (vs : List ValRow) → i < length vs → before t f o k i vs ≡ front o k i vs ++ slice (gap_from o i vs) (from_of vs i) t
  before-gap o k i [] h = absurd (omega arith)
  before-gap o k zero (v ∷ vs) h = refl
  before-gap o k (suc i) (v ∷ vs) h =
      let F = front v.to (suc k) i vs in
      let G = slice (gap_from v.to i vs) (from_of vs i) t in
      ap (λ (z : List ℕ). slice o v.from t ++ (f k ++ z)) (before-gap v.to (suc k) i vs (omega arith))
      ∙ ap (λ (z : List ℕ). slice o v.from t ++ z) (sym (append_assoc (f k) F G))
      ∙ sym (append_assoc (slice o v.from t) (f k ++ F) G)

  -- a part of the gap, counted from behind
  part_stays : (k : ℕ) (vs : List ValRow) (rest : List ℕ) (p r P : ℕ) → k < length vs → length (before t f 0 0 k vs) ≡ P → from_of vs k ≤ length t
      → gap_from 0 k vs ≤ p → p ≤ r → r ≤ from_of vs k
      → slice (P - (from_of vs k - p)) (P - (from_of vs k - r)) (before t f 0 0 k vs ++ rest) ≡ slice p r t
  part_stays k vs rest p r P h h_p inner lo pr hi =
      let F = front 0 0 k vs in
      let o = gap_from 0 k vs in
      let c = from_of vs k in
      let G = slice o c t in
      let pc : p ≤ c = omega (arith, pr, hi) in
      let or : o ≤ r = omega (arith, lo, pr) in
      let oc : o ≤ c = omega (arith, lo, pc) in
      let e = before-gap 0 0 k vs h in
      let g : length G ≡ c - o = length-slice o c t inner in
      let l : length F + length G ≡ P = sym (length-append F G) ∙ ap length (sym e) ∙ h_p in
      ap₂ (λ (a b : ℕ). slice a b (before t f 0 0 k vs ++ rest)) (from_front P (length F) (length G) o c p l g lo pc) (from_front P (length F) (length G) o c r l g or hi)
      ∙ ap (λ (z : List ℕ). slice (length F + (p - o)) (length F + (r - o)) (z ++ rest)) e
      ∙ ap (slice (length F + (p - o)) (length F + (r - o))) (append_assoc F G rest)
      ∙ slice-behind F (G ++ rest) (length F) (p - o) (r - o) refl
      ∙ ap (drop (p - o)) (take-append-le (r - o) G rest (size_in (length G) o c r g or hi))
      ∙ slice-within t o c (p - o) (r - o) oc inner (subst (λ (z : ℕ). z ≤ c) (sym (rest_of o r or)) hi)
      ∙ ap₂ (λ (a b : ℕ). slice a b t) (rest_of o p lo) (rest_of o r or)

-- ---- over memory whose tables fit

module _ (m : Memory) (fit : Fit m ≡ true) (f : ℕ → List ℕ) where
  abbrev a : ℕ → ℕ
  a = val_from_at m.values

  abbrev e : ℕ → ℕ
  e = val_to_at m.values

  abbrev n : ℕ
  n = m.counts.values

  -- places p and r stand behind the value before k, and before value k
  pub gap-stays : (k p r : ℕ) → k < n → ((j : ℕ) → k ≡ suc j → e j ≤ p) → p ≤ r → r ≤ a k
      → slice (shift a e f k p) (shift a e f k r) (laid_text m f) ≡ slice p r (text_in m)
  unfolding shift
  gap-stays k p r below lo pr hi =
      let vs = (rows_in m).vals in
      let P = shift a e f k (a k) in
      let S = sum (λ j. e j - a j) k in
      let b : k < length vs = omega (arith, count m fit, below) in
      let c = from_at m fit k below in
      let s : S ≤ p = low k below lo in
      let w : laid_text m f ≡ before (text_in m) f 0 0 k vs ++ (f (0 + k) ++ behind (text_in m) f 0 k vs) = laid-split (text_in m) f 0 0 k vs b in
      let L = sum (λ j. length (f j)) k in
      ap₂ (λ (i j : ℕ). slice i j (laid_text m f)) (from-behind S L (from_of vs k) (a k) p c s (omega (arith, pr, hi))) (from-behind S L (from_of vs k) (a k) r c (omega (arith, s, pr)) hi)
      ∙ ap (slice (P - (from_of vs k - p)) (P - (from_of vs k - r))) w
      ∙ part_stays (text_in m) f k vs (f (0 + k) ++ behind (text_in m) f 0 k vs) p r P b (ahead m fit f k below)
      (omega (arith, c, order m fit k below, inside m fit k below)) (gap k below lo) pr (omega (arith, c, hi))
    where
      low : (k : ℕ) → k < n → ((j : ℕ) → k ≡ suc j → e j ≤ p) → sum (λ j. e j - a j) k ≤ p
      low zero l h = omega (arith, sum-none (λ j. e j - a j))
      low (suc i) l h = omega (arith, old-in a e n (order m fit) (apart m fit) i (omega arith), h i refl)

      gap : (k : ℕ) → k < n → ((j : ℕ) → k ≡ suc j → e j ≤ p) → gap_from 0 k (rows_in m).vals ≤ p
      gap zero l h = omega arith
      gap (suc i) l h = omega (arith, gap-behind 0 i (rows_in m).vals (omega (arith, count m fit, l)), to_at m fit i (omega arith), h i refl)

  -- so does an identifier
  name-stays : (r : PropRow) → Named a e n r → slice (laid_prop a e f r).from (laid_prop a e f r).to (laid_text m f) ≡ slice r.from r.to (text_in m)
  name-stays r h = gap-stays r.first r.from r.to h.here (λ j z. omega (arith, h.behind j z)) h.order (omega (arith, h.before))

  owner-among : (rs : List PropRow) → All (Named a e n) rs → (k : ℕ) → owner_name (laid_text m f) (map (laid_prop a e f) rs) k ≡ owner_name (text_in m) rs k
  owner-among [] h k = refl
  owner-among (r ∷ rs) h k = go (ltb k (r.first + r.count)) (owner-among rs h.1 k)
    where
      go : (b : Bool) → owner_name (laid_text m f) (map (laid_prop a e f) rs) k ≡ owner_name (text_in m) rs k
          → slice (pick b (laid_prop a e f r) (owner_row (map (laid_prop a e f) rs) k)).from (pick b (laid_prop a e f r) (owner_row (map (laid_prop a e f) rs) k)).to (laid_text m f)
          ≡ slice (pick b r (owner_row rs k)).from (pick b r (owner_row rs k)).to (text_in m)
      go true z = name-stays r h.0
      go false z = z

  -- the property of a value has the same identifier
  pub owner-stays : (k : ℕ) → owner_name (laid_text m f) (laid_tables m f).props k ≡ owner_name (text_in m) (rows_in m).props k
  owner-stays = owner-among (rows_in m).props (all_named m fit 0 m.counts.properties (omega arith))
