-- Identifiers stay under other bytes for values, and so do the owners of values. Assumes nothing.
use Rattle.lists.proofs.Prelude.{ℕ, zero, suc, ◌+◌, ◌-◌, ◌≤◌, ◌<◌, true, ◌≡◌, refl, sym, ap, ap₂, ◌∙◌, arith, List, [], ◌∷◌, ◌++◌, append_assoc, map, length, take, drop, slice, ltb, length-append, length-slice, take-append-le, take-append-add, drop-append-add, drop-drop, take-take}
use Rattle.lists.specs.All.{All}
use Rattle.tables.specs.Columns.{val_from_at, val_to_at}
use Rattle.tables.specs.Memory.{Memory}
use Rattle.tables.specs.Rows.{PropRow, ValRow}
use Rattle.tables.proofs.Cases.{either-bool}
use Rattle.fit.specs.Fit.{Fit}
use Rattle.fit.specs.Record.{rows_in, text_in}
use Rattle.fit_spans.proofs.Lists.{part_slice}
use Rattle.edit_answer.specs.Edit.{owner_name}
use Rattle.feed_laid.specs.Laid.{shift, laid_prop}
use Rattle.feed_laid.specs.OfMemory.{laid_text, laid_tables}
use Rattle.feed_laid.proofs.Edited.{Named}
use Rattle.feed_laid.proofs.Lengths.{Chain, from_of, to_of}
use Rattle.feed_laid.proofs.OverMemory.{order, apart, chain, count, from_at, to_at, ahead, all_named}
use Rattle.feed_laid.proofs.Places.{old-low, old-in, sum-none}
use Rattle.feed_laid.proofs.Texts.{before, behind, laid-split}
use Rattle.tables.specs.Each.{sum}

-- ---- parts of parts

slice_in : (x y : ℕ) (A C : List ℕ) → y ≤ length A → slice x y (A ++ C) ≡ slice x y A
slice_in x y A C h = ap (drop x) (take-append-le y A C h)

slice-behind : (x y : ℕ) (A C : List ℕ) → slice (length A + x) (length A + y) (A ++ C) ≡ slice x y C
slice-behind x y A C = ap (drop (length A + x)) (take-append-add A C y) ∙ drop-append-add A (take y C) x

slice-slice : (o b c d : ℕ) (t : List ℕ) → o ≤ c → c ≤ d → d ≤ b → slice (c - o) (d - o) (slice o b t) ≡ slice c d t
slice-slice o b c d t h k l =
    let z : o + (c - o) ≡ c = omega arith in
    ap (drop (c - o)) (part_slice o d (take b t) ∙ ap (drop o) (take-take d b t l)) ∙ drop-drop (c - o) o (take d t) ∙ ap (λ (i : ℕ). drop i (take d t)) z

-- what stands before the i-th value and behind the one before it, from c on
module _ (t : List ℕ) (f : ℕ → List ℕ) where
  abbrev Behind : (vs : List ValRow) (o i c : ℕ) → Type 0
  Behind vs o i c = (i ≡ 0 → o ≤ c) × ((j : ℕ) → i ≡ suc j → to_of vs j ≤ c)

  -- behind the value before it
  tail-behind : (v : ValRow) (vs : List ValRow) (o i c : ℕ) → Behind (v ∷ vs) o (suc i) c → Behind vs v.to i c
  tail-behind v vs o i c b = (λ e. b.1 0 (ap suc e), λ j e. b.1 (suc j) (ap suc e))

  gap-long : (vs : List ValRow) (o k i c : ℕ) → Chain (length t) o vs → i < length vs → Behind vs o i c → from_of vs i ≤ length (before t f o k i vs) + c
  gap-long [] o k i c ch h b = absurd (omega arith)
  gap-long (v ∷ vs) o k zero c ch h b = omega (arith, length-slice o v.from t (omega (arith, ch.1, ch.2)), b.0 refl)
  gap-long (v ∷ vs) o k (suc i) c ch h b =
      let r = gap-long vs v.to (suc k) i c ch.3 (omega arith) (tail-behind v vs o i c b) in
      omega (arith, r, length-append (slice o v.from t) (f k ++ before t f v.to (suc k) i vs), length-append (f k) (before t f v.to (suc k) i vs))

  gap-part : (vs : List ValRow) (o k i c d u y : ℕ) → Chain (length t) o vs → i < length vs → Behind vs o i c → c ≤ d → d ≤ from_of vs i
      → u + from_of vs i ≡ length (before t f o k i vs) + c → y + from_of vs i ≡ length (before t f o k i vs) + d → slice u y (before t f o k i vs) ≡ slice c d t
  gap-part [] o k i c d u y ch h b l r eu ey = absurd (omega arith)
  gap-part (v ∷ vs) o k zero c d u y ch h b l r eu ey =
      let n = length-slice o v.from t (omega (arith, ch.1, ch.2)) in
      let p = b.0 refl in
      let x : u ≡ c - o = omega (arith, n, p, eu, ch.0) in
      let z : y ≡ d - o = omega (arith, n, p, l, ey, ch.0) in
      ap₂ (λ (i j : ℕ). slice i j (slice o v.from t)) x z ∙ slice-slice o v.from c d t p l r
  gap-part (v ∷ vs) o k (suc i) c d u y ch h b l r eu ey =
      let S = slice o v.from t in
      let B = before t f v.to (suc k) i vs in
      let q = tail-behind v vs o i c b in
      let g = gap-long vs v.to (suc k) i c ch.3 (omega arith) q in
      let n = length-append S (f k ++ B) in
      let n' = length-append (f k) B in
      let n'' = length-append S (f k) in
      let x : u ≡ length (S ++ f k) + (u - length (S ++ f k)) = omega (arith, g, n, n', n'', eu) in
      let z : y ≡ length (S ++ f k) + (y - length (S ++ f k)) = omega (arith, g, n, n', n'', ey, l) in
      ap (slice u y) (sym (append_assoc S (f k) B))
      ∙ ap₂ (λ (i j : ℕ). slice i j ((S ++ f k) ++ B)) x z
      ∙ slice-behind (u - length (S ++ f k)) (y - length (S ++ f k)) (S ++ f k) B
      ∙ gap-part vs v.to (suc k) i c d (u - length (S ++ f k)) (y - length (S ++ f k)) ch.3 (omega arith) q l r
      (omega (arith, g, n, n', n'', eu)) (omega (arith, g, n, n', n'', ey, l))

-- ---- identifiers

module _ (m : Memory) (fit : Fit m ≡ true) (f : ℕ → List ℕ) where
  abbrev a : ℕ → ℕ
  a = val_from_at m.values

  abbrev e : ℕ → ℕ
  e = val_to_at m.values

  abbrev n : ℕ
  n = m.counts.values

  name-laid : (r : PropRow) → Named a e n r → slice (laid_prop a e f r).from (laid_prop a e f r).to (laid_text m f) ≡ slice r.from r.to (text_in m)
  unfolding shift
  name-laid r h =
      let i = r.first in
      let x = before (text_in m) f 0 0 i (rows_in m).vals in
      let y = behind (text_in m) f 0 i (rows_in m).vals in
      let z : 0 + i ≡ i = omega arith in
      let t : laid_text m f ≡ x ++ (f i ++ y) = laid-split (text_in m) f 0 0 i (rows_in m).vals (omega (arith, count m fit, h.here)) ∙ ap (λ (j : ℕ). x ++ (f j ++ y)) z in
      let g : length x ≡ shift a e f i (a i) = ahead m fit f i h.here in
      let s = old-low a e n (order m fit) (apart m fit) i h.here in
      let l = low r.first refl in
      ap (slice (shift a e f i r.from) (shift a e f i r.to)) t
      ∙ slice_in (shift a e f i r.from) (shift a e f i r.to) x (f i ++ y) (omega (arith, g, h.before))
      ∙ gap-part (text_in m) f (rows_in m).vals 0 0 i r.from r.to (shift a e f i r.from) (shift a e f i r.to) (chain m fit) (omega (arith, count m fit, h.here))
      (λ _. omega arith, λ j q. omega (arith, to_at m fit j (omega (arith, q, h.here)), h.behind j q)) h.order (omega (arith, from_at m fit i h.here, h.before))
      (omega (arith, g, from_at m fit i h.here, l, s)) (omega (arith, g, from_at m fit i h.here, l, s, h.order))
    where
      low : (i : ℕ) → r.first ≡ i → sum (λ j. e j - a j) i ≤ r.from
      low zero q = omega (arith, sum-none (λ j. e j - a j))
      low (suc i) q = omega (arith, old-in a e n (order m fit) (apart m fit) i (omega (arith, h.here, q)), h.behind i q)

  owner-laid : (rs : List PropRow) → All (Named a e n) rs → (k : ℕ) → owner_name (laid_text m f) (map (laid_prop a e f) rs) k ≡ owner_name (text_in m) rs k
  owner-laid [] h k = refl
  owner-laid (r ∷ rs) h k =
      either-bool (ltb k (r.first + r.count))
      (λ b. rw b (name-laid r h.0))
      (λ b. rw b (owner-laid rs h.1 k))

  -- the owner of a value is named as before
  pub owner-stays : (k : ℕ) → owner_name (laid_text m f) (laid_tables m f).props k ≡ owner_name (text_in m) (rows_in m).props k
  owner-stays k = owner-laid (rows_in m).props (all_named m fit 0 m.counts.properties (omega arith)) k
