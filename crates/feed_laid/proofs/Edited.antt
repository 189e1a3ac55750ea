-- Other bytes for value k are the edit of value k: the rows. Assumes nothing.
use Rattle.lists.proofs.Prelude.{◌≡◌, refl, ap₂, ◌∙◌, ℕ, zero, suc, ◌+◌, ◌-◌, ◌<◌, ◌≤◌, arith, List, [], ◌∷◌, map, length}
use Rattle.lists.specs.All.{All}
use Rattle.lexer.specs.Move.{starts_at, ends_at}
use Rattle.tables.specs.Each.{sum, tabulate}
use Rattle.tables.specs.Rows.{PropRow, ValRow, Tables}
use Rattle.tables.proofs.Cases.{below_or}
use Rattle.fit.proofs.Parts.{map-tabulate}
use Rattle.tables.specs.Move.{move_props, move_vals, move_tables}
use Rattle.feed_laid.specs.Laid.{with, shift, laid_val, laid_prop, laid_rows}
use Rattle.feed_laid.proofs.Places.{old-in, start-low, start-high, end_low, end-high}

pub tabulate-ext : {A : Type 0} (f g : ℕ → A) (k m : ℕ) → ((j : ℕ) → k ≤ j → j < k + m → f j ≡ g j) → tabulate f k m ≡ tabulate g k m
unfolding tabulate
tabulate-ext f g k zero h = refl
tabulate-ext {A} f g k (suc m) h = ap₂ (λ (x : A) (y : List A). x ∷ y) (h k (omega arith) (omega arith)) (tabulate-ext f g (suc k) m (λ j a b. h j (omega arith) (omega arith)))

sum_low : (h : ℕ → ℕ) (p : ℕ) → sum h 0 ≤ p
unfolding sum
sum_low h p = omega arith

-- the identifier of a property stands before its first value and behind the one before that
pub record Named (a e : ℕ → ℕ) (n : ℕ) (r : PropRow) : Type 0 where
  pub order : r.from ≤ r.to
  pub here : r.first < n
  pub before : r.to < a r.first
  pub behind : (i : ℕ) → r.first ≡ suc i → e i < r.from

module _ (a e : ℕ → ℕ) (n : ℕ) (order : (j : ℕ) → j < n → a j ≤ e j) (apart : (j : ℕ) → suc j < n → e j < a (suc j)) (f : ℕ → List ℕ) (k : ℕ) (below : k < n) (new : List ℕ) where
  abbrev q : ℕ
  q = shift a e f k (a k)

  abbrev E : ℕ
  E = shift a e f (suc k) (e k)

  abbrev g : ℕ → List ℕ
  g = with f k new

  row : (x y x' y' : ℕ) → x ≡ x' → y ≡ y' → ◌≡◌ {A = ValRow} (record { from = x; to = y }) (record { from = x'; to = y' })
  row x y x' y' p r = ap₂ (λ (u v : ℕ). record { from = u; to = v }) p r

  start_of : (j : ℕ) → j < n → starts_at q E (length new) (shift a e f j (a j)) ≡ shift a e g j (a j)
  start_of zero l = start-low a e n order apart f k below new zero (a zero) (omega arith) (omega arith)
  start_of (suc i) l =
      below_or i k (λ h. start-low a e n order apart f k below new (suc i) (a (suc i)) h (omega arith))
      (λ h. start-high a e n order apart f k below new i (a (suc i)) h (omega arith) (apart i l))

  end_of : (j : ℕ) → j < n → ends_at q E (length new) (shift a e f (suc j) (e j)) ≡ shift a e g (suc j) (e j)
  end_of j l =
      below_or j k (λ h. end_low a e n order apart f k below new (suc j) (e j) h (old-in a e n order apart j l) (apart j (omega arith)))
      (λ h. end-high a e n order apart f k below new j (e j) h l (omega arith))

  value-rows : map (move_vals (starts_at q E (length new)) (ends_at q E (length new))) (tabulate (laid_val a e f) 0 n) ≡ tabulate (laid_val a e g) 0 n
  value-rows =
      map-tabulate (laid_val a e f) (move_vals (starts_at q E (length new)) (ends_at q E (length new))) 0 n
      ∙ tabulate-ext (λ j. move_vals (starts_at q E (length new)) (ends_at q E (length new)) (laid_val a e f j)) (laid_val a e g) 0 n
      (λ j _ l. row _ _ _ _ (start_of j (omega arith)) (end_of j (omega arith)))

  name-start : (i p : ℕ) → i < n → p ≤ a i → ((j : ℕ) → i ≡ suc j → e j < p) → starts_at q E (length new) (shift a e f i p) ≡ shift a e g i p
  name-start zero p l h b = start-low a e n order apart f k below new zero p (omega arith) h
  name-start (suc i) p l h b =
      below_or i k (λ c. start-low a e n order apart f k below new (suc i) p c h)
      (λ c. start-high a e n order apart f k below new i p c (omega arith) (b i refl))

  name-end : (i p : ℕ) → i < n → p < a i → ((j : ℕ) → i ≡ suc j → e j ≤ p) → ends_at q E (length new) (shift a e f i p) ≡ shift a e g i p
  name-end zero p l h b = end_low a e n order apart f k below new zero p (omega arith) (sum_low (λ j. e j - a j) p) h
  name-end (suc i) p l h b =
      let o = b i refl in
      below_or i k (λ c. end_low a e n order apart f k below new (suc i) p c (omega (arith, old-in a e n order apart i (omega arith), o)) h)
      (λ c. end-high a e n order apart f k below new i p c (omega arith) o)

  prop-row : (r : PropRow) → Named a e n r → move_props (starts_at q E (length new)) (ends_at q E (length new)) (laid_prop a e f r) ≡ laid_prop a e g r
  prop-row r h =
      ap₂ (λ (u v : ℕ). record { from = u; to = v; first = r.first; count = r.count })
      (name-start r.first r.from h.here (omega (arith, h.order, h.before)) h.behind)
      (name-end r.first r.to h.here h.before (λ j z. omega (arith, h.behind j z, h.order)))

  prop-rows : (rs : List PropRow) → All (Named a e n) rs → map (move_props (starts_at q E (length new)) (ends_at q E (length new))) (map (laid_prop a e f) rs) ≡ map (laid_prop a e g) rs
  prop-rows [] h = refl
  prop-rows (r ∷ rs) h = ap₂ (λ (x : PropRow) (y : List PropRow). x ∷ y) (prop-row r h.0) (prop-rows rs h.1)

  -- the rows moved as the edit moves them
  pub laid-shifted : (T : Tables) → All (Named a e n) T.props → move_tables (starts_at q E (length new)) (ends_at q E (length new)) (laid_rows a e n T f) ≡ laid_rows a e n T g
  laid-shifted T h = ap₂ (λ (x : List PropRow) (y : List ValRow). record { trees = T.trees; nodes = T.nodes; props = x; vals = y }) (prop-rows T.props h) value-rows
