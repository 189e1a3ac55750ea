-- A text and its rows, by the bytes of its values: what stands between the values stays, and a place moves by the change in length of the values before it.
use Rattle.std.specs.Prelude.{◌+◌, ◌-◌, ◌∷◌, ◌++◌}
use Rattle.lists.specs.Prelude.{ℕ, suc, List, [], map, eqb, length, drop, slice, pick}
use Rattle.tables.specs.Rows.{PropRow, ValRow, Tables}
use Rattle.tables.specs.Each.{sum, tabulate}

-- other bytes for value k
abbrev pub with : (ℕ → List ℕ) → ℕ → List ℕ → ℕ → List ℕ
with f k new j = pick (eqb j k) new (f j)

-- from the place o of the text on, the values from number k on
abbrev pub laid_from : (t : List ℕ) → (ℕ → List ℕ) → (o k : ℕ) → List ValRow → List ℕ
laid_from t f o k [] = drop o t
laid_from t f o k (v ∷ vs) = slice o v.from t ++ (f k ++ laid_from t f v.to (suc k) vs)

-- the text with f k for the bytes of each value k
abbrev pub laid : (t : List ℕ) → List ValRow → (ℕ → List ℕ) → List ℕ
laid t vs f = laid_from t f 0 0 vs

-- where a place that stands behind the values below k then stands; a and e: where values start and end, f: their bytes
unfoldable pub shift : (a e : ℕ → ℕ) → (ℕ → List ℕ) → (k p : ℕ) → ℕ
shift a e f k p = p - sum (λ j. e j - a j) k + sum (λ j. length (f j)) k

-- the rows: a value by the values before it, its end by its own bytes too; an identifier by the values before its property's first; trees and nodes stay
abbrev pub laid_val : (a e : ℕ → ℕ) → (ℕ → List ℕ) → ℕ → ValRow
laid_val a e f j = record { from = shift a e f j (a j); to = shift a e f (suc j) (e j) }

-- a property's
abbrev pub laid_prop : (a e : ℕ → ℕ) → (ℕ → List ℕ) → PropRow → PropRow
laid_prop a e f r = record { from = shift a e f r.first r.from; to = shift a e f r.first r.to; first = r.first; count = r.count }

-- all rows, of n values
abbrev pub laid_rows : (a e : ℕ → ℕ) → (n : ℕ) → Tables → (ℕ → List ℕ) → Tables
laid_rows a e n T f = record { trees = T.trees; nodes = T.nodes; props = map (laid_prop a e f) T.props; vals = tabulate (laid_val a e f) 0 n }
