-- Cells of the node rows: they are there and can be counted. Assumes nothing.
use Rattle.lists.proofs.Prelude.{ℕ, ◌+◌, ◌-◌, ◌*◌, ◌/◌, ◌^◌, ◌≤◌, ◌<◌, ◌≡◌, true, List, arith, leb, length, set, length-set, leb-true}
use mir.Syntax.{w32, w64}
use mir.Val.{Fits}
use Rattle.tables.specs.Numbers.{none}
use Rattle.tables.specs.Columns.{node_stride}

-- a table of n rows whose bytes can be counted
pub record Table (n : ℕ) (t : List ℕ) : Type 0 where
  pub rows : n * node_stride ≤ length t
  pub bytes : length t * 4 < 2 ^ 64

pub none-fits : Fits w64 none
none-fits = omega arith

pub one_less : (k : ℕ) → 0 < k → k - 1 < k
one_less k h = omega arith

pub under : {k n : ℕ} → k < n → k ≤ n
under h = omega arith

-- the number of a row goes into a cell
pub row_number : {k n : ℕ} → k < n → n ≤ none → Fits w32 k
row_number h l = omega arith

pub whole-rows : (n m : ℕ) → n ≤ m / node_stride → n * node_stride ≤ m
whole-rows n m h = omega arith

module _ {n : ℕ} {t : List ℕ} (r : Table n t) (j : ℕ) (h : j < n) where
  pub row_fits : Fits w64 (j * node_stride)
  row_fits = let p = r.rows in let q = r.bytes in omega arith

  pub row-bytes : Fits w64 (j * node_stride * 4)
  row-bytes = let p = r.rows in let q = r.bytes in omega arith

  pub row-there : j * node_stride < length t
  row-there = let p = r.rows in omega arith

  -- the cell i of the row
  module _ (i : ℕ) (e : leb i 5 ≡ true) where
    pub cell-fits : Fits w64 (j * node_stride + i)
    cell-fits = let l = leb-true i 5 e in let p = r.rows in let q = r.bytes in omega arith

    pub cell-bytes : Fits w64 ((j * node_stride + i) * 4)
    cell-bytes = let l = leb-true i 5 e in let p = r.rows in let q = r.bytes in omega arith

    pub cell-there : j * node_stride + i < length t
    cell-there = let l = leb-true i 5 e in let p = r.rows in omega arith

    pub cell_stays : (a v : ℕ) → j * node_stride + i < length (set t a v)
    cell_stays a v = let l = length-set t a v in let p = cell-there in omega arith
