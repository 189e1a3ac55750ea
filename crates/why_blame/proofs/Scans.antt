-- The scan for a byte that is not ASCII, one byte a turn. Assumes nothing.
use Rattle.lists.proofs.Prelude.{ℕ, ◌+◌, ◌≤◌, ◌<◌, ◌≡◌, List, length, drop, get_or, drop_of_length-le, lt-leb, le-leb}
use Rattle.lists.proofs.Places.{drop-next}
use Rattle.why_blame.specs.Cuts.{foreign_from}

pub foreign-past : (s : List ℕ) (i : ℕ) → length s ≤ i → foreign_from i (drop i s) ≡ i
unfolding foreign_from
foreign-past s i h = rw drop_of_length-le

module _ (s : List ℕ) (i : ℕ) (h : i < length s) where
  pub foreign-here : 128 ≤ get_or s i 0 → foreign_from i (drop i s) ≡ i
  unfolding foreign_from
  foreign-here f = rw (drop-next s i, le-leb 128 (get_or s i 0) f)

  pub foreign-on : get_or s i 0 < 128 → foreign_from i (drop i s) ≡ foreign_from (i + 1) (drop (i + 1) s)
  unfolding foreign_from
  foreign-on f = rw (drop-next s i, lt-leb 128 (get_or s i 0) f)
