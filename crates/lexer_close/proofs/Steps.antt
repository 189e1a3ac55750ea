-- The definition of a scan for a closing bracket at an offset of a text, one step at a time. Assumes nothing.
use Rattle.lists.proofs.Prelude.{ℕ, ◌+◌, ◌≤◌, ◌<◌, ◌≡◌, Bool, true, false, List, length, drop, get_or, drop_of_length-le, eqb, eq-eqb, ne_eqb}
use Rattle.lists.proofs.Places.{drop-next}
use Rattle.lexer_close.specs.Close.{close_from}
use Rattle.std.specs.Prelude.{Some, None}

pub close-past : (e : Bool) (s : List ℕ) (i : ℕ) → length s ≤ i → close_from e i (drop i s) ≡ None
unfolding close_from
close-past e s i h = rw drop_of_length-le

module _ (s : List ℕ) (i : ℕ) (h : i < length s) where
  pub close-escaped : close_from true i (drop i s) ≡ close_from false (i + 1) (drop (i + 1) s)
  unfolding close_from
  close-escaped = rw (drop-next s i)

  pub close-here : get_or s i 0 ≡ 93 → close_from false i (drop i s) ≡ Some i
  unfolding close_from
  close-here q = rw (drop-next s i, eq-eqb (get_or s i 0) 93 q)

  pub close-on : (get_or s i 0 ≡ 93 → ⊥) → close_from false i (drop i s) ≡ close_from (eqb (get_or s i 0) 92) (i + 1) (drop (i + 1) s)
  unfolding close_from
  close-on n = rw (drop-next s i, ne_eqb (get_or s i 0) 93 n)
