-- The scans' definitions at an offset of a text, one step at a time. Assumes nothing.
use Rattle.lists.proofs.Prelude.{ℕ, ◌+◌, ◌≤◌, ◌<◌, ◌≡◌, true, false, List, length, drop, get_or, drop_of_length-le, eq-eqb, ne_eqb, lt-leb, le-leb}
use Rattle.lexer_scan.specs.declared.Ident.TheVariants.{Opens, Missing, Foreign}
use Rattle.lists.proofs.Places.{drop-next}
use Rattle.lexer_scan.specs.Scan.{space, skip_from, ident_from}

pub skip-past : (s : List ℕ) (i : ℕ) → length s ≤ i → skip_from i (drop i s) ≡ i
unfolding skip_from
skip-past s i h = rw drop_of_length-le

pub ident-past : (s : List ℕ) (i : ℕ) → length s ≤ i → ident_from i (drop i s) ≡ Missing
unfolding ident_from
ident-past s i h = rw drop_of_length-le

module _ (s : List ℕ) (i : ℕ) (h : i < length s) where
  pub skip-on : space (get_or s i 0) ≡ true → skip_from i (drop i s) ≡ skip_from (i + 1) (drop (i + 1) s)
  unfolding skip_from
  skip-on q = rw (drop-next s i, q)

  pub skip_stop : space (get_or s i 0) ≡ false → skip_from i (drop i s) ≡ i
  unfolding skip_from
  skip_stop q = rw (drop-next s i, q)

  pub ident-here : get_or s i 0 ≡ 91 → ident_from i (drop i s) ≡ Opens i
  unfolding ident_from
  ident-here q = rw (drop-next s i, eq-eqb (get_or s i 0) 91 q)

  pub ident-foreign : 128 ≤ get_or s i 0 → (get_or s i 0 ≡ 91 → ⊥) → ident_from i (drop i s) ≡ Foreign
  unfolding ident_from
  ident-foreign f n = rw (drop-next s i, ne_eqb (get_or s i 0) 91 n, le-leb 128 (get_or s i 0) f)

  pub ident-on : get_or s i 0 < 128 → (get_or s i 0 ≡ 91 → ⊥) → ident_from i (drop i s) ≡ ident_from (i + 1) (drop (i + 1) s)
  unfolding ident_from
  ident-on a n = rw (drop-next s i, ne_eqb (get_or s i 0) 91 n, lt-leb 128 (get_or s i 0) a)
