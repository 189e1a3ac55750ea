-- Whether what is left of an identifier reads as what is left of a name; an identifier by its row. Assumes nothing.
use Rattle.lists.proofs.Prelude.{ℕ, ◌+◌, ◌*◌, ◌/◌, ◌≤◌, ◌<◌, ◌≡◌, refl, Bool, true, false, ◌&&◌, List, [], leb, eqb, eqb-true, eqb-false, length, get_or, drop, arith, drop_of_length-le, eq-eqb, ne_eqb, lt-ltb, le-ltb}
use Rattle.lists.proofs.Places.{drop-next}
use Rattle.lists.specs.Same.{same}
use Rattle.values.specs.Read.{read_identifier}
use Rattle.parts.specs.Rows.{value_at}
use Rattle.tables.specs.Columns.{property_stride}
use Rattle.parts_props.specs.Props.{identifier_at}

module _ (s w : List ℕ) (i n : ℕ) {x : Bool} (e : same (read_identifier (drop i s)) (drop n w) ≡ x) where
  pub reads_end : length s ≤ i → n ≤ length w → eqb n (length w) ≡ x
  unfolding read_identifier
  reads_end h l = go (eqb n (length w)) refl (rw (drop_of_length-le s h) at e)
    where
      go : (t : Bool) → eqb n (length w) ≡ t → same [] (drop n w) ≡ x → t ≡ x
      go true f g = let z = eqb-true n (length w) f in let p : length w ≤ n = omega arith in rw (drop_of_length-le w p) at g
      go false f g = let z = eqb-false n (length w) f in let p : n < length w = omega (arith, z) in rw (drop-next w n p) at g

  module _ (h : i < length s) where
    pub reads_on : (leb 0x41 (get_or s i 0) && leb (get_or s i 0) 0x5a) ≡ false → same (read_identifier (drop (i + 1) s)) (drop n w) ≡ x
    unfolding read_identifier
    reads_on f = rw (drop-next s i h, f) at e

    module _ (f : (leb 0x41 (get_or s i 0) && leb (get_or s i 0) 0x5a) ≡ true) where
      pub reads-long : length w ≤ n → false ≡ x
      unfolding read_identifier
      reads-long g = rw (drop-next s i h, f, drop_of_length-le w g) at e

      pub reads_other : n < length w → (get_or s i 0 ≡ get_or w n 0 → ⊥) → false ≡ x
      unfolding read_identifier
      reads_other g d = rw (drop-next s i h, f, drop-next w n g, ne_eqb (get_or s i 0) (get_or w n 0) d) at e

      pub reads_more : n < length w → get_or s i 0 ≡ get_or w n 0 → same (read_identifier (drop (i + 1) s)) (drop (n + 1) w) ≡ x
      unfolding read_identifier
      reads_more g d = rw (drop-next s i h, f, drop-next w n g, eq-eqb (get_or s i 0) (get_or w n 0) d) at e

module _ (text pr : List ℕ) (p : ℕ) where
  pub identifier-none : length pr / property_stride ≤ p → [] ≡ identifier_at text pr p
  unfolding identifier_at
  identifier-none h = rw (le-ltb p (length pr / property_stride) h)

  pub identifier-part : p < length pr / property_stride → value_at text pr (p * 2 + 0) ≡ identifier_at text pr p
  unfolding identifier_at value_at
  identifier-part h =
      let r : p * 2 + 0 < length pr / 2 = omega arith in
      let a : (p * 2 + 0) * 2 ≡ p * 4 = omega arith in
      rw (lt-ltb p (length pr / property_stride) h, lt-ltb (p * 2 + 0) (length pr / 2) r, a)
