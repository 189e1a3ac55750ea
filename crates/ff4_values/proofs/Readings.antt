-- Simple values: the only byte of a read value, and each case of a kind. Assumes nothing.
use Rattle.lists.proofs.Prelude.{ℕ, suc, zero, ◌+◌, ◌≡◌, refl, sym, ap, true, false, List, arith}
use Rattle.values.specs.Read.{read_value}
use Rattle.values.proofs.Steps.{Steps, read-cons}
use Rattle.parts.specs.Rows.{value_at, values_at}
use Rattle.ff4_values.specs.Locals.{only_byte}
use Rattle.ff4_values.specs.Simple.{none_of, is_simple, simple_of, simple_by}
use Rattle.ff4_values.specs.declared.Simple.TheVariants.{Other, Invalid, Nothing}
use Rattle.std.specs.Prelude.{Some, None}

module _ (s : List ℕ) where
  pub only_none : Steps s 0 None → 256 ≡ only_byte (read_value s)
  only_none h = sym (ap only_byte h)

  pub only_one : {b n : ℕ} → Steps s 0 (Some (b, n)) → Steps s n None → b ≡ only_byte (read_value s)
  only_one h g = sym (ap only_byte (read-cons s h g))

  pub only-more : {b n d m : ℕ} → Steps s 0 (Some (b, n)) → Steps s n (Some (d, m)) → 256 ≡ only_byte (read_value s)
  only-more h g = sym (ap only_byte (read-cons s h g.0))

  pub none_end : Steps s 0 None → Nothing ≡ none_of (read_value s)
  none_end h = sym (ap none_of h)

  pub none-byte : {b n : ℕ} → Steps s 0 (Some (b, n)) → Invalid ≡ none_of (read_value s)
  none-byte h = sym (ap none_of h.0)

module _ (k : ℕ) (text vl : List ℕ) (first : ℕ) where
  pub by-other : (count : ℕ) → is_simple k ≡ false → Other ≡ simple_by k (values_at text vl first count)
  unfolding simple_by
  by-other count h = rw h

  pub by-many : (count : ℕ) → is_simple k ≡ true → (count ≡ 1 → ⊥) → Invalid ≡ simple_by k (values_at text vl first count)
  unfolding simple_by values_at
  by-many zero h n = rw h
  by-many (suc zero) h n = absurd (n refl)
  by-many (suc (suc m)) h n = rw h

  pub by_one : (count : ℕ) → is_simple k ≡ true → count ≡ 1 → simple_of k (read_value (value_at text vl (first + 0))) ≡ simple_by k (values_at text vl first count)
  unfolding simple_by values_at
  by_one count h n = let e : first + 0 ≡ first = omega arith in rw (n, e, h)
