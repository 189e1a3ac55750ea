-- The read value has its colons where the raw bytes have them. Assumes nothing.
use Rattle.lists.proofs.Prelude.{ℕ, suc, ◌+◌, ◌-◌, ◌≤◌, ◌<◌, ◌≡◌, refl, sym, ap, ◌∙◌, Bool, true, false, ◌||◌, List, [], ◌∷◌, add-one, arith, eqb, ltb, length, take, drop, pick, length-drop, take_all, ne_eqb, eqb-true, lt-ltb, le-ltb}
use lib.Dec.{leb-suc-suc}
use Rattle.lists.proofs.Prelude.{not, ltb-true, ltb-false}
use Rattle.std.proofs.Common.{cond, Some, None}
use Rattle.std.specs.Prelude.{position, Option}
use Rattle.std.specs.List.{position_or_len}
use Rattle.values.specs.Read.{read_from, read_value}
use Rattle.go_size.specs.Size.{has_colon, colon_place, before_colon, behind_colon, side_of, pair_of, size_of}

no-colon : (x : ℕ) → eqb x 0x5c ≡ true → eqb x 0x3a ≡ false
no-colon x p = ne_eqb x 0x3a (omega (arith, eqb-true x 0x5c p))

pub has-colon : (esc : Bool) (s : List ℕ) → has_colon (read_from esc s) ≡ has_colon s
unfolding read_from
has-colon true [] = refl
has-colon false [] = refl
has-colon true (x ∷ s) = ap (λ (z : Bool). eqb x 0x3a || z) (has-colon false s)
has-colon false (x ∷ s) = go (eqb x 0x5c) refl (has-colon true s) (has-colon false s)
  where
    go : (t : Bool) → eqb x 0x5c ≡ t → has_colon (read_from true s) ≡ has_colon s → has_colon (read_from false s) ≡ has_colon s
        → has_colon (pick t (read_from true s) (x ∷ read_from false s)) ≡ (eqb x 0x3a || has_colon s)
    go true p e f = rw (no-colon x p) e
    go false p e f = ap (λ (z : Bool). eqb x 0x3a || z) f

pub read-before : (esc : Bool) (s : List ℕ) → before_colon (read_from esc s) ≡ read_from esc (take (colon_place s) s)
unfolding read_from
read-before true [] = refl
read-before false [] = refl
read-before true (x ∷ s) = go (eqb x 0x3a) (read-before false s)
  where
    go : (t : Bool) → before_colon (read_from false s) ≡ read_from false (take (colon_place s) s)
        → pick t [] (x ∷ before_colon (read_from false s)) ≡ read_from true (take (pick t 0 (suc (colon_place s))) (x ∷ s))
    go true e = refl
    go false e = ap (λ (z : List ℕ). x ∷ z) e
read-before false (x ∷ s) = go (eqb x 0x5c) refl (eqb x 0x3a) refl (read-before true s) (read-before false s)
  where
    go : (t : Bool) → eqb x 0x5c ≡ t → (u : Bool) → eqb x 0x3a ≡ u → before_colon (read_from true s) ≡ read_from true (take (colon_place s) s)
        → before_colon (read_from false s) ≡ read_from false (take (colon_place s) s)
        → before_colon (pick t (read_from true s) (x ∷ read_from false s)) ≡ read_from false (take (pick u 0 (suc (colon_place s))) (x ∷ s))
    go true p true q e f = absurd (omega (arith, eqb-true x 0x5c p, eqb-true x 0x3a q))
    go true p false q e f = rw p e
    go false p true q e f = rw q
    go false p false q e f = rw (q, p) (ap (λ (z : List ℕ). x ∷ z) f)

pub read_behind : (esc : Bool) (s : List ℕ) → behind_colon (read_from esc s) ≡ read_from false (drop (suc (colon_place s)) s)
unfolding read_from
read_behind true [] = refl
read_behind false [] = refl
read_behind true (x ∷ s) = go (eqb x 0x3a) (read_behind false s)
  where
    go : (t : Bool) → behind_colon (read_from false s) ≡ read_from false (drop (suc (colon_place s)) s)
        → pick t (read_from false s) (behind_colon (read_from false s)) ≡ read_from false (drop (suc (pick t 0 (suc (colon_place s)))) (x ∷ s))
    go true e = refl
    go false e = e
read_behind false (x ∷ s) = go (eqb x 0x5c) refl (eqb x 0x3a) refl (read_behind true s) (read_behind false s)
  where
    go : (t : Bool) → eqb x 0x5c ≡ t → (u : Bool) → eqb x 0x3a ≡ u → behind_colon (read_from true s) ≡ read_from false (drop (suc (colon_place s)) s)
        → behind_colon (read_from false s) ≡ read_from false (drop (suc (colon_place s)) s)
        → behind_colon (pick t (read_from true s) (x ∷ read_from false s)) ≡ read_from false (drop (suc (pick u 0 (suc (colon_place s)))) (x ∷ s))
    go true p true q e f = absurd (omega (arith, eqb-true x 0x5c p, eqb-true x 0x3a q))
    go true p false q e f = e
    go false p true q e f = rw q
    go false p false q e f = rw q f

has-place : (s : List ℕ) → has_colon s ≡ ltb (colon_place s) (length s)
has-place [] = refl
has-place (x ∷ s) = go (eqb x 0x3a) (has-place s)
  where
    go : (t : Bool) → has_colon s ≡ ltb (colon_place s) (length s) → (t || has_colon s) ≡ ltb (pick t 0 (suc (colon_place s))) (suc (length s))
    go true e = sym (lt-ltb 0 (suc (length s)) (omega arith))
    go false e = e ∙ sym (leb-suc-suc (suc (colon_place s)) (length s))

-- the search
place-is : (s : List ℕ) → colon_place s ≡ position_or_len (λ b. eqb b 0x3a) s
place-is [] = refl
place-is (x ∷ s) = go (eqb x 0x3a) (place-is s)
  where
    go : (t : Bool) → colon_place s ≡ position_or_len (λ b. eqb b 0x3a) s → pick t 0 (suc (colon_place s)) ≡ cond (not t) (1 + position_or_len (λ b. eqb b 0x3a) s) 0
    go true e = refl
    go false e = omega (arith, e)

pub colon-found : (s : List ℕ) (p : ℕ) → position (λ b. eqb b 0x3a) s ≡ Some p → (p ≡ colon_place s) × (p < length s)
colon-found s p e = go (ltb (position_or_len (λ b. eqb b 0x3a) s) (length s)) refl e
  where
    go : (t : Bool) → ltb (position_or_len (λ b. eqb b 0x3a) s) (length s) ≡ t → cond t (Some (position_or_len (λ b. eqb b 0x3a) s)) None ≡ Some p
        → (p ≡ colon_place s) × (p < length s)
    go true f g =
        let l = ltb-true (position_or_len (λ b. eqb b 0x3a) s) (length s) f in
        let q : position_or_len (λ b. eqb b 0x3a) s ≡ p = cc in
        (sym q ∙ sym (place-is s), omega arith)
    go false f g = absurd cc

pub colon-missed : (s : List ℕ) → position (λ b. eqb b 0x3a) s ≡ None → length s ≤ colon_place s
colon-missed s e = go (ltb (position_or_len (λ b. eqb b 0x3a) s) (length s)) refl e
  where
    go : (t : Bool) → ltb (position_or_len (λ b. eqb b 0x3a) s) (length s) ≡ t → cond t (Some (position_or_len (λ b. eqb b 0x3a) s)) None ≡ None
        → length s ≤ colon_place s
    go true f g = absurd cc
    go false f g = let l = ltb-false (position_or_len (λ b. eqb b 0x3a) s) (length s) f in omega (arith, place-is s)

-- the size
module _ (s : List ℕ) {x : ℕ} {r : Option (ℕ × ℕ)} where
  pub size-two : (p y : ℕ) → p ≡ colon_place s → p < length s → x ≡ side_of (read_value (take p s)) → y ≡ side_of (read_value (take (length s - (p + 1)) (drop (p + 1) s))) → r ≡ pair_of x y
      → r ≡ size_of (read_value s)
  unfolding size_of
  size-two p y e l f g h =
      let all : take (length s - (p + 1)) (drop (p + 1) s) ≡ drop (p + 1) s = take_all (length s - (p + 1)) (drop (p + 1) s) (omega (arith, length-drop (p + 1) s)) in
      let b : before_colon (read_value s) ≡ read_value (take p s) = rw e (read-before false s) in
      let a : behind_colon (read_value s) ≡ read_value (drop (p + 1) s) = rw (e, add-one) (read_behind false s) in
      let l2 : colon_place s < length s = omega arith in
      rw (has-colon false s, has-place s, lt-ltb (colon_place s) (length s) l2, b, a, ← f, ← all, ← g) h

  pub size-one : length s ≤ colon_place s → x ≡ side_of (read_value s) → r ≡ pair_of x x → r ≡ size_of (read_value s)
  unfolding size_of
  size-one l f h = rw (has-colon false s, has-place s, le-ltb (colon_place s) (length s) l, ← f) h
