-- Elements stored one by one from a place on: joined, and beyond the end. Assumes nothing.
use Rattle.lists.proofs.Prelude.{ℕ, suc, ◌+◌, ◌-◌, ◌≤◌, ◌<◌, min, ◌≡◌, refl, sym, ap, ◌∙◌, Bool, true, false, List, [], ◌∷◌, ◌++◌, add-zero, add-suc, suc-add, add-one, arith, leb, length, take, drop, get_or, set, take-append-drop, sets, set_out, take-suc, take_all, length-take-le, length-sets, leb-true, leb-false}

module _ {A : Type 0} where
  pub sets-append : (l : List A) (i : ℕ) (vs ws : List A) → sets l i (vs ++ ws) ≡ sets (sets l i vs) (i + length vs) ws
  sets-append l i [] ws = rw add-zero
  sets-append l i (v ∷ vs) ws = rw (add-suc, ← suc-add) (sets-append (set l i v) (suc i) vs ws)

  pub sets-out : (l : List A) (i : ℕ) (vs : List A) → length l ≤ i → sets l i vs ≡ l
  sets-out l i [] h = refl
  sets-out l i (v ∷ vs) h = rw (set_out l i v) (sets-out l (suc i) vs (omega arith))

  -- one element more of those that are stored
  pub sets-next : (l : List A) (i : ℕ) (vs : List A) (k : ℕ) (d : A) → k < length vs → set (sets l i (take k vs)) (i + k) (get_or vs k d) ≡ sets l i (take (k + 1) vs)
  sets-next l i vs k d h =
      let e : length (take k vs) ≡ k = length-take-le k vs (omega arith) in
      sym (rw (add-one, take-suc vs k d h) (sets-append l i (take k vs) (get_or vs k d ∷ []) ∙ ap (λ (n : ℕ). set (sets l i (take k vs)) (i + n) (get_or vs k d)) e))

  -- what has no room is not stored
  pub sets-room : (l : List A) (i : ℕ) (vs : List A) (k : ℕ) → i ≤ length l → k ≡ min (length vs) (length l - i) → sets l i (take k vs) ≡ sets l i vs
  sets-room l i vs k h e = go (leb (length vs) k) refl
    where
      go : (t : Bool) → leb (length vs) k ≡ t → sets l i (take k vs) ≡ sets l i vs
      go true p = ap (sets l i) (take_all k vs (leb-true (length vs) k p))
      go false p =
          let q = leb-false (length vs) k p in
          let n : length (take k vs) ≡ k = length-take-le k vs (omega arith) in
          let m : length (sets l i (take k vs)) ≡ length l = length-sets l i (take k vs) in
          sym (ap (sets l i) (sym (take-append-drop k vs)) ∙ sets-append l i (take k vs) (drop k vs) ∙ sets-out (sets l i (take k vs)) (i + length (take k vs)) (drop k vs) (omega arith))
