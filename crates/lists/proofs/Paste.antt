-- Copies within a list, from the front and from the back. Assumes nothing.
use Rattle.lists.proofs.Prelude.{◌≡◌, refl, sym, ap, ◌∙◌, subst, List, [], ◌∷◌, ◌++◌, append_assoc, ℕ, zero, suc, ◌+◌, ◌-◌, ◌≤◌, ◌<◌, arith, not-suc-le-zero, le_of_suc-le-suc, le_antisymm, add-one, length, take, drop, get_or, set, take-append-drop, length-append, length-drop, length-set, get_or-append, paste, paste-zero, paste-suc, length_paste_head, length-take-le, drop-cons, drop-length, drop_at, take_at, get_or-append-add, get_or-drop, get_or-take}

-- ---- a copy from the front: t is d with the first i of s at `at`, and n are to come in all

pub record Pasting (d : List ℕ) (at : ℕ) (s : List ℕ) (n : ℕ) (t : List ℕ) (i : ℕ) : Type 0 where
  pub room : at + n ≤ length d
  pub long : n ≤ length s
  pub within : i ≤ n
  pub len : length t ≡ length d
  pub is : t ≡ paste d at s i

pub paste_none : (d : List ℕ) (at : ℕ) (s : List ℕ) (n : ℕ) → at + n ≤ length d → n ≤ length s → Pasting d at s n d 0
paste_none d at s n h k = record { room = h; long = k; within = omega arith; len = refl; is = paste-zero d at s }

pub paste_more : {d : List ℕ} {at : ℕ} {s : List ℕ} {n : ℕ} {t : List ℕ} {i : ℕ} → Pasting d at s n t i → i < n → {v : ℕ} → v ≡ get_or s i 0 → Pasting d at s n (set t (at + i) v) (i + 1)
paste_more {d} {at} {s} {n} {t} {i} p h {v} e =
    let r = p.room in
    let l = p.long in
    record {
      room = r;
      long = l;
      within = omega arith;
      len = length-set t (at + i) v ∙ p.len;
      is = rw (p.is, e, add-one) (paste-suc d at s i 0 (omega arith) (omega arith));
    }

pub paste-done : {d : List ℕ} {at : ℕ} {s : List ℕ} {n : ℕ} {t : List ℕ} {i : ℕ} → Pasting d at s n t i → n ≤ i → t ≡ paste d at s n
paste-done {d} {at} {s} {n} {t} {i} p h = p.is ∙ ap (paste d at s) (le_antisymm p.within h)

-- what stands past the copy is as it was
pub read-ahead : {d : List ℕ} {at : ℕ} {s : List ℕ} {n : ℕ} {t : List ℕ} {i : ℕ} → Pasting d at s n t i → (from : ℕ) → at ≤ from → get_or t (from + i) 0 ≡ get_or d (from + i) 0
read-ahead {d} {at} {s} {n} {t} {i} p from h =
    let r = p.room in
    let l = p.long in
    let w = p.within in
    let u : length (take at d ++ take i s) ≡ at + i = length_paste_head d at s i (omega arith) (omega arith) in
    let x : from + i ≡ length (take at d ++ take i s) + (from - at) = omega arith in
    let y : at + i + (from - at) ≡ from + i = omega arith in
    ap (λ (z : List ℕ). get_or z (from + i) 0) p.is
    ∙ ap (λ (k : ℕ). get_or (paste d at s i) k 0) x
    ∙ get_or-append-add (take at d ++ take i s) (drop (at + i) d) (from - at) 0
    ∙ get_or-drop (at + i) d (from - at) 0
    ∙ ap (λ (k : ℕ). get_or d k 0) y

pub left-value : {d : List ℕ} {at from n : ℕ} {t : List ℕ} {i : ℕ} → Pasting d at (drop from d) n t i → at ≤ from → get_or t (from + i) 0 ≡ get_or (drop from d) i 0
left-value {d} {at} {from} {n} {t} {i} p h = read-ahead p from h ∙ sym (get_or-drop from d i 0)

-- ---- a copy from the back: the elements from k on are there

pub record Backing (d : List ℕ) (from to n : ℕ) (t : List ℕ) (k : ℕ) : Type 0 where
  pub right : from ≤ to
  pub room : to + n ≤ length d
  pub within : k ≤ n
  pub len : length t ≡ length d
  pub is : t ≡ take (to + k) d ++ (drop k (take n (drop from d)) ++ drop (to + n) d)

source-length : (d : List ℕ) (from n : ℕ) → from + n ≤ length d → length (take n (drop from d)) ≡ n
source-length d from n h = length-take-le n (drop from d) (simp length-drop (omega arith))

pub back_none : (d : List ℕ) (from to n : ℕ) → from ≤ to → to + n ≤ length d → Backing d from to n d n
back_none d from to n h k =
    let z : drop n (take n (drop from d)) ≡ [] =
    subst (λ (m : ℕ). drop m (take n (drop from d)) ≡ []) (source-length d from n (omega arith)) (drop-length (take n (drop from d))) in
    record { right = h; room = k; within = omega arith; len = refl; is = rw z (sym (take-append-drop (to + n) d)) }

back-put : (d r : List ℕ) (j v : ℕ) → j < length d → set (take (suc j) d ++ r) j v ≡ take j d ++ (v ∷ r)
back-put [] r j v h = absurd (not-suc-le-zero h)
back-put (y ∷ d) r zero v h = refl
back-put (y ∷ d) r (suc j) v h = ap (λ (l : List ℕ). y ∷ l) (back-put d r j v (le_of_suc-le-suc h))

pub back_more : {d : List ℕ} {from to n : ℕ} {t : List ℕ} {k : ℕ} → Backing d from to n t k → 0 < k → Backing d from to n (set t (to + (k - 1)) (get_or t (from + (k - 1)) 0)) (k - 1)
back_more {d} {from} {to} {n} {t} {k} p h =
    let a = p.right in
    let r = p.room in
    let w = p.within in
    let s : List ℕ = take n (drop from d) in
    let rest : List ℕ = drop k (take n (drop from d)) ++ drop (to + n) d in
    let lt : length (take (to + k) d) ≡ to + k = length-take-le (to + k) d (omega arith) in
    let ls : length (take n (drop from d)) ≡ n = source-length d from n (omega arith) in
    let v : get_or t (from + (k - 1)) 0 ≡ get_or d (from + (k - 1)) 0 =
    ap (λ (z : List ℕ). get_or z (from + (k - 1)) 0) p.is
    ∙ get_or-append (take (to + k) d) rest 0 (from + (k - 1)) (omega arith)
    ∙ get_or-take (to + k) d (from + (k - 1)) 0 (omega arith) in
    let sv : get_or (take n (drop from d)) (k - 1) 0 ≡ get_or d (from + (k - 1)) 0 = get_or-take n (drop from d) (k - 1) 0 (omega arith) ∙ get_or-drop from d (k - 1) 0 in
    let ek : suc (k - 1) ≡ k = omega arith in
    let dc : drop (k - 1) (take n (drop from d)) ≡ get_or d (from + (k - 1)) 0 ∷ drop k (take n (drop from d)) =
    drop-cons (take n (drop from d)) (k - 1) 0 (omega arith)
    ∙ ap (λ (x : ℕ). x ∷ drop (suc (k - 1)) (take n (drop from d))) sv
    ∙ ap (λ (m : ℕ). get_or d (from + (k - 1)) 0 ∷ drop m (take n (drop from d))) ek in
    let e : to + k ≡ suc (to + (k - 1)) = omega arith in
    record {
      right = a;
      room = r;
      within = omega arith;
      len = length-set t (to + (k - 1)) (get_or t (from + (k - 1)) 0) ∙ p.len;
      is =
          ap (λ (x : ℕ). set t (to + (k - 1)) x) v
          ∙ ap (λ (z : List ℕ). set z (to + (k - 1)) (get_or d (from + (k - 1)) 0)) p.is
          ∙ ap (λ (m : ℕ). set (take m d ++ rest) (to + (k - 1)) (get_or d (from + (k - 1)) 0)) e
          ∙ back-put d rest (to + (k - 1)) (get_or d (from + (k - 1)) 0) (omega arith)
          ∙ sym (ap (λ (l : List ℕ). take (to + (k - 1)) d ++ (l ++ drop (to + n) d)) dc);
    }

pub back_done : {d : List ℕ} {from to n : ℕ} {t : List ℕ} {k : ℕ} → Backing d from to n t k → k ≤ 0 → t ≡ paste d to (drop from d) n
back_done {d} {from} {to} {n} {t} {k} p h =
    let e : k ≡ 0 = omega arith in
    let z : t ≡ take (to + 0) d ++ (take n (drop from d) ++ drop (to + n) d) = subst (λ (m : ℕ). t ≡ take (to + m) d ++ (drop m (take n (drop from d)) ++ drop (to + n) d)) e p.is in
    let w : to + 0 ≡ to = omega arith in
    z ∙ rw w (sym (append_assoc (take to d) (take n (drop from d)) (drop (to + n) d)))

-- a copy over a block
pub paste-block : (p q r s : List ℕ) (at n : ℕ) → length p ≡ at → length q ≡ n → paste (p ++ (q ++ r)) at s n ≡ p ++ (take n s ++ r)
paste-block p q r s at n hp hq =
    let l : length (p ++ q) ≡ at + n = simp length-append (omega arith) in
    let d : drop (at + n) (p ++ (q ++ r)) ≡ r = rw (← append_assoc p q r) (drop_at (p ++ q) r (at + n) l) in
    rw (take_at p (q ++ r) at hp, d) (append_assoc p (take n s) r)
