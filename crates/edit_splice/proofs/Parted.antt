-- A copy within a list made in two parts. Assumes nothing.
use Rattle.lists.proofs.Prelude.{◌≡◌, sym, ap, ap₂, ◌∙◌, subst, List, ◌++◌, append_assoc, ℕ, ◌+◌, ◌-◌, ◌≤◌, arith, length, take, drop, take-append-drop, length-drop, paste, length_paste_head, length-take-le, drop-drop, drop_at, take_at, take-add, take-take, take-append-le, drop-append-le}
use Rattle.lists.proofs.Places.{drop-take}

-- bytes copied to where they stand
pub copy-own : (b : List ℕ) (to from n : ℕ) → to ≡ from → b ≡ paste b to (drop from b) n
copy-own b to from n e =
    let s : List ℕ = drop to b in
    let rest : take n (drop to b) ++ drop (to + n) b ≡ drop to b = ap (λ (l : List ℕ). take n (drop to b) ++ l) (sym (drop-drop n to b)) ∙ take-append-drop n (drop to b) in
    sym (take-append-drop to b)
    ∙ ap (λ (l : List ℕ). take to b ++ l) (sym rest)
    ∙ sym (append_assoc (take to b) (take n (drop to b)) (drop (to + n) b))
    ∙ ap (λ (m : ℕ). paste b to (drop m b) n) e

module _ (b b1 b2 : List ℕ) (from to h m : ℕ) where
  -- the two parts of what is copied
  joins : take h (drop from b) ++ take m (drop (from + h) b) ≡ take (h + m) (drop from b)
  joins = ap (λ (l : List ℕ). take h (drop from b) ++ take m l) (sym (drop-drop h from b)) ∙ sym (take-add h m (drop from b))

  -- to the left, the first part first
  pub left-parted : to ≤ from → from + (h + m) ≤ length b → b1 ≡ paste b to (drop from b) h → b2 ≡ paste b1 (to + h) (drop (from + h) b1) m
      → b2 ≡ paste b to (drop from b) (h + m)
  left-parted l r e1 e2 =
      let w : h ≤ length (drop from b) = simp length-drop (omega arith) in
      let u : length (take to b ++ take h (drop from b)) ≡ to + h = length_paste_head b to (drop from b) h (omega arith) w in
      let head : take (to + h) b1 ≡ take to b ++ take h (drop from b) = ap (take (to + h)) e1 ∙ take_at (take to b ++ take h (drop from b)) (drop (to + h) b) (to + h) u in
      let tail : drop (to + h) b1 ≡ drop (to + h) b = ap (drop (to + h)) e1 ∙ drop_at (take to b ++ take h (drop from b)) (drop (to + h) b) (to + h) u in
      let kept : (j : ℕ) → drop (to + h + j) b1 ≡ drop (to + h + j) b = λ j. sym (drop-drop j (to + h) b1) ∙ ap (drop j) tail ∙ drop-drop j (to + h) b in
      let x : to + h + (from - to) ≡ from + h = omega arith in
      let source : drop (from + h) b1 ≡ drop (from + h) b = subst (λ (k : ℕ). drop k b1 ≡ drop k b) x (kept (from - to)) in
      let y : to + h + m ≡ to + (h + m) = omega arith in
      e2
      ∙ ap₂ (λ (p q : List ℕ). p ++ take m q ++ drop (to + h + m) b1) head source
      ∙ ap (λ (q : List ℕ). take to b ++ take h (drop from b) ++ take m (drop (from + h) b) ++ q) (kept m)
      ∙ ap (λ (p : List ℕ). p ++ drop (to + h + m) b) (append_assoc (take to b) (take h (drop from b)) (take m (drop (from + h) b)) ∙ ap (λ (q : List ℕ). take to b ++ q) joins)
      ∙ ap (λ (k : ℕ). take to b ++ take (h + m) (drop from b) ++ drop k b) y

  -- to the right, the second part first
  pub right-parted : from ≤ to → to + (h + m) ≤ length b → b1 ≡ paste b (to + h) (drop (from + h) b) m → b2 ≡ paste b1 to (drop from b1) h
      → b2 ≡ paste b to (drop from b) (h + m)
  right-parted l r e1 e2 =
      let x : List ℕ = take (to + h) b in
      let z : List ℕ = take m (drop (from + h) b) ++ drop (to + h + m) b in
      let lx : length (take (to + h) b) ≡ to + h = length-take-le (to + h) b (omega arith) in
      let f1 : b1 ≡ take (to + h) b ++ (take m (drop (from + h) b) ++ drop (to + h + m) b) = e1 ∙ append_assoc (take (to + h) b) (take m (drop (from + h) b)) (drop (to + h + m) b) in
      let head : take to b1 ≡ take to b = ap (take to) f1 ∙ take-append-le to x z (omega arith) ∙ take-take to (to + h) b (omega arith) in
      let v : from + (to - from + h) ≡ to + h = omega arith in
      let part : drop from (take (to + h) b) ≡ take (to - from + h) (drop from b) = ap (λ (k : ℕ). drop from (take k b)) (sym v) ∙ drop-take from (to - from + h) b (omega arith) in
      let lp : h ≤ length (drop from (take (to + h) b)) = simp length-drop (omega arith) in
      let source : take h (drop from b1) ≡ take h (drop from b) =
      ap (λ (q : List ℕ). take h (drop from q)) f1
      ∙ ap (take h) (drop-append-le from x z (omega arith))
      ∙ take-append-le h (drop from x) z lp
      ∙ ap (take h) part
      ∙ take-take h (to - from + h) (drop from b) (omega arith) in
      let tail : drop (to + h) b1 ≡ z = ap (drop (to + h)) f1 ∙ drop_at x z (to + h) lx in
      let y : to + h + m ≡ to + (h + m) = omega arith in
      let p : List ℕ = take h (drop from b) in
      let q : List ℕ = take m (drop (from + h) b) in
      e2
      ∙ ap₂ (λ (u w : List ℕ). u ++ w ++ drop (to + h) b1) head source
      ∙ ap (λ (w : List ℕ). take to b ++ p ++ w) tail
      ∙ sym (append_assoc (take to b ++ p) q (drop (to + h + m) b))
      ∙ ap (λ (w : List ℕ). w ++ drop (to + h + m) b) (append_assoc (take to b) p q ∙ ap (λ (w : List ℕ). take to b ++ w) joins)
      ∙ ap (λ (k : ℕ). take to b ++ take (h + m) (drop from b) ++ drop k b) y
