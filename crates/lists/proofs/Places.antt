-- A list at a place: its first element from there on, and a part that grows by one. Assumes nothing.
use Rattle.lists.proofs.Prelude.{ℕ, suc, ◌+◌, ◌≤◌, ◌<◌, Bool, true, false, ◌≡◌, refl, ap, sym, ◌∙◌, List, [], ◌∷◌, ◌++◌, head-eq_of_cons-eq, tail-eq_of_cons-eq, arith, add-one, length, take, drop, get_or, length-drop, take-append-drop, drop_of_length-le, ltb, take-add, drop_at, slice, take-suc, drop-cons, drop-append-le, length-take-le, ltb-true, ltb-false}

-- the code's `i + 1`, where the library has `suc i`
pub drop-next : (s : List ℕ) (i : ℕ) → i < length s → drop i s ≡ get_or s i 0 ∷ drop (i + 1) s
drop-next s i h = rw (drop-cons s i 0, add-one)

-- what stands at o, where the list from o on is known
pub at_place : (o : ℕ) (t : List ℕ) (b : ℕ) (bs : List ℕ) → drop o t ≡ b ∷ bs → (o < length t) × (get_or t o 0 ≡ b) × (drop (suc o) t ≡ bs)
at_place o t b bs h =
    let l : o < length t = omega (arith, length-drop o t, ap length h) in
    let c : get_or t o 0 ∷ drop (suc o) t ≡ b ∷ bs = sym (drop-cons t o 0 l) ∙ h in
    (l, head-eq_of_cons-eq c, tail-eq_of_cons-eq c)

pub slice_snoc : (a o : ℕ) (t : List ℕ) (b : ℕ) (bs : List ℕ) → a ≤ o → drop o t ≡ b ∷ bs → slice a (suc o) t ≡ slice a o t ++ (b ∷ [])
slice_snoc a o t b bs l h =
    let p = at_place o t b bs h in
    ap (drop a) (take-suc t o 0 p.0)
    ∙ drop-append-le a (take o t) (get_or t o 0 ∷ []) (omega (arith, p.0, length-take-le o t (omega (arith, p.0))))
    ∙ ap (λ (z : ℕ). slice a o t ++ (z ∷ [])) p.1

-- what stands from f to l is what the list from f on begins with
pub part-begins : (f l : ℕ) (t : List ℕ) → (xs : List ℕ) × (drop f t ≡ drop f (take l t) ++ xs)
part-begins f l t = go (ltb (length (take l t)) f) refl
  where
    go : (b : Bool) → ltb (length (take l t)) f ≡ b → (xs : List ℕ) × (drop f t ≡ drop f (take l t) ++ xs)
    go true e =
        let h : length (take l t) ≤ f = omega (arith, ltb-true (length (take l t)) f e) in
        (drop f t, ap (λ (z : List ℕ). z ++ drop f t) (sym (drop_of_length-le (take l t) h)))
    go false e =
        (drop l t, ap (drop f) (sym (take-append-drop l t)) ∙ drop-append-le f (take l t) (drop l t) (omega (arith, ltb-false (length (take l t)) f e)))

pub drop-take : {A : Type 0} (n m : ℕ) (l : List A) → n ≤ length l → drop n (take (n + m) l) ≡ take m (drop n l)
drop-take n m l h = rw (take-add n m l) (drop_at (take n l) (take m (drop n l)) n (length-take-le n l h))
