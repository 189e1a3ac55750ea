-- Rows put one after another, in place. Assumes nothing.
use Rattle.lists.proofs.Prelude.{ℕ, zero, suc, ◌+◌, ◌-◌, ◌*◌, ◌≤◌, ◌<◌, List, [], ◌∷◌, ◌++◌, append_assoc, ◌≡◌, refl, sym, ap, ap₂, ◌∙◌, arith, length, take, drop, get_or, length-append, length-drop, length-take-le, drop-cons, get_or-append-add, get_or-drop}
use Rattle.lists.specs.Put.{put_at, PutIs}
use Rattle.tables.specs.Flat.{flat_props, flat_vals}
use Rattle.tables.specs.Rows.{PropRow, ValRow}
use Rattle.tables.specs.Each.{tabulate}
use Rattle.tables.proofs.Tabulate.{tabulate-length}

-- ---- a run of rows

pub tabulate-ext : {A : Type 0} (f g : ℕ → A) (k m : ℕ) → ((j : ℕ) → k ≤ j → j < k + m → f j ≡ g j) → tabulate f k m ≡ tabulate g k m
unfolding tabulate
tabulate-ext f g k zero h = refl
tabulate-ext {A} f g k (suc m) h = ap₂ (λ (x : A) (y : List A). x ∷ y) (h k (omega arith) (omega arith)) (tabulate-ext f g (suc k) m (λ j a b. h j (omega arith) (omega arith)))

pub tabulate-join : {A : Type 0} (f : ℕ → A) (k m n : ℕ) → tabulate f k (m + n) ≡ tabulate f k m ++ tabulate f (k + m) n
unfolding tabulate
tabulate-join f k zero n = let e : k + 0 ≡ k = omega arith in let z : 0 + n ≡ n = omega arith in rw (e, z)
tabulate-join {A} f k (suc m) n =
    let e : suc m + n ≡ suc (m + n) = omega arith in
    let z : suc k + m ≡ k + suc m = omega arith in
    ap (tabulate f k) e ∙ ap (λ (x : List A). f k ∷ x) (tabulate-join f (suc k) m n ∙ ap (λ (x : ℕ). tabulate f (suc k) m ++ tabulate f x n) z)

pub append-props : (xs ys : List PropRow) → flat_props (xs ++ ys) ≡ flat_props xs ++ flat_props ys
append-props [] ys = refl
append-props (x ∷ xs) ys = rw (append-props xs ys)

pub append-vals : (xs ys : List ValRow) → flat_vals (xs ++ ys) ≡ flat_vals xs ++ flat_vals ys
append-vals [] ys = refl
append-vals (x ∷ xs) ys = rw (append-vals xs ys)

pub length-props : (rs : List PropRow) → length (flat_props rs) ≡ length rs * 4
length-props [] = refl
length-props (r ∷ rs) = let h = length-props rs in omega arith

pub length-vals : (rs : List ValRow) → length (flat_vals rs) ≡ length rs * 2
length-vals [] = refl
length-vals (r ∷ rs) = let h = length-vals rs in omega arith

module _ (f : ℕ → PropRow) where
  pub length-props-run : (k m : ℕ) → length (flat_props (tabulate f k m)) ≡ m * 4
  length-props-run k m = length-props (tabulate f k m) ∙ ap (λ (z : ℕ). z * 4) (tabulate-length f k m)

  pub props-join : (k m n : ℕ) → flat_props (tabulate f k (m + n)) ≡ flat_props (tabulate f k m) ++ flat_props (tabulate f (k + m) n)
  props-join k m n = ap flat_props (tabulate-join f k m n) ∙ append-props (tabulate f k m) (tabulate f (k + m) n)

  pub props-next : (k m : ℕ) → flat_props (tabulate f k (m + 1)) ≡ flat_props (tabulate f k m) ++ flat_props (f (k + m) ∷ [])
  unfolding tabulate
  props-next k m = props-join k m 1

module _ (f : ℕ → ValRow) where
  pub length-vals-run : (k m : ℕ) → length (flat_vals (tabulate f k m)) ≡ m * 2
  length-vals-run k m = length-vals (tabulate f k m) ∙ ap (λ (z : ℕ). z * 2) (tabulate-length f k m)

  pub vals-join : (k m n : ℕ) → flat_vals (tabulate f k (m + n)) ≡ flat_vals (tabulate f k m) ++ flat_vals (tabulate f (k + m) n)
  vals-join k m n = ap flat_vals (tabulate-join f k m n) ∙ append-vals (tabulate f k m) (tabulate f (k + m) n)

  pub vals-next : (k m : ℕ) → flat_vals (tabulate f k (m + 1)) ≡ flat_vals (tabulate f k m) ++ flat_vals (f (k + m) ∷ [])
  unfolding tabulate
  vals-next k m = vals-join k m 1

-- ---- what stands behind what is put is as it was

pub ahead : {d rs t : List ℕ} {at : ℕ} → PutIs d at rs t → at + length rs ≤ length d → (i : ℕ) → at + length rs ≤ i → get_or t i 0 ≡ get_or d i 0
ahead {d} {rs} {t} {at} p h i l =
    let b : length (take at d ++ rs) ≡ at + length rs = length-append (take at d) rs ∙ ap (λ (z : ℕ). z + length rs) (length-take-le at d (omega arith)) in
    let e : i ≡ length (take at d ++ rs) + (i - (at + length rs)) = omega arith in
    let g : at + length rs + (i - (at + length rs)) ≡ i = omega arith in
    ap (λ (z : List ℕ). get_or z i 0) (p.put h ∙ sym (append_assoc (take at d) rs (drop (at + length rs) d)))
    ∙ ap (λ (z : ℕ). get_or ((take at d ++ rs) ++ drop (at + length rs) d) z 0) e
    ∙ get_or-append-add (take at d ++ rs) (drop (at + length rs) d) (i - (at + length rs)) 0
    ∙ get_or-drop (at + length rs) d (i - (at + length rs)) 0
    ∙ ap (λ (z : ℕ). get_or d z 0) g

-- a number that stays may be called put
pub put-keep : {d xs t : List ℕ} {at : ℕ} → PutIs d at xs t → at + length xs < length d → PutIs d at (xs ++ (get_or d (at + length xs) 0 ∷ [])) t
put-keep {d} {xs} {t} {at} p h =
    let x : ℕ = get_or d (at + length xs) 0 in
    let l : length (xs ++ (x ∷ [])) ≡ length xs + 1 = length-append xs (x ∷ []) in
    let e : suc (at + length xs) ≡ at + length (xs ++ (x ∷ [])) = omega arith in
    record {
      len = p.len;
      put = λ _.
          p.put (omega arith)
          ∙ ap (λ (z : List ℕ). take at d ++ (xs ++ z)) (drop-cons d (at + length xs) 0 h)
          ∙ ap (λ (z : ℕ). take at d ++ (xs ++ (x ∷ drop z d))) e
          ∙ ap (λ (z : List ℕ). take at d ++ z) (sym (append_assoc xs (x ∷ []) (drop (at + length (xs ++ (x ∷ []))) d)));
    }

-- what is equal to a list with something put, where there is room
pub put_is : {t vs t' : List ℕ} {at : ℕ} → at + length vs ≤ length t → t' ≡ put_at t at vs → PutIs t at vs t'
put_is {t} {vs} {t'} {at} h e =
    record {
      len =
          ap length e
          ∙ length-append (take at t) (vs ++ drop (at + length vs) t)
          ∙ ap₂ ◌+◌ (length-take-le at t (omega arith)) (length-append vs (drop (at + length vs) t) ∙ ap (λ (z : ℕ). length vs + z) (length-drop (at + length vs) t))
          ∙ omega arith;
      put = λ _. e;
    }
