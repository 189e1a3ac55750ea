-- Rows put one behind the other. Assumes nothing.
use Rattle.lists.proofs.Prelude.{◌≡◌, refl, sym, ap, ◌∙◌, subst, Bool, true, false, leb, leb-true, leb-false, List, [], ◌++◌, append_assoc, ℕ, ◌+◌, ◌≤◌, arith, length, take, drop, take-append-drop, length-append, take_at, drop_at, drop-append-add, drop-drop, length-take-le}
use Rattle.lists.specs.Put.{put_at, PutIs, PutWhole}

put-behind : (r d vs : List ℕ) (n : ℕ) → length r ≡ n → put_at (r ++ drop n d) n vs ≡ (r ++ vs) ++ drop (n + length vs) d
put-behind r d vs n e =
    let q : drop (n + length vs) (r ++ drop n d) ≡ drop (n + length vs) d =
    subst (λ (m : ℕ). drop (m + length vs) (r ++ drop n d) ≡ drop (n + length vs) d) e
    (drop-append-add r (drop n d) (length vs) ∙ drop-drop (length vs) n d) in
    rw (take_at r (drop n d) n e, q) (sym (append_assoc r vs (drop (n + length vs) d)))

-- nothing put
pub put-none : (t : List ℕ) (at : ℕ) → PutIs t at [] t
put-none t at = record { len = refl; put = λ h. let e : at + 0 ≡ at = omega arith in sym (ap (λ (m : ℕ). take at t ++ drop m t) e ∙ take-append-drop at t) }

-- rows behind rows
pub put-more : {t t1 t2 xs ys : List ℕ} {at k : ℕ} → PutIs t at xs t1 → PutIs t1 k ys t2 → k ≡ at + length xs → PutIs t at (xs ++ ys) t2
put-more {t} {t1} {t2} {xs} {ys} {at} {k} p q e =
    let x : length (xs ++ ys) ≡ length xs + length ys = length-append xs ys in
    let l = p.len in
    record {
      len = q.len ∙ p.len;
      put = λ h.
          let y : length (take at t ++ xs) ≡ k = length-append (take at t) xs ∙ ap (λ (m : ℕ). m + length xs) (length-take-le at t (omega arith)) ∙ sym e in
          let z : t1 ≡ (take at t ++ xs) ++ drop k t = p.put (omega arith) ∙ sym (append_assoc (take at t) xs (drop (at + length xs) t)) ∙ ap (λ (m : ℕ). (take at t ++ xs) ++ drop m t) (sym e) in
          let w : k + length ys ≡ at + length (xs ++ ys) = omega arith in
          q.put (omega arith)
          ∙ ap (λ (v : List ℕ). put_at v k ys) z
          ∙ put-behind (take at t ++ xs) t ys k y
          ∙ ap (λ (m : ℕ). ((take at t ++ xs) ++ ys) ++ drop m t) w
          ∙ ap (λ (v : List ℕ). v ++ drop (at + length (xs ++ ys)) t) (append_assoc (take at t) xs ys)
          ∙ append_assoc (take at t) (xs ++ ys) (drop (at + length (xs ++ ys)) t);
    }

-- the last of the rows put anew
pub put_last : {t t1 t2 zs : List ℕ} (xs ys : List ℕ) {at k : ℕ} → PutIs t at (xs ++ ys) t1 → PutIs t1 k zs t2 → k ≡ at + length xs → length zs ≡ length ys → PutIs t at (xs ++ zs) t2
put_last {t} {t1} {t2} {zs} xs ys {at} {k} p q e l =
    let x : length (xs ++ ys) ≡ length xs + length ys = length-append xs ys in
    let x2 : length (xs ++ zs) ≡ length xs + length zs = length-append xs zs in
    let pl = p.len in
    record {
      len = q.len ∙ p.len;
      put = λ h.
          let y : length (take at t ++ xs) ≡ k = length-append (take at t) xs ∙ ap (λ (m : ℕ). m + length xs) (length-take-le at t (omega arith)) ∙ sym e in
          let z : t1 ≡ (take at t ++ xs) ++ (ys ++ drop (at + length (xs ++ ys)) t) =
          p.put (omega arith)
          ∙ ap (λ (v : List ℕ). take at t ++ v) (append_assoc xs ys (drop (at + length (xs ++ ys)) t))
          ∙ sym (append_assoc (take at t) xs (ys ++ drop (at + length (xs ++ ys)) t)) in
          let w : at + length (xs ++ ys) ≡ at + length (xs ++ zs) = omega arith in
          let dr : drop (k + length zs) ((take at t ++ xs) ++ (ys ++ drop (at + length (xs ++ ys)) t)) ≡ drop (at + length (xs ++ ys)) t =
          subst (λ (m : ℕ). drop (m + length zs) ((take at t ++ xs) ++ (ys ++ drop (at + length (xs ++ ys)) t)) ≡ drop (at + length (xs ++ ys)) t) y
          (drop-append-add (take at t ++ xs) (ys ++ drop (at + length (xs ++ ys)) t) (length zs)
          ∙ drop_at ys (drop (at + length (xs ++ ys)) t) (length zs) (sym l)) in
          q.put (omega arith)
          ∙ ap (λ (v : List ℕ). put_at v k zs) z
          ∙ ap (λ (v : List ℕ). v ++ (zs ++ drop (k + length zs) ((take at t ++ xs) ++ (ys ++ drop (at + length (xs ++ ys)) t)))) (take_at (take at t ++ xs) (ys ++ drop (at + length (xs ++ ys)) t) k y)
          ∙ ap (λ (v : List ℕ). (take at t ++ xs) ++ (zs ++ v)) dr
          ∙ append_assoc (take at t) xs (zs ++ drop (at + length (xs ++ ys)) t)
          ∙ ap (λ (v : List ℕ). take at t ++ v) (sym (append_assoc xs zs (drop (at + length (xs ++ ys)) t)))
          ∙ ap (λ (m : ℕ). take at t ++ ((xs ++ zs) ++ drop m t)) w;
    }

-- all rows, from the first on
pub put_all : {t t' rs : List ℕ} → PutIs t 0 rs t' → length rs ≤ length t → t' ≡ rs ++ drop (length rs) t
put_all {t} {t'} {rs} p h = let e : 0 + length rs ≡ length rs = omega arith in p.put (omega arith) ∙ ap (λ (m : ℕ). rs ++ drop m t) e

-- what is stored leaves no second list
pub put-whole-once : {t vs : List ℕ} {at : ℕ} (x y : List ℕ) → PutWhole t at vs x → PutWhole t at vs y → x ≡ y
put-whole-once {t} {vs} {at} x y p q = go (leb (at + length vs) (length t)) refl
  where
    go : (b : Bool) → leb (at + length vs) (length t) ≡ b → x ≡ y
    go true e = let h = leb-true (at + length vs) (length t) e in p.is.put h ∙ sym (q.is.put h)
    go false e = let h = leb-false (at + length vs) (length t) e in p.stays h ∙ sym (q.stays h)
