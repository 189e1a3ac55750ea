-- A buffer whose first bytes are a text, with zeros up to a length that was used: one text after another put into it. Assumes nothing.
use Rattle.lists.proofs.Prelude.{ℕ, zero, suc, ◌+◌, ◌-◌, ◌≤◌, ◌<◌, ◌≡◌, sym, ap, ap₂, ◌∙◌, arith, List, ◌∷◌, ◌++◌, append_assoc, append-nil, length, take, drop, replicate, length-append, length-replicate, length-take-le, take-append-drop, drop_at, drop-append-add, drop-append-le, drop-drop, leb, leb-true, leb-false}
use Rattle.tables.proofs.Cases.{either-bool}
use Rattle.tables.specs.Flat.{over}
use Rattle.edit_splice.specs.Splice.{cleared}

abbrev zeros : ℕ → List ℕ
zeros n = replicate n 0

zeros-more : (i n : ℕ) → zeros (i + n) ≡ zeros i ++ zeros n
zeros-more zero n = let z : 0 + n ≡ n = omega arith in ap zeros z
zeros-more (suc i) n = let z : suc i + n ≡ suc (i + n) = omega arith in ap zeros z ∙ ap (λ (x : List ℕ). 0 ∷ x) (zeros-more i n)

drop-zeros : (i n : ℕ) → i ≤ n → drop i (zeros n) ≡ zeros (n - i)
drop-zeros i n h =
    let z : n ≡ i + (n - i) = omega arith in
    let w : length (zeros i) + 0 ≡ i = omega (arith, length-replicate {A = ℕ} i 0) in
    ap (λ (x : ℕ). drop i (zeros x)) z
    ∙ ap (drop i) (zeros-more i (n - i))
    ∙ ap (λ (x : ℕ). drop x (zeros i ++ zeros (n - i))) (sym w)
    ∙ drop-append-add (zeros i) (zeros (n - i)) 0

module _ (x b : List ℕ) (used : ℕ) where
  abbrev L : ℕ
  L = length x

  length-cleared : length (cleared x used) ≡ L + (used - L)
  length-cleared = length-append x (zeros (used - L)) ∙ ap (λ (z : ℕ). L + z) (length-replicate {A = ℕ} (used - L) 0)

  over-is : over (cleared x used) b ≡ x ++ (zeros (used - L) ++ drop (L + (used - L)) b)
  over-is = append_assoc x (zeros (used - L)) (drop (length (cleared x used)) b) ∙ ap (λ (z : ℕ). x ++ (zeros (used - L) ++ drop z b)) length-cleared

  -- from a place behind the text on
  rest : (p : ℕ) → L ≤ p → drop p (over (cleared x used) b) ≡ zeros (used - p) ++ drop (p + (used - p)) b
  rest p h = go (p - L) (omega arith)
    where
      low : (i : ℕ) → p ≡ L + i → i ≤ used - L → drop i (zeros (used - L) ++ drop (L + (used - L)) b) ≡ zeros (used - p) ++ drop (p + (used - p)) b
      low i e k =
          let u : used - L - i ≡ used - p = omega arith in
          let v : L + (used - L) ≡ p + (used - p) = omega arith in
          drop-append-le i (zeros (used - L)) (drop (L + (used - L)) b) (omega (arith, length-replicate {A = ℕ} (used - L) 0))
          ∙ ap (λ (z : List ℕ). z ++ drop (L + (used - L)) b) (drop-zeros i (used - L) k)
          ∙ ap₂ (λ (y z : ℕ). zeros y ++ drop z b) u v

      high : (i : ℕ) → p ≡ L + i → used - L < i → drop i (zeros (used - L) ++ drop (L + (used - L)) b) ≡ zeros (used - p) ++ drop (p + (used - p)) b
      high i e k =
          let u : i ≡ length (zeros (used - L)) + (i - (used - L)) = omega (arith, length-replicate {A = ℕ} (used - L) 0) in
          let v : L + (used - L) + (i - (used - L)) ≡ p + (used - p) = omega arith in
          let n : used - p ≡ 0 = omega arith in
          ap (λ (z : ℕ). drop z (zeros (used - L) ++ drop (L + (used - L)) b)) u
          ∙ drop-append-add (zeros (used - L)) (drop (L + (used - L)) b) (i - (used - L))
          ∙ drop-drop (i - (used - L)) (L + (used - L)) b
          ∙ ap (λ (z : ℕ). drop z b) v
          ∙ ap (λ (y : ℕ). zeros y ++ drop (p + (used - p)) b) (sym n)

      go : (i : ℕ) → p ≡ L + i → drop p (over (cleared x used) b) ≡ zeros (used - p) ++ drop (p + (used - p)) b
      go i e =
          ap (drop p) over-is
          ∙ ap (λ (z : ℕ). drop z (x ++ (zeros (used - L) ++ drop (L + (used - L)) b))) e
          ∙ drop-append-add x (zeros (used - L) ++ drop (L + (used - L)) b) i
          ∙ either-bool (leb i (used - L)) (λ z. low i e (leb-true i (used - L) z)) (λ z. high i e (leb-false i (used - L) z))

-- a buffer with its own text put over it
pub own-over : (t : List ℕ) (used : ℕ) → used ≤ length t → over (cleared (take used t) used) t ≡ t
own-over t used h =
    let l = length-take-le used t h in
    let z : used - length (take used t) ≡ 0 = omega (arith, l) in
    let c : cleared (take used t) used ≡ take used t = ap (λ (i : ℕ). take used t ++ zeros i) z ∙ append-nil (take used t) in
    ap (λ (x : List ℕ). over x t) c ∙ ap (λ (i : ℕ). take used t ++ drop i t) l ∙ take-append-drop used t

-- numbers put over as many
pub over-again : (xs ys t : List ℕ) → length xs ≡ length ys → over xs (over ys t) ≡ over xs t
over-again xs ys t e = ap (λ (z : List ℕ). xs ++ z) (drop_at ys (drop (length ys) t) (length xs) (sym e) ∙ ap (λ (i : ℕ). drop i t) (sym e))

-- another text put over the one that stands there, whose freed bytes become zeros up to the length of that one
pub cleared-again : (x y b : List ℕ) (used : ℕ) → length x ≤ length y + (used - length y) → over (cleared y (length x)) (over (cleared x used) b) ≡ over (cleared y used) b
cleared-again x y b used h =
    let P : ℕ = length y + (length x - length y) in
    let r : List ℕ = drop (P + (used - P)) b in
    let u : length x - length y + (used - P) ≡ used - length y = omega arith in
    let v : P + (used - P) ≡ length y + (used - length y) = omega arith in
    over-is y (over (cleared x used) b) (length x)
    ∙ ap (λ (z : List ℕ). y ++ (zeros (length x - length y) ++ z)) (rest x b used P (omega arith))
    ∙ ap (λ (z : List ℕ). y ++ z) (sym (append_assoc (zeros (length x - length y)) (zeros (used - P)) r) ∙ ap (λ (z : List ℕ). z ++ r) (sym (zeros-more (length x - length y) (used - P))))
    ∙ ap₂ (λ (i j : ℕ). y ++ (zeros i ++ drop j b)) u v
    ∙ sym (over-is y b used)
