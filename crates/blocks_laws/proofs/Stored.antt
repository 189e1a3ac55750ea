-- Rows in lent numbers: those that fit stand in front, however many there are. Assumes nothing.
use Rattle.lists.proofs.Prelude.{◌≡◌, refl, sym, ap, ap₂, ◌∙◌, subst, ℕ, zero, suc, ◌+◌, ◌-◌, ◌*◌, ◌/◌, ◌≤◌, ◌<◌, arith, List, [], ◌∷◌, ◌++◌, append_assoc, append-nil, leb, leb-true, leb-false, lt-ltb, length, take, drop, length-append, length-take-le, take-append-le, take_all, take_at, take-take, drop-append-add, drop-drop, length-drop}
use Rattle.lists.proofs.Tests.{same_or}
use Rattle.lists.proofs.Pick.{pick-elim}
use Rattle.lists.specs.Put.{put_at}
use Rattle.tables.specs.Numbers.{text_limit}
use Rattle.blocks.specs.Room.{Filled, counted_on, add_row, add_rows}
use Rattle.blocks_laws.specs.Reading.{flat_rows}

-- the first k of the rows stand in front, for every k for which there is room
abbrev pub Stored : List (List ℕ) → List ℕ → Type 0
Stored rs t = (k : ℕ) → k ≤ length rs → k * 3 ≤ length t → take (k * 3) t ≡ flat_rows (take k rs)

-- as long as before, and the same past the last whole row
pub record Lent (t t' : List ℕ) : Type 0 where
  pub len : length t' ≡ length t
  pub rest : drop (length t / 3 * 3) t' ≡ drop (length t / 3 * 3) t

pub lent_same : (t : List ℕ) → Lent t t
lent_same t = record { len = refl; rest = refl }

pub stored-none : (t : List ℕ) → Stored [] t
stored-none t zero h l = refl
stored-none t (suc k) h l = absurd (omega (arith, h))

-- fewer rows
pub stored-less : (xs ys : List (List ℕ)) (t : List ℕ) → Stored (xs ++ ys) t → Stored xs t
stored-less xs ys t h k l m =
    h k (omega (arith, l, length-append xs ys)) m ∙ ap flat_rows (take-append-le k xs ys l)

pub flat_append : (xs ys : List (List ℕ)) → flat_rows (xs ++ ys) ≡ flat_rows xs ++ flat_rows ys
flat_append [] ys = refl
flat_append (x ∷ xs) ys = ap (λ (z : List ℕ). x ++ z) (flat_append xs ys) ∙ sym (append_assoc x (flat_rows xs) (flat_rows ys))

-- ---- a row put where there is room

module _ (t : List ℕ) (n : ℕ) (r : List ℕ) (e : length r ≡ 3) (h : n * 3 + 3 ≤ length t) where
  abbrev cells : List ℕ
  cells = put_at t (n * 3) r

  pub put-length : length cells ≡ length t
  put-length =
      length-append (take (n * 3) t) (r ++ drop (n * 3 + length r) t)
      ∙ omega (arith, length-take-le (n * 3) t (omega arith), length-append r (drop (n * 3 + length r) t), length-drop (n * 3 + length r) t, e)

  put_front : (m : ℕ) → m ≤ n * 3 → take m cells ≡ take m t
  put_front m l =
      let a : length (take (n * 3) t) ≡ n * 3 = length-take-le (n * 3) t (omega arith) in
      take-append-le m (take (n * 3) t) (r ++ drop (n * 3 + length r) t) (omega (arith, a)) ∙ take-take m (n * 3) t l

  put-through : take (n * 3 + 3) cells ≡ take (n * 3) t ++ r
  put-through =
      let a : length (take (n * 3) t) ≡ n * 3 = length-take-le (n * 3) t (omega arith) in
      let b : length (take (n * 3) t ++ r) ≡ n * 3 + 3 = length-append (take (n * 3) t) r ∙ omega (arith, a, e) in
      ap (take (n * 3 + 3)) (sym (append_assoc (take (n * 3) t) r (drop (n * 3 + length r) t))) ∙ take_at (take (n * 3) t ++ r) (drop (n * 3 + length r) t) (n * 3 + 3) b

  pub put-behind : (m : ℕ) → n * 3 + 3 ≤ m → drop m cells ≡ drop m t
  put-behind m l =
      let a : length (take (n * 3) t) ≡ n * 3 = length-take-le (n * 3) t (omega arith) in
      let b : length (take (n * 3) t ++ r) ≡ n * 3 + 3 = length-append (take (n * 3) t) r ∙ omega (arith, a, e) in
      let x : m ≡ length (take (n * 3) t ++ r) + (m - (n * 3 + 3)) = omega (arith, b) in
      let y : n * 3 + length r + (m - (n * 3 + 3)) ≡ m = omega (arith, e) in
      ap₂ drop x (sym (append_assoc (take (n * 3) t) r (drop (n * 3 + length r) t)))
      ∙ drop-append-add (take (n * 3) t ++ r) (drop (n * 3 + length r) t) (m - (n * 3 + 3))
      ∙ drop-drop (m - (n * 3 + 3)) (n * 3 + length r) t
      ∙ ap (λ (z : ℕ). drop z t) y

-- ---- rows added

-- the first k of rows, where one more stands behind them
take_less : (rs : List (List ℕ)) (r : List ℕ) (k : ℕ) → k ≤ length rs → flat_rows (take k rs) ≡ flat_rows (take k (rs ++ (r ∷ [])))
take_less rs r k h = ap flat_rows (sym (take-append-le k rs (r ∷ []) h))

module _ (f : Filled) (r : List ℕ) (e : length r ≡ 3) where
  pub add-count : f.count < text_limit → (add_row f r).count ≡ suc f.count
  unfolding add_row counted_on
  add-count h = rw (lt-ltb f.count text_limit h)

  pub add-lent : Lent f.cells (add_row f r).cells
  unfolding add_row
  add-lent =
      pick-elim (λ (z : List ℕ). Lent f.cells z) (leb (f.count * 3 + 3) (length f.cells))
      (λ h. let l = leb-true (f.count * 3 + 3) (length f.cells) h in
      record { len = put-length f.cells f.count r e l; rest = put-behind f.cells f.count r e l (length f.cells / 3 * 3) (omega (arith, l)) })
      (λ h. lent_same f.cells)

  pub add-stored : (rs : List (List ℕ)) → length rs ≡ f.count → Stored rs f.cells → Stored (rs ++ (r ∷ [])) (add_row f r).cells
  unfolding add_row
  add-stored rs q s =
      pick-elim (λ (z : List ℕ). Stored (rs ++ (r ∷ [])) z) (leb (f.count * 3 + 3) (length f.cells))
      (λ h k i m.
      let l = leb-true (f.count * 3 + 3) (length f.cells) h in
      let x : length (rs ++ (r ∷ [])) ≡ length rs + 1 = length-append rs (r ∷ []) in
      same_or k (suc f.count)
      (λ d.
      let y : k * 3 ≡ f.count * 3 + 3 = omega (arith, d) in
      let z : take (f.count * 3) f.cells ≡ flat_rows rs = s f.count (omega (arith, q)) (omega (arith, l)) ∙ ap (λ (w : List (List ℕ)). flat_rows w) (take_all f.count rs (omega (arith, q))) in
      ap (λ (w : ℕ). take w (put_at f.cells (f.count * 3) r)) y
      ∙ put-through f.cells f.count r e l
      ∙ ap (λ (w : List ℕ). w ++ r) z
      ∙ ap (λ (w : List ℕ). flat_rows rs ++ w) (sym (append-nil r))
      ∙ sym (flat_append rs (r ∷ []))
      ∙ ap flat_rows (sym (take_all k (rs ++ (r ∷ [])) (omega (arith, x, d, q)))))
      (λ d.
      put_front f.cells f.count r e l (k * 3) (omega (arith, d, x, q, i))
      ∙ s k (omega (arith, d, x, q, i)) (omega (arith, d, x, q, i, l))
      ∙ take_less rs r k (omega (arith, d, x, q, i))))
      (λ h k i m.
      let l = leb-false (f.count * 3 + 3) (length f.cells) h in
      let x : length (rs ++ (r ∷ [])) ≡ length rs + 1 = length-append rs (r ∷ []) in
      s k (omega (arith, x, q, i, m, l)) m ∙ take_less rs r k (omega (arith, x, q, i, m, l)))

-- rows of three numbers
abbrev pub Threes : List (List ℕ) → Type 0
Threes [] = Unit {0}
Threes (r ∷ rs) = (length r ≡ 3) × Threes rs

-- what rows added leave
pub record Added (rs ms : List (List ℕ)) (f g : Filled) : Type 0 where
  pub count : g.count ≡ f.count + length ms
  pub lent : Lent f.cells g.cells
  pub stored : Stored (rs ++ ms) g.cells

pub lent_both : (t t1 t2 : List ℕ) → Lent t t1 → Lent t1 t2 → Lent t t2
lent_both t t1 t2 p q =
    record {
      len = q.len ∙ p.len;
      rest = subst (λ (n : ℕ). drop (n / 3 * 3) t2 ≡ drop (n / 3 * 3) t1) p.len q.rest ∙ p.rest;
    }

pub added : (ms rs : List (List ℕ)) (f : Filled) → Threes ms → length rs ≡ f.count → f.count + length ms ≤ text_limit → Stored rs f.cells → Added rs ms f (add_rows f ms)
added [] rs f h q l s = record { count = omega arith; lent = lent_same f.cells; stored = subst (λ (z : List (List ℕ)). Stored z f.cells) (sym (append-nil rs)) s }
added (r ∷ ms) rs f h q l s =
    let c = add-count f r h.0 (omega (arith, l)) in
    let n : length (rs ++ (r ∷ [])) ≡ (add_row f r).count = length-append rs (r ∷ []) ∙ omega (arith, q, c) in
    let a = added ms (rs ++ (r ∷ [])) (add_row f r) h.1 n (omega (arith, c, l)) (add-stored f r h.0 rs q s) in
    record {
      count = a.count ∙ omega (arith, c);
      lent = lent_both f.cells (add_row f r).cells (add_rows (add_row f r) ms).cells (add-lent f r h.0) a.lent;
      stored = subst (λ (z : List (List ℕ)). Stored z (add_rows (add_row f r) ms).cells) (append_assoc rs (r ∷ []) ms) a.stored;
    }
