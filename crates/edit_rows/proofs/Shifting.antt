-- A stretch of rows shifted in place, row by row. Assumes nothing.
use Rattle.lists.proofs.Prelude.{ℕ, zero, suc, ◌+◌, ◌-◌, ◌*◌, ◌/◌, ◌%◌, ◌^◌, ◌≤◌, ◌<◌, List, [], ◌∷◌, ◌++◌, ◌≡◌, refl, sym, ap, ◌∙◌, subst, arith, length, take, drop, get_or, set, take-append-drop, lt-ltb, le-ltb}
use Rattle.lists.specs.Put.{put_at, PutIs}
use Rattle.lists.proofs.Put.{put-more}
use Rattle.tables.specs.Columns.{name_from_at, name_to_at, first_val_at, val_from_at, val_to_at}
use Rattle.tables.specs.Flat.{flat_props, flat_vals}
use Rattle.tables.specs.Each.{tabulate}
use Rattle.tables.proofs.Cases.{below_or}
use Rattle.store_numbers.proofs.Stores.{row_put}
use Rattle.edit_rows.specs.LocalsShift.{place_added, prop_added, val_added, names_before, names_shifted, row_moved}
use Rattle.edit_rows.proofs.Putting.{length-props-run, length-vals-run, props-next, vals-next, ahead, put-keep}

-- nothing put, wherever
nowhere : (t : List ℕ) (at : ℕ) → t ≡ put_at t at []
nowhere t at = let e : at + 0 ≡ at = omega arith in sym (ap (λ (m : ℕ). take at t ++ drop m t) e ∙ take-append-drop at t)

-- ---- properties

module _ (pr : List ℕ) (k left by : ℕ) where
  pub record NamesMoving (t : List ℕ) (i : ℕ) : Type 0 where
    pub room : left ≤ length pr / 4 - k
    pub len : length t ≡ length pr
    pub is : t ≡ names_shifted by k i pr

  pub names-none : left ≤ length pr / 4 - k → NamesMoving pr 0
  unfolding tabulate
  names-none h = record { room = h; len = refl; is = nowhere pr (k * 4) }

  module _ {t : List ℕ} {i : ℕ} (x : NamesMoving t i) (h : i < left) where
    names-put : PutIs pr (k * 4) (flat_props (tabulate (prop_added by pr) k i)) t
    names-put = record { len = x.len; put = λ _. x.is }

    pub name-cell : (c : ℕ) → get_or t ((k + i) * 4 + c) 0 ≡ get_or pr ((k + i) * 4 + c) 0
    name-cell c =
        let r = x.room in
        let l = length-props-run (prop_added by pr) k i in
        ahead names-put (omega arith) ((k + i) * 4 + c) (omega arith)

    pub name-from : get_or t ((k + i) * 4) 0 ≡ get_or pr ((k + i) * 4) 0
    name-from = let e : (k + i) * 4 + 0 ≡ (k + i) * 4 = omega arith in subst (λ (z : ℕ). get_or t z 0 ≡ get_or pr z 0) e (name-cell 0)

    pub names_more : {a b : ℕ} → a ≡ place_added by (name_from_at pr (k + i)) → b ≡ place_added by (name_to_at pr (k + i)) → NamesMoving (set (set t ((k + i) * 4) a) ((k + i) * 4 + 1) b) (i + 1)
    names_more {a} {b} ea eb =
        let r = x.room in
        let n = (k + i) * 4 in
        let tl = x.len in
        let l = length-props-run (prop_added by pr) k i in
        let l' = length-props-run (prop_added by pr) k (i + 1) in
        let p : PutIs t n (a ∷ b ∷ []) (set (set t n a) (n + 1) b) = (row_put t n a (b ∷ []) (omega arith)).is in
        let q : PutIs t n (a ∷ b ∷ get_or t (n + 2) 0 ∷ []) (set (set t n a) (n + 1) b) = put-keep p (omega arith) in
        let s : PutIs t n (a ∷ b ∷ get_or t (n + 2) 0 ∷ get_or t (n + 3) 0 ∷ []) (set (set t n a) (n + 1) b) = put-keep q (omega arith) in
        let u : PutIs t n (flat_props (prop_added by pr (k + i) ∷ [])) (set (set t n a) (n + 1) b) = rw (← name-cell 2, ← name-cell 3, ← ea, ← eb) s in
        let v = put-more names-put u (omega arith) in
        record {
          room = r;
          len = v.len;
          is = subst (λ (z : List ℕ). set (set t n a) (n + 1) b ≡ put_at pr (k * 4) z) (sym (props-next (prop_added by pr) k i)) (v.put (subst (λ (z : List ℕ). k * 4 + length z ≤ length pr) (props-next (prop_added by pr) k i) (omega arith)));
        }

    -- the row moved
    pub names_moved : {u : List ℕ} → u ≡ row_moved by ((k + i) * 4) t → NamesMoving u (i + 1)
    names_moved {u} e =
        subst (λ (z : List ℕ). NamesMoving z (i + 1)) (sym e) (names_more (ap (place_added by) name-from) (ap (place_added by) (name-cell 1)))

-- ---- how many

module _ (pr : List ℕ) (v : ℕ) where
  pub before-none : (p : ℕ) → names_before pr v p 0 ≡ 0
  unfolding names_before
  before-none p = refl

  pub before-stops : (p m : ℕ) → 0 < m → v < first_val_at pr p → names_before pr v p m ≡ 0
  unfolding names_before
  before-stops p zero l h = absurd (omega arith)
  before-stops p (suc m) l h = rw (lt-ltb v (first_val_at pr p) h)

  pub before-goes : (p m : ℕ) → 0 < m → first_val_at pr p ≤ v → names_before pr v p m ≡ suc (names_before pr v (suc p) (m - 1))
  unfolding names_before
  before-goes p zero l h = absurd (omega arith)
  before-goes p (suc m) l h = let e : suc m - 1 ≡ m = omega arith in rw (le-ltb v (first_val_at pr p) h, e)

  pub before-within : (p m : ℕ) → names_before pr v p m ≤ m
  unfolding names_before
  before-within p zero = omega arith
  before-within p (suc m) = below_or v (first_val_at pr p) (λ l. rw (lt-ltb v (first_val_at pr p) l) (omega arith)) (λ l. rw (le-ltb v (first_val_at pr p) l) (let h = before-within (suc p) m in omega arith))

  -- the values of those before begin at v or before it
  pub before-least : (p m j : ℕ) → j < names_before pr v p m → first_val_at pr (p + j) ≤ v
  before-least p zero j h = absurd (omega (arith, h, before-none p))
  before-least p (suc m) zero h =
      let e : p ≡ p + 0 = omega arith in
      below_or v (first_val_at pr p) (λ l. absurd (omega (arith, h, before-stops p (suc m) (omega arith) l))) (λ l. subst (λ (z : ℕ). first_val_at pr z ≤ v) e l)
  before-least p (suc m) (suc j) h =
      let e : suc p + j ≡ p + suc j = omega arith in
      let g : suc m - 1 ≡ m = omega arith in
      let u = ap (names_before pr v (suc p)) g in
      below_or v (first_val_at pr p) (λ l. absurd (omega (arith, h, before-stops p (suc m) (omega arith) l)))
      (λ l. subst (λ (z : ℕ). first_val_at pr z ≤ v) e (before-least (suc p) m j (omega (arith, h, u, before-goes p (suc m) (omega arith) l))))

  -- behind them stands one whose values stand behind v
  pub before-most : (p m : ℕ) → names_before pr v p m < m → v < first_val_at pr (p + names_before pr v p m)
  before-most p zero h = absurd (omega arith)
  before-most p (suc m) h =
      below_or v (first_val_at pr p)
      (λ l. let z = before-stops p (suc m) (omega arith) l in
      let e : p ≡ p + names_before pr v p (suc m) = omega (arith, z) in
      subst (λ (y : ℕ). v < first_val_at pr y) e l)
      (λ l. let z = before-goes p (suc m) (omega arith) l in
      let g : suc m - 1 ≡ m = omega arith in
      let u = ap (names_before pr v (suc p)) g in
      let e : suc p + names_before pr v (suc p) m ≡ p + names_before pr v p (suc m) = omega (arith, z, u) in
      subst (λ (y : ℕ). v < first_val_at pr y) e (before-most (suc p) m (omega (arith, h, z, u))))

  -- all of them
  pub before-all : (p m : ℕ) → ((j : ℕ) → p ≤ j → j < p + m → first_val_at pr j ≤ v) → names_before pr v p m ≡ m
  before-all p zero h = before-none p
  before-all p (suc m) h =
      let z = before-goes p (suc m) (omega arith) (h p (omega arith) (omega arith)) in
      let g : suc m - 1 ≡ m = omega arith in
      omega (arith, z, ap (names_before pr v (suc p)) g, before-all (suc p) m (λ j a b. h j (omega arith) (omega arith)))

-- a place with the change of so much up and down
pub added-change : (by up down place : ℕ) → (by + down) % 2 ^ 32 ≡ up % 2 ^ 32 → down ≤ place + up → place + up - down < 2 ^ 32 → place_added by place ≡ place + up - down
added-change by up down place h l b = omega arith

-- ---- values

module _ (vl : List ℕ) (k left by : ℕ) where
  pub record ValuesMoving (t : List ℕ) (i : ℕ) : Type 0 where
    pub room : left ≤ length vl / 2 - k
    pub len : length t ≡ length vl
    pub is : t ≡ put_at vl (k * 2) (flat_vals (tabulate (val_added by vl) k i))

  pub values-none : left ≤ length vl / 2 - k → ValuesMoving vl 0
  unfolding tabulate
  values-none h = record { room = h; len = refl; is = nowhere vl (k * 2) }

  module _ {t : List ℕ} {i : ℕ} (x : ValuesMoving t i) (h : i < left) where
    values-put : PutIs vl (k * 2) (flat_vals (tabulate (val_added by vl) k i)) t
    values-put = record { len = x.len; put = λ _. x.is }

    pub value_cell : (c : ℕ) → get_or t ((k + i) * 2 + c) 0 ≡ get_or vl ((k + i) * 2 + c) 0
    value_cell c =
        let r = x.room in
        let l = length-vals-run (val_added by vl) k i in
        ahead values-put (omega arith) ((k + i) * 2 + c) (omega arith)

    pub value-from : get_or t ((k + i) * 2) 0 ≡ get_or vl ((k + i) * 2) 0
    value-from = let e : (k + i) * 2 + 0 ≡ (k + i) * 2 = omega arith in subst (λ (z : ℕ). get_or t z 0 ≡ get_or vl z 0) e (value_cell 0)

    pub values-more : {a b : ℕ} → a ≡ place_added by (val_from_at vl (k + i)) → b ≡ place_added by (val_to_at vl (k + i)) → ValuesMoving (set (set t ((k + i) * 2) a) ((k + i) * 2 + 1) b) (i + 1)
    values-more {a} {b} ea eb =
        let r = x.room in
        let n = (k + i) * 2 in
        let tl = x.len in
        let l = length-vals-run (val_added by vl) k i in
        let l' = length-vals-run (val_added by vl) k (i + 1) in
        let p : PutIs t n (a ∷ b ∷ []) (set (set t n a) (n + 1) b) = (row_put t n a (b ∷ []) (omega arith)).is in
        let u : PutIs t n (flat_vals (val_added by vl (k + i) ∷ [])) (set (set t n a) (n + 1) b) = rw (← ea, ← eb) p in
        let v = put-more values-put u (omega arith) in
        record {
          room = r;
          len = v.len;
          is = subst (λ (z : List ℕ). set (set t n a) (n + 1) b ≡ put_at vl (k * 2) z) (sym (vals-next (val_added by vl) k i)) (v.put (subst (λ (z : List ℕ). k * 2 + length z ≤ length vl) (vals-next (val_added by vl) k i) (omega arith)));
        }

    -- the row moved
    pub values_moved : {u : List ℕ} → u ≡ row_moved by ((k + i) * 2) t → ValuesMoving u (i + 1)
    values_moved {u} e =
        subst (λ (z : List ℕ). ValuesMoving z (i + 1)) (sym e) (values-more (ap (place_added by) value-from) (ap (place_added by) (value_cell 1)))
