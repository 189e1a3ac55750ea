-- What the small steps of the code give, and what the arrays hold. Assumes nothing.
use Rattle.lists.proofs.Prelude.{◌≡◌, refl, sym, ap, ap₂, ◌∙◌, ℕ, zero, suc, ◌+◌, ◌-◌, ◌*◌, ◌≤◌, ◌<◌, max, arith, add-one, Bool, true, false, List, ◌∷◌, length, set, length-set, get_or, get_or-set_same, get_or-set_other, pick}
use Rattle.salvage_shape.specs.LocalsShape.{high_with}
use Rattle.salvage_shape.specs.LocalsChain.{sum_in, height_in, chain_height, no_chain, longer, joined_to, count_up, ended_by, brackets_more, cell_at, chain_put, chain_kept, cells_of, fresh_of, close_all}
use Rattle.salvage_shape.specs.declared.Chain.{Chain}

module _ (k : ℕ) (h0 : k ≡ 0 → ⊥) (h1 : k ≡ 1 → ⊥) where
  pub height-many : (h : ℕ) {r : ℕ} → r ≡ sum_in h 1 → r ≡ height_in k h
  height-many h {r} e = e ∙ go k h0 h1
    where
      go : (j : ℕ) → (j ≡ 0 → ⊥) → (j ≡ 1 → ⊥) → sum_in h 1 ≡ height_in j h
      go zero a b = absurd (a refl)
      go (suc zero) a b = absurd (b refl)
      go (suc (suc j)) a b = refl

  pub more-many : 1 ≡ brackets_more k
  more-many = go k h0 h1
    where
      go : (j : ℕ) → (j ≡ 0 → ⊥) → (j ≡ 1 → ⊥) → 1 ≡ brackets_more j
      go zero a b = absurd (a refl)
      go (suc zero) a b = absurd (b refl)
      go (suc (suc j)) a b = refl

pub more-least : (k : ℕ) → brackets_more k ≤ 2
more-least zero = omega arith
more-least (suc zero) = omega arith
more-least (suc (suc k)) = omega arith

-- ---- a node

pub joined-new : {f : Bool} (c : Chain) → f ≡ true → no_chain ≡ joined_to f c
joined-new c e = sym (ap (λ (z : Bool). joined_to z c) e)

module _ {f : Bool} (c : Chain) (e : f ≡ false) where
  pub joined-none : c.kids ≡ 0 → record { kids = 0; high = 0; plus = c.plus; top = c.top } ≡ joined_to f c
  joined-none z = sym (ap (λ (g : Bool). joined_to g c) e ∙ ap (λ (k : ℕ). longer k c) z)

  pub joined-some : (c.kids ≡ 0 → ⊥) → {p q t : ℕ} → p ≡ sum_in c.plus 1 → q ≡ sum_in p c.high → t ≡ max c.top q → record { kids = 0; high = 0; plus = p; top = t } ≡ joined_to f c
  joined-some n {p} {q} {t} a b d =
      ap₂ (λ (x y : ℕ). record { kids = 0; high = 0; plus = x; top = y }) a (d ∙ ap (max c.top) (b ∙ ap (λ (x : ℕ). sum_in x c.high) a))
      ∙ go c.kids n
      ∙ sym (ap (λ (g : Bool). joined_to g c) e)
    where
      go : (k : ℕ) → (k ≡ 0 → ⊥) → record { kids = 0; high = 0; plus = sum_in c.plus 1; top = max c.top (sum_in (sum_in c.plus 1) c.high) } ≡ longer k c
      go zero w = absurd (w refl)
      go (suc k) w = refl

-- ---- an end

pub ended-new : {f : Bool} (c e : Chain) → f ≡ true → c ≡ ended_by f c e
ended-new c e z = sym (ap (λ (g : Bool). ended_by g c e) z)

module _ {f : Bool} (c e : Chain) (z : f ≡ false) {h : ℕ} (q : h ≡ chain_height c) where
  pub ended-none : e.kids ≡ 0 → record { kids = 1; high = h; plus = e.plus; top = e.top } ≡ ended_by f c e
  ended-none n =
      ap (λ (x : ℕ). record { kids = 1; high = x; plus = e.plus; top = e.top }) q
      ∙ sym (ap (λ (k : ℕ). record { kids = count_up k; high = high_with k e.high (chain_height c); plus = e.plus; top = e.top }) n)
      ∙ sym (ap (λ (g : Bool). ended_by g c e) z)

  pub ended_some : (e.kids ≡ 0 → ⊥) → {x : ℕ} → x ≡ max e.high h → record { kids = 2; high = x; plus = e.plus; top = e.top } ≡ ended_by f c e
  ended_some n {x} w =
      ap (λ (y : ℕ). record { kids = 2; high = y; plus = e.plus; top = e.top }) (w ∙ ap (max e.high) q)
      ∙ go e.kids n
      ∙ sym (ap (λ (g : Bool). ended_by g c e) z)
    where
      go : (k : ℕ) → (k ≡ 0 → ⊥)
          → ◌≡◌ {A = Chain} (record { kids = 2; high = max e.high (chain_height c); plus = e.plus; top = e.top }) (record { kids = count_up k; high = high_with k e.high (chain_height c); plus = e.plus; top = e.top })
      go zero v = absurd (v refl)
      go (suc k) v = refl

-- ---- the arrays

pub marks-pop : (a : List Bool) (d : ℕ) → 0 < d → fresh_of a d ≡ get_or a (d - 1) false ∷ fresh_of a (d - 1)
unfolding fresh_of
marks-pop a zero h = absurd (omega arith)
marks-pop a (suc d) h = let e : suc d - 1 ≡ d = omega arith in rw e

pub cells-pop : (a : List ℕ) (d : ℕ) → 0 < d → cells_of a d ≡ cell_at a (d - 1) ∷ cells_of a (d - 1)
unfolding cells_of
cells-pop a zero h = absurd (omega arith)
cells-pop a (suc d) h = let e : suc d - 1 ≡ d = omega arith in rw e

marks-over : (a : List Bool) (d k : ℕ) (v : Bool) → d ≤ k → fresh_of (set a k v) d ≡ fresh_of a d
unfolding fresh_of
marks-over a zero k v h = refl
marks-over a (suc d) k v h = rw (get_or-set_other a k d v false (λ e. omega arith), marks-over a d k v (omega arith))

pub marks-push : (a : List Bool) (d : ℕ) (v : Bool) → d < length a → fresh_of (set a d v) (d + 1) ≡ v ∷ fresh_of a d
unfolding fresh_of
marks-push a d v h = rw (add-one, get_or-set_same a d v false h, marks-over a d d v (omega arith))

pub cells-push : (a : List ℕ) (d : ℕ) → cells_of a (d + 1) ≡ cell_at a d ∷ cells_of a d
unfolding cells_of
cells-push a d = ap (cells_of a) (add-one d)

-- what is put is not read before it
put_other : (a : List ℕ) (i j : ℕ) (c : Chain) → j < i → get_or (chain_put a i c) j 0 ≡ get_or a j 0
put_other a i j c l =
    get_or-set_other (set (set (set a i c.kids) (i + 1) c.high) (i + 2) c.plus) (i + 3) j c.top 0 (λ e. omega arith)
    ∙ get_or-set_other (set (set a i c.kids) (i + 1) c.high) (i + 2) j c.plus 0 (λ e. omega arith)
    ∙ get_or-set_other (set a i c.kids) (i + 1) j c.high 0 (λ e. omega arith)
    ∙ get_or-set_other a i j c.kids 0 (λ e. omega arith)

cells_over : (a : List ℕ) (d k : ℕ) (c : Chain) → d ≤ k → cells_of (chain_put a (k * 4) c) d ≡ cells_of a d
unfolding cells_of
cells_over a zero k c h = refl
cells_over a (suc d) k c h =
    rw (put_other a (k * 4) (d * 4) c (omega arith), put_other a (k * 4) (d * 4 + 1) c (omega arith), put_other a (k * 4) (d * 4 + 2) c (omega arith), put_other a (k * 4) (d * 4 + 3) c (omega arith), cells_over a d k c (omega arith))

module _ (a : List ℕ) (i : ℕ) (c : Chain) (h : i + 3 < length a) where
  put-kids : get_or (chain_put a i c) i 0 ≡ c.kids
  put-kids =
      get_or-set_other (set (set (set a i c.kids) (i + 1) c.high) (i + 2) c.plus) (i + 3) i c.top 0 (λ e. omega arith)
      ∙ get_or-set_other (set (set a i c.kids) (i + 1) c.high) (i + 2) i c.plus 0 (λ e. omega arith)
      ∙ get_or-set_other (set a i c.kids) (i + 1) i c.high 0 (λ e. omega arith)
      ∙ get_or-set_same a i c.kids 0 (omega arith)

  put-high : get_or (chain_put a i c) (i + 1) 0 ≡ c.high
  put-high =
      let l = length-set a i c.kids in
      get_or-set_other (set (set (set a i c.kids) (i + 1) c.high) (i + 2) c.plus) (i + 3) (i + 1) c.top 0 (λ e. omega arith)
      ∙ get_or-set_other (set (set a i c.kids) (i + 1) c.high) (i + 2) (i + 1) c.plus 0 (λ e. omega arith)
      ∙ get_or-set_same (set a i c.kids) (i + 1) c.high 0 (omega (arith, l))

  put-plus : get_or (chain_put a i c) (i + 2) 0 ≡ c.plus
  put-plus =
      let l = length-set a i c.kids in
      let m = length-set (set a i c.kids) (i + 1) c.high in
      get_or-set_other (set (set (set a i c.kids) (i + 1) c.high) (i + 2) c.plus) (i + 3) (i + 2) c.top 0 (λ e. omega arith)
      ∙ get_or-set_same (set (set a i c.kids) (i + 1) c.high) (i + 2) c.plus 0 (omega (arith, l, m))

  put-top : get_or (chain_put a i c) (i + 3) 0 ≡ c.top
  put-top =
      let l = length-set a i c.kids in
      let m = length-set (set a i c.kids) (i + 1) c.high in
      let n = length-set (set (set a i c.kids) (i + 1) c.high) (i + 2) c.plus in
      get_or-set_same (set (set (set a i c.kids) (i + 1) c.high) (i + 2) c.plus) (i + 3) c.top 0 (omega (arith, l, m, n))

  pub put-length : length (chain_put a i c) ≡ length a
  put-length =
      length-set (set (set (set a i c.kids) (i + 1) c.high) (i + 2) c.plus) (i + 3) c.top
      ∙ length-set (set (set a i c.kids) (i + 1) c.high) (i + 2) c.plus
      ∙ length-set (set a i c.kids) (i + 1) c.high
      ∙ length-set a i c.kids

cell-put : (a : List ℕ) (d : ℕ) (c : Chain) → d * 4 + 3 < length a → cell_at (chain_put a (d * 4) c) d ≡ c
cell-put a d c h = rw (put-kids a (d * 4) c h, put-high a (d * 4) c h, put-plus a (d * 4) c h, put-top a (d * 4) c h) refl

-- the first of a new list is kept over
pub cells-put : (a : List ℕ) (d : ℕ) (c : Chain) → 0 < d → (d - 1) * 4 + 3 < length a → cells_of (chain_put a ((d - 1) * 4) c) d ≡ c ∷ cells_of a (d - 1)
cells-put a d c h l =
    cells-pop (chain_put a ((d - 1) * 4) c) d h ∙ ap₂ (λ (x : Chain) (xs : List Chain). x ∷ xs) (cell-put a (d - 1) c l) (cells_over a (d - 1) (d - 1) c (omega arith))

pub kept_put : {f : Bool} (a : List ℕ) (d : ℕ) (c : Chain) → f ≡ true → chain_put a ((d - 1) * 4) c ≡ chain_kept f a d c
kept_put a d c e = sym (ap (λ (g : Bool). pick g (chain_put a ((d - 1) * 4) c) a) e)

pub kept-not : {f : Bool} (a : List ℕ) (d : ℕ) (c : Chain) → f ≡ false → a ≡ chain_kept f a d c
kept-not a d c e = sym (ap (λ (g : Bool). pick g (chain_put a ((d - 1) * 4) c) a) e)

-- ---- all ends, one at a time

pub finish-step : (ma : List Bool) (ca : List ℕ) (d : ℕ) (f : Bool) (c : Chain) → 0 < d → {e g : Chain} {m : Bool} → e ≡ cell_at ca (d - 1) → g ≡ ended_by f c e → m ≡ get_or ma (d - 1) false
    → close_all m g (fresh_of ma (d - 1)) (cells_of ca (d - 1)) ≡ close_all f c (fresh_of ma d) (cells_of ca d)
finish-step ma ca d f c h {e} {g} {m} ee eg em =
    ap (λ (x : Bool). close_all x g (fresh_of ma (d - 1)) (cells_of ca (d - 1))) em
    ∙ ap (λ (x : Chain). close_all (get_or ma (d - 1) false) x (fresh_of ma (d - 1)) (cells_of ca (d - 1))) (eg ∙ ap (ended_by f c) ee)
    ∙ sym (ap₂ (close_all f c) (marks-pop ma d h) (cells-pop ca d h))

pub finish-last : (ma : List Bool) (ca : List ℕ) (d : ℕ) (f : Bool) (c : Chain) → d ≤ 0 → chain_height c ≡ close_all f c (fresh_of ma d) (cells_of ca d)
unfolding fresh_of cells_of
finish-last ma ca zero f c h = refl
finish-last ma ca (suc d) f c h = absurd (omega arith)
