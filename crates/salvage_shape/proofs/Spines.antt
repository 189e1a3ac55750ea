-- The spine of open nodes: numbers fall along it, and each counts its children. Assumes nothing.
use Rattle.lists.proofs.Prelude.{◌≡◌, refl, sym, ap, ◌∙◌, subst, ℕ, suc, ◌≤◌, ◌<◌, arith, Bool, true, false, List, [], ◌∷◌, eqb, eq-eqb, ne_eqb, pick}
use Rattle.tables.specs.Numbers.{none}
use Rattle.serialize.specs.LocalsWrite.{times}
use Rattle.salvage_shape.specs.LocalsShape.{Fork, closed_into, shut_from, shut_to, leaf, Heads, Meets, height_from, height_of}

-- each number is below the one before it, the first below k; the last is none
abbrev pub Falls : ℕ → List Fork → Type 0
Falls k [] = ⊥
Falls k (r ∷ []) = r.num ≡ none
Falls k (r ∷ s ∷ rs) = (r.num < k) × Falls r.num (s ∷ rs)

-- no number is x
abbrev pub Off : ℕ → List Fork → Type 0
Off x [] = Unit {0}
Off x (r ∷ rs) = (r.num ≡ x → ⊥) × Off x rs

-- each but the first has one child that is not closed
abbrev pub Opens : List ℕ → List Fork → Type 0
Opens ds [] = Unit {0}
Opens ds (s ∷ rs) = (times s.num ds ≡ suc s.kids) × Opens ds rs

-- the children are counted: ds are the parents so far
abbrev pub Counts : List ℕ → List Fork → Type 0
Counts ds [] = Unit {0}
Counts ds (r ∷ rs) = (times r.num ds ≡ r.kids) × Opens ds rs

-- ---- numbers

pub falls-more : (j k : ℕ) (xs : List Fork) → j ≤ k → Falls j xs → Falls k xs
falls-more j k [] l f = f
falls-more j k (r ∷ []) l f = f
falls-more j k (r ∷ s ∷ rs) l f = (omega (arith, f.0), f.1)

falls-from : (q k : ℕ) (r : Fork) (rs : List Fork) → Falls k (r ∷ rs) → Falls k (shut_from q r rs)
falls-from q k r [] f = f
falls-from q k r (s ∷ rs) f = go (eqb r.num q) (falls-from q k (closed_into r s) rs (same rs (falls-more r.num k (s ∷ rs) (omega (arith, f.0)) f.1)))
  where
    same : (ys : List Fork) → Falls k (s ∷ ys) → Falls k (closed_into r s ∷ ys)
    same [] g = g
    same (y ∷ ys) g = g

    go : (b : Bool) → Falls k (shut_from q (closed_into r s) rs) → Falls k (pick b (r ∷ s ∷ rs) (shut_from q (closed_into r s) rs))
    go true g = f
    go false g = g

pub falls-shut : (q k : ℕ) (xs : List Fork) → Falls k xs → Falls k (shut_to q xs)
falls-shut q k [] f = f
falls-shut q k (r ∷ rs) f = falls-from q k r rs f

pub falls-push : (k : ℕ) (xs : List Fork) → Falls k xs → Falls (suc k) (leaf k ∷ xs)
falls-push k [] f = absurd f
falls-push k (r ∷ rs) f = (omega arith, f)

-- what is not below k is not on the spine
pub falls-off : (k x : ℕ) (xs : List Fork) → Falls k xs → k ≤ x → x < none → Off x xs
falls-off k x [] f l h = tt
falls-off k x (r ∷ []) f l h = ((λ e. omega (arith, f, e)), tt)
falls-off k x (r ∷ s ∷ rs) f l h = ((λ e. omega (arith, f.0, e)), falls-off r.num x (s ∷ rs) f.1 (omega (arith, f.0)) h)

off-from : (q x : ℕ) (r : Fork) (rs : List Fork) → Off x (r ∷ rs) → Off x (shut_from q r rs)
off-from q x r [] o = o
off-from q x r (s ∷ rs) o = go (eqb r.num q) (off-from q x (closed_into r s) rs o.1)
  where
    go : (b : Bool) → Off x (shut_from q (closed_into r s) rs) → Off x (pick b (r ∷ s ∷ rs) (shut_from q (closed_into r s) rs))
    go true g = o
    go false g = g

pub off-shut : (q x : ℕ) (xs : List Fork) → Off x xs → Off x (shut_to q xs)
off-shut q x [] o = o
off-shut q x (r ∷ rs) o = off-from q x r rs o

heads-off : (q x : ℕ) (xs : List Fork) → Heads q xs → Off x xs → (q ≡ x → ⊥)
heads-off q x [] h o = absurd h
heads-off q x (r ∷ rs) h o = λ e. o.0 (h ∙ e)

-- a node that is left does not come again
pub gone : (x k : ℕ) (xs : List Fork) (qs : List ℕ) → Off x xs → x < k → Meets k xs qs → times x qs ≡ 0
gone x k xs [] o l m = refl
gone x k xs (q ∷ qs) o l m =
    let o2 = off-shut q x xs o in
    rw (ne_eqb q x (heads-off q x (shut_to q xs) m.0 o2)) (gone x (suc k) (leaf k ∷ shut_to q xs) qs ((λ e. omega arith), o2) (omega arith) m.1)

-- ---- children

counts-from : (q : ℕ) (ds : List ℕ) (r : Fork) (rs : List Fork) → Counts ds (r ∷ rs) → Counts ds (shut_from q r rs)
counts-from q ds r [] c = c
counts-from q ds r (s ∷ rs) c = go (eqb r.num q) (counts-from q ds (closed_into r s) rs c.1)
  where
    go : (b : Bool) → Counts ds (shut_from q (closed_into r s) rs) → Counts ds (pick b (r ∷ s ∷ rs) (shut_from q (closed_into r s) rs))
    go true g = c
    go false g = g

pub counts-shut : (q : ℕ) (ds : List ℕ) (xs : List Fork) → Counts ds xs → Counts ds (shut_to q xs)
counts-shut q ds [] c = c
counts-shut q ds (r ∷ rs) c = counts-from q ds r rs c

opens-more : (q : ℕ) (ds : List ℕ) (rs : List Fork) → Off q rs → Opens ds rs → Opens (q ∷ ds) rs
opens-more q ds [] o c = tt
opens-more q ds (s ∷ rs) o c = (rw (ne_eqb q s.num (λ e. o.0 (sym e))) c.0, opens-more q ds rs o.1 c.1)

-- a node comes under the first
pub counts-push : (q k : ℕ) (ds : List ℕ) (xs : List Fork) → Heads q xs → Falls k xs → k < none → times k ds ≡ 0 → Counts ds xs → Counts (q ∷ ds) (leaf k ∷ xs)
counts-push q k ds [] h f l z c = absurd h
counts-push q k ds (r ∷ []) h f l z c = (rw (ne_eqb q k (λ e. omega (arith, f, h, e))) z, (rw (eq-eqb q r.num (sym h)) (ap suc c.0), tt))
counts-push q k ds (r ∷ s ∷ rs) h f l z c = (
  rw (ne_eqb q k (λ e. omega (arith, f.0, h, e))) z,
  (rw (eq-eqb q r.num (sym h)) (ap suc c.0), opens-more q ds (s ∷ rs) (subst (λ (y : ℕ). Off y (s ∷ rs)) h (falls-off r.num r.num (s ∷ rs) f.1 (omega arith) (omega (arith, f.0)))) c.1),
)

-- numbers that have not come have no child
abbrev pub Unborn : ℕ → List ℕ → Type 0
Unborn k ds = (x : ℕ) → k ≤ x → x < none → times x ds ≡ 0

heads-low : (q k : ℕ) (xs : List Fork) → Heads q xs → Falls k xs → (x : ℕ) → k ≤ x → x < none → (q ≡ x → ⊥)
heads-low q k [] h f x l b e = h
heads-low q k (r ∷ []) h f x l b e = omega (arith, h, f, e)
heads-low q k (r ∷ s ∷ rs) h f x l b e = omega (arith, h, f.0, e)

pub unborn-push : (q k : ℕ) (ds : List ℕ) (xs : List Fork) → Heads q xs → Falls k xs → Unborn k ds → Unborn (suc k) (q ∷ ds)
unborn-push q k ds xs h f u x l b = rw (ne_eqb q x (heads-low q k xs h f x (omega arith) b)) (u x (omega arith) b)

-- ---- heights

height-from : (q : ℕ) (r : Fork) (rs : List Fork) → height_of (shut_from q r rs) ≡ height_from r rs
height-from q r [] = refl
height-from q r (s ∷ rs) = go (eqb r.num q) (height-from q (closed_into r s) rs)
  where
    go : (b : Bool) → height_of (shut_from q (closed_into r s) rs) ≡ height_from (closed_into r s) rs → height_of (pick b (r ∷ s ∷ rs) (shut_from q (closed_into r s) rs)) ≡ height_from (closed_into r s) rs
    go true e = refl
    go false e = e

-- closing some leaves the height
pub height-shut : (q : ℕ) (xs : List Fork) → height_of (shut_to q xs) ≡ height_of xs
height-shut q [] = refl
height-shut q (r ∷ rs) = height-from q r rs
