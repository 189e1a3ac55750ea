-- Marks added to marks: none, more, a row and a rectangle. Assumes nothing.
use Rattle.lists.proofs.Prelude.{ℕ, ◌+◌, ◌*◌, ◌/◌, ◌%◌, ◌≤◌, ◌<◌, ◌≡◌, refl, sym, ap, ◌∙◌, Bool, true, false, ◌&&◌, ◌||◌, and-false, or_assoc, and-or_distrib_right, List, arith, leb, ltb, eqb, length, get_or, eqb-true, eqb-false, le-leb, lt-ltb, le-ltb, ltb-true, ltb-false, leb-true}
use Rattle.lists.proofs.Prelude.{rules, ◌-◌, replicate, lt-leb, leb-false}
use Rattle.std.proofs.lemmas.List.{places}
use Rattle.std.proofs.lemmas.Slice.{overwrites}
use borrow.Rule.Slice.PartMut.{put_mid, mid_of, mid_len}
use Rattle.lists.proofs.Tests.{eqb-sym}
use Rattle.go.specs.Marks.{Adds, in_rect}

pub adds_none : {f : ℕ → Bool} (l : List Bool) → ((i : ℕ) → f i ≡ false) → Adds f l l
adds_none l e = record { as_long = refl; at = λ i. rw (e i) }

pub adds-more : {f g h : ℕ → Bool} {a b c : List Bool} → Adds f a b → Adds g b c → ((i : ℕ) → (g i || f i) ≡ h i) → Adds h a c
adds-more {f} {g} {h} {a} p q e =
    record {
      as_long = q.as_long ∙ p.as_long;
      at = λ i. q.at i ∙ ap (λ t. g i || t) (p.at i) ∙ sym (or_assoc (g i) (f i) (get_or a i false)) ∙ ap (λ t. t || get_or a i false) (e i);
    }

-- the half-open range from a on and before b
abbrev ranged : ℕ → ℕ → ℕ → Bool
ranged a b n = leb a n && ltb n b

ranged-none : (a n : ℕ) → ranged a a n ≡ false
ranged-none a n = go (leb a n) refl
  where
    go : (t : Bool) → leb a n ≡ t → (t && ltb n a) ≡ false
    go true e = le-ltb n a (leb-true a n e)
    go false e = refl

ranged-one : (a n : ℕ) → ranged a (a + 1) n ≡ eqb n a
ranged-one a n = go (eqb n a) refl
  where
    under : (t : Bool) → leb a n ≡ t → (n ≡ a → ⊥) → (t && ltb n (a + 1)) ≡ false
    under true p k = le-ltb n (a + 1) (omega (arith, leb-true a n p))
    under false p k = refl

    go : (t : Bool) → eqb n a ≡ t → ranged a (a + 1) n ≡ t
    go true e = let p = eqb-true n a e in rw (le-leb a n (omega arith), lt-ltb n (a + 1) (omega arith))
    go false e = under (leb a n) refl (eqb-false n a e)

-- one number more
ranged-more : (a b n : ℕ) → a ≤ b → (eqb n b || ranged a b n) ≡ ranged a (b + 1) n
ranged-more a b n h = go (eqb n b) refl
  where
    next : (t : Bool) → ltb n b ≡ t → (n ≡ b → ⊥) → t ≡ ltb n (b + 1)
    next true e k = sym (lt-ltb n (b + 1) (omega (arith, ltb-true n b e)))
    next false e k = sym (le-ltb n (b + 1) (omega (arith, ltb-false n b e)))

    go : (t : Bool) → eqb n b ≡ t → (t || ranged a b n) ≡ ranged a (b + 1) n
    go true e = let p = eqb-true n b e in rw (le-leb a n (omega arith), lt-ltb n (b + 1) (omega arith))
    go false e = ap (λ t. leb a n && t) (next (ltb n b) refl (eqb-false n b e))

-- a row is the places from its first to its last
row-is : (x from to i : ℕ) → to < 52 → in_rect x (x + 1) from (to + 1) i ≡ (leb (52 * x + from) i && ltb i (52 * x + to + 1))
unfolding in_rect
row-is x from to i h = go (leb x (i / 52)) (ltb (i / 52) (x + 1)) (leb from (i % 52)) (ltb (i % 52) (to + 1)) refl refl refl refl
  where
    go : (p q r s : Bool) → leb x (i / 52) ≡ p → ltb (i / 52) (x + 1) ≡ q → leb from (i % 52) ≡ r → ltb (i % 52) (to + 1) ≡ s
        → ((p && q) && (r && s)) ≡ (leb (52 * x + from) i && ltb i (52 * x + to + 1))
    go false q r s a b c d =
        let e = leb-false x (i / 52) a in
        rw (lt-leb (52 * x + from) i (omega arith))
    go true false r s a b c d =
        let e = ltb-false (i / 52) (x + 1) b in
        rw (le-ltb i (52 * x + to + 1) (omega arith)) (sym (and-false (leb (52 * x + from) i)))
    go true true false s a b c d =
        let e = ltb-true (i / 52) (x + 1) b in
        let f = leb-false from (i % 52) c in
        rw (lt-leb (52 * x + from) i (omega arith))
    go true true true false a b c d =
        let e = leb-true x (i / 52) a in
        let f = ltb-false (i % 52) (to + 1) d in
        rw (le-ltb i (52 * x + to + 1) (omega arith)) (sym (and-false (leb (52 * x + from) i)))
    go true true true true a b c d =
        let e = leb-true x (i / 52) a in
        let f = ltb-true (i / 52) (x + 1) b in
        let g = leb-true from (i % 52) c in
        let k = ltb-true (i % 52) (to + 1) d in
        rw (le-leb (52 * x + from) i (omega arith), lt-ltb i (52 * x + to + 1) (omega arith))

-- the places from a on and before b are marked
fills : (l m : List Bool) (a b : ℕ) → a ≤ b → b ≤ length l → m ≡ replicate (b - a) true
    → Adds (λ i. leb a i && ltb i b) l (put_mid a (b - a) l m)
fills l m a b p q e = record { as_long = rw e (search (rules, places, overwrites)); at = λ i. go i (leb a i) (ltb i b) refl refl }
  where
    go : (i : ℕ) (s t : Bool) → leb a i ≡ s → ltb i b ≡ t → get_or (put_mid a (b - a) l m) i false ≡ ((s && t) || get_or l i false)
    go i false t f g = let h = leb-false a i f in search (rules, places)
    go i true false f g = let h = ltb-false i b g in rw e (search (rules, places))
    go i true true f g = let h = leb-true a i f in let k = ltb-true i b g in rw e (search (rules, places))

pub row-filled : (l m : List Bool) (x from to : ℕ) → to < 52 → from ≤ to → 52 * x + to < length l → m ≡ replicate (length (mid_of (52 * x + from) (52 * x + to + 1 - (52 * x + from)) l)) true
    → Adds (in_rect x (x + 1) from (to + 1)) l (put_mid (52 * x + from) (52 * x + to + 1 - (52 * x + from)) l m)
row-filled l m x from to h k q e =
    let n = mid_len (52 * x + from) (52 * x + to + 1) l (omega arith) in
    let f = fills l m (52 * x + from) (52 * x + to + 1) (omega arith) (omega arith) (e ∙ ap (λ k. replicate k true) n) in
    record { as_long = f.as_long; at = λ i. f.at i ∙ ap (λ t. t || get_or l i false) (sym (row-is x from to i h)) }

-- one place
pub cell-is : (x y : ℕ) → y < 52 → (i : ℕ) → in_rect x (x + 1) y (y + 1) i ≡ eqb (52 * x + y) i
cell-is x y h i = row-is x y y i h ∙ ranged-one (52 * x + y) i ∙ eqb-sym i (52 * x + y)

pub rect-none : (x y y2 i : ℕ) → in_rect x x y y2 i ≡ false
unfolding in_rect
rect-none x y y2 i = ap (λ t. t && ranged y y2 (i % 52)) (ranged-none x (i / 52))

pub rect-more : (x at y y2 : ℕ) → x ≤ at → (i : ℕ) → (in_rect at (at + 1) y y2 i || in_rect x at y y2 i) ≡ in_rect x (at + 1) y y2 i
unfolding in_rect
rect-more x at y y2 h i =
    sym (and-or_distrib_right (ranged at (at + 1) (i / 52)) (ranged x at (i / 52)) (ranged y y2 (i % 52)))
    ∙ ap (λ t. (t || ranged x at (i / 52)) && ranged y y2 (i % 52)) (ranged-one at (i / 52))
    ∙ ap (λ t. t && ranged y y2 (i % 52)) (ranged-more x at (i / 52) h)
