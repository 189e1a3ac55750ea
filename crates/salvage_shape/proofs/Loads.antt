-- What a spine weighs, and a chain of its nodes. Assumes nothing.
use Rattle.lists.proofs.Prelude.{◌≡◌, refl, sym, ap, ◌∙◌, subst, ℕ, zero, suc, ◌+◌, ◌≤◌, ◌<◌, max, arith, Bool, true, false, List, [], ◌∷◌, ◌++◌, eqb, pick}
use Rattle.salvage_shape.specs.LocalsShape.{Fork, height_by, high_with, closed_into, shut_from, shut_to, leaf, height_from}
use Rattle.salvage_shape.specs.LocalsChain.{height_limit, sum_in, height_in, chain_height, longer, joined_to, count_up, ended_by, brackets_more}
use Rattle.salvage_shape.specs.declared.Chain.{Chain}

-- 2 stands for more
abbrev pub up_to_two : ℕ → ℕ
up_to_two zero = 0
up_to_two (suc zero) = 1
up_to_two (suc (suc k)) = 2

up-count : (k : ℕ) → count_up (up_to_two k) ≡ up_to_two (suc k)
up-count zero = refl
up-count (suc zero) = refl
up-count (suc (suc k)) = refl

up-high : (k h x : ℕ) → high_with (up_to_two k) h x ≡ high_with k h x
up-high zero h x = refl
up-high (suc zero) h x = refl
up-high (suc (suc k)) h x = refl

pub up-brackets : (k : ℕ) → brackets_more (up_to_two k) ≡ brackets_more k
up-brackets zero = refl
up-brackets (suc zero) = refl
up-brackets (suc (suc k)) = refl

-- ---- what a node weighs: no height is above it

abbrev pub weight : (kids high : ℕ) → ℕ
weight zero h = 0
weight (suc k) h = suc h

abbrev pub load : List Fork → ℕ
load [] = 0
load (r ∷ rs) = suc (weight r.kids r.high + load rs)

height-light : (k h : ℕ) → height_by k h ≤ weight k h
height-light zero h = omega arith
height-light (suc zero) h = omega arith
height-light (suc (suc k)) h = omega arith

high-light : (k h x : ℕ) → high_with k h x ≤ weight k h + x
high-light zero h x = omega arith
high-light (suc k) h x = omega arith

pub load-append : (xs ys : List Fork) → load (xs ++ ys) ≡ load xs + load ys
load-append [] ys = omega arith
load-append (x ∷ xs) ys = let e = load-append xs ys in omega (arith, e)

pub load-pop : (r s : Fork) (rs : List Fork) → load (closed_into r s ∷ rs) ≤ load (r ∷ s ∷ rs)
load-pop r s rs = let a = high-light s.kids s.high (height_by r.kids r.high) in let b = height-light r.kids r.high in omega (arith, a, b)

load_from : (q : ℕ) (r : Fork) (rs : List Fork) → load (shut_from q r rs) ≤ load (r ∷ rs)
load_from q r [] = omega arith
load_from q r (s ∷ rs) = go (eqb r.num q) (load_from q (closed_into r s) rs)
  where
    go : (b : Bool) → load (shut_from q (closed_into r s) rs) ≤ load (closed_into r s ∷ rs) → load (pick b (r ∷ s ∷ rs) (shut_from q (closed_into r s) rs)) ≤ load (r ∷ s ∷ rs)
    go true l = omega arith
    go false l = let a = load-pop r s rs in omega (arith, a, l)

pub load-shut : (q : ℕ) (xs : List Fork) → load (shut_to q xs) ≤ load xs
load-shut q [] = omega arith
load-shut q (r ∷ rs) = load_from q r rs

-- ---- a chain

-- the height of the last of these nodes, where the child of the first has height x
abbrev pub climbs : (x : ℕ) → List Fork → ℕ
climbs x [] = x
climbs x (s ∷ ss) = climbs (height_by (suc s.kids) (high_with s.kids s.high x)) ss

-- one more child, of height x
abbrev pub grown : Fork → ℕ → Fork
grown s x = record { num = s.num; kids = suc s.kids; high = high_with s.kids s.high x }

step-light : (k h x : ℕ) → height_by (suc k) (high_with k h x) ≤ x + weight k h
step-light zero h x = omega arith
step-light (suc k) h x = omega arith

climbs-light : (x : ℕ) (ss : List Fork) → climbs x ss ≤ x + load ss
climbs-light x [] = omega arith
climbs-light x (s ∷ ss) =
    let a = climbs-light (height_by (suc s.kids) (high_with s.kids s.high x)) ss in
    let b = step-light s.kids s.high x in
    omega (arith, a, b)

-- the chain c has r as its last node, and mid above it
pub record Chained (c : Chain) (r : Fork) (mid : List Fork) : Type 0 where
  pub kids : c.kids ≡ up_to_two r.kids
  pub high : c.high ≡ r.high
  pub climb : (x : ℕ) → climbs x mid ≡ max c.top (c.plus + x)

plus-light : {c : Chain} {r : Fork} {mid : List Fork} → Chained c r mid → c.plus ≤ load mid
plus-light {c} {r} {mid} h = let a = climbs-light 0 mid in let b = h.climb 0 in omega (arith, a, b)

sum-in : (a b : ℕ) → a + b ≤ height_limit → sum_in a b ≡ a + b
sum-in a b l = omega arith

height-in : (k h : ℕ) → weight k h ≤ height_limit → height_in (up_to_two k) h ≡ height_by k h
height-in zero h l = refl
height-in (suc zero) h l = refl
height-in (suc (suc k)) h l = sum-in h 1 (omega arith) ∙ (omega arith)

module _ {c : Chain} {r : Fork} {mid : List Fork} (h : Chained c r mid) (l : load (r ∷ mid) ≤ height_limit) where
  pub chain-rises : chain_height c ≡ climbs (height_by r.kids r.high) mid
  chain-rises =
      let p = plus-light h in
      let w = height-light r.kids r.high in
      let e : height_in c.kids c.high ≡ height_by r.kids r.high =
      ap (λ (z : ℕ). height_in z c.high) h.kids ∙ ap (height_in (up_to_two r.kids)) h.high ∙ height-in r.kids r.high (omega arith) in
      ap (λ (z : ℕ). max c.top (sum_in c.plus z)) e
      ∙ ap (max c.top) (sum-in c.plus (height_by r.kids r.high) (omega (arith, p, w)))
      ∙ sym (h.climb (height_by r.kids r.high))

  -- one more node
  pub chained-longer : (n : ℕ) → Chained (joined_to false c) (leaf n) (r ∷ mid)
  chained-longer n = go r.kids refl (subst (λ (z : ℕ). z ≡ up_to_two r.kids) refl h.kids)
    where
      p : c.plus ≤ load mid
      p = plus-light h

      go : (k : ℕ) → r.kids ≡ k → c.kids ≡ up_to_two r.kids → Chained (longer c.kids c) (leaf n) (r ∷ mid)
      go zero e f = rw (f ∙ ap up_to_two e) (record { kids = refl; high = refl; climb = λ x. ap (λ (k : ℕ). climbs (height_by (suc k) (high_with k r.high x)) mid) e ∙ h.climb x })
      go (suc k) e f = many (up_to_two (suc k)) (two k) (f ∙ ap up_to_two e)
        where
          two : (j : ℕ) → 0 < up_to_two (suc j)
          two zero = omega arith
          two (suc j) = omega arith

          many : (m : ℕ) → 0 < m → c.kids ≡ m → Chained (longer c.kids c) (leaf n) (r ∷ mid)
          many zero z w = absurd (omega arith)
          many (suc m) z w =
              let lw : suc (suc r.high + load mid) ≤ height_limit = subst (λ (y : ℕ). suc (weight y r.high + load mid) ≤ height_limit) e l in
              let hh = h.high in
              let s1 : sum_in c.plus 1 ≡ c.plus + 1 = sum-in c.plus 1 (omega (arith, p, lw)) in
              let s2 : sum_in (sum_in c.plus 1) c.high ≡ c.plus + 1 + c.high = ap (λ (y : ℕ). sum_in y c.high) s1 ∙ sum-in (c.plus + 1) c.high (omega (arith, p, lw, hh)) in
              rw w
              (record {
                kids = refl;
                high = refl;
                climb = λ x.
                    ap (λ (y : ℕ). climbs (height_by (suc y) (high_with y r.high x)) mid) e
                    ∙ h.climb (suc (max r.high x))
                    ∙ (let g : max c.top (c.plus + suc (max r.high x)) ≡ max (max c.top (c.plus + 1 + c.high)) (c.plus + 1 + x) = omega (arith, hh) in
                    g
                    ∙ sym (ap (λ (y : ℕ). max (max c.top y) (sum_in c.plus 1 + x)) s2 ∙ ap (λ (y : ℕ). max (max c.top (c.plus + 1 + c.high)) (y + x)) s1));
              })

  -- one more child
  pub chained-grown : (e : Chain) (s : Fork) (top : List Fork) → Chained e s top → Chained (ended_by false c e) (grown s (climbs (height_by r.kids r.high) mid)) top
  chained-grown e s top g =
      record {
        kids = ap count_up g.kids ∙ up-count s.kids;
        high =
            ap (high_with e.kids e.high) chain-rises
            ∙ ap (λ (z : ℕ). high_with z e.high (climbs (height_by r.kids r.high) mid)) g.kids
            ∙ ap (λ (z : ℕ). high_with (up_to_two s.kids) z (climbs (height_by r.kids r.high) mid)) g.high
            ∙ up-high s.kids s.high (climbs (height_by r.kids r.high) mid);
        climb = g.climb;
      }

-- ---- all is closed

pub all-height : (r : Fork) (mid : List Fork) → height_from r mid ≡ climbs (height_by r.kids r.high) mid
all-height r [] = refl
all-height r (m ∷ mid) = all-height (closed_into r m) mid

pub height-low : (r : Fork) (rs : List Fork) → height_from r rs ≤ load (r ∷ rs)
height-low r rs = let e = all-height r rs in let a = climbs-light (height_by r.kids r.high) rs in let b = height-light r.kids r.high in omega (arith, e, a, b)
