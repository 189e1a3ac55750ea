-- The open lists, each a chain, are the spine. Assumes nothing.
use Rattle.lists.proofs.Prelude.{◌≡◌, refl, sym, ap, ◌∙◌, subst, ℕ, ◌≤◌, arith, Bool, true, false, List, [], ◌∷◌, ◌++◌, eq-eqb, ne_eqb}
use Rattle.tables.specs.Numbers.{none}
use Rattle.salvage_shape.specs.LocalsShape.{Fork, height_by, closed_into, shut_from, shut_to, leaf, Heads, height_from}
use Rattle.salvage_shape.specs.LocalsChain.{height_limit, no_chain, joined_to, ended_by, close_all}
use Rattle.salvage_shape.specs.declared.Chain.{Chain}
use Rattle.salvage_shape.proofs.Spines.{Falls, Off, falls-off}
use Rattle.salvage_shape.proofs.Loads.{up_to_two, load, load-append, load-pop, climbs, grown, Chained, chain-rises, chained-longer, chained-grown, all-height}

-- ---- the spine above a node of it

mid-height : (r : Fork) (mid : List Fork) (s : Fork) (ss : List Fork) → height_from r (mid ++ (s ∷ ss)) ≡ height_from (grown s (climbs (height_by r.kids r.high) mid)) ss
mid-height r [] s ss = refl
mid-height r (m ∷ mid) s ss = mid-height (closed_into r m) mid s ss

mid-load : (r : Fork) (mid : List Fork) (s : Fork) (ss : List Fork) → load (grown s (climbs (height_by r.kids r.high) mid) ∷ ss) ≤ load (r ∷ (mid ++ (s ∷ ss)))
mid-load r [] s ss = load-pop r s ss
mid-load r (m ∷ mid) s ss = let a = mid-load (closed_into r m) mid s ss in let b = load-pop r m (mid ++ (s ∷ ss)) in omega (arith, a, b)

pub shut-heads : (q : ℕ) (xs : List Fork) → Heads q xs → shut_to q xs ≡ xs
shut-heads q [] h = refl
shut-heads q (r ∷ []) h = refl
shut-heads q (r ∷ s ∷ rs) h = rw (eq-eqb r.num q h)

off-mid : (x : ℕ) (mid : List Fork) (s : Fork) (ss : List Fork) → Off x (mid ++ (s ∷ ss)) → (s.num ≡ x → ⊥)
off-mid x [] s ss o = o.0
off-mid x (m ∷ mid) s ss o = off-mid x mid s ss o.1

first_off : (k : ℕ) (r y : Fork) (ys : List Fork) → Falls k (r ∷ y ∷ ys) → k ≤ none → Off r.num (y ∷ ys)
first_off k r y ys f l = falls-off r.num r.num (y ∷ ys) f.1 (omega arith) (omega (arith, f.0))

falls-closed : (k : ℕ) (r y : Fork) (ys : List Fork) → Falls k (r ∷ y ∷ ys) → Falls k (closed_into r y ∷ ys)
falls-closed k r y [] f = f.1
falls-closed k r y (z ∷ ys) f = (omega (arith, f.0, f.1.0), f.1.1)

mid-shut : (k p : ℕ) (r : Fork) (mid : List Fork) (s : Fork) (ss : List Fork) → k ≤ none → Falls k (r ∷ (mid ++ (s ∷ ss))) → s.num ≡ p
    → shut_from p r (mid ++ (s ∷ ss)) ≡ grown s (climbs (height_by r.kids r.high) mid) ∷ ss
mid-shut k p r [] s ss l f e = rw (ne_eqb r.num p (λ z. (first_off k r s ss f l).0 (e ∙ sym z))) (shut-heads p (closed_into r s ∷ ss) e)
mid-shut k p r (m ∷ mid) s ss l f e =
    rw (ne_eqb r.num p (λ z. off-mid r.num mid s ss (first_off k r m (mid ++ (s ∷ ss)) f l).1 (e ∙ sym z)))
    (mid-shut k p (closed_into r m) mid s ss l (falls-closed k r m (mid ++ (s ∷ ss)) f) e)

-- ---- the open lists

-- r and rs are the spine from the current node up: fresh, of a list without a node, under r; else of the list of r. st: the nodes that the lists stand under
abbrev pub Stands : (fresh : Bool) (c : Chain) (st : List ℕ) (ms : List Bool) (es : List Chain) (r : Fork) (rs : List Fork) → Type 0
Stands false c [] [] [] r rs = Chained c r rs
Stands false c [] [] (x ∷ es) r rs = ⊥
Stands false c [] (m ∷ ms) es r rs = ⊥
Stands false c (p ∷ st) [] es r rs = ⊥
Stands false c (p ∷ st) (m ∷ ms) [] r rs = ⊥
Stands false c (p ∷ st) (m ∷ ms) (e ∷ es) r rs = (mid : List Fork) × (s : Fork) × (ss : List Fork) × (rs ≡ mid ++ (s ∷ ss)) × (s.num ≡ p) × Chained c r mid × Stands m e st ms es s ss
Stands true c [] ms es r rs = ⊥
Stands true c (p ∷ st) [] es r rs = ⊥
Stands true c (p ∷ st) (m ∷ ms) [] r rs = ⊥
Stands true c (p ∷ st) (m ∷ ms) (e ∷ es) r rs = (r.num ≡ p) × Stands m c st ms es r rs

stands-head : (f : Bool) (c d : Chain) (st : List ℕ) (ms : List Bool) (es : List Chain) (r s : Fork) (rs : List Fork) → s.num ≡ r.num → ((mid : List Fork) → Chained c r mid → Chained d s mid)
    → Stands f c st ms es r rs → Stands f d st ms es s rs
stands-head false c d [] [] [] r s rs e g h = g rs h
stands-head false c d [] [] (x ∷ es) r s rs e g h = absurd h
stands-head false c d [] (m ∷ ms) es r s rs e g h = absurd h
stands-head false c d (p ∷ st) [] es r s rs e g h = absurd h
stands-head false c d (p ∷ st) (m ∷ ms) [] r s rs e g h = absurd h
stands-head false c d (p ∷ st) (m ∷ ms) (x ∷ es) r s rs e g h = (h.0, h.1, h.2, h.3, h.4, g h.0 h.5, h.6)
stands-head true c d [] ms es r s rs e g h = absurd h
stands-head true c d (p ∷ st) [] es r s rs e g h = absurd h
stands-head true c d (p ∷ st) (m ∷ ms) [] r s rs e g h = absurd h
stands-head true c d (p ∷ st) (m ∷ ms) (x ∷ es) r s rs e g h = (e ∙ h.0, stands-head m c d st ms es r s rs e g h.1)

mid-light : (r : Fork) (mid rs : List Fork) (s : Fork) (ss : List Fork) → rs ≡ mid ++ (s ∷ ss) → load (r ∷ rs) ≤ height_limit → load (r ∷ mid) ≤ height_limit
mid-light r mid rs s ss e l = let a : load rs ≡ load (mid ++ (s ∷ ss)) = ap load e in let b = load-append mid (s ∷ ss) in omega (arith, a, b, l)

module _ (c e : Chain) (m : Bool) (st : List ℕ) (ms : List Bool) (es : List Chain) (r : Fork) (mid rs : List Fork) (s : Fork) (ss : List Fork) (q : rs ≡ mid ++ (s ∷ ss))
    (l : load (r ∷ rs) ≤ height_limit) (h : Chained c r mid) where
  stands-grown : Stands m e st ms es s ss → Stands m (ended_by false c e) st ms es (grown s (climbs (height_by r.kids r.high) mid)) ss
  stands-grown t =
      stands-head m e (ended_by false c e) st ms es s (grown s (climbs (height_by r.kids r.high) mid)) ss refl (λ top g. chained-grown h (mid-light r mid rs s ss q l) e s top g) t

  grown-light : load (grown s (climbs (height_by r.kids r.high) mid) ∷ ss) ≤ height_limit
  grown-light = let a : load rs ≡ load (mid ++ (s ∷ ss)) = ap load q in let b = mid-load r mid s ss in omega (arith, a, b, l)

-- ---- all ends

pub close-all : (f : Bool) (c : Chain) (st : List ℕ) (ms : List Bool) (es : List Chain) (r : Fork) (rs : List Fork) → load (r ∷ rs) ≤ height_limit → Stands f c st ms es r rs
    → close_all f c ms es ≡ height_from r rs
close-all false c [] [] [] r rs l h = chain-rises h l ∙ sym (all-height r rs)
close-all false c [] [] (x ∷ es) r rs l h = absurd h
close-all false c [] (m ∷ ms) es r rs l h = absurd h
close-all false c (p ∷ st) [] es r rs l h = absurd h
close-all false c (p ∷ st) (m ∷ ms) [] r rs l h = absurd h
close-all false c (p ∷ st) (m ∷ ms) (e ∷ es) r rs l h =
    close-all m (ended_by false c e) st ms es (grown h.1 (climbs (height_by r.kids r.high) h.0)) h.2 (grown-light c e m st ms es r h.0 rs h.1 h.2 h.3 l h.5)
    (stands-grown c e m st ms es r h.0 rs h.1 h.2 h.3 l h.5 h.6)
    ∙ sym (ap (height_from r) h.3 ∙ mid-height r h.0 h.1 h.2)
close-all true c [] ms es r rs l h = absurd h
close-all true c (p ∷ st) [] es r rs l h = absurd h
close-all true c (p ∷ st) (m ∷ ms) [] r rs l h = absurd h
close-all true c (p ∷ st) (m ∷ ms) (e ∷ es) r rs l h = close-all m c st ms es r rs l h.1

-- ---- one ends

module _ (c : Chain) (p : ℕ) (st : List ℕ) (m : Bool) (ms : List Bool) (e : Chain) (es : List Chain) (r : Fork) (rs : List Fork) (k : ℕ) (kl : k ≤ none) (f : Falls k (r ∷ rs))
    (l : load (r ∷ rs) ≤ height_limit) where
  -- the spine down to the node that the list stands under
  pub stands-end : (b : Bool) → Stands b c (p ∷ st) (m ∷ ms) (e ∷ es) r rs
      → (s : Fork) × (ss : List Fork) × (shut_to p (r ∷ rs) ≡ s ∷ ss) × (s.num ≡ p) × Stands m (ended_by b c e) st ms es s ss × (Off p (r ∷ rs) → ⊥)
  stands-end true h = (r, rs, shut-heads p (r ∷ rs) h.0, h.0, h.1, λ o. o.0 h.0)
  stands-end false h = (
    grown h.1 (climbs (height_by r.kids r.high) h.0),
    h.2,
    ap (shut_from p r) h.3 ∙ mid-shut k p r h.0 h.1 h.2 kl (subst (λ (ys : List Fork). Falls k (r ∷ ys)) h.3 f) h.4,
    h.4,
    stands-grown c e m st ms es r h.0 rs h.1 h.2 h.3 l h.5 h.6,
    λ o. off-mid p h.0 h.1 h.2 (subst (Off p) h.3 o.1) h.4,
  )

-- ---- a node

pub stands-new : (n : ℕ) (c : Chain) (p : ℕ) (st : List ℕ) (m : Bool) (ms : List Bool) (e : Chain) (es : List Chain) (r : Fork) (rs : List Fork) → Stands true c (p ∷ st) (m ∷ ms) (e ∷ es) r rs
    → Stands false no_chain (p ∷ st) (m ∷ ms) (c ∷ es) (leaf n) (r ∷ rs)
stands-new n c p st m ms e es r rs h = ([], r, rs, refl, h.0, record { kids = refl; high = refl; climb = λ x. omega arith }, h.1)

pub stands-more : (n : ℕ) (c : Chain) (st : List ℕ) (ms : List Bool) (es : List Chain) (r : Fork) (rs : List Fork) → load (r ∷ rs) ≤ height_limit → Stands false c st ms es r rs
    → Stands false (joined_to false c) st ms es (leaf n) (r ∷ rs)
stands-more n c [] [] [] r rs l h = chained-longer h l n
stands-more n c [] [] (x ∷ es) r rs l h = absurd h
stands-more n c [] (m ∷ ms) es r rs l h = absurd h
stands-more n c (p ∷ st) [] es r rs l h = absurd h
stands-more n c (p ∷ st) (m ∷ ms) [] r rs l h = absurd h
stands-more n c (p ∷ st) (m ∷ ms) (e ∷ es) r rs l h =
    (r ∷ h.0, h.1, h.2, ap (λ (z : List Fork). r ∷ z) h.3, h.4, chained-longer h.5 (mid-light r h.0 rs h.1 h.2 h.3 l) n, h.6)

-- the children of the current node are counted
pub stands-kids : (f : Bool) (c : Chain) (st : List ℕ) (ms : List Bool) (es : List Chain) (r : Fork) (rs : List Fork) → Stands f c st ms es r rs → c.kids ≡ up_to_two r.kids
stands-kids false c [] [] [] r rs h = h.kids
stands-kids false c [] [] (x ∷ es) r rs h = absurd h
stands-kids false c [] (m ∷ ms) es r rs h = absurd h
stands-kids false c (p ∷ st) [] es r rs h = absurd h
stands-kids false c (p ∷ st) (m ∷ ms) [] r rs h = absurd h
stands-kids false c (p ∷ st) (m ∷ ms) (e ∷ es) r rs h = h.5.kids
stands-kids true c [] ms es r rs h = absurd h
stands-kids true c (p ∷ st) [] es r rs h = absurd h
stands-kids true c (p ∷ st) (m ∷ ms) [] r rs h = absurd h
stands-kids true c (p ∷ st) (m ∷ ms) (e ∷ es) r rs h = stands-kids m c st ms es r rs h.1

-- no new list stands under nothing
pub stands-none : (c : Chain) (ms : List Bool) (es : List Chain) (r : Fork) (rs : List Fork) → Stands true c [] ms es r rs → ⊥
stands-none c ms es r rs h = h
