-- Reading back, one node: the writer's path of open nodes is the reader's stack. Assumes nothing.
use Rattle.lists.proofs.Prelude.{◌≡◌, refl, ap, ◌∙◌, subst, inl, inr, ℕ, suc, ◌+◌, ◌≤◌, ◌<◌, arith, Bool, true, false, ◌||◌, false≢true, List, [], ◌∷◌, ◌++◌, map, reverse_aux, append_assoc, append-nil, eqb, le-leb, eq-eqb, ne_eqb, pick}
use Rattle.lexer.specs.Token.{Prop, Tok, start}
use Rattle.lists.specs.All.{All}
use Rattle.parser.specs.Walk.{Walk, children, opens, walk, walked}
use Rattle.serialize_laws.proofs.WrittenProps.{Plain}
use Rattle.serialize_laws.proofs.Written.{tok_ends, tok_opened, tok_props, tok_shuts}
use Rattle.serialize.proofs.Branches.{On}
use Rattle.serialize.specs.LocalsWrite.{Open, bracketed, path_left, times}
use Rattle.tables.specs.Numbers.{none}
use Rattle.tables.specs.Record.{Node}
use Rattle.tables.specs.Rows.{parents}
use Rattle.serialize_laws.specs.Back.{placeless_prop}

-- the number at the top of the path, and the reader's stack at that path
abbrev pub top : List Open → ℕ
top [] = none
top (x ∷ xs) = x.num

abbrev push : Bool → ℕ → List ℕ → List ℕ
push true n st = n ∷ st
push false n st = st

abbrev pub stk : List Open → List ℕ
stk [] = none ∷ []
stk (x ∷ xs) = push x.brk (top xs) (stk xs)

-- each open node's parent is the one below it on the path, which has a child among the nodes; its bracket is the writer's
abbrev pub Chain : List ℕ → List Node → List Open → Type 0
Chain ps ds [] = Unit {0}
Chain ps ds (x ∷ xs) = (children (top xs) ds ≡ true) × (x.brk ≡ bracketed ps (top xs)) × (x.num < none) × Chain ps ds xs

-- ---- counting

count-reverse : (p : ℕ) (xs ys : List ℕ) → times p (reverse_aux xs ys) ≡ times p xs + times p ys
count-reverse p [] ys = omega arith
count-reverse p (x ∷ xs) ys = go (eqb x p) refl (count-reverse p xs (x ∷ ys))
  where
    go : (b : Bool) → eqb x p ≡ b → times p (reverse_aux xs (x ∷ ys)) ≡ times p xs + pick (eqb x p) (suc (times p ys)) (times p ys)
        → times p (reverse_aux xs (x ∷ ys)) ≡ pick (eqb x p) (suc (times p xs)) (times p xs) + times p ys
    go true e h = rw e (let h' : times p (reverse_aux xs (x ∷ ys)) ≡ times p xs + suc (times p ys) = rw e at h in omega arith)
    go false e h = rw e (rw e at h)

has-child : (p : ℕ) (ds : List Node) → children p ds ≡ true → 1 ≤ times p (parents ds)
has-child p [] h = absurd (false≢true h)
has-child p (n ∷ ds) h = go (eqb n.parent p) h (has-child p ds)
  where
    go : (b : Bool) → (b || children p ds) ≡ true → (children p ds ≡ true → 1 ≤ times p (parents ds)) → 1 ≤ pick b (suc (times p (parents ds))) (times p (parents ds))
    go true e k = omega arith
    go false e k = k e

-- a child among the nodes, and one more: the node stands in brackets
pub two : (ps : List ℕ) (ds : List Node) (p : ℕ) (rest : List ℕ) → ps ≡ reverse_aux (parents ds) (p ∷ rest) → children p ds ≡ true → bracketed ps p ≡ true
two ps ds p rest e h =
    let a = has-child p ds h in
    let s : times p (p ∷ rest) ≡ suc (times p rest) = rw (eq-eqb p p refl) in
    let b = count-reverse p (parents ds) (p ∷ rest) in
    le-leb 2 (times p ps) (omega (arith, a, s, b, ap (times p) e))

-- ---- the ends before a node

module _ (len : Bool) (base : ℕ) (ds : List Node) where
  abbrev Comes : Walk → List Tok → ℕ → List ℕ → Type 0
  Comes w ts c st = (g : Bool) × (walked len base w ts ≡ walk c st g ds)

  on-child : (ps : List ℕ) (p : ℕ) (x : Open) (xs : List Open) → Chain ps ds (x ∷ xs) → On p xs → children p ds ≡ true
  on-child ps p x [] ch on = absurd on
  on-child ps p x (y ∷ ys) ch (inl e) = subst (λ (z : ℕ). children z ds ≡ true) e ch.0
  on-child ps p x (y ∷ ys) ch (inr on) = on-child ps p y ys ch.3 on.1

  -- down to p, which stands below the top of the path
  ends-below : (ps : List ℕ) (p c : ℕ) (g : Bool) (x : Open) (xs : List Open) → Chain ps ds (x ∷ xs) → (x.num ≡ p → ⊥) → On p xs → bracketed ps p ≡ true
      → Comes (walk c (stk (x ∷ xs)) g ds) (tok_ends p (x ∷ xs)) p (stk (path_left p (x ∷ xs)))
  ends-below ps p c g x [] ch ne on br = absurd on
  ends-below ps p c g x (y ∷ ys) ch ne (inl e) br =
      let b : x.brk ≡ true = ch.1 ∙ ap (bracketed ps) e ∙ br in
      rw (ne_eqb x.num p ne, eq-eqb y.num p e, b) (false, ap (λ (z : ℕ). walk z (stk (y ∷ ys)) false ds) e)
  ends-below ps p c g x (y ∷ ys) ch ne (inr on) br =
      rw (ne_eqb x.num p ne) (go x.brk (λ c g. ends-below ps p c g y ys ch.3 on.0 on.1 br))
    where
      go : (b : Bool) → ((c : ℕ) (g : Bool) → Comes (walk c (stk (y ∷ ys)) g ds) (tok_ends p (y ∷ ys)) p (stk (path_left p (y ∷ ys))))
          → Comes (walk c (push b y.num (stk (y ∷ ys))) g ds) (tok_shuts b (tok_ends p (y ∷ ys))) p (stk (path_left p (y ∷ ys)))
      go true k = k y.num false
      go false k = k c g

  pub ends-to : (ps : List ℕ) (p : ℕ) (g : Bool) (path : List Open) → Chain ps ds path → On p path → (children p ds ≡ true → bracketed ps p ≡ true)
      → Comes (walk (top path) (stk path) g ds) (tok_ends p path) p (stk (path_left p path))
  ends-to ps p g [] ch on br = absurd on
  ends-to ps p g (x ∷ xs) ch (inl e) br = rw (eq-eqb x.num p e) (g, ap (λ (z : ℕ). walk z (stk (x ∷ xs)) g ds) e)
  ends-to ps p g (x ∷ xs) ch (inr on) br = ends-below ps p x.num g x xs ch on.0 on.1 (br (on-child ps p x xs ch on.1))

  -- all of them
  pub ends-all : (ps : List ℕ) (c : ℕ) (g : Bool) (path : List Open) → Chain ps ds path → (c2 : ℕ) × Comes (walk c (stk path) g ds) (tok_ends none path) c2 (none ∷ [])
  ends-all ps c g [] ch = (c, (g, refl))
  ends-all ps c g (x ∷ xs) ch = rw (ne_eqb x.num none (λ e. omega (arith, ch.2))) (go x.brk (λ c g. ends-all ps c g xs ch.3))
    where
      go : (b : Bool) → ((c : ℕ) (g : Bool) → (c2 : ℕ) × Comes (walk c (stk xs) g ds) (tok_ends none xs) c2 (none ∷ []))
          → (c2 : ℕ) × Comes (walk c (push b (top xs) (stk xs)) g ds) (tok_shuts b (tok_ends none xs)) c2 (none ∷ [])
      go true k = k (top xs) false
      go false k = k c g

-- ---- one node

-- the path after the ends: its top is p
pub left-top : (p : ℕ) (path : List Open) → On p path → top (path_left p path) ≡ p
left-top p [] on = absurd on
left-top p (x ∷ xs) (inl e) = rw (eq-eqb x.num p e) e
left-top p (x ∷ xs) (inr on) = rw (ne_eqb x.num p on.0) (left-top p xs on.1)

pub left-chain : (ps : List ℕ) (ds : List Node) (p : ℕ) (path : List Open) → Chain ps ds path → Chain ps ds (path_left p path)
left-chain ps ds p [] ch = tt
left-chain ps ds p (x ∷ xs) ch = go (eqb x.num p) (left-chain ps ds p xs ch.3)
  where
    go : (b : Bool) → Chain ps ds (path_left p xs) → Chain ps ds (pick b (x ∷ xs) (path_left p xs))
    go true k = ch
    go false k = k

pub chain-up : (ps : List ℕ) (n : Node) (ds : List Node) (path : List Open) → Chain ps ds path → Chain ps (n ∷ ds) path
chain-up ps n ds [] ch = tt
chain-up ps n ds (x ∷ xs) ch = (go (eqb n.parent (top xs)) ch.0, ch.1, ch.2, chain-up ps n ds xs ch.3)
  where
    go : (b : Bool) → children (top xs) ds ≡ true → (b || children (top xs) ds) ≡ true
    go true e = refl
    go false e = e

-- the list on top of the stack has a node
top-child : (ps : List ℕ) (ds : List Node) (path : List Open) → Chain ps ds path → children none ds ≡ true
    → (t : ℕ) × (st : List ℕ) × (stk path ≡ t ∷ st) × (children t ds ≡ true)
top-child ps ds [] ch r = (none, [], refl, r)
top-child ps ds (x ∷ xs) ch r = go x.brk (top-child ps ds xs ch.3 r)
  where
    go : (b : Bool) → (t : ℕ) × (st : List ℕ) × (stk xs ≡ t ∷ st) × (children t ds ≡ true)
        → (t : ℕ) × (st : List ℕ) × (push b (top xs) (stk xs) ≡ t ∷ st) × (children t ds ≡ true)
    go true k = (top xs, stk xs, refl, ch.0)
    go false k = k

-- its properties
pub props-run : (base cur : ℕ) (st : List ℕ) (pa : ℕ) (qs ps : List Prop) (ds : List Node) → All Plain ps
    → walked false base (walk cur st true (record { parent = pa; props = qs } ∷ ds)) (tok_props ps)
    ≡ walk cur st true (record { parent = pa; props = qs ++ map placeless_prop ps } ∷ ds)
props-run base cur st pa qs [] ds h = rw (append-nil qs)
props-run base cur st pa qs (p ∷ ps) ds h =
    props-run base cur st pa (qs ++ (placeless_prop p ∷ [])) ps ds h.1
    ∙ ap (λ (z : List Prop). walk cur st true (record { parent = pa; props = z } ∷ ds)) (append_assoc qs (placeless_prop p ∷ []) (map placeless_prop ps))

-- its bracket
pub open-run : (len : Bool) (base : ℕ) (ps : List ℕ) (ds : List Node) (p : ℕ) (path : List Open) (g : Bool) (b : Bool) (rest : List Tok) → len ≡ false
    → top path ≡ p → Chain ps ds path → (b ≡ true → children none ds ≡ true)
    → (g2 : Bool) × (walked len base (walk p (stk path) g ds) (tok_opened b rest) ≡ walked len base (walk p (push b (top path) (stk path)) g2 ds) rest)
open-run len base ps ds p path g false rest le e ch r = (g, refl)
open-run len base ps ds p path g true rest le e ch r = go (top-child ps ds path ch (r refl))
  where
    go : (t : ℕ) × (st : List ℕ) × (stk path ≡ t ∷ st) × (children t ds ≡ true)
        → (g2 : Bool) × (walked len base (walk p (stk path) g ds) (start 0 ∷ rest) ≡ walked len base (walk p (top path ∷ stk path) g2 ds) rest)
    go k =
        let o : opens len p (stk path) ds ≡ walk p (top path ∷ stk path) false ds = rw (k.2, k.3, e) in
        (false, ap (λ (w : Walk). walked len base w rest) o)

pub or_right : (x y : Bool) → y ≡ true → (x || y) ≡ true
or_right true y e = refl
or_right false y e = e
