-- The walk over a slice that begins with `(`: the stack holds open nodes, from the current one down. Assumes nothing.
use Rattle.lists.proofs.Prelude.{◌≡◌, refl, sym, subst, ◌⊎◌, inl, inr, ℕ, zero, suc, ◌+◌, ◌≤◌, ◌<◌, arith, Bool, true, false, List, [], ◌∷◌, eqb, length, eq-eqb, ne_eqb, pick}
use Rattle.lexer.specs.Token.{Prop, Tok, end, node, prop, start}
use Rattle.parser.specs.Walk.{Walk, adds, children, closes, gated, halted, opens, stopped, walk, walked}
use Rattle.tables.specs.Numbers.{none}
use Rattle.tables.specs.Record.{Node}
use Rattle.tables.specs.declared.Reason.{Reason}
use Rattle.tables.specs.declared.Reason.TheVariants.{UnexpectedGameTreeStart, UnexpectedProperty}
use Rattle.serialize_laws.proofs.Closing.{Closes}

abbrev pub OnN : ℕ → List ℕ → Type 0
OnN p [] = ⊥
OnN p (x ∷ xs) = (x ≡ p) ⊎ ((x ≡ p → ⊥) × OnN p xs)

abbrev pub left_n : ℕ → List ℕ → List ℕ
left_n p [] = []
left_n p (x ∷ xs) = let r = left_n p xs in pick (eqb x p) (x ∷ xs) r

-- the open nodes after the nodes ds (last first)
abbrev pub path_r : ℕ → List Node → List ℕ
path_r base [] = []
path_r base (n ∷ ds) = (base + length ds) ∷ left_n n.parent (path_r base ds)

abbrev pub GoodR : ℕ → List Node → Type 0
GoodR base [] = ⊥
GoodR base (n ∷ []) = n.parent ≡ none
GoodR base (n ∷ m ∷ ds) = OnN n.parent (path_r base (m ∷ ds)) × GoodR base (m ∷ ds)

abbrev pub DescP : ℕ → List ℕ → Type 0
DescP k [] = Unit {0}
DescP k (x ∷ xs) = (x < k) × DescP x xs

abbrev Nest : List ℕ → ℕ → List ℕ → Type 0
Nest P c [] = ⊥
Nest P c (e ∷ []) = OnN c P × (e ≡ none)
Nest P c (e ∷ f ∷ st) = OnN c P × (e ≤ c) × Nest P e (f ∷ st)

desc-up : (k l : ℕ) (P : List ℕ) → k ≤ l → DescP k P → DescP l P
desc-up k l [] h d = tt
desc-up k l (x ∷ xs) h d = (omega (arith, d.0), d.1)

pub desc-left : (k c : ℕ) (P : List ℕ) → DescP k P → DescP k (left_n c P)
desc-left k c [] d = tt
desc-left k c (x ∷ xs) d = go (eqb x c) (desc-left x c xs d.1)
  where
    go : (b : Bool) → DescP x (left_n c xs) → DescP k (pick b (x ∷ xs) (left_n c xs))
    go true h = d
    go false h = desc-up x k (left_n c xs) (omega (arith, d.0)) h

pub on-less : (k e : ℕ) (P : List ℕ) → DescP k P → OnN e P → e < k
on-less k e [] d o = absurd o
on-less k e (x ∷ xs) d (inl q) = omega (arith, d.0)
on-less k e (x ∷ xs) d (inr o) = let h = on-less x e xs d.1 o.1 in omega (arith, d.0)

pub on-left : (k e c : ℕ) (P : List ℕ) → DescP k P → OnN e P → OnN c P → e ≤ c → OnN e (left_n c P)
on-left k e c [] d oe oc l = absurd oe
on-left k e c (x ∷ xs) d oe (inl q) l = rw (eq-eqb x c q) oe
on-left k e c (x ∷ xs) d (inl p) (inr oc) l = absurd (let h = on-less x c xs d.1 oc.1 in omega arith)
on-left k e c (x ∷ xs) d (inr oe) (inr oc) l = rw (ne_eqb x c oc.0) (on-left x e c xs d.1 oe.1 oc.1 l)

nest-on : (P : List ℕ) (c : ℕ) (st : List ℕ) → Nest P c st → OnN c P
nest-on P c [] h = absurd h
nest-on P c (e ∷ []) h = h.0
nest-on P c (e ∷ f ∷ st) h = h.0

-- a node comes under c
nest-keep : (k c : ℕ) (P : List ℕ) → DescP k P → OnN c P → (x : ℕ) (st : List ℕ) → Nest P x st → x ≤ c → Nest (k ∷ left_n c P) x st
nest-keep k c P d oc x [] h l = absurd h
nest-keep k c P d oc x (e ∷ []) h l = (inr ((λ q. let z = on-less k x P d h.0 in omega arith), on-left k x c P d h.0 oc l), h.1)
nest-keep k c P d oc x (e ∷ f ∷ st) h l = (
  inr ((λ q. let z = on-less k x P d h.0 in omega arith), on-left k x c P d h.0 oc l),
  h.1,
  nest-keep k c P d oc e (f ∷ st) h.2 (omega (arith, h.1)),
)

nest-push : (k c : ℕ) (P : List ℕ) (st : List ℕ) → DescP k P → Nest P c st → Nest (k ∷ left_n c P) k st
nest-push k c P [] d h = absurd h
nest-push k c P (e ∷ []) d h = (inl refl, h.1)
nest-push k c P (e ∷ f ∷ st) d h =
    (inl refl, (let z = on-less k e P d (nest-on P e (f ∷ st) h.2) in omega arith), nest-keep k c P d h.0 e (f ∷ st) h.2 h.1)

-- ---- the invariant, at the depth d + 1, and at the end

abbrev WInv : ℕ → ℕ → Walk → Type 0
WInv base d (walk cur st g ds) = GoodR base ds × DescP (base + length ds) (path_r base ds) × Nest (path_r base ds) cur st × (length st ≡ suc d)
WInv base d (halted ns) = ⊥
WInv base d (stopped n) = Unit {0}

abbrev pub FInv : ℕ → Walk → Type 0
FInv base (walk cur st g []) = Unit {0}
FInv base (walk cur st g (n ∷ ns)) = GoodR base (n ∷ ns) × DescP (base + length (n ∷ ns)) (path_r base (n ∷ ns))
FInv base (halted ns) = ⊥
FInv base (stopped n) = Unit {0}

module _ (base : ℕ) where
  w-start : (d cur : ℕ) (st : List ℕ) (g : Bool) (ds : List Node) → WInv base d (walk cur st g ds) → WInv base (suc d) (opens false cur st ds)
  w-start d cur [] g ds h = absurd h.2
  w-start d cur (p ∷ st) g ds h = go (children p ds)
    where
      go : (b : Bool) → WInv base (suc d) (pick b (walk cur (cur ∷ p ∷ st) false ds) (stopped UnexpectedGameTreeStart))
      go true = (h.0, h.1, (nest-on (path_r base ds) cur (p ∷ st) h.2, omega arith, h.2), omega (arith, h.3))
      go false = tt

  w-last : (cur : ℕ) (st : List ℕ) (g : Bool) (ds : List Node) → WInv base 0 (walk cur st g ds) → FInv base (closes false cur st ds)
  w-last cur [] g ds h = absurd h.2
  w-last cur (e ∷ st) g [] h = absurd h.0
  w-last cur (e ∷ st) g (n ∷ ns) h = (h.0, h.1)

  w-end : (d cur : ℕ) (st : List ℕ) (g : Bool) (ds : List Node) → WInv base (suc d) (walk cur st g ds) → WInv base d (closes false cur st ds)
  w-end d cur [] g ds h = absurd h.2
  w-end d cur (e ∷ []) g ds h = absurd (omega (arith, h.3))
  w-end d cur (e ∷ f ∷ st) g ds h = (h.0, h.1, h.2.2, omega (arith, h.3))

  w-node : (d cur : ℕ) (st : List ℕ) (g : Bool) (ds : List Node) → WInv base d (walk cur st g ds)
      → WInv base d (walk (base + length ds) st true (record { parent = cur; props = [] } ∷ ds))
  w-node d cur st g [] h = absurd h.0
  w-node d cur st g (m ∷ ds) h = (
    (nest-on (path_r base (m ∷ ds)) cur st h.2, h.0),
    (omega arith, desc-left (base + length (m ∷ ds)) cur (path_r base (m ∷ ds)) h.1),
    nest-push (base + length (m ∷ ds)) cur (path_r base (m ∷ ds)) st h.1 h.2,
    h.3,
  )

  w-adds : (d : ℕ) (p : Prop) (cur : ℕ) (st : List ℕ) (g : Bool) (ds : List Node) → WInv base d (walk cur st g ds) → WInv base d (adds false p cur st ds)
  w-adds d p cur st g [] h = absurd h.0
  w-adds d p cur st g (n ∷ []) h = h
  w-adds d p cur st g (n ∷ m ∷ ds) h = h

  w-gated : (d : ℕ) (p : Prop) (cur : ℕ) (st : List ℕ) (g : Bool) (ds : List Node) → WInv base d (walk cur st g ds) → WInv base d (gated false g p cur st ds)
  w-gated d p cur st false ds h = tt
  w-gated d p cur st true ds h = w-adds d p cur st true ds h

  stopped-run : (n : Reason) (ts : List Tok) → walked false base (stopped n) ts ≡ stopped n
  stopped-run n [] = refl
  stopped-run n (t ∷ ts) = stopped-run n ts

  w-stopped : (n : Reason) (ts : List Tok) → FInv base (walked false base (stopped n) ts)
  w-stopped n ts = subst (FInv base) (sym (stopped-run n ts)) tt

  w-run : (d : ℕ) (w : Walk) (ts : List Tok) → Closes d ts → WInv base d w → FInv base (walked false base w ts)
  w-run d w [] k h = absurd k
  w-run d (halted ns) (t ∷ ts) k h = absurd h
  w-run d (stopped n) (t ∷ ts) k h = w-stopped n ts
  w-run d (walk cur st g ds) (start o ∷ ts) k h = w-run (suc d) (opens false cur st ds) ts k (w-start d cur st g ds h)
  w-run zero (walk cur st g ds) (end o ∷ ts) k h =
      subst (λ (z : List Tok). FInv base (walked false base (closes false cur st ds) z)) (sym k) (w-last cur st g ds h)
  w-run (suc d) (walk cur st g ds) (end o ∷ ts) k h = w-run d (closes false cur st ds) ts k (w-end d cur st g ds h)
  w-run d (walk cur st g ds) (node o ∷ ts) k h = w-run d (walk (base + length ds) st true (record { parent = cur; props = [] } ∷ ds)) ts k (w-node d cur st g ds h)
  w-run d (walk cur st g ds) (prop p e ∷ ts) k h = w-run d (gated false g p cur st ds) ts k (w-gated d p cur st g ds h)

  -- A SLICE THAT BEGINS WITH `(`
  pub w-slice : (o : ℕ) (ts : List Tok) → Closes 0 ts → FInv base (walked false base (walk none [] false []) (start o ∷ ts))
  w-slice o [] k = absurd k
  w-slice o (start o' ∷ ts) k = w-stopped UnexpectedGameTreeStart ts
  w-slice o (end o' ∷ ts) k = subst (λ (z : List Tok). FInv base (walked false base (walk none [] false []) z)) (sym k) tt
  w-slice o (node o' ∷ ts) k =
      w-run 0 (walk (base + 0) (none ∷ []) true (record { parent = none; props = [] } ∷ [])) ts k (refl, (omega arith, tt), (inl refl, refl), refl)
  w-slice o (prop p e ∷ ts) k = w-stopped UnexpectedProperty ts
