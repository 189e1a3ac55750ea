-- The nodes of a slice stand in order, strict or lenient, whatever the slice begins with: each parent is open when its child comes. Assumes nothing.
use Rattle.lists.proofs.Prelude.{◌≡◌, refl, ◌⊎◌, inl, inr, ℕ, ◌+◌, ◌≤◌, ◌<◌, arith, Bool, false, List, [], ◌∷◌, ◌++◌, reverse_aux, length}
use Rattle.lists.specs.All.{All}
use Rattle.lexer.specs.Token.{Prop, Tok}
use Rattle.tables.specs.Numbers.{none}
use Rattle.tables.specs.Record.{Node}
use Rattle.parser.specs.LocalsSlice.{slice_from}
use Rattle.reader_laws.proofs.Grown.{walk_of, in_order}
use Rattle.reader_laws.proofs.Walks.{Kept, keep-walk}
use Rattle.reader_laws.proofs.Sizes.{walk-few}
use Rattle.reader_laws.proofs.Firsts.{Child, RootFirst, slice_first}
use Rattle.serialize_laws.proofs.Nested.{OnN, left_n, path_r, GoodR, DescP, desc-left, on-less, on-left}

-- the nodes, last first: only the first of all has no parent
abbrev FirstOnly : List Node → Type 0
FirstOnly [] = Unit {0}
FirstOnly (n ∷ []) = n.parent ≡ none
FirstOnly (n ∷ m ∷ ns) = (n.parent ≡ none → ⊥) × FirstOnly (m ∷ ns)

-- none, or open
abbrev Stands : List ℕ → ℕ → Type 0
Stands P c = (c ≡ none) ⊎ ((c ≡ none → ⊥) × OnN c P)

-- none, or not above c
abbrev Under : ℕ → ℕ → Type 0
Under c e = (e ≡ none) ⊎ ((c ≡ none → ⊥) × (e ≤ c))

-- the current node and the stack: each stands, and falls
abbrev Line : List ℕ → ℕ → List ℕ → Type 0
Line P c [] = Stands P c
Line P c (e ∷ st) = Stands P c × Under c e × Line P e st

-- nothing but none
abbrev Blank : List ℕ → Type 0
Blank [] = Unit {0}
Blank (e ∷ st) = (e ≡ none) × Blank st

line-stands : (P : List ℕ) (c : ℕ) (st : List ℕ) → Line P c st → Stands P c
line-stands P c [] h = h
line-stands P c (e ∷ st) h = h.0

line-push : (P : List ℕ) (c : ℕ) (st : List ℕ) → Line P c st → Line P c (c ∷ st)
line-push P c st h = (line-stands P c st h, self c (line-stands P c st h), h)
  where
    self : (c : ℕ) → Stands P c → Under c c
    self c (inl e) = inl e
    self c (inr z) = inr (z.0, omega arith)

line-pop : (P : List ℕ) (c e : ℕ) (st : List ℕ) → Line P c (e ∷ st) → Line P e st
line-pop P c e st h = h.2

line-blank : (P : List ℕ) (c : ℕ) (st : List ℕ) → Stands P c → Blank st → Line P c st
line-blank P c [] s b = s
line-blank P c (e ∷ st) s b = (s, inl b.0, line-blank P e st (inl b.0) b.1)

module _ (k c : ℕ) (P : List ℕ) (d : DescP k P) (oc : OnN c P) (cn : c ≡ none → ⊥) where
  -- what stands and is not above c stands when a node comes under c
  stands-keep : (x : ℕ) → Under c x → Stands P x → Stands (k ∷ left_n c P) x
  stands-keep x u (inl e) = inl e
  stands-keep x (inl e) (inr s) = inl e
  stands-keep x (inr u) (inr s) = inr (s.0, inr ((λ q. let z = on-less k x P d s.1 in omega arith), on-left k x c P d s.1 oc u.1))

  under-trans : (x e : ℕ) → Under c x → Under x e → Under c e
  under-trans x e u (inl q) = inl q
  under-trans x e (inl w) (inr q) = absurd (q.0 w)
  under-trans x e (inr u) (inr q) = inr (cn, omega (arith, u.1, q.1))

  line-keep : (x : ℕ) (st : List ℕ) → Under c x → Line P x st → Line (k ∷ left_n c P) x st
  line-keep x [] u h = stands-keep x u h
  line-keep x (e ∷ st) u h = (stands-keep x u h.0, h.1, line-keep e st (under-trans x e u h.1) h.2)

  -- under the new node
  under-new : (e : ℕ) → k < none → Stands P c → Under c e → Under k e
  under-new e b s (inl q) = inl q
  under-new e b s (inr q) = let z = on-less k c P d oc in inr ((λ w. omega arith), omega (arith, q.1))

  line-join : (st : List ℕ) → k < none → Line P c st → Line (k ∷ left_n c P) k st
  line-join [] b h = inr ((λ w. omega arith), inl refl)
  line-join (e ∷ st) b h = (inr ((λ w. omega arith), inl refl), under-new e b h.0 h.1, line-keep e st h.1 h.2)

-- of the walk
module _ (base : ℕ) where
  abbrev Inv : ℕ → List ℕ → List Node → Type 0
  Inv cur st [] = (cur ≡ none) × Blank st
  Inv cur st (n ∷ ns) = GoodR base (n ∷ ns) × DescP (base + length (n ∷ ns)) (path_r base (n ∷ ns)) × Line (path_r base (n ∷ ns)) cur st

  -- the nodes so far are in order
  abbrev pub Ordered : List Node → Type 0
  Ordered [] = Unit {0}
  Ordered (n ∷ ns) = GoodR base (n ∷ ns) × DescP (base + length (n ∷ ns)) (path_r base (n ∷ ns))

  abbrev Order : List Node → Type 0
  Order ns = FirstOnly ns → base + length ns ≤ none → Ordered ns

  abbrev Orders : ℕ → List ℕ → List Node → Type 0
  Orders cur st ns = FirstOnly ns → base + length ns ≤ none → Inv cur st ns

  inv-push : (cur : ℕ) (st : List ℕ) (ns : List Node) → Inv cur st ns → Inv cur (cur ∷ st) ns
  inv-push cur st [] h = (h.0, (h.0, h.1))
  inv-push cur st (n ∷ ns) h = (h.0, h.1, line-push (path_r base (n ∷ ns)) cur st h.2)

  inv-pop : (cur p : ℕ) (st : List ℕ) (ns : List Node) → Inv cur (p ∷ st) ns → Inv p st ns
  inv-pop cur p st [] h = (h.1.0, h.1.1)
  inv-pop cur p st (n ∷ ns) h = (h.0, h.1, line-pop (path_r base (n ∷ ns)) cur p st h.2)

  on_of : (P : List ℕ) (c : ℕ) → (c ≡ none → ⊥) → Stands P c → OnN c P
  on_of P c n (inl e) = absurd (n e)
  on_of P c n (inr s) = s.1

  inv-join : (cur : ℕ) (st : List ℕ) (ns : List Node) → Orders cur st ns → Orders (base + length ns) st (record { parent = cur; props = [] } ∷ ns)
  inv-join cur st [] h f b =
      let r = h tt (omega arith) in
      (r.0, (omega arith, tt), line-blank ((base + 0) ∷ []) (base + 0) st (inr ((λ w. omega arith), inl refl)) r.1)
  inv-join cur st (m ∷ ns) h f b =
      let r = h f.1 (omega arith) in
      let P : List ℕ = path_r base (m ∷ ns) in
      let k : ℕ = base + length (m ∷ ns) in
      let oc : OnN cur P = on_of P cur f.0 (line-stands P cur st r.2) in (
        (oc, r.0),
        (omega arith, desc-left (base + length (m ∷ ns)) cur (path_r base (m ∷ ns)) r.1),
        line-join (base + length (m ∷ ns)) cur (path_r base (m ∷ ns)) r.1 oc f.0 st (omega arith) r.2,
      )

  first_any : (ps qs : List Prop) (p : ℕ) (ns : List Node) → FirstOnly (record { parent = p; props = ps } ∷ ns) → FirstOnly (record { parent = p; props = qs } ∷ ns)
  first_any ps qs p [] h = h
  first_any ps qs p (m ∷ ns) h = h

  inv-any : (ps qs : List Prop) (p cur : ℕ) (st : List ℕ) (ns : List Node) → Inv cur st (record { parent = p; props = ps } ∷ ns)
      → Inv cur st (record { parent = p; props = qs } ∷ ns)
  inv-any ps qs p cur st [] h = h
  inv-any ps qs p cur st (m ∷ ns) h = h

  inv-over : (cur : ℕ) (st : List ℕ) (ns : List Node) → Inv cur st ns → Ordered ns
  inv-over cur st [] h = tt
  inv-over cur st (n ∷ ns) h = (h.0, h.1)

  orders : Kept base (λ ts cur st g ns. Orders cur st ns) Order
  orders =
      record {
        opening = λ {o} {cur} {ts} {st} {g} {ns} m h f b. inv-push cur st ns (h f b);
        closing = λ {o} {cur} {p} {ts} {st} {g} {ns} h f b. inv-pop cur p st ns (h f b);
        joining = λ {o} {cur} {ts} {st} {g} {ns} h f b. inv-join cur st ns h f b;
        adding = λ {cur} {e} {p} {ts} {st} {n} {ns} h f b.
            inv-any n.props (n.props ++ (p ∷ [])) n.parent cur st ns (h (first_any (n.props ++ (p ∷ [])) n.props n.parent ns f) b);
        over = λ {cur} {ts} {st} {g} {ns} h f b. inv-over cur st ns (h f b);
        without = λ f b. tt;
      }

  walk-orders : (len : Bool) (s : List Tok) → Order (walk_of len base s)
  walk-orders len s = keep-walk orders len none [] false [] s (λ f b. (refl, tt))

  -- ---- from the root that is first to the nodes, last first

  rest-children : (m : Node) (ns acc : List Node) → RootFirst (reverse_aux (m ∷ ns) acc) → All Child acc
  rest-children m [] acc h = h.1
  rest-children m (x ∷ ns) acc h = (rest-children x ns (m ∷ acc) h).1

  first-only : (ns acc : List Node) → RootFirst (reverse_aux ns acc) → FirstOnly ns
  first-only [] acc h = tt
  first-only (n ∷ []) acc h = h.0
  first-only (n ∷ m ∷ ns) acc h = ((rest-children m ns (n ∷ acc) h).0, first-only (m ∷ ns) (n ∷ acc) h)

  -- the nodes of a slice
  pub slice-ordered : (len : Bool) (us : List Tok) → base + length (slice_from 0 us) ≤ none → Ordered (walk_of len base (slice_from 0 us))
  slice-ordered len us b = go (walk_of len base (slice_from 0 us)) (slice_first len base us b) (walk-orders len (slice_from 0 us)) (walk-few len base (slice_from 0 us))
    where
      go : (ns : List Node) → RootFirst (in_order ns) → Order ns → length ns ≤ length (slice_from 0 us) → Ordered ns
      go [] r o l = tt
      go (n ∷ ns) r o l = o (first-only (n ∷ ns) [] r) (omega arith)
