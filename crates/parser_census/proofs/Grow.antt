-- A census that says `Simple` counts the rows of the trees that are read: of each slice, then of all. Assumes nothing.
use Rattle.lists.proofs.Prelude.{ℕ, zero, suc, ◌+◌, ◌≡◌, refl, sym, ap, subst, Bool, true, false, ◌⊎◌, inl, inr, List, [], ◌∷◌, ◌++◌, reverse, arith, add-one, length, length-reverse}
use Rattle.lists.specs.Same.{same}
use Rattle.lists.proofs.Tests.{never}
use Rattle.lexer.specs.Token.{Prop, Tok, start, end, node, prop, End}
use Rattle.tables.specs.Record.{Node}
use Rattle.parser.specs.Game.{GM}
use Rattle.parser.specs.LocalsSlice.{slice_from, rest_from}
use Rattle.parser.specs.Walk.{Walk, walk, walks, opens}
use Rattle.parser.specs.Read.{trees_so_far}
use Rattle.parser_census.specs.LocalsCensus.{on_start, on_end, on_node, on_prop}
use Rattle.parser_census.specs.declared.Mode.{Mode}
use Rattle.parser_census.specs.declared.Mode.TheVariants.{Outside, First, Odd}
use Rattle.parser_census.proofs.Sizes.{props_in, vals_in, props-in-reverse, vals-in-reverse, props-in-more, vals-in-more}
use Rattle.parser_census.proofs.Holds.{Holds, holds-node, holds-start, holds-end, last-outside, holds_prop}
use Rattle.parser_census.proofs.Odds.{Says, odd-never, odd-mode, says-start, says_last, says-end, says_none}
use Rattle.parser_census.proofs.Grown.{Grown, Inside, inside_on, Outer, Begun, Inner, Shown, outer-none, outer_start, begun-node}

-- a node with one property more
abbrev grew : Node → Prop → Node
grew x q = record { parent = x.parent; props = x.props ++ (q ∷ []) }

module _ (ct cn cp cv : ℕ) (e : End) (len : Bool) where
  abbrev On' : Mode → (d t n p v : ℕ) → List Tok → Type 0
  On' = Says ct cn cp cv e

  abbrev Inside' : (t b p0 v0 : ℕ) (w : Walk) (d : ℕ) (ts : List Tok) → Type 0
  Inside' = Inside ct cn cp cv e len

  abbrev Outer' : List Tok → Type 0
  Outer' = Outer ct cn cp cv e len

  abbrev Begun' : List Tok → Type 0
  Begun' = Begun ct cn cp cv e len

  abbrev Inner' : List Tok → Type 0
  Inner' = Inner ct cn cp cv e len

  abbrev Shown' : List Tok → Type 0
  Shown' = Shown ct cn cp cv e len

  -- ---- inside

  module _ (t b p0 v0 cur : ℕ) (st : List ℕ) (g : Bool) (x : Node) (ns : List Node) where
    inner-node : (m : Mode) (d o : ℕ) (ts : List Tok) → Inner' ts → Holds m cur st g (x ∷ ns) → length st ≡ suc d
        → On' m (suc d) t (b + length (x ∷ ns)) (p0 + props_in (x ∷ ns)) (v0 + vals_in (x ∷ ns)) (node o ∷ ts)
        → Inside' t b p0 v0 (walk cur st g (x ∷ ns)) (suc d) (node o ∷ ts)
    unfolding slice_from rest_from
    inner-node m d o ts ih k l h =
        let y : Node = record { parent = cur; props = [] } in
        let q : b + length (x ∷ ns) + 1 ≡ b + length (y ∷ x ∷ ns) = omega arith in
        inside_on ct cn cp cv e len (node o) refl refl refl
        (ih (on_node m) d t b p0 v0 (b + length (x ∷ ns)) st true (record { parent = cur; props = [] }) (x ∷ ns) (holds-node cur (x ∷ ns) m st g (b + length (x ∷ ns)) k) l
        (subst (λ (z : ℕ). On' (on_node m) (suc d) t z (p0 + props_in (x ∷ ns)) (v0 + vals_in (x ∷ ns)) ts) q h))

    inner_start : (m : Mode) (d o : ℕ) (ts : List Tok) → Inner' ts → Holds m cur st g (x ∷ ns) → length st ≡ suc d
        → On' m (suc d) t (b + length (x ∷ ns)) (p0 + props_in (x ∷ ns)) (v0 + vals_in (x ∷ ns)) (start o ∷ ts)
        → Inside' t b p0 v0 (walk cur st g (x ∷ ns)) (suc d) (start o ∷ ts)
    unfolding slice_from rest_from
    inner_start m d o ts ih k l h =
        let s = says-start ct cn cp cv e m (suc d) t (b + length (x ∷ ns)) (p0 + props_in (x ∷ ns)) (v0 + vals_in (x ∷ ns)) o ts h in
        go (holds-start len cur (x ∷ ns) m st g k) (subst (λ (z : ℕ). On' (on_start m) z t (b + length (x ∷ ns)) (p0 + props_in (x ∷ ns)) (v0 + vals_in (x ∷ ns)) ts) (add-one (suc d)) s.1)
      where
        go : (on_start m ≡ Odd) ⊎ ((opens len cur st (x ∷ ns) ≡ walk cur (cur ∷ st) false (x ∷ ns)) × Holds (on_start m) cur (cur ∷ st) false (x ∷ ns))
            → On' (on_start m) (suc (suc d)) t (b + length (x ∷ ns)) (p0 + props_in (x ∷ ns)) (v0 + vals_in (x ∷ ns)) ts
            → Inside' t b p0 v0 (walk cur st g (x ∷ ns)) (suc d) (start o ∷ ts)
        go (inl q) w = odd-mode ct cn cp cv e (on_start m) (suc (suc d)) t (b + length (x ∷ ns)) (p0 + props_in (x ∷ ns)) (v0 + vals_in (x ∷ ns)) ts q w
        go (inr q) w = inside_on ct cn cp cv e len (start o) refl refl q.0 (ih (on_start m) (suc d) t b p0 v0 cur (cur ∷ st) false x ns q.1 (ap suc l) w)

  -- an end that leaves a tree open
  inner-end : (ts : List Tok) → Inner' ts → (m : Mode) (d t b p0 v0 cur y o : ℕ) (st : List ℕ) (g : Bool) (x : Node) (ns : List Node)
      → Holds m cur (y ∷ st) g (x ∷ ns) → length st ≡ suc d
      → On' m (suc (suc d)) t (b + length (x ∷ ns)) (p0 + props_in (x ∷ ns)) (v0 + vals_in (x ∷ ns)) (end o ∷ ts)
      → Inside' t b p0 v0 (walk cur (y ∷ st) g (x ∷ ns)) (suc (suc d)) (end o ∷ ts)
  unfolding slice_from rest_from
  inner-end ts ih m d t b p0 v0 cur y o st g x ns k l h =
      inside_on ct cn cp cv e len (end o) refl refl refl
      (ih (on_end m) d t b p0 v0 y st false x ns (holds-end m cur y st g (x ∷ ns) k) l
      (says-end ct cn cp cv e m d t (b + length (x ∷ ns)) (p0 + props_in (x ∷ ns)) (v0 + vals_in (x ∷ ns)) o ts h))

  -- the end of the slice
  inner_last : (ts : List Tok) → Outer' ts → (m : Mode) (t b p0 v0 cur y o : ℕ) (g : Bool) (x : Node) (ns : List Node)
      → Holds m cur (y ∷ []) g (x ∷ ns)
      → On' m 1 t (b + length (x ∷ ns)) (p0 + props_in (x ∷ ns)) (v0 + vals_in (x ∷ ns)) (end o ∷ ts)
      → Inside' t b p0 v0 (walk cur (y ∷ []) g (x ∷ ns)) 1 (end o ∷ ts)
  unfolding slice_from rest_from
  inner_last ts ih m t b p0 v0 cur y o g x ns k h =
      let s = says_last ct cn cp cv e m 1 t (b + length (x ∷ ns)) (p0 + props_in (x ∷ ns)) (v0 + vals_in (x ∷ ns)) o ts (omega arith) h in
      let s2 = subst (λ (z : Mode). On' z 0 (t + 1) (b + length (x ∷ ns)) (p0 + props_in (x ∷ ns)) (v0 + vals_in (x ∷ ns)) ts) (last-outside m cur (y ∷ []) g (x ∷ ns) k) s in
      let r : Grown ct cn cp cv e len (t + 1) (b + length (x ∷ ns)) (p0 + props_in (x ∷ ns)) (v0 + vals_in (x ∷ ns)) ts = ih (t + 1) (b + length (x ∷ ns)) (p0 + props_in (x ∷ ns)) (v0 + vals_in (x ∷ ns)) s2 in
      let l : length (x ∷ ns) ≡ length (reverse (x ∷ ns)) = sym (length-reverse (x ∷ ns)) in
      let lp : props_in (x ∷ ns) ≡ props_in (reverse (x ∷ ns)) = sym (props-in-reverse (x ∷ ns)) in
      let lv : vals_in (x ∷ ns) ≡ vals_in (reverse (x ∷ ns)) = sym (vals-in-reverse (x ∷ ns)) in
      record {
        es = reverse (x ∷ ns);
        tree = λ k ys. ap (λ (z : ℕ). trees_so_far (b + z) (record { root = b; game = k; nodes = reverse (x ∷ ns) } ∷ ys)) l;
        rest =
            subst (λ (z : ℕ). Grown ct cn cp cv e len (t + 1) (b + length (reverse (x ∷ ns))) (p0 + props_in (reverse (x ∷ ns))) (v0 + z) ts) lv
            (subst (λ (z : ℕ). Grown ct cn cp cv e len (t + 1) (b + length (reverse (x ∷ ns))) (p0 + z) (v0 + vals_in (x ∷ ns)) ts) lp
            (subst (λ (z : ℕ). Grown ct cn cp cv e len (t + 1) (b + z) (p0 + props_in (x ∷ ns)) (v0 + vals_in (x ∷ ns)) ts) l r));
      }

  -- an end, by how many trees are open
  inner-ends : (ts : List Tok) → Outer' ts → Inner' ts → (o : ℕ) → Inner' (end o ∷ ts)
  inner-ends ts ih ij o m d t b p0 v0 cur [] g x ns k l h = absurd (omega (arith, l))
  inner-ends ts ih ij o m zero t b p0 v0 cur (y ∷ []) g x ns k l h = inner_last ts ih m t b p0 v0 cur y o g x ns k h
  inner-ends ts ih ij o m zero t b p0 v0 cur (y ∷ z ∷ st) g x ns k l h = absurd (omega (arith, l))
  inner-ends ts ih ij o m (suc d) t b p0 v0 cur (y ∷ st) g x ns k l h = inner-end ts ij m d t b p0 v0 cur y o st g x ns k (omega (arith, l)) h

  -- ---- a property

  inner-prop : (q : Prop) (o : ℕ) (ts : List Tok) → Inner' ts → Inner' (prop q o ∷ ts)
  unfolding slice_from rest_from
  inner-prop q o ts ih m d t b p0 v0 cur st g x ns k l h = go (holds_prop m (same q.name GM) q cur st g x ns k)
    where
      go : (on_prop m (same q.name GM) q.vals ≡ Odd) ⊎ ((g ≡ true) × Holds (on_prop m (same q.name GM) q.vals) cur st true (grew x q ∷ ns))
          → Inside' t b p0 v0 (walk cur st g (x ∷ ns)) (suc d) (prop q o ∷ ts)
      go (inl r) = odd-mode ct cn cp cv e (on_prop m (same q.name GM) q.vals) (suc d) t (b + length (x ∷ ns)) (p0 + props_in (x ∷ ns) + 1) (v0 + vals_in (x ∷ ns) + length q.vals) ts r h
      go (inr r) =
          let e1 : p0 + props_in (x ∷ ns) + 1 ≡ p0 + props_in (grew x q ∷ ns) = omega (arith, props-in-more x q ns) in
          let e2 : v0 + vals_in (x ∷ ns) + length q.vals ≡ v0 + vals_in (grew x q ∷ ns) = omega (arith, vals-in-more x q ns) in
          let w : walks len b (walk cur st g (x ∷ ns)) (prop q o) ≡ walk cur st true (grew x q ∷ ns) = ap (λ (z : Bool). walks len b (walk cur st z (x ∷ ns)) (prop q o)) r.0 in
          inside_on ct cn cp cv e len (prop q o) refl refl w
          (ih (on_prop m (same q.name GM) q.vals) d t b p0 v0 cur st true (grew x q) ns r.1 l
          (subst (λ (z : ℕ). On' (on_prop m (same q.name GM) q.vals) (suc d) t (b + length (grew x q ∷ ns)) (p0 + props_in (grew x q ∷ ns)) z ts) e2
          (subst (λ (z : ℕ). On' (on_prop m (same q.name GM) q.vals) (suc d) t (b + length (grew x q ∷ ns)) z (v0 + vals_in (x ∷ ns) + length q.vals) ts) e1 h)))

  -- ---- all tokens

  -- nothing stands in a tree at the end
  inner-none : Inner' []
  inner-none m d t b p0 v0 cur st g x ns k l h =
      let s = says_none ct cn cp cv e m (suc d) t (b + length (x ∷ ns)) (p0 + props_in (x ∷ ns)) (v0 + vals_in (x ∷ ns)) h in
      absurd (subst (λ (z : Mode). Holds z cur st g (x ∷ ns)) s.0 k)

  begun-none : Begun' []
  begun-none t n p v h = let s = says_none ct cn cp cv e First 1 t n p v h in first-not s.0
    where
      first-not : {A : Type 0} → First ≡ Outside → A
      first-not q = never cc

  pub shown : (ts : List Tok) → Shown' ts
  shown [] = record { outer = outer-none ct cn cp cv e len; begun = begun-none; inner = inner-none }
  shown (start o ∷ ts) =
      let i = shown ts in
      record {
        outer = outer_start ct cn cp cv e len o ts i.begun;
        begun = λ t n p v h. odd-never ct cn cp cv e 2 t n p v ts (says-start ct cn cp cv e First 1 t n p v o ts h).1;
        inner = λ m d t b p0 v0 cur st g x ns k l h. inner_start t b p0 v0 cur st g x ns m d o ts i.inner k l h;
      }
  shown (end o ∷ ts) =
      let i = shown ts in
      record {
        outer = λ t n p v h. odd-never ct cn cp cv e 0 (t + 1) n p v ts (says_last ct cn cp cv e Outside 0 t n p v o ts (omega arith) h);
        begun = λ t n p v h. odd-never ct cn cp cv e 0 (t + 1) n p v ts (says_last ct cn cp cv e First 1 t n p v o ts (omega arith) h);
        inner = inner-ends ts i.outer i.inner o;
      }
  shown (node o ∷ ts) =
      let i = shown ts in
      record {
        outer = λ t n p v h. odd-never ct cn cp cv e 0 t (n + 1) p v ts h;
        begun = begun-node ct cn cp cv e len o ts i.inner;
        inner = λ m d t b p0 v0 cur st g x ns k l h. inner-node t b p0 v0 cur st g x ns m d o ts i.inner k l h;
      }
  shown (prop q o ∷ ts) =
      let i = shown ts in
      record {
        outer = λ t n p v h. odd-never ct cn cp cv e 0 t n (p + 1) (v + length q.vals) ts h;
        begun = λ t n p v h. odd-never ct cn cp cv e 1 t n (p + 1) (v + length q.vals) ts h;
        inner = inner-prop q o ts i.inner;
      }
