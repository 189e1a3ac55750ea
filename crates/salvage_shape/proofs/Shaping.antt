-- The shape so far, node by node: the spine of the nodes that have come. Assumes nothing.
use Rattle.lists.proofs.Prelude.{◌≡◌, refl, sym, ap, ◌∙◌, subst, ℕ, suc, ◌+◌, ◌≤◌, ◌<◌, arith, Bool, true, false, List, [], ◌∷◌, reverse, length}
use Rattle.tables.specs.Numbers.{none}
use Rattle.serialize.specs.LocalsWrite.{times}
use Rattle.salvage_shape.specs.LocalsShape.{Fork, shut_to, leaf, Heads, height_of, shape_depth, brackets_of}
use Rattle.salvage_shape.specs.LocalsChain.{height_limit, no_chain, joined_to, ended_by, brackets_more, close_all}
use Rattle.salvage_shape.specs.declared.Chain.{Chain}
use Rattle.salvage_shape.proofs.Spines.{Falls, Off, Counts, Unborn, falls-shut, falls-push, counts-shut, counts-push, unborn-push, height-shut}
use Rattle.salvage_shape.proofs.Chains.{Stands, shut-heads, close-all, stands-end, stands-new, stands-more, stands-kids}
use Rattle.salvage_shape.proofs.Loads.{load, load-shut, height-low, up-brackets}
use Rattle.salvage_shape.proofs.Siblings.{brackets-more, brackets-reverse}
use Rattle.salvage_shape.proofs.Latest.{spine_r, MeetsR, spine-forward, shut-again}

-- ---- the shape so far

-- ds: the parents of the nodes that have come, the last first; cur: the current node; the lists that are open; how many nodes stand in brackets
pub record Shaped (base : ℕ) (ds : List ℕ) (cur : ℕ) (f : Bool) (c : Chain) (st : List ℕ) (ms : List Bool) (es : List Chain) (brackets : ℕ) : Type 0 where
  pub r : Fork
  pub rs : List Fork
  pub is : shut_to cur (spine_r base ds) ≡ r ∷ rs
  pub num : r.num ≡ cur
  pub falls : Falls (base + length ds) (spine_r base ds)
  pub counts : Counts ds (spine_r base ds)
  pub unborn : Unborn (base + length ds) ds
  pub light : load (spine_r base ds) ≤ suc (length ds)
  pub meets : MeetsR base ds
  pub stands : Stands f c st ms es r rs
  pub sum : brackets ≡ brackets_of ds

pub shaped-first : (base : ℕ) → Shaped base [] none false no_chain [] [] [] 0
shaped-first base =
    record {
      r = leaf none;
      rs = [];
      is = refl;
      num = refl;
      falls = refl;
      counts = (refl, tt);
      unborn = λ x a b. refl;
      light = omega arith;
      meets = tt;
      stands = record { kids = refl; high = refl; climb = λ x. omega arith };
      sum = refl;
    }

module _ {base : ℕ} {ds : List ℕ} {cur : ℕ} {f : Bool} {c : Chain} {st : List ℕ} {ms : List Bool} {es : List Chain} {brackets : ℕ} (x : Shaped base ds cur f c st ms es brackets)
    (few : base + length ds < none) (low : suc (length ds) ≤ height_limit) where
  now-falls : Falls (base + length ds) (x.r ∷ x.rs)
  now-falls = subst (Falls (base + length ds)) x.is (falls-shut cur (base + length ds) (spine_r base ds) x.falls)

  now-counts : Counts ds (x.r ∷ x.rs)
  now-counts = subst (Counts ds) x.is (counts-shut cur ds (spine_r base ds) x.counts)

  now-light : load (x.r ∷ x.rs) ≤ suc (length ds)
  now-light = let a : load (shut_to cur (spine_r base ds)) ≡ load (x.r ∷ x.rs) = ap load x.is in let b = load-shut cur (spine_r base ds) in let d = x.light in omega (arith, a, b, d)

  -- ---- a start

  pub shaped-start : (e : Chain) → Shaped base ds cur true c (cur ∷ st) (f ∷ ms) (e ∷ es) brackets
  shaped-start e =
      record {
        r = x.r;
        rs = x.rs;
        is = x.is;
        num = x.num;
        falls = x.falls;
        counts = x.counts;
        unborn = x.unborn;
        light = x.light;
        meets = x.meets;
        stands = (x.num, x.stands);
        sum = x.sum;
      }

  -- ---- a node

  now-heads : Heads cur (shut_to cur (spine_r base ds))
  now-heads = subst (Heads cur) (sym x.is) x.num

  shaped-node : {g : Chain} {tt2 : List ℕ} {ms2 : List Bool} {es2 : List Chain} → Stands false g tt2 ms2 es2 (leaf (base + length ds)) (x.r ∷ x.rs)
      → Shaped base (cur ∷ ds) (base + length ds) false g tt2 ms2 es2 (brackets + brackets_more c.kids)
  shaped-node s =
      let e : base + length (cur ∷ ds) ≡ suc (base + length ds) = omega arith in
      let fa : Falls (base + length ds) (shut_to cur (spine_r base ds)) = falls-shut cur (base + length ds) (spine_r base ds) x.falls in
      record {
        r = leaf (base + length ds);
        rs = x.r ∷ x.rs;
        is = shut-heads (base + length ds) (spine_r base (cur ∷ ds)) refl ∙ ap (λ (z : List Fork). leaf (base + length ds) ∷ z) x.is;
        num = refl;
        falls = subst (λ (z : ℕ). Falls z (spine_r base (cur ∷ ds))) (sym e) (falls-push (base + length ds) (shut_to cur (spine_r base ds)) fa);
        counts = counts-push cur (base + length ds) ds (shut_to cur (spine_r base ds)) now-heads fa few (x.unborn (base + length ds) (omega arith) few) (counts-shut cur ds (spine_r base ds) x.counts);
        unborn = subst (λ (z : ℕ). Unborn z (cur ∷ ds)) (sym e) (unborn-push cur (base + length ds) ds (shut_to cur (spine_r base ds)) now-heads fa x.unborn);
        light = let a = load-shut cur (spine_r base ds) in let b = x.light in omega (arith, a, b);
        meets = (now-heads, x.meets);
        stands = s;
        sum =
            ap (λ (z : ℕ). z + brackets_more c.kids) x.sum
            ∙ ap (λ (z : ℕ). brackets_of ds + brackets_more z) (stands-kids f c st ms es x.r x.rs x.stands)
            ∙ ap (λ (z : ℕ). brackets_of ds + z) (up-brackets x.r.kids ∙ ap brackets_more (sym now-counts.0 ∙ ap (λ (z : ℕ). times z ds) x.num))
            ∙ sym (brackets-more cur ds);
      }

  -- ---- all ends

  pub shaped-depth : suc (close_all f c ms es) ≡ shape_depth base (reverse ds)
  shaped-depth =
      let l = now-light in
      ap suc
      (close-all f c st ms es x.r x.rs (omega (arith, l)) x.stands
      ∙ ap height_of (sym x.is)
      ∙ height-shut cur (spine_r base ds)
      ∙ ap height_of (sym (spine-forward base ds)))

  pub shaped-low : close_all f c ms es ≤ suc (length ds)
  shaped-low =
      let l = now-light in
      let e = close-all f c st ms es x.r x.rs (omega (arith, l)) x.stands in
      let h = height-low x.r x.rs in
      omega (arith, l, e, h)

  pub shaped-brackets : brackets ≡ brackets_of (reverse ds)
  shaped-brackets = x.sum ∙ sym (brackets-reverse ds)

-- a node, into a new list or not
module _ {base : ℕ} {ds : List ℕ} {cur : ℕ} {c : Chain} {brackets : ℕ} (few : base + length ds < none) (low : suc (length ds) ≤ height_limit) where
  pub shaped-new : {p : ℕ} {st : List ℕ} {m : Bool} {ms : List Bool} {e : Chain} {es : List Chain} → Shaped base ds cur true c (p ∷ st) (m ∷ ms) (e ∷ es) brackets
      → Shaped base (cur ∷ ds) (base + length ds) false no_chain (p ∷ st) (m ∷ ms) (c ∷ es) (brackets + brackets_more c.kids)
  shaped-new {p} {st} {m} {ms} {e} {es} x = shaped-node x few low (stands-new (base + length ds) c p st m ms e es x.r x.rs x.stands)

  pub shaped-more : {st : List ℕ} {ms : List Bool} {es : List Chain} → Shaped base ds cur false c st ms es brackets
      → Shaped base (cur ∷ ds) (base + length ds) false (joined_to false c) st ms es (brackets + brackets_more c.kids)
  shaped-more {st} {ms} {es} x =
      let l = now-light x few low in
      shaped-node x few low (stands-more (base + length ds) c st ms es x.r x.rs (omega (arith, l)) x.stands)

  -- ---- an end

  pub shaped-end : {f : Bool} {p : ℕ} {st : List ℕ} {m : Bool} {ms : List Bool} {e : Chain} {es : List Chain} → Shaped base ds cur f c (p ∷ st) (m ∷ ms) (e ∷ es) brackets
      → Shaped base ds p m (ended_by f c e) st ms es brackets
  shaped-end {f} {p} {st} {m} {ms} {e} {es} x =
      let l = now-light x few low in
      let z = stands-end c p st m ms e es x.r x.rs (base + length ds) (omega arith) (now-falls x few low) (omega (arith, l)) f x.stands in
      record {
        r = z.0;
        rs = z.1;
        is = sym (shut-again (base + length ds) cur p (spine_r base ds) (omega arith) x.falls (subst (λ (ys : List Fork). Off p ys → ⊥) (sym x.is) z.5)) ∙ ap (shut_to p) x.is ∙ z.2;
        num = z.3;
        falls = x.falls;
        counts = x.counts;
        unborn = x.unborn;
        light = x.light;
        meets = x.meets;
        stands = z.4;
        sum = x.sum;
      }
