-- Slices: the depth falls to 0 at the last token, and not before. Assumes nothing.
use Rattle.lists.proofs.Prelude.{◌≡◌, refl, sym, subst, ◌⊎◌, inl, inr, ℕ, zero, suc, Bool, true, false, List, [], ◌∷◌, reverse, reverse_aux, ltb, pick}
use Rattle.lexer.specs.Token.{Tok, end, node, prop, start}
use Rattle.lists.proofs.All.{all-reverse}
use Rattle.lists.specs.All.{All}
use Rattle.parser.specs.Split.{Slices, Splitting, filled, no, over, sliced, slices, split, splits, splitting, wrong}
use Rattle.tables.specs.Numbers.{depth_limit}
use Rattle.tables.specs.declared.Reason.TheVariants.{TooDeep}

-- ---- slices: the depth falls to 0 at the last token, and not before

-- from the depth d + 1
abbrev pub Closes : ℕ → List Tok → Type 0
Closes d [] = ⊥
Closes d (start o ∷ ts) = Closes (suc d) ts
Closes zero (end o ∷ ts) = ts ≡ []
Closes (suc d) (end o ∷ ts) = Closes d ts
Closes d (node o ∷ ts) = Closes d ts
Closes d (prop p e ∷ ts) = Closes d ts

abbrev pub SliceOk : List Tok → Type 0
SliceOk [] = Unit {0}
SliceOk (start o ∷ ts) = Closes 0 ts
SliceOk (end o ∷ ts) = Unit {0}
SliceOk (node o ∷ ts) = Unit {0}
SliceOk (prop p e ∷ ts) = Unit {0}

abbrev OkSp : Splitting → Type 0
OkSp (splitting zero m cur ss) = ((cur ≡ []) ⊎ ((ts : List Tok) → SliceOk (reverse_aux cur ts))) × All SliceOk ss
OkSp (splitting (suc d) m cur ss) = ((ts : List Tok) → Closes d ts → SliceOk (reverse_aux cur ts)) × All SliceOk ss
OkSp (over m ss) = All SliceOk ss
OkSp (wrong n) = Unit {0}

-- before the first `(` of a slice
flat : (t : Tok) (cur : List Tok) → ((ts : List Tok) → SliceOk (t ∷ ts)) → (cur ≡ []) ⊎ ((ts : List Tok) → SliceOk (reverse_aux cur ts)) → (ts : List Tok) → SliceOk (reverse_aux cur (t ∷ ts))
flat t cur h (inl e) ts = subst (λ (z : List Tok). SliceOk (reverse_aux z (t ∷ ts))) (sym e) (h ts)
flat t cur h (inr k) ts = k (t ∷ ts)

first-open : (o : ℕ) (cur : List Tok) → (cur ≡ []) ⊎ ((ts : List Tok) → SliceOk (reverse_aux cur ts)) → (ts : List Tok) → Closes 0 ts → SliceOk (reverse_aux cur (start o ∷ ts))
first-open o cur (inl e) ts c = subst (λ (z : List Tok). SliceOk (reverse_aux z (start o ∷ ts))) (sym e) c
first-open o cur (inr k) ts c = k (start o ∷ ts)

ok-splits : (s : Splitting) (t : Tok) → OkSp s → OkSp (splits false s t)
ok-splits (splitting zero m cur ss) (start o) h = (first-open o cur h.0, h.1)
ok-splits (splitting zero m cur ss) (end o) h = tt
ok-splits (splitting zero m cur ss) (node o) h = (inr (flat (node o) cur (λ ts. tt) h.0), h.1)
ok-splits (splitting zero m cur ss) (prop p e) h = (inr (flat (prop p e) cur (λ ts. tt) h.0), h.1)
ok-splits (splitting (suc d) m cur ss) (start o) h = ((λ ts c. h.0 (start o ∷ ts) c), h.1)
ok-splits (splitting (suc zero) m cur ss) (end o) h = (inl refl, (h.0 (end o ∷ []) refl, h.1))
ok-splits (splitting (suc (suc d)) m cur ss) (end o) h = ((λ ts c. h.0 (end o ∷ ts) c), h.1)
ok-splits (splitting (suc d) m cur ss) (node o) h = ((λ ts c. h.0 (node o ∷ ts) c), h.1)
ok-splits (splitting (suc d) m cur ss) (prop p e) h = ((λ ts c. h.0 (prop p e ∷ ts) c), h.1)
ok-splits (over m ss) t h = h
ok-splits (wrong n) t h = tt

ok-split : (s : Splitting) (ts : List Tok) → OkSp s → OkSp (split false s ts)
ok-split s [] h = h
ok-split s (t ∷ ts) h = ok-split (splits false s t) ts (ok-splits s t h)

abbrev pub OkSlices : Slices → Type 0
OkSlices (no n) = Unit {0}
OkSlices (slices ss) = All SliceOk ss

ok-deep : (b : Bool) (ss : List (List Tok)) → All SliceOk ss → OkSlices (pick b (no TooDeep) (slices ss))
ok-deep true ss h = tt
ok-deep false ss h = h

ok-filled : (m : ℕ) (ss : List (List Tok)) → All SliceOk ss → OkSlices (filled false m ss)
ok-filled m [] h = tt
ok-filled m (s ∷ ss) h = ok-deep (ltb depth_limit m) (reverse (s ∷ ss)) (all-reverse SliceOk (s ∷ ss) h)

ok-sliced : (s : Splitting) → OkSp s → OkSlices (sliced false s)
ok-sliced (splitting zero m cur ss) h = ok-filled m ss h.1
ok-sliced (splitting (suc d) m cur ss) h = tt
ok-sliced (over m ss) h = ok-filled m ss h
ok-sliced (wrong n) h = tt

pub ok-tokens : (ts : List Tok) → OkSlices (sliced false (split false (splitting 0 0 [] []) ts))
ok-tokens ts = ok-sliced (split false (splitting 0 0 [] []) ts) (ok-split (splitting 0 0 [] []) ts (inl refl, tt))
