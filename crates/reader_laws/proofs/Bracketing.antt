-- What brackets a slice has: a start and an end, but that the last slice of a lenient reading may lack the end. Assumes nothing.
use Rattle.lists.proofs.Prelude.{◌≡◌, refl, ◌⊎◌, inl, inr, ℕ, zero, suc, ◌+◌, ◌<◌, arith, Bool, true, false, List, [], ◌∷◌, reverse, reverse_aux, ltb, length, length-reverse}
use Rattle.lists.specs.All.{All}
use Rattle.lists.proofs.All.{all-reverse}
use Rattle.lists.proofs.Pick.{pick-elim}
use Rattle.lexer.specs.Token.{Tok, start, end, node, prop}
use Rattle.tables.specs.Numbers.{depth_limit}
use Rattle.parser.specs.Split.{Splitting, splitting, over, wrong, ended, splits, split, Slices, no, slices, deep, filled, sliced, split_by_gametree}
use Rattle.reader_laws.proofs.Weights.{prop_weight, weight}

abbrev pub starts_in : List Tok → ℕ
starts_in [] = 0
starts_in (start o ∷ ts) = suc (starts_in ts)
starts_in (end o ∷ ts) = starts_in ts
starts_in (node o ∷ ts) = starts_in ts
starts_in (prop p e ∷ ts) = starts_in ts

abbrev pub ends_in : List Tok → ℕ
ends_in [] = 0
ends_in (start o ∷ ts) = ends_in ts
ends_in (end o ∷ ts) = suc (ends_in ts)
ends_in (node o ∷ ts) = ends_in ts
ends_in (prop p e ∷ ts) = ends_in ts

-- what nodes and properties weigh
abbrev pub inner : List Tok → ℕ
inner [] = 0
inner (start o ∷ ts) = inner ts
inner (end o ∷ ts) = inner ts
inner (node o ∷ ts) = suc (inner ts)
inner (prop p e ∷ ts) = prop_weight p + inner ts

pub weight-parts : (ts : List Tok) → weight ts ≡ starts_in ts + ends_in ts + inner ts
weight-parts [] = refl
weight-parts (start o ∷ ts) = omega (arith, weight-parts ts)
weight-parts (end o ∷ ts) = omega (arith, weight-parts ts)
weight-parts (node o ∷ ts) = omega (arith, weight-parts ts)
weight-parts (prop p e ∷ ts) = omega (arith, weight-parts ts)

brackets-reverse : (xs ys : List Tok) → (starts_in (reverse_aux xs ys) ≡ starts_in xs + starts_in ys) × (ends_in (reverse_aux xs ys) ≡ ends_in xs + ends_in ys)
brackets-reverse [] ys = (omega arith, omega arith)
brackets-reverse (start o ∷ xs) ys = let h = brackets-reverse xs (start o ∷ ys) in (omega (arith, h.0), omega (arith, h.1))
brackets-reverse (end o ∷ xs) ys = let h = brackets-reverse xs (end o ∷ ys) in (omega (arith, h.0), omega (arith, h.1))
brackets-reverse (node o ∷ xs) ys = let h = brackets-reverse xs (node o ∷ ys) in (omega (arith, h.0), omega (arith, h.1))
brackets-reverse (prop p e ∷ xs) ys = let h = brackets-reverse xs (prop p e ∷ ys) in (omega (arith, h.0), omega (arith, h.1))

-- ---- of the slices

abbrev pub Complete : List Tok → Type 0
Complete s = (0 < starts_in s) × (0 < ends_in s)

-- all complete, but that the last has perhaps only a start
abbrev pub Ending : List (List Tok) → Type 0
Ending [] = ⊥
Ending (s ∷ []) = 0 < starts_in s
Ending (s ∷ u ∷ ss) = Complete s × Ending (u ∷ ss)

complete-ending : (ss : List (List Tok)) → All Complete ss → 0 < length ss → Ending ss
complete-ending [] h l = absurd (omega arith)
complete-ending (s ∷ []) h l = h.0.0
complete-ending (s ∷ u ∷ ss) h l = (h.0, complete-ending (u ∷ ss) h.1 (omega arith))

ending-reverse : (ss : List (List Tok)) (u : List Tok) (us : List (List Tok)) → All Complete ss → Ending (u ∷ us) → Ending (reverse_aux ss (u ∷ us))
ending-reverse [] u us h e = e
ending-reverse (s ∷ ss) u us h e = ending-reverse ss s (u ∷ us) h.1 (h.0, e)

-- strict; lenient, where the one slice without a token stands for none
abbrev pub Parted : Bool → Slices → Type 0
Parted len (no r) = Unit {0}
Parted false (slices ss) = All Complete ss × (0 < length ss)
Parted true (slices ss) = (ss ≡ [] ∷ []) ⊎ Ending ss

-- ---- of splitting

abbrev Balanced : Splitting → Type 0
Balanced (splitting d m cur ss) = (starts_in cur ≡ d + ends_in cur) × All Complete ss
Balanced (over m ss) = All Complete ss
Balanced (wrong r) = Unit {0}

balanced-ended : (len : Bool) (d m o : ℕ) (cur : List Tok) (ss : List (List Tok)) → Balanced (splitting d m cur ss) → Balanced (ended len d m (end o) cur ss)
balanced-ended len zero m o cur ss h = pick-elim Balanced len (λ _. h.1) (λ _. tt)
balanced-ended len (suc zero) m o cur ss h =
    let r = brackets-reverse (end o ∷ cur) [] in
    (refl, ((omega (arith, h.0, r.0), omega (arith, h.0, r.1)), h.1))
balanced-ended len (suc (suc d)) m o cur ss h = (omega (arith, h.0), h.1)

balanced-splits : (len : Bool) (s : Splitting) (t : Tok) → Balanced s → Balanced (splits len s t)
balanced-splits len (splitting d m cur ss) (start o) h = (omega (arith, h.0), h.1)
balanced-splits len (splitting d m cur ss) (end o) h = balanced-ended len d m o cur ss h
balanced-splits len (splitting d m cur ss) (node o) h = h
balanced-splits len (splitting d m cur ss) (prop p e) h = h
balanced-splits len (over m ss) t h = h
balanced-splits len (wrong r) t h = tt

balanced : (len : Bool) (s : Splitting) (ts : List Tok) → Balanced s → Balanced (split len s ts)
balanced len s [] h = h
balanced len s (t ∷ ts) h = balanced len (splits len s t) ts (balanced-splits len s t h)

parted-deep : (len : Bool) (m : ℕ) (ss : List (List Tok)) → Parted len (slices ss) → Parted len (deep m ss)
parted-deep len m ss h = pick-elim (Parted len) (ltb depth_limit m) (λ _. tt) (λ _. h)

parted-all : (len : Bool) (ss : List (List Tok)) → All Complete ss → 0 < length ss → Parted len (slices ss)
parted-all true ss h l = inr (complete-ending ss h l)
parted-all false ss h l = (h, l)

parted-filled : (len : Bool) (m : ℕ) (ss : List (List Tok)) → All Complete ss → Parted len (filled len m ss)
parted-filled true m [] h = inl refl
parted-filled false m [] h = tt
parted-filled len m (s ∷ ss) h =
    parted-deep len m (reverse (s ∷ ss)) (parted-all len (reverse (s ∷ ss)) (all-reverse Complete (s ∷ ss) h) (omega (arith, length-reverse (s ∷ ss))))

parted-sliced : (len : Bool) (s : Splitting) → Balanced s → Parted len (sliced len s)
parted-sliced len (splitting zero m cur ss) h = parted-filled len m ss h.1
parted-sliced true (splitting (suc d) m cur ss) h =
    let r = brackets-reverse cur [] in
    parted-deep true m (reverse (reverse cur ∷ ss)) (inr (ending-reverse ss (reverse cur) [] h.1 (omega (arith, h.0, r.0))))
parted-sliced false (splitting (suc d) m cur ss) h = tt
parted-sliced len (over m ss) h = parted-filled len m ss h
parted-sliced len (wrong r) h = tt

pub slices-parted : (len : Bool) (ts : List Tok) → Parted len (split_by_gametree len ts)
slices-parted len ts = parted-sliced len (split len (splitting 0 0 [] []) ts) (balanced len (splitting 0 0 [] []) ts (refl, tt))
