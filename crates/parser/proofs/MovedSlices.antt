-- Tokens with their places moved: the same slices, with their places moved. Assumes nothing.
use Rattle.lists.proofs.Prelude.{◌≡◌, refl, ap, ◌∙◌, ℕ, zero, suc, Bool, true, false, List, [], ◌∷◌, map, reverse, reverse_aux, ltb, pick}
use Rattle.lexer.specs.Move.{move_tok}
use Rattle.lexer.specs.Token.{Tok, end, node, prop, start}
use Rattle.parser.specs.Split.{Slices, Splitting, ended, filled, no, over, sliced, slices, split, splits, splitting, wrong}
use Rattle.tables.specs.Numbers.{depth_limit}
use Rattle.tables.specs.declared.Reason.TheVariants.{TooDeep}

map_reverse_aux : {A B : Type 0} (f : A → B) (xs ys : List A) → map f (reverse_aux xs ys) ≡ reverse_aux (map f xs) (map f ys)
map_reverse_aux f [] ys = refl
map_reverse_aux f (x ∷ xs) ys = map_reverse_aux f xs (x ∷ ys)

pub map-reverse : {A B : Type 0} (f : A → B) (xs : List A) → map f (reverse xs) ≡ reverse (map f xs)
map-reverse f xs = map_reverse_aux f xs []

module _ (f g : ℕ → ℕ) (h : ℕ → List ℕ → List ℕ) where
  abbrev F : Tok → Tok
  F = move_tok f g h

  abbrev pub move_sp : Splitting → Splitting
  move_sp (splitting d m cur ss) = splitting d m (map F cur) (map (map F) ss)
  move_sp (over m ss) = over m (map (map F) ss)
  move_sp (wrong n) = wrong n

  move-ended : (len : Bool) (d m : ℕ) (t : Tok) (cur : List Tok) (ss : List (List Tok))
      → ended len d m (F t) (map F cur) (map (map F) ss) ≡ move_sp (ended len d m t cur ss)
  move-ended true zero m t cur ss = refl
  move-ended false zero m t cur ss = refl
  move-ended len (suc zero) m t cur ss = rw (map-reverse F (t ∷ cur))
  move-ended len (suc (suc d)) m t cur ss = refl

  move-splits : (len : Bool) (s : Splitting) (t : Tok) → splits len (move_sp s) (F t) ≡ move_sp (splits len s t)
  move-splits len (splitting d m cur ss) (start o) = refl
  move-splits len (splitting d m cur ss) (end o) = move-ended len d m (end o) cur ss
  move-splits len (splitting d m cur ss) (node o) = refl
  move-splits len (splitting d m cur ss) (prop p e) = refl
  move-splits len (over m ss) t = refl
  move-splits len (wrong n) t = refl

  pub move-split : (len : Bool) (s : Splitting) (ts : List Tok) → split len (move_sp s) (map F ts) ≡ move_sp (split len s ts)
  move-split len s [] = refl
  move-split len s (t ∷ ts) = ap (λ (z : Splitting). split len z (map F ts)) (move-splits len s t) ∙ move-split len (splits len s t) ts

  abbrev pub move_slices : Slices → Slices
  move_slices (no n) = no n
  move_slices (slices ss) = slices (map (map F) ss)

  move-deep : (b : Bool) (ss : List (List Tok)) → pick b (no TooDeep) (slices (map (map F) ss)) ≡ move_slices (pick b (no TooDeep) (slices ss))
  move-deep true ss = refl
  move-deep false ss = refl

  move-filled : (len : Bool) (m : ℕ) (ss : List (List Tok)) → filled len m (map (map F) ss) ≡ move_slices (filled len m ss)
  move-filled true m [] = refl
  move-filled false m [] = refl
  move-filled len m (s ∷ ss) = rw (← map-reverse (map F) (s ∷ ss)) (move-deep (ltb depth_limit m) (reverse (s ∷ ss)))

  pub move-sliced : (len : Bool) (s : Splitting) → sliced len (move_sp s) ≡ move_slices (sliced len s)
  move-sliced len (splitting zero m cur ss) = move-filled len m ss
  move-sliced true (splitting (suc d) m cur ss) =
      rw (← map-reverse F cur, ← map-reverse (map F) (reverse cur ∷ ss)) (move-deep (ltb depth_limit m) (reverse (reverse cur ∷ ss)))
  move-sliced false (splitting (suc d) m cur ss) = refl
  move-sliced len (over m ss) = move-filled len m ss
  move-sliced len (wrong n) = refl
