-- A part of a list, as it is lent and as it is written. Assumes nothing.
use Rattle.lists.proofs.Prelude.{ℕ, zero, suc, ◌-◌, List, [], ◌∷◌, ◌≡◌, ap, ◌∙◌, arith, take, drop, slice, take-nil}

pub part_slice : {A : Type 0} (a e : ℕ) (t : List A) → take (e - a) (drop a t) ≡ slice a e t
part_slice zero e t = let q : e - 0 ≡ e = omega arith in ap (λ (n : ℕ). take n t) q
part_slice (suc a) zero t = let q : 0 - suc a ≡ 0 = omega arith in ap (λ (n : ℕ). take n (drop (suc a) t)) q
part_slice (suc a) (suc e) [] = take-nil (suc e - suc a)
part_slice (suc a) (suc e) (x ∷ t) = let q : suc e - suc a ≡ e - a = omega arith in ap (λ (n : ℕ). take n (drop a t)) q ∙ part_slice a e t
