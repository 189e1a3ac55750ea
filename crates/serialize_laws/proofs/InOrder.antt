-- From the nodes, last first, to the nodes in order, as the writer asks it. Assumes nothing.
use Rattle.lists.proofs.Prelude.{◌≡◌, refl, sym, ap, ◌∙◌, subst, inl, inr, ℕ, suc, ◌+◌, ◌<◌, arith, Bool, true, false, List, [], ◌∷◌, reverse_aux, eqb, length, pick}
use Rattle.serialize.proofs.Branches.{opening, On, Good}
use Rattle.serialize.specs.LocalsWrite.{Open, path_left}
use Rattle.tables.specs.Record.{Node}
use Rattle.serialize_laws.proofs.Nested.{OnN, left_n, path_r, GoodR}

pub good-tail : (base : ℕ) (xs ys : List Node) → 0 < length ys → GoodR base (reverse_aux xs ys) → GoodR base ys
good-tail base [] ys l h = h
good-tail base (x ∷ xs) [] l h = absurd (omega arith)
good-tail base (x ∷ xs) (y ∷ ys) l h = (good-tail base xs (x ∷ y ∷ ys) (omega arith) h).1

abbrev nums : List Open → List ℕ
nums [] = []
nums (x ∷ xs) = x.num ∷ nums xs

nums-left : (p : ℕ) (path : List Open) → nums (path_left p path) ≡ left_n p (nums path)
nums-left p [] = refl
nums-left p (x ∷ xs) = go (eqb x.num p) (nums-left p xs)
  where
    go : (b : Bool) → nums (path_left p xs) ≡ left_n p (nums xs) → nums (pick b (x ∷ xs) (path_left p xs)) ≡ pick b (nums (x ∷ xs)) (left_n p (nums xs))
    go true e = refl
    go false e = e

on-nums : (p : ℕ) (path : List Open) → OnN p (nums path) → On p path
on-nums p [] h = h
on-nums p (x ∷ xs) (inl e) = inl e
on-nums p (x ∷ xs) (inr h) = inr (h.0, on-nums p xs h.1)

pub good-nodes : (base : ℕ) (ps : List ℕ) (path : List Open) (ns : List Node) (d : Node) (ds : List Node)
    → GoodR base (reverse_aux ns (d ∷ ds)) → nums path ≡ path_r base (d ∷ ds) → Good ps (base + suc (length ds)) path ns
good-nodes base ps path [] d ds h e = tt
good-nodes base ps path (n ∷ ns) d ds h e =
    let t = good-tail base ns (n ∷ d ∷ ds) (omega arith) h in
    let k : suc (base + suc (length ds)) ≡ base + suc (suc (length ds)) = omega arith in (
      on-nums n.parent path (subst (OnN n.parent) (sym e) t.0),
      subst (λ (z : ℕ). Good ps z (opening ps (base + suc (length ds)) n.parent ∷ path_left n.parent path) ns) (sym k)
          (good-nodes base ps (opening ps (base + suc (length ds)) n.parent ∷ path_left n.parent path) ns n (d ∷ ds) h
          (ap (λ (z : List ℕ). (base + suc (length ds)) ∷ z) (nums-left n.parent path ∙ ap (left_n n.parent) e))),
    )
