-- The height along the spine is the most brackets that are open at a node. Assumes nothing.
use Rattle.lists.proofs.Prelude.{◌≡◌, refl, sym, ap, ◌∙◌, subst, ℕ, zero, suc, ◌+◌, ◌≤◌, ◌<◌, max, arith, Bool, true, false, true≢false, false≢true, List, [], ◌∷◌, leb, le-leb, eqb, eqb-false, length, pick, ne_eqb}
use Rattle.tables.specs.Numbers.{none}
use Rattle.serialize.specs.LocalsWrite.{Open, times, bracketed, path_left}
use Rattle.serialize.proofs.Branches.{opening}
use Rattle.serialize_laws.proofs.Resplit.{up, brks}
use Rattle.salvage_depth.proofs.Opened.{highest}
use Rattle.salvage_shape.specs.LocalsShape.{Fork, height_by, high_with, closed_into, shut_from, shut_to, leaf, spine_of, Heads, Meets, height_from, height_of, shape_depth}
use Rattle.salvage_shape.proofs.Spines.{Falls, Off, Counts, Unborn, falls-more, falls-shut, falls-push, falls-off, off-shut, gone, counts-shut, counts-push, unborn-push}

-- what is below a node, in brackets or not
abbrev below : (kids : ℕ) (b : Bool) (high : ℕ) → ℕ
below zero b h = 0
below (suc k) b h = up b h

below-final : (k : ℕ) (b : Bool) (h : ℕ) → b ≡ leb 2 k → below k b h ≡ height_by k h
below-final zero b h e = refl
below-final (suc zero) true h e = absurd (true≢false e)
below-final (suc zero) false h e = refl
below-final (suc (suc k)) true h e = refl
below-final (suc (suc k)) false h e = absurd (false≢true (e ∙ le-leb 2 (suc (suc k)) (omega arith)))

-- one is closed: the arithmetic
pops : (k : ℕ) (b : Bool) (h l x d : ℕ) → max (suc (up b l + x)) (max (suc (l + below k b h)) d) ≡ max (suc (l + up b (high_with k h x))) d
pops zero true h l x d = omega arith
pops zero false h l x d = omega arith
pops (suc k) true h l x d = omega arith
pops (suc k) false h l x d = omega arith

module _ (ps : List ℕ) where
  -- how many open nodes stand in brackets, up to the child of the first
  abbrev level : List Fork → ℕ
  level [] = 0
  level (s ∷ rs) = up (bracketed ps s.num) (level rs)

  -- the most brackets that are open at a node so far
  abbrev most : List Fork → ℕ
  most [] = 0
  most (r ∷ rs) = max (suc (level rs + below r.kids (bracketed ps r.num) r.high)) (most rs)

  module _ (r s : Fork) (rs : List Fork) (e : times r.num ps ≡ r.kids) where
    most-pop : most (r ∷ s ∷ rs) ≡ most (closed_into r s ∷ rs)
    most-pop =
        ap (λ (z : ℕ). max (suc (level (s ∷ rs) + z)) (most (s ∷ rs))) (below-final r.kids (bracketed ps r.num) r.high (ap (leb 2) e))
        ∙ pops s.kids (bracketed ps s.num) s.high (level rs) (height_by r.kids r.high) (most rs)

  -- ---- down to a node

  module _ (q k : ℕ) (qs ds : List ℕ) (h : (x : ℕ) → times x ps ≡ times x ds + times x (q ∷ qs)) (kl : k ≤ none) where
    most-from : (r : Fork) (rs : List Fork) → Falls k (r ∷ rs) → Counts ds (r ∷ rs) → ((x : ℕ) → Off x (shut_from q r rs) → x < k → (q ≡ x → ⊥) → times x (q ∷ qs) ≡ 0)
        → most (shut_from q r rs) ≡ most (r ∷ rs)
    most-from r [] f c g = refl
    most-from r (s ∷ rs) f c g =
        go (eqb r.num q) refl
        (λ e. most-from (closed_into r s) rs (same rs (falls-more r.num k (s ∷ rs) (omega (arith, f.0)) f.1)) c.1 (later e))
      where
        o : Off r.num (closed_into r s ∷ rs)
        o = falls-off r.num r.num (s ∷ rs) f.1 (omega arith) (omega (arith, f.0))

        same : (ys : List Fork) → Falls k (s ∷ ys) → Falls k (closed_into r s ∷ ys)
        same [] z = z
        same (y ∷ ys) z = z

        later : eqb r.num q ≡ false → (x : ℕ) → Off x (shut_from q (closed_into r s) rs) → x < k → (q ≡ x → ⊥) → times x (q ∷ qs) ≡ 0
        later e x a l n = g x (subst (λ (b : Bool). Off x (pick b (r ∷ s ∷ rs) (shut_from q (closed_into r s) rs))) (sym e) a) l n

        go : (b : Bool) → eqb r.num q ≡ b → (eqb r.num q ≡ false → most (shut_from q (closed_into r s) rs) ≡ most (closed_into r s ∷ rs))
            → most (pick b (r ∷ s ∷ rs) (shut_from q (closed_into r s) rs)) ≡ most (r ∷ s ∷ rs)
        go true e i = refl
        go false e i =
            let n : r.num ≡ q → ⊥ = eqb-false r.num q e in
            let z : times r.num (q ∷ qs) ≡ 0 = later e r.num (off-shut q r.num (closed_into r s ∷ rs) o) f.0 (λ w. n (sym w)) in
            i e ∙ sym (most-pop r s rs (omega (arith, h r.num, c.0)))

    most-shut : (xs : List Fork) → Falls k xs → Counts ds xs → ((x : ℕ) → Off x (shut_to q xs) → x < k → (q ≡ x → ⊥) → times x (q ∷ qs) ≡ 0) → most (shut_to q xs) ≡ most xs
    most-shut [] f c g = refl
    most-shut (r ∷ rs) f c g = most-from r rs f c g

  -- ---- all are closed

  module _ (ds : List ℕ) (h : (x : ℕ) → times x ps ≡ times x ds) where
    most-all : (r : Fork) (rs : List Fork) → Counts ds (r ∷ rs) → most (r ∷ rs) ≡ suc (height_from r rs)
    most-all r [] c =
        let z = below-final r.kids (bracketed ps r.num) r.high (ap (leb 2) (h r.num ∙ c.0)) in
        omega (arith, z)
    most-all r (s ∷ rs) c = most-pop r s rs (h r.num ∙ c.0) ∙ most-all (closed_into r s) rs c.1

    most-end : (k : ℕ) (xs : List Fork) → Falls k xs → Counts ds xs → most xs ≡ suc (height_of xs)
    most-end k [] f c = absurd f
    most-end k (r ∷ rs) f c = most-all r rs c

  -- ---- the path of the writer

  -- the open nodes of the path and of the spine are the same, the node below the root aside
  abbrev pub Match : List Open → List Fork → Type 0
  Match path [] = ⊥
  Match [] (r ∷ []) = Unit {0}
  Match [] (r ∷ s ∷ rs) = ⊥
  Match (x ∷ xs) (r ∷ []) = ⊥
  Match (x ∷ xs) (r ∷ s ∷ rs) = (x.num ≡ r.num) × (x.brk ≡ bracketed ps s.num) × Match xs (s ∷ rs)

  pub match-same : (path : List Open) (r s : Fork) (rs : List Fork) → Match path (s ∷ rs) → Match path (closed_into r s ∷ rs)
  match-same [] r s [] m = tt
  match-same [] r s (t ∷ rs) m = absurd m
  match-same (x ∷ xs) r s [] m = absurd m
  match-same (x ∷ xs) r s (t ∷ rs) m = m

  match-from : (q : ℕ) (path : List Open) (r : Fork) (rs : List Fork) → Match path (r ∷ rs) → Match (path_left q path) (shut_from q r rs)
  match-from q [] r [] m = tt
  match-from q [] r (s ∷ rs) m = absurd m
  match-from q (x ∷ xs) r [] m = absurd m
  match-from q (x ∷ xs) r (s ∷ rs) m = go (eqb x.num q) (eqb r.num q) (ap (λ (z : ℕ). eqb z q) m.0) (match-from q xs (closed_into r s) rs (match-same xs r s rs m.2))
    where
      go : (b c : Bool) → b ≡ c → Match (path_left q xs) (shut_from q (closed_into r s) rs) → Match (pick b (x ∷ xs) (path_left q xs)) (pick c (r ∷ s ∷ rs) (shut_from q (closed_into r s) rs))
      go true true e g = m
      go false false e g = g
      go true false e g = absurd (true≢false e)
      go false true e g = absurd (false≢true e)

  pub match-shut : (q : ℕ) (path : List Open) (xs : List Fork) → Match path xs → Match (path_left q path) (shut_to q xs)
  match-shut q path [] m = absurd m
  match-shut q path (r ∷ rs) m = match-from q path r rs m

  match-level : (path : List Open) (r : Fork) (rs : List Fork) → Match path (r ∷ rs) → brks path ≡ level rs
  match-level [] r [] m = refl
  match-level [] r (s ∷ rs) m = absurd m
  match-level (x ∷ xs) r [] m = absurd m
  match-level (x ∷ xs) r (s ∷ rs) m = ap (λ (b : Bool). up b (brks xs)) m.1 ∙ ap (up (bracketed ps s.num)) (match-level xs s rs m.2)

  -- ---- node by node

  module _ (k q : ℕ) (path : List Open) (xs : List Fork) (hd : Heads q xs) (m : Match path xs) where
    pub match-push : Match (opening ps k q ∷ path) (leaf k ∷ xs)
    match-push = go xs hd m
      where
        go : (ys : List Fork) → Heads q ys → Match path ys → Match (opening ps k q ∷ path) (leaf k ∷ ys)
        go [] a b = absurd a
        go (r ∷ rs) a b = (refl, ap (bracketed ps) (sym a), b)

    most-push : most (leaf k ∷ xs) ≡ max (suc (brks (opening ps k q ∷ path))) (most xs)
    most-push = go xs match-push
      where
        go : (ys : List Fork) → Match (opening ps k q ∷ path) (leaf k ∷ ys) → most (leaf k ∷ ys) ≡ max (suc (brks (opening ps k q ∷ path))) (most ys)
        go ys b = let z = match-level (opening ps k q ∷ path) (leaf k) ys b in omega (arith, z)

  pub most-highest : (qs : List ℕ) (k : ℕ) (xs : List Fork) (ds : List ℕ) (path : List Open) → k + length qs ≤ none
      → ((x : ℕ) → times x ps ≡ times x ds + times x qs) → Falls k xs → Counts ds xs → Unborn k ds → Meets k xs qs → Match path xs
      → max (most xs) (highest ps k path qs) ≡ suc (height_of (spine_of k xs qs))
  most-highest [] k xs ds path l h f c u g m =
      let z = most-end ds (λ x. omega (arith, h x)) k xs f c in
      omega (arith, z)
  most-highest (q ∷ qs) k xs ds path l h f c u g m =
      let ys : List Fork = shut_to q xs in
      let fy : Falls k ys = falls-shut q k xs f in
      let cy : Counts ds ys = counts-shut q ds xs c in
      let left : List Open = path_left q path in
      let my : Match left ys = match-shut q path xs m in
      let e1 : most ys ≡ most xs =
      most-shut q k qs ds h (omega arith) xs f c (λ x o b n. rw (ne_eqb q x n) (gone x (suc k) (leaf k ∷ ys) qs ((λ e. omega arith), o) (omega arith) g.1)) in
      let e2 : most (leaf k ∷ ys) ≡ max (suc (brks (opening ps k q ∷ left))) (most ys) = most-push k q left ys g.0 my in
      joins (most xs) (most ys) (most (leaf k ∷ ys)) (suc (brks (opening ps k q ∷ left))) (highest ps (suc k) (opening ps k q ∷ left) qs) e1 e2
      ∙ most-highest qs (suc k) (leaf k ∷ shut_to q xs) (q ∷ ds) (opening ps k q ∷ path_left q path) (omega arith) (λ x. h x ∙ moved x) (falls-push k ys fy)
      (counts-push q k ds ys g.0 fy (omega arith) (u k (omega arith) (omega arith)) cy) (unborn-push q k ds ys g.0 fy u) g.1 (match-push k q left ys g.0 my)
    where
      joins : (a b c d e : ℕ) → b ≡ a → c ≡ max d b → max a (max d e) ≡ max c e
      joins a b c d e x y = omega arith

      moved : (x : ℕ) → times x ds + times x (q ∷ qs) ≡ times x (q ∷ ds) + times x qs
      moved x = go (eqb q x)
        where
          go : (b : Bool) → times x ds + pick b (suc (times x qs)) (times x qs) ≡ pick b (suc (times x ds)) (times x ds) + times x qs
          go true = omega arith
          go false = omega arith

-- the depth by the spine is the depth by the path
pub shape-highest : (base : ℕ) (ps : List ℕ) → base + length ps ≤ none → Meets base (leaf none ∷ []) ps → shape_depth base ps ≡ max 1 (highest ps base [] ps)
shape-highest base ps l g = sym (most-highest ps ps base (leaf none ∷ []) [] [] l (λ x. omega arith) refl (refl, tt) (λ x a b. refl) g tt)
