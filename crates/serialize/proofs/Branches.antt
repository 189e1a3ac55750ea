-- The walk with open nodes writes each node with its children: it gives the writing by recursion. Assumes nothing.
use Rattle.lists.proofs.Prelude.{ℕ, suc, ◌+◌, ◌≤◌, ◌<◌, Bool, true, false, List, [], ◌∷◌, ◌++◌, append_assoc, ◌⊎◌, inl, inr, ◌≡◌, refl, sym, ap, ◌∙◌, arith, leb, eqb, length, le-leb, eq-eqb, ne_eqb, pick}
use Rattle.tables.specs.Numbers.{none}
use Rattle.tables.specs.Record.{Node}
use Rattle.tables.specs.Rows.{parents}
use Rattle.serialize.specs.Branch.{Nodes, bare, stand, Hung, under, hung, write_props, several, enclosed, nodes_text}
use Rattle.serialize.specs.LocalsWrite.{Open, times, bracketed, shuts, ends_text, path_left, opened, write_nodes}

abbrev pub opening : List ℕ → ℕ → ℕ → Open
opening ps k p = record { num = k; brk = bracketed ps p }

-- p is a number of the path
abbrev pub On : ℕ → List Open → Type 0
On p [] = ⊥
On p (x ∷ xs) = (x.num ≡ p) ⊎ ((x.num ≡ p → ⊥) × On p xs)

-- each node's parent is open when the node is written
abbrev pub Good : List ℕ → ℕ → List Open → List Node → Type 0
Good ps k path [] = Unit {0}
Good ps k path (n ∷ ns) = On n.parent path × Good ps (suc k) (opening ps k n.parent ∷ path_left n.parent path) ns

-- ---- how many nodes stand under a number

abbrev pub size : Nodes → ℕ
size bare = 0
size (stand ps cs ns) = suc (size ns)

size-several : (ns : Nodes) → several ns ≡ leb 2 (size ns)
size-several bare = refl
size-several (stand ps cs bare) = refl
size-several (stand ps cs (stand qs ds ns)) = sym (le-leb 2 (suc (suc (size ns))) (omega arith))

pub size_none : (ns : Nodes) → size ns ≡ 0 → ns ≡ bare
size_none bare h = refl
size_none (stand ps cs ns) h = absurd (omega arith)

pub size-under : (q k : ℕ) (ns : List Node) → size (under q (hung k ns)) ≡ times q (parents ns)
size-under q k [] = refl
size-under q k (n ∷ ns) = go (eqb n.parent q) (size-under q (suc k) ns)
  where
    go : (b : Bool) → size (under q (hung (suc k) ns)) ≡ times q (parents ns)
        → size (pick b (stand n.props (under k (hung (suc k) ns)) (under q (hung (suc k) ns))) (under q (hung (suc k) ns))) ≡ pick b (suc (times q (parents ns))) (times q (parents ns))
    go true e = ap suc e
    go false e = e

pub several-under : (q k : ℕ) (ns : List Node) → several (under q (hung k ns)) ≡ leb 2 (times q (parents ns))
several-under q k ns = size-several (under q (hung k ns)) ∙ ap (leb 2) (size-under q k ns)

-- ---- the numbers of a path fall, from below k

abbrev pub Falls : ℕ → List Open → Type 0
Falls k [] = Unit {0}
Falls k (x ∷ xs) = (x.num < k) × Falls x.num xs

falls-up : (k l : ℕ) (xs : List Open) → k ≤ l → Falls k xs → Falls l xs
falls-up k l [] h f = tt
falls-up k l (x ∷ xs) h f = (omega (arith, f.0), f.1)

falls-left : (k p : ℕ) (xs : List Open) → Falls k xs → Falls k (path_left p xs)
falls-left k p [] f = tt
falls-left k p (x ∷ xs) f = go (eqb x.num p) (falls-up x.num k (path_left p xs) (omega (arith, f.0)) (falls-left x.num p xs f.1))
  where
    go : (b : Bool) → Falls k (path_left p xs) → Falls k (pick b (x ∷ xs) (path_left p xs))
    go true h = f
    go false h = h

on-less : (k p : ℕ) (xs : List Open) → Falls k xs → On p xs → p < k
on-less k p [] f o = absurd o
on-less k p (x ∷ xs) f (inl e) = omega (arith, f.0)
on-less k p (x ∷ xs) f (inr o) = let l = on-less x.num p xs f.1 o.1 in omega (arith, f.0)

-- what is left from p on has no number above p
left-falls : (k p : ℕ) (xs : List Open) → Falls k xs → On p xs → Falls (suc p) (path_left p xs)
left-falls k p [] f o = absurd o
left-falls k p (x ∷ xs) f (inl e) = rw (eq-eqb x.num p e) (omega arith, f.1)
left-falls k p (x ∷ xs) f (inr o) = rw (ne_eqb x.num p o.0) (left-falls x.num p xs f.1 o.1)

-- q is no number of the path
abbrev Off : ℕ → List Open → Type 0
Off q [] = Unit {0}
Off q (x ∷ xs) = (x.num ≡ q → ⊥) × Off q xs

off-high : (k q : ℕ) (xs : List Open) → Falls k xs → k ≤ q → Off q xs
off-high k q [] f l = tt
off-high k q (x ∷ xs) f l = ((λ e. omega (arith, f.0)), off-high x.num q xs f.1 (omega (arith, f.0)))

off-left : (q p : ℕ) (xs : List Open) → Off q xs → Off q (path_left p xs)
off-left q p [] o = tt
off-left q p (x ∷ xs) o = go (eqb x.num p) (off-left q p xs o.1)
  where
    go : (b : Bool) → Off q (path_left p xs) → Off q (pick b (x ∷ xs) (path_left p xs))
    go true h = o
    go false h = h

on-off : (p q : ℕ) (xs : List Open) → On p xs → Off q xs → p ≡ q → ⊥
on-off p q [] h o e = h
on-off p q (x ∷ xs) (inl d) o e = o.0 (d ∙ e)
on-off p q (x ∷ xs) (inr h) o e = on-off p q xs h.1 o.1 e

-- ---- one node

abbrev text_of : Hung → List ℕ
text_of h = 0x3b ∷ (write_props h.props ++ nodes_text (several h.children) h.children)

regroup : (b : Bool) (t u w : List ℕ) → opened b (t ++ shuts b (u ++ w)) ≡ (enclosed b t ++ u) ++ w
regroup true t u w = ap (λ (z : List ℕ). 0x28 ∷ z) (sym (append_assoc (t ++ (0x29 ∷ [])) u w ∙ append_assoc t (0x29 ∷ []) (u ++ w)))
regroup false t u w = sym (append_assoc t u w)

shuts-append : (b : Bool) (u w : List ℕ) → shuts b u ++ w ≡ shuts b (u ++ w)
shuts-append true u w = refl
shuts-append false u w = refl

module _ (ps : List ℕ) where
  -- no later node stands under a number that is not open
  under_none : (q k : ℕ) (path : List Open) (ns : List Node) → Good ps k path ns → q < k → Off q path → under q (hung k ns) ≡ bare
  under_none q k path [] g l o = refl
  under_none q k path (n ∷ ns) g l o =
      rw (ne_eqb n.parent q (on-off n.parent q path g.0 o))
      (under_none q (suc k) (opening ps k n.parent ∷ path_left n.parent path) ns g.1 (omega arith) ((λ e. omega arith), off-left q n.parent path o))

  -- what is still to be written behind a path: more children of each open node, and its end
  abbrev pub rest : List Open → List Hung → List ℕ
  rest [] hs = []
  rest (x ∷ xs) hs = nodes_text (bracketed ps x.num) (under x.num hs) ++ shuts x.brk (rest xs hs)

  rest-skip : (h : Hung) (hs : List Hung) (xs : List Open) → Falls h.parent xs → rest xs (h ∷ hs) ≡ rest xs hs
  rest-skip h hs [] f = refl
  rest-skip h hs (x ∷ xs) f =
      rw (ne_eqb h.parent x.num (λ e. omega (arith, f.0)))
      (ap (λ (z : List ℕ). nodes_text (bracketed ps x.num) (under x.num hs) ++ shuts x.brk z)
      (rest-skip h hs xs (falls-up x.num h.parent xs (omega (arith, f.0)) f.1)))

  node-rest : (k : ℕ) (h : Hung) (hs : List Hung) (path : List Open) → Falls k path → On h.parent path → ((q : ℕ) → h.parent < q → q < k → under q hs ≡ bare)
      → ends_text h.parent path ++ opened (bracketed ps h.parent) (text_of h ++ shuts (bracketed ps h.parent) (rest (path_left h.parent path) hs)) ≡ rest path (h ∷ hs)
  node-rest k h hs [] f o u = absurd o
  node-rest k h hs (x ∷ xs) f (inl e) u =
      rw (eq-eqb x.num h.parent e, eq-eqb h.parent x.num (sym e))
      (ap (λ (z : ℕ). opened (bracketed ps z) (text_of h ++ shuts (bracketed ps z) (rest (x ∷ xs) hs))) (sym e)
      ∙ regroup (bracketed ps x.num) (text_of h) (nodes_text (bracketed ps x.num) (under x.num hs)) (shuts x.brk (rest xs hs))
      ∙ ap (λ (z : List ℕ). (enclosed (bracketed ps x.num) (text_of h) ++ nodes_text (bracketed ps x.num) (under x.num hs)) ++ shuts x.brk z)
      (sym (rest-skip h hs xs (falls-up x.num h.parent xs (omega arith) f.1))))
  node-rest k h hs (x ∷ xs) f (inr o) u =
      let p : ℕ = h.parent in
      rw (ne_eqb x.num p o.0, ne_eqb p x.num (λ z. o.0 (sym z)))
      (shuts-append x.brk (ends_text p xs) (opened (bracketed ps p) (text_of h ++ shuts (bracketed ps p) (rest (path_left p xs) hs)))
      ∙ ap (shuts x.brk) (node-rest x.num h hs xs f.1 o.1 (λ q a b. u q a (omega (arith, f.0))))
      ∙ ap (λ (z : Nodes). nodes_text (bracketed ps x.num) z ++ shuts x.brk (rest xs (h ∷ hs))) (sym (u x.num (on-less x.num p xs f.1 o.1) f.0)))

  ends-rest : (k : ℕ) (path : List Open) → Falls k path → k ≤ none → ends_text none path ≡ rest path []
  ends-rest k [] f l = refl
  ends-rest k (x ∷ xs) f l =
      rw (ne_eqb x.num none (λ e. omega (arith, f.0))) (ap (shuts x.brk) (ends-rest x.num xs f.1 (omega (arith, f.0))))

  -- all nodes from number k on, where the nodes before have no parent from k on
  pub walk-rest : (k : ℕ) (path : List Open) (ns : List Node) → Good ps k path ns → Falls k path → k + length ns ≤ none
      → ((q : ℕ) → k ≤ q → q < none → times q ps ≡ times q (parents ns)) → write_nodes ps k path ns ≡ rest path (hung k ns)
  walk-rest k path [] g f l t = ends-rest k path f (omega arith)
  walk-rest k path (n ∷ ns) g f l t =
      let p : ℕ = n.parent in
      let hs : List Hung = hung (suc k) ns in
      let xs : List Open = path_left p path in
      let b : Bool = bracketed ps p in
      let w : List ℕ = write_props n.props in
      let low : p < k = on-less k p path f g.0 in
      let later : (q : ℕ) → k ≤ q → q < none → times q ps ≡ times q (parents ns) = λ q a c. t q a c ∙ rw (ne_eqb p q (λ e. omega arith)) in
      let s : bracketed ps k ≡ several (under k hs) = ap (leb 2) (later k (omega arith) (omega arith)) ∙ sym (several-under k (suc k) ns) in
      ap (λ (z : List ℕ). ends_text p path ++ opened b (0x3b ∷ (w ++ z)))
      (walk-rest (suc k) (opening ps k p ∷ xs) ns g.1 (omega arith, falls-left k p path f) (omega arith) (λ q a c. later q (omega arith) c))
      ∙ ap (λ (c : Bool). ends_text p path ++ opened b (0x3b ∷ (w ++ (nodes_text c (under k hs) ++ shuts b (rest xs hs))))) s
      ∙ ap (λ (z : List ℕ). ends_text p path ++ opened b (0x3b ∷ z)) (sym (append_assoc w (nodes_text (several (under k hs)) (under k hs)) (shuts b (rest xs hs))))
      ∙ node-rest k (record { parent = p; props = n.props; children = under k hs }) hs path f g.0
      (λ q a c. under_none q (suc k) (opening ps k p ∷ xs) ns g.1 (omega arith) ((λ e. omega arith), off-high (suc p) q xs (left-falls k p path f g.0) (omega arith)))
