-- Marks by their places, and the union gathered value by value. Assumes nothing.
use Rattle.lists.proofs.Prelude.{ℕ, zero, suc, ◌+◌, ◌≤◌, ◌<◌, ◌≡◌, refl, sym, ap, ◌∙◌, subst, Bool, true, false, ◌&&◌, ◌||◌, or-false, or_assoc, or_comm, List, [], ◌∷◌, arith, leb, length, get_or, get_or-replicate, length-replicate, get_or-eq_default, ext_get_or, leb-true, leb-false}
use Rattle.values.specs.Read.{read_value}
use Rattle.go_points.specs.Area.{area_of}
use Rattle.go.specs.Marks.{Adds, good, in_area, all_good, in_some, marks_from, marks_of}
use Rattle.go.specs.Value.{no_marks, unmarked, marked, areas_of, points_of}
use Rattle.go_points.specs.declared.Value.TheVariants.{Invalid}

pub marks-length : (f : ℕ → Bool) (i n : ℕ) → length (marks_from f i n) ≡ n
unfolding marks_from
marks-length f i zero = refl
marks-length f i (suc n) = ap suc (marks-length f (suc i) n)

pub marks-at : (f : ℕ → Bool) (i n k : ℕ) → k < n → get_or (marks_from f i n) k false ≡ f (i + k)
unfolding marks_from
marks-at f i zero k h = absurd (omega arith)
marks-at f i (suc n) zero h = let e : i ≡ i + 0 = omega arith in ap f e
marks-at f i (suc n) (suc k) h = let e : suc i + k ≡ i + suc k = omega arith in marks-at f (suc i) n k (omega arith) ∙ ap f e

-- marks that are f's at every place are all of f's marks
pub marks-are : (m : List Bool) (f : ℕ → Bool) → length m ≡ 2704 → ((i : ℕ) → get_or m i false ≡ f i) → m ≡ marks_of f
unfolding marks_of
marks-are m f l e =
    ext_get_or false m (marks_from f 0 2704) (l ∙ sym (marks-length f 0 2704))
    (λ i h. let z : 0 + i ≡ i = omega arith in e i ∙ sym (marks-at f 0 2704 i (omega arith) ∙ ap f z))

no-marks : (i : ℕ) → get_or no_marks i false ≡ false
no-marks i = go (leb 2704 i) refl
  where
    go : (t : Bool) → leb 2704 i ≡ t → get_or no_marks i false ≡ false
    go true e = get_or-eq_default no_marks false (subst (λ m. m ≤ i) (sym (length-replicate 2704 false)) (leb-true 2704 i e))
    go false e = get_or-replicate 2704 i false false (leb-false 2704 i e)

-- what is marked, and what the values that are left stand for
pub record Gathering (vs rest : List (List ℕ)) (m : List Bool) : Type 0 where
  pub len : length m ≡ 2704
  pub fine : all_good (areas_of vs) ≡ all_good (areas_of rest)
  pub seen : (i : ℕ) → in_some (areas_of vs) i ≡ (get_or m i false || in_some (areas_of rest) i)

pub gather-first : {vs rest : List (List ℕ)} → vs ≡ rest → Gathering vs rest no_marks
gather-first {vs} {rest} e =
    record { len = length-replicate 2704 false; fine = ap (λ z. all_good (areas_of z)) e; seen = λ i. ap (λ z. in_some (areas_of z) i) e ∙ sym (ap (λ t. t || in_some (areas_of rest) i) (no-marks i)) }

pub gather-end : {vs rest : List (List ℕ)} {m : List Bool} → Gathering vs rest m → rest ≡ [] → marked m ≡ points_of vs
unfolding points_of
gather-end {vs} {rest} {m} g e =
    let f : (i : ℕ) → get_or m i false ≡ in_some (areas_of vs) i =
    λ i. sym (g.seen i ∙ ap (λ z. get_or m i false || in_some (areas_of z) i) e ∙ or-false (get_or m i false)) in
    rw (g.fine ∙ ap (λ z. all_good (areas_of z)) e) (ap marked (marks-are m (in_some (areas_of vs)) g.len f))

module _ {vs rest r : List (List ℕ)} {v w : List ℕ} {m : List Bool} (g : Gathering vs rest m) (e : rest ≡ v ∷ r) (q : w ≡ v) where
  pub gather-bad : good (area_of (read_value w)) ≡ false → unmarked Invalid ≡ points_of vs
  unfolding points_of
  gather-bad b = rw (g.fine ∙ ap (λ z. all_good (areas_of z)) e, sym (ap (λ z. good (area_of (read_value z))) q) ∙ b)

  pub gather-next : {m' : List Bool} → good (area_of (read_value w)) ≡ true → Adds (in_area (area_of (read_value w))) m m' → Gathering vs r m'
  gather-next {m'} b a =
      let here : ℕ → Bool = in_area (area_of (read_value w)) in
      record {
        len = a.as_long ∙ g.len;
        fine = g.fine ∙ ap (λ z. all_good (areas_of z)) e ∙ ap (λ t. t && all_good (areas_of r)) (sym (ap (λ z. good (area_of (read_value z))) q) ∙ b);
        seen = λ i.
            g.seen i
            ∙ ap (λ z. get_or m i false || in_some (areas_of z) i) e
            ∙ ap (λ z. get_or m i false || (in_area (area_of (read_value z)) i || in_some (areas_of r) i)) (sym q)
            ∙ sym (or_assoc (get_or m i false) (here i) (in_some (areas_of r) i))
            ∙ ap (λ t. t || in_some (areas_of r) i) (or_comm (get_or m i false) (here i) ∙ sym (a.at i));
      }

pub marks-all : (f : ℕ → Bool) → length (marks_of f) ≡ 2704
unfolding marks_of
marks-all f = marks-length f 0 2704

pub marks-place : (f : ℕ → Bool) (i : ℕ) → i < 2704 → get_or (marks_of f) i false ≡ f i
unfolding marks_of
marks-place f i h = let e : 0 + i ≡ i = omega arith in marks-at f 0 2704 i h ∙ ap f e
