-- One set of points in any order and spelling: such properties are alike. Assumes nothing.
use Rattle.lists.proofs.Prelude.{ℕ, zero, suc, ◌≡◌, refl, sym, ap, ap₂, ◌∙◌, Bool, true, false, ◌||◌, false≢true, List, [], ◌∷◌, List-as-Memᴰ, memᴰ-head, memᴰ-tail}
use Rattle.fit.specs.Record.{raws_of}
use Rattle.go.proofs.Shapes.{points-valid}
use Rattle.go.specs.Marks.{good, in_area, all_good, in_some, marks_from, marks_of}
use Rattle.go.specs.Value.{is_go, marked, areas_of, value_by, go_value}
use Rattle.lexer.specs.Token.{Prop}
use Rattle.lists.proofs.Tests.{never, and_both}
use Rattle.serialize_laws.specs.Alike.{AlikeProp, OneSet, Among}
use Rattle.serialize_laws.specs.Same.{valid}
use Rattle.ask.specs.Ask.{go_of}
use Rattle.go_shape.specs.Shape.{shape_of}
use Rattle.go_shape.specs.declared.Shape.{Shape}
use Rattle.go_shape.specs.declared.Shape.TheVariants.{ManyPoints}
use Rattle.values.specs.Read.{read_value, read_identifier}
use Rattle.go_points.specs.Area.{area_of}

-- marks are those of the places alone
marks-from : (f g : ℕ → Bool) → ((i : ℕ) → f i ≡ g i) → (i n : ℕ) → marks_from f i n ≡ marks_from g i n
unfolding marks_from
marks-from f g h i zero = refl
marks-from f g h i (suc n) = ap₂ (λ (b : Bool) (ms : List Bool). b ∷ ms) (h i) (marks-from f g h (suc i) n)

-- the Go value of a set of which each value stands for points
set_value : (k : ℕ) → is_go k ≡ true → (p : Prop) → shape_of (read_identifier p.name) ≡ ManyPoints → all_good (areas_of (raws_of p)) ≡ true → go_of k p ≡ marked (marks_of (in_some (areas_of (raws_of p))))
unfolding go_value value_by
set_value k b p s g = rw b (ap (λ (z : Shape). value_by k z (raws_of p)) s ∙ points-valid (raws_of p) g)

-- two properties of one set are alike in a Go tree
pub set-alike : (k : ℕ) → is_go k ≡ true → (p q : Prop) → OneSet p q → AlikeProp k p q
unfolding marks_of
set-alike k b p q h =
    let v : go_of k p ≡ marked (marks_of (in_some (areas_of (raws_of p)))) = set_value k b p h.takes h.good in
    record {
      name = h.name;
      value = set_value k b q (ap shape_of h.name ∙ h.takes) h.good'
          ∙ ap marked (marks-from (in_some (areas_of (raws_of q))) (in_some (areas_of (raws_of p))) h.points 0 2704) ∙ sym v;
      raws = λ e. let w : valid (go_of k p).value ≡ true = ap (λ g. valid g.value) v in never cc;
    }

-- ---- orders

or_right : (x y : Bool) → y ≡ true → x || y ≡ true
or_right true y h = refl
or_right false y h = h

or_left : (x y : Bool) → x ≡ true → x || y ≡ true
or_left true y h = refl
or_left false y h = absurd (false≢true h)

-- what one value stands for is in the union of all
one_in : (i : ℕ) (v : List ℕ) (ws : List (List ℕ)) → List-as-Memᴰ v ws → in_area (area_of (read_value v)) i ≡ true → in_some (areas_of ws) i ≡ true
one_in i v ws (memᴰ-head {x} {xs = ys} e) h =
    or_left (in_area (area_of (read_value x)) i) (in_some (areas_of ys) i) (ap (λ (z : List ℕ). in_area (area_of (read_value z)) i) (sym e) ∙ h)
one_in i v ws (memᴰ-tail {x} {xs = ys} m) h = or_right (in_area (area_of (read_value x)) i) (in_some (areas_of ys) i) (one_in i v ys m h)

some_in : (i : ℕ) (vs ws : List (List ℕ)) → Among ws vs → in_some (areas_of vs) i ≡ true → in_some (areas_of ws) i ≡ true
some_in i [] ws m h = absurd (false≢true h)
some_in i (v ∷ vs) ws m h = go (in_area (area_of (read_value v)) i) refl h (some_in i vs ws m.1)
  where
    go : (b : Bool) → in_area (area_of (read_value v)) i ≡ b → b || in_some (areas_of vs) i ≡ true → (in_some (areas_of vs) i ≡ true → in_some (areas_of ws) i ≡ true) → in_some (areas_of ws) i ≡ true
    go true e k ih = one_in i v ws m.0 e
    go false e k ih = ih k

both_ways : (x y : Bool) → (x ≡ true → y ≡ true) → (y ≡ true → x ≡ true) → x ≡ y
both_ways true y f g = sym (f refl)
both_ways false true f g = g refl
both_ways false false f g = refl

one-good : (v : List ℕ) (ws : List (List ℕ)) → List-as-Memᴰ v ws → all_good (areas_of ws) ≡ true → good (area_of (read_value v)) ≡ true
one-good v ws (memᴰ-head {x} {xs = ys} e) h = ap (λ (z : List ℕ). good (area_of (read_value z))) e ∙ (and_both (good (area_of (read_value x))) (all_good (areas_of ys)) h).0
one-good v ws (memᴰ-tail {x} {xs = ys} m) h = one-good v ys m (and_both (good (area_of (read_value x))) (all_good (areas_of ys)) h).1

all-good : (vs ws : List (List ℕ)) → Among ws vs → all_good (areas_of ws) ≡ true → all_good (areas_of vs) ≡ true
all-good [] ws m h = refl
all-good (v ∷ vs) ws m h = rw (one-good v ws m.0 h) (all-good vs ws m.1 h)

-- values that are the same but for their order, and for how often each stands, are one set
pub order-one : (p q : Prop) → read_identifier q.name ≡ read_identifier p.name → shape_of (read_identifier p.name) ≡ ManyPoints → all_good (areas_of (raws_of p)) ≡ true
    → Among (raws_of p) (raws_of q) → Among (raws_of q) (raws_of p) → OneSet p q
order-one p q n s g a b =
    record {
      name = n;
      takes = s;
      good = g;
      good' = all-good (raws_of q) (raws_of p) a g;
      points = λ i. both_ways (in_some (areas_of (raws_of q)) i) (in_some (areas_of (raws_of p)) i) (some_in i (raws_of q) (raws_of p) a) (some_in i (raws_of p) (raws_of q) b);
    }
