-- What is left of a Go value where some variants are shut out. Assumes nothing.
use Rattle.lists.proofs.Prelude.{ℕ, ◌≤◌, Bool, List, [], ◌∷◌, inl, inr, ◌≡◌, refl, sym, ap, subst, arith}
use types.Run.{OneOf}
use denote.Enum.Declared.{tag_of}
use Rattle.go_points.specs.declared.Value.{Value}
use Rattle.go_points.specs.declared.Value.TheVariants.{Other, Invalid, Pass, Move, Handicap, Points}
use Rattle.go.specs.Normal.{normal_by}
use Rattle.go.specs.Value.{unmarked, value_by}
use Rattle.go.specs.declared.value.GoValue.{GoValue}
use Rattle.go_shape.specs.declared.Shape.{Shape}
use Rattle.go_shape.specs.declared.Shape.TheVariants.{OneMove, OneNumber, ManyPoints, Unread}
use Rattle.go.proofs.Shapes.{Moved, Numbered, moves, numbers, moves-moved, numbers-numbered}
use Rattle.go_points.specs.contracts.Value as value

-- a value that is no set, its point inside
abbrev Single : Value → Type 0
Single Other = Unit {0}
Single Invalid = Unit {0}
Single Pass = Unit {0}
Single (Move x y) = (x ≤ 51) × (y ≤ 51)
Single (Handicap n) = Unit {0}
Single Points = ⊥

moved-single : (rule : ℕ) (x : Value) → Moved rule x → Single x
moved-single rule Other m = absurd m
moved-single rule Invalid m = tt
moved-single rule Pass m = tt
moved-single rule (Move a b) m = (m.0, m.1)
moved-single rule (Handicap n) m = absurd m
moved-single rule Points m = absurd m

numbered-single : (x : Value) → Numbered x → Single x
numbered-single Other m = absurd m
numbered-single Invalid m = tt
numbered-single Pass m = absurd m
numbered-single (Move a b) m = absurd m
numbered-single (Handicap n) m = tt
numbered-single Points m = absurd m

pub single : (rule : ℕ) (s : Shape) (vs : List (List ℕ)) {x : Value} → (s ≡ ManyPoints → ⊥) → unmarked x ≡ value_by rule s vs → Single x
unfolding value_by
single rule OneMove vs h e = subst Single (sym (ap (λ (g : GoValue). g.value) e)) (moved-single rule (moves rule vs) (moves-moved rule vs))
single rule OneNumber vs h e = subst Single (sym (ap (λ (g : GoValue). g.value) e)) (numbered-single (numbers vs) (numbers-numbered vs))
single rule ManyPoints vs h e = absurd (h refl)
single rule Unread vs h e = subst Single (sym (ap (λ (g : GoValue). g.value) e)) tt

between : (n : ℕ) → OneOf (0 ∷ 1 ∷ 5 ∷ []) n → 2 ≤ n → n ≤ 4 → ⊥
between n (inl z) p q = omega arith
between n (inr (inl z)) p q = omega arith
between n (inr (inr z)) p q = omega arith

-- neither a move nor a number of stones
pub raw-only : (x : Value) → OneOf (0 ∷ 1 ∷ 5 ∷ []) (tag_of value.the_type x) → Single x → (marks : List Bool) (vs : List (List ℕ)) → vs ≡ normal_by x marks vs
unfolding normal_by
raw-only Other h m marks vs = refl
raw-only Invalid h m marks vs = refl
raw-only Pass h m marks vs = absurd (between 2 h (omega arith) (omega arith))
raw-only (Move a b) h m marks vs = absurd (between 3 h (omega arith) (omega arith))
raw-only (Handicap n) h m marks vs = absurd (between 4 h (omega arith) (omega arith))
raw-only Points h m marks vs = absurd m
