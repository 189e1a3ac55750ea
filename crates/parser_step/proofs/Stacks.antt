-- The stack in an array, and the list on top of it. Assumes nothing.
use Rattle.lists.proofs.Prelude.{ℕ, zero, suc, ◌+◌, ◌-◌, ◌≤◌, ◌<◌, ◌≡◌, refl, sym, ap, ◌∙◌, Bool, true, false, ◌&&◌, List, [], ◌∷◌, arith, get_or, ltb, eq-eqb, ne_eqb, le-leb, lt-leb, pick}
use Rattle.tables.specs.Numbers.{depth_limit, none}
use Rattle.parser_step.specs.LocalsActs.{stack_of, has_child, may_open, may_start}

pub stack-none : (a : List ℕ) (d : ℕ) → d ≡ 0 → stack_of a d ≡ []
unfolding stack_of
stack-none a d e = ap (stack_of a) e

pub stack-pop : (a : List ℕ) (d : ℕ) → (d ≡ 0 → ⊥) → stack_of a d ≡ get_or a (d - 1) 0 ∷ stack_of a (d - 1)
unfolding stack_of
stack-pop a zero h = absurd (h refl)
stack-pop a (suc d) h = let e : suc d - 1 ≡ d = omega arith in rw e

-- ---- a start may be, by the list on top

pub may-within : (a : List ℕ) (d base n : ℕ) → d ≤ depth_limit → may_start base n d a ≡ may_open base n (stack_of a d)
may-within a d base n l = ap (λ (z : Bool). z && may_open base n (stack_of a d)) (le-leb d depth_limit l)

pub may-empty : (a : List ℕ) (d base n : ℕ) → d ≡ 0 → true ≡ may_start base n d a
may-empty a d base n e = sym (may-within a d base n (omega arith) ∙ ap (may_open base n) (stack-none a d e))

pub may-deep : (a : List ℕ) (d base n : ℕ) → depth_limit < d → false ≡ may_start base n d a
may-deep a d base n h = sym (ap (λ (z : Bool). z && may_open base n (stack_of a d)) (lt-leb d depth_limit h))

module _ (a : List ℕ) (d base n : ℕ) (h : d ≡ 0 → ⊥) (l : d ≤ depth_limit) {x : ℕ} (e : x ≡ get_or a (d - 1) 0) where
  may-top : may_start base n d a ≡ has_child base n x
  may-top = may-within a d base n l ∙ ap (may_open base n) (stack-pop a d h) ∙ ap (has_child base n) (sym e)

  pub may_none : x ≡ none → ltb base n ≡ may_start base n d a
  may_none q = sym (may-top ∙ ap (λ (z : Bool). pick z (ltb base n) (ltb (x + 1) n)) (eq-eqb x none q))

  pub may-node : (x ≡ none → ⊥) → {y : ℕ} → y ≡ x → ltb (y + 1) n ≡ may_start base n d a
  may-node q {y} ey = ap (λ (z : ℕ). ltb (z + 1) n) ey ∙ sym (may-top ∙ ap (λ (z : Bool). pick z (ltb base n) (ltb (x + 1) n)) (ne_eqb x none q))
