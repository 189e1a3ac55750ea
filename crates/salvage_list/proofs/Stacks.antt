-- The list on top of the stack: empty or not. Assumes nothing.
use Rattle.lists.proofs.Prelude.{ℕ, ◌+◌, ◌-◌, ◌≤◌, ◌≡◌, sym, ap, ◌∙◌, Bool, true, ◌&&◌, List, get_or, ltb, eq-eqb, ne_eqb, le-leb, pick}
use Rattle.tables.specs.Numbers.{none, depth_limit}
use Rattle.parser_step.specs.LocalsActs.{stack_of, has_child, may_open, may_start}
use Rattle.parser_step.proofs.Stacks.{stack-none, stack-pop}

pub may_none : (a : List ℕ) (d base n : ℕ) → d ≡ 0 → true ≡ may_open base n (stack_of a d)
may_none a d base n e = sym (ap (may_open base n) (stack-none a d e))

pub may-top : (a : List ℕ) (d base n : ℕ) → (d ≡ 0 → ⊥) → {b : Bool} → b ≡ has_child base n (get_or a (d - 1) 0) → b ≡ may_open base n (stack_of a d)
may-top a d base n h e = e ∙ sym (ap (may_open base n) (stack-pop a d h))

module _ (base n x : ℕ) where
  pub child-none : x ≡ none → ltb base n ≡ has_child base n x
  child-none e = sym (ap (λ (z : Bool). pick z (ltb base n) (ltb (x + 1) n)) (eq-eqb x none e))

  pub child-node : (x ≡ none → ⊥) → {y : ℕ} → y ≡ x → ltb (y + 1) n ≡ has_child base n x
  child-node h e = ap (λ (z : ℕ). ltb (z + 1) n) e ∙ sym (ap (λ (z : Bool). pick z (ltb base n) (ltb (x + 1) n)) (ne_eqb x none h))

-- a stack that is not too deep
pub may-started : (a : List ℕ) (d base n : ℕ) → d ≤ depth_limit → {b : Bool} → b ≡ may_start base n d a → b ≡ may_open base n (stack_of a d)
may-started a d base n h e = e ∙ ap (λ (z : Bool). z && may_open base n (stack_of a d)) (le-leb d depth_limit h)
