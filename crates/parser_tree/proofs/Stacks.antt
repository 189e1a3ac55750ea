-- A push onto the stack in an array. Assumes nothing.
use Rattle.lists.proofs.Prelude.{ℕ, zero, suc, ◌+◌, ◌≤◌, ◌<◌, ◌≡◌, refl, ap, List, ◌∷◌, arith, add-one, length, set, get_or-set_same, get_or-set_other}
use Rattle.parser_step.specs.LocalsActs.{stack_of}

stack-over : (a : List ℕ) (d k v : ℕ) → d ≤ k → stack_of (set a k v) d ≡ stack_of a d
unfolding stack_of
stack-over a zero k v h = refl
stack-over a (suc d) k v h = rw (get_or-set_other a k d v 0 (λ e. omega arith), stack-over a d k v (omega arith))

pub stack_push : (a : List ℕ) (d v : ℕ) → d < length a → stack_of (set a d v) (d + 1) ≡ v ∷ stack_of a d
unfolding stack_of
stack_push a d v h = rw (add-one, get_or-set_same a d v 0 h, stack-over a d d v (omega arith))

pub stack-length : (a : List ℕ) (d : ℕ) → length (stack_of a d) ≡ d
unfolding stack_of
stack-length a zero = refl
stack-length a (suc d) = ap suc (stack-length a d)
