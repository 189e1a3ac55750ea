-- A close shuts, from any state, accepted or refused. Assumes nothing.
use Rattle.lists.proofs.Prelude.{◌≡◌, refl, sym, ap, ◌∙◌, ℕ, ◌+◌, ◌/◌, arith, Bool, true, false, List, length, eqb, ltb, pick, eq-eqb, ne_eqb}
use Rattle.lists.proofs.Tests.{same_or}
use Rattle.blocks.specs.declared.BlocksState.{BlocksState}
use Rattle.blocks.specs.declared.Closed.{Closed}
use Rattle.blocks.specs.declared.Closing.{Closing}
use Rattle.blocks.specs.declared.Closing.TheVariants.{Refused, Rows, Last}
use Rattle.blocks.specs.State.{state_says}
use Rattle.blocks.specs.Close.{closing, refused_at, accepted_with, closed_by, closed_before, CloseIs}

picked-shut : (b : Bool) (s : BlocksState) (n : ℕ) → (pick b (refused_at s 14 0) (accepted_with s n)).state.closed ≡ 1
picked-shut true s n = refl
picked-shut false s n = refl

shut_by : (c : Closing) (s : BlocksState) (m : ℕ) → (closed_by c s m).state.closed ≡ 1
shut_by (Refused n p) s m = refl
shut_by (Rows n) s m = picked-shut (ltb m n) s n
shut_by (Last n f l) s m = picked-shut (ltb m (n + 1)) s (n + 1)

-- after any close the state is closed
pub close-shuts : (s : BlocksState) (t : List ℕ) (r : Closed) (t' : List ℕ) → CloseIs s t r t' → r.state.closed ≡ 0 → ⊥
close-shuts s t r t' c z =
    let by : (b : Bool) → eqb s.closed 0 ≡ b → r.state.closed ≡ (pick b (closed_by (closing (state_says s)) s (length t / 3)) (closed_before s)).state.closed = λ b e. ap (λ (x : Closed). x.state.closed) (c.answer ∙ ap (λ (y : Bool). pick y (closed_by (closing (state_says s)) s (length t / 3)) (closed_before s)) e) in
    same_or s.closed 0
    (λ e. let x : r.state.closed ≡ 1 = by true (eq-eqb s.closed 0 e) ∙ shut_by (closing (state_says s)) s (length t / 3) in omega (arith, x, z))
    (λ n. n (sym (by false (ne_eqb s.closed 0 n)) ∙ z))
