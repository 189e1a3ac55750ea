-- What a first close leaves in the lent rows, from any state: none where it is refused, zeros behind its rows where it is accepted. Assumes nothing.
use Rattle.lists.proofs.Prelude.{◌≡◌, refl, sym, ap, ◌∙◌, subst, ℕ, ◌+◌, ◌-◌, ◌*◌, ◌/◌, ◌≤◌, arith, Bool, true, false, List, ◌++◌, length, take, drop, replicate, eqb, ltb, pick, eq-eqb, ltb-false, drop_at, length-take-le}
use Rattle.lists.proofs.Tests.{never}
use Rattle.lists.specs.Put.{put_at}
use Rattle.tables.specs.Numbers.{text_limit}
use Rattle.lexer.specs.Token.{finish}
use Rattle.blocks_step.specs.declared.Utf8.{Utf8}
use Rattle.blocks_step.specs.declared.Utf8.TheVariants.{Whole, Within, Bad}
use Rattle.blocks_step.specs.declared.Phase.{Phase}
use Rattle.blocks_step.specs.declared.Phase.TheVariants.{Between, Ident, Value, Escaped, After, Foreign}
use Rattle.blocks_step.specs.Lean.{machine_of}
use Rattle.blocks.specs.declared.BlocksState.{BlocksState}
use Rattle.blocks.specs.declared.BlocksKnown.{BlocksKnown}
use Rattle.blocks.specs.declared.Closed.{Closed}
use Rattle.blocks.specs.declared.Closing.{Closing}
use Rattle.blocks.specs.declared.Closing.TheVariants.{Refused, Rows, Last}
use Rattle.blocks.specs.State.{state_says}
use Rattle.blocks.specs.Room.{token_row}
use Rattle.blocks.specs.Close.{cleared_rows, closing_by, closing_at, closing, refused_at, accepted_with, closed_by, cells_by, closed_before, CloseIs}
use Rattle.blocks_laws.specs.Reading.{NoRows, ZerosBehind}
use Rattle.blocks_laws.proofs.Stored.{put-length, put-behind}

no_rows : (t : List ℕ) → cleared_rows t 0 ≡ replicate (length t / 3 * 3) 0 ++ drop (length t / 3 * 3) t
unfolding cleared_rows
no_rows t = let e : length t / 3 * 3 - 0 * 3 ≡ length t / 3 * 3 = omega arith in ap (λ (n : ℕ). replicate n 0 ++ drop (length t / 3 * 3) t) e

refused-by : (s : BlocksState) (t : List ℕ) (c : Closing) (r : Closed) (t' : List ℕ) → r ≡ closed_by c s (length t / 3) → t' ≡ cells_by c t → (r.number ≡ 0 → ⊥) → NoRows t t'
refused-by s t (Refused n p) r t' a b h = b ∙ no_rows t
refused-by s t (Rows n) r t' a b h = go (ltb (length t / 3) n) refl
  where
    go : (d : Bool) → ltb (length t / 3) n ≡ d → NoRows t t'
    go true e = b ∙ ap (λ (z : Bool). pick z (cleared_rows t 0) (cleared_rows t n)) e ∙ no_rows t
    go false e = absurd (h (ap (λ (z : Closed). z.number) (a ∙ ap (λ (z : Bool). pick z (refused_at s 14 0) (accepted_with s n)) e)))
refused-by s t (Last n f l) r t' a b h = go (ltb (length t / 3) (n + 1)) refl
  where
    go : (d : Bool) → ltb (length t / 3) (n + 1) ≡ d → NoRows t t'
    go true e = b ∙ rw e (no_rows t)
    go false e = absurd (h (ap (λ (z : Closed). z.number) (a ∙ ap (λ (z : Bool). pick z (refused_at s 14 0) (accepted_with s (n + 1))) e)))

-- a first close that is refused leaves no row
pub close-refused : (s : BlocksState) (t : List ℕ) (r : Closed) (t' : List ℕ) → s.closed ≡ 0 → CloseIs s t r t' → (r.number ≡ 0 → ⊥) → NoRows t t'
close-refused s t r t' h c n =
    let e = eq-eqb s.closed 0 h in
    refused-by s t (closing (state_says s)) r t'
    (c.answer ∙ ap (λ (z : Bool). pick z (closed_by (closing (state_says s)) s (length t / 3)) (closed_before s)) e)
    (c.rows ∙ ap (λ (z : Bool). pick z (cells_by (closing (state_says s)) t) t) e) n

-- ---- accepted

-- no refusal has the number of acceptance
ended_some : (p : Phase) (m l n q : ℕ) → closing_by (finish (machine_of p) l).end (finish (machine_of p) l).toks m l ≡ Refused n q → n ≡ 0 → ⊥
ended_some Between m l n q e z = never (cc)
ended_some (Ident s) m l n q e z = let x : 3 ≡ n = cc in omega (arith, x, z)
ended_some (Value s) m l n q e z = let x : 5 ≡ n = cc in omega (arith, x, z)
ended_some (Escaped s) m l n q e z = let x : 5 ≡ n = cc in omega (arith, x, z)
ended_some (After s) m l n q e z = never (cc)
ended_some (Foreign s) m l n q e z = let x : 4 ≡ n = cc in omega (arith, x, z)

inked-some : (b : Bool) (p : Phase) (m l n q : ℕ) → pick b (Rows 0) (closing_by (finish (machine_of p) l).end (finish (machine_of p) l).toks m l) ≡ Refused n q → n ≡ 0 → ⊥
inked-some true p m l n q e z = never (cc)
inked-some false p m l n q e z = ended_some p m l n q e z

utf-some : (u : Utf8) (p : Phase) (m l n q : ℕ) → closing_at u p m l ≡ Refused n q → n ≡ 0 → ⊥
utf-some Whole p m l n q e z = inked-some (eqb l 0) p m l n q e z
utf-some (Within left s c) p m l n q e z = let x : 2 ≡ n = cc in omega (arith, x, z)
utf-some (Bad s) p m l n q e z = let x : 2 ≡ n = cc in omega (arith, x, z)

closing-some : (k : BlocksKnown) (n q : ℕ) → closing k ≡ Refused n q → n ≡ 0 → ⊥
unfolding closing
closing-some k n q = go (ltb text_limit k.total)
  where
    go : (b : Bool) → pick b (Refused 1 0) (closing_at k.utf8 k.kept k.held k.last) ≡ Refused n q → n ≡ 0 → ⊥
    go true e z = let x : 1 ≡ n = cc in omega (arith, x, z)
    go false e z = utf-some k.utf8 k.kept k.held k.last n q e z

zeros-behind : (t : List ℕ) (n : ℕ) → n ≤ length t / 3 → ZerosBehind n t (cleared_rows t n)
unfolding cleared_rows
zeros-behind t n h = drop_at (take (n * 3) t) (replicate (length t / 3 * 3 - n * 3) 0 ++ drop (length t / 3 * 3) t) (n * 3) (length-take-le (n * 3) t (omega (arith, h)))

accepted-by : (s : BlocksState) (t : List ℕ) (c : Closing) (r : Closed) (t' : List ℕ) → ((n q : ℕ) → c ≡ Refused n q → n ≡ 0 → ⊥) → r ≡ closed_by c s (length t / 3) → t' ≡ cells_by c t → r.number ≡ 0 → ZerosBehind r.tokens t t'
accepted-by s t (Refused n p) r t' k a b h = absurd (k n p refl (sym (ap (λ (z : Closed). z.number) a) ∙ h))
accepted-by s t (Rows n) r t' k a b h = go (ltb (length t / 3) n) refl
  where
    go : (d : Bool) → ltb (length t / 3) n ≡ d → ZerosBehind r.tokens t t'
    go true e = (let x : ◌≡◌ {A = ℕ} 14 0 = sym (ap (λ (z : Closed). z.number) (a ∙ ap (λ (z : Bool). pick z (refused_at s 14 0) (accepted_with s n)) e)) ∙ h in absurd (omega (arith, x)))
    go false e =
        let x : r.tokens ≡ n = ap (λ (z : Closed). z.tokens) (a ∙ ap (λ (z : Bool). pick z (refused_at s 14 0) (accepted_with s n)) e) in
        subst (λ (m : ℕ). ZerosBehind m t t') (sym x)
        (ap (drop (n * 3)) (b ∙ ap (λ (z : Bool). pick z (cleared_rows t 0) (cleared_rows t n)) e) ∙ zeros-behind t n (ltb-false (length t / 3) n e))
accepted-by s t (Last n f l) r t' k a b h = go (ltb (length t / 3) (n + 1)) refl
  where
    go : (d : Bool) → ltb (length t / 3) (n + 1) ≡ d → ZerosBehind r.tokens t t'
    go true e = (let x : ◌≡◌ {A = ℕ} 14 0 = sym (ap (λ (z : Closed). z.number) (a ∙ ap (λ (z : Bool). pick z (refused_at s 14 0) (accepted_with s (n + 1))) e)) ∙ h in absurd (omega (arith, x)))
    go false e =
        let y = ltb-false (length t / 3) (n + 1) e in
        let x : r.tokens ≡ n + 1 = ap (λ (z : Closed). z.tokens) (a ∙ ap (λ (z : Bool). pick z (refused_at s 14 0) (accepted_with s (n + 1))) e) in
        let p = put_at t (n * 3) (token_row 4 f l) in
        let q : length p ≡ length t = put-length t n (token_row 4 f l) refl (omega (arith, y)) in
        let v : drop (length t / 3 * 3) p ≡ drop (length t / 3 * 3) t = put-behind t n (token_row 4 f l) refl (omega (arith, y)) (length t / 3 * 3) (omega (arith, y)) in
        subst (λ (m : ℕ). ZerosBehind m t t') (sym x)
        (ap (drop ((n + 1) * 3)) (b ∙ ap (λ (z : Bool). pick z (cleared_rows t 0) (cleared_rows p (n + 1))) e)
        ∙ zeros-behind p (n + 1) (omega (arith, y, q))
        ∙ ap (λ (m : ℕ). replicate (m / 3 * 3 - (n + 1) * 3) 0 ++ drop (m / 3 * 3) p) q
        ∙ ap (λ (w : List ℕ). replicate (length t / 3 * 3 - (n + 1) * 3) 0 ++ w) v)

-- a close that is accepted leaves zeros behind its rows
pub close-accepted : (s : BlocksState) (t : List ℕ) (r : Closed) (t' : List ℕ) → s.closed ≡ 0 → CloseIs s t r t' → r.number ≡ 0 → ZerosBehind r.tokens t t'
close-accepted s t r t' h c n =
    let e = eq-eqb s.closed 0 h in
    accepted-by s t (closing (state_says s)) r t' (closing-some (state_says s))
    (c.answer ∙ ap (λ (z : Bool). pick z (closed_by (closing (state_says s)) s (length t / 3)) (closed_before s)) e)
    (c.rows ∙ ap (λ (z : Bool). pick z (cells_by (closing (state_says s)) t) t) e) n
