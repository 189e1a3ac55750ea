-- A scan for a closing bracket steps over plain bytes. Assumes nothing.
use Rattle.lists.proofs.Prelude.{ℕ, zero, suc, ◌+◌, ◌≤◌, ◌<◌, ◌≡◌, refl, ap, sym, ◌∙◌, subst, Bool, true, ◌&&◌, not, List, arith, eqb, length, take, drop, get_or, get_or-take, get_or-drop, length-take, length-drop, not-true, eqb-true, eqb-false}
use Rattle.lists.proofs.Tests.{and_both}
use Rattle.lexer_close.proofs.Steps.{close-here, close-on}
use Rattle.lexer_close.specs.Close.{close_from, close_at}
use Rattle.lexer_close.specs.LocalsRun.{closes_nothing, LeadsTo}
use Rattle.std.specs.Prelude.{Some}

-- one byte
pub close-plain : (s : List ℕ) (i : ℕ) → i < length s → closes_nothing (get_or s i 0) ≡ true → close_at s (i + 1) ≡ close_at s i
close-plain s i h p =
    let b = and_both (not (eqb (get_or s i 0) 0x5d)) (not (eqb (get_or s i 0) 0x5c)) p in
    sym (close-on s i h (eqb-false _ _ (not-true _ b.0)) ∙ ap (λ (e : Bool). close_from e (i + 1) (drop (i + 1) s)) (not-true _ b.1))

pub leads-none : (s : List ℕ) (i : ℕ) → i ≤ length s → LeadsTo s i i
leads-none s i h = record { order = omega arith; inside = h; same = refl }

pub leads-on : {s : List ℕ} {a e f : ℕ} → LeadsTo s a e → LeadsTo s e f → LeadsTo s a f
leads-on p q = record { order = omega (arith, p.order, q.order); inside = q.inside; same = q.same ∙ p.same }

pub leads_one : (s : List ℕ) (i : ℕ) → i < length s → closes_nothing (get_or s i 0) ≡ true → LeadsTo s i (i + 1)
leads_one s i h p = record { order = omega arith; inside = omega (arith, h); same = close-plain s i h p }

-- n bytes
pub leads-plain : (n : ℕ) (s : List ℕ) (i : ℕ) → i + n ≤ length s → ((k : ℕ) → k < n → closes_nothing (get_or s (i + k) 0) ≡ true) → LeadsTo s i (i + n)
leads-plain zero s i h p = let e : i ≡ i + 0 = omega arith in subst (LeadsTo s i) e (leads-none s i (omega (arith, h)))
leads-plain (suc n) s i h p =
    let l = leads-plain n s i (omega (arith, h)) (λ k b. p k (omega (arith, b))) in
    let e : i + n + 1 ≡ i + suc n = omega arith in
    subst (LeadsTo s i) e (leads-on l (leads_one s (i + n) (omega (arith, h)) (p n (omega arith))))

-- a block of n bytes
pub leads-block : (m n : ℕ) (s : List ℕ) (i : ℕ) → m ≡ n → i + n ≤ length s
    → ((k : ℕ) → k < length (take m (drop i s)) → closes_nothing (get_or (take m (drop i s)) k 0) ≡ true) → LeadsTo s i (i + n)
leads-block m n s i e h p = leads-plain n s i h (λ k b.
    let l : k < length (take m (drop i s)) = simp (length-take, length-drop) (omega arith) in
    let b' : k < m = omega arith in
    let v : get_or (take m (drop i s)) k 0 ≡ get_or s (i + k) 0 = get_or-take m (drop i s) k 0 b' ∙ get_or-drop i s k 0 in
    ap closes_nothing (sym v) ∙ p k l)

-- two plain bytes and a `]`
pub close-pair : (s : List ℕ) (i : ℕ) → i + 3 ≤ length s → {a b : Bool} → a ≡ closes_nothing (get_or s i 0) → b ≡ closes_nothing (get_or s (i + 1) 0) → eqb (get_or s (i + 2) 0) 0x5d && (a && b) ≡ true → close_at s i ≡ Some (i + 2)
close-pair s i h {a} {b} p q e =
    let both = and_both (eqb (get_or s (i + 2) 0) 0x5d) (a && b) e in
    let ab = and_both a b both.1 in
    let j : i + 1 + 1 ≡ i + 2 = omega arith in
    let l = leads-on (leads_one s i (omega (arith, h)) (sym p ∙ ab.0)) (leads_one s (i + 1) (omega (arith, h)) (sym q ∙ ab.1)) in
    sym l.same ∙ ap (close_at s) j ∙ close-here s (i + 2) (omega (arith, h)) (eqb-true (get_or s (i + 2) 0) 0x5d both.0)
