use Rattle.lists.proofs.Prelude.{◌≡◌, ◌∙◌, subst, List, ℕ, ◌+◌, ◌-◌, ◌<◌, ◌≤◌, arith, length, take, drop, get_or, length-take, length-drop, get_or-take, get_or-drop}
use Rattle.text_utf8.proofs.plain_run.Goals as goal

-- a byte of a block of ASCII
low : (s : List ℕ) (i m k : ℕ) → i + m ≤ length s → k < m
    → ((j : ℕ) → j < length (take m (drop i s)) → get_or (take m (drop i s)) j 0 < 128) → get_or s (i + k) 0 < 128
low s i m k h l p =
    let r : k < length (take m (drop i s)) = simp (length-take, length-drop) (omega arith) in
    subst (λ (z : ℕ). z < 128) (get_or-take m (drop i s) k 0 l ∙ get_or-drop i s k 0) (p k r)

pub returns-then-s-i-gt32 : goal.returns-then-s-i-gt32
returns-then-s-i-gt32 c = λ h. let a = c.args in
    let p = c.requires in
    let e : a.i + a.n - 1 ≡ a.i + (a.n - 1) = omega arith in
    record {
      room = omega arith;
      ascii = λ k l. low a.s.now a.i (a.i + a.n - a.i) k (omega arith) (omega arith) (c.all_ascii.ensures c.if-not-all_ascii.false);
      dark = subst (λ (z : ℕ). 32 < get_or a.s.now z 0) e c.if-s-i-gt32.true;
    }

pub returns-then-s-i-gt32-2 : goal.returns-then-s-i-gt32-2
returns-then-s-i-gt32-2 c = λ h. let a = c.args in
    let p = c.requires in
    let e : a.i + a.n - 2 ≡ a.i + (a.n - 1 - 1) = omega arith in
    record {
      room = omega arith;
      ascii = λ k l. low a.s.now a.i (a.i + a.n - a.i) k (omega arith) (omega arith) (c.all_ascii.ensures c.if-not-all_ascii.false);
      dark = subst (λ (z : ℕ). 32 < get_or a.s.now z 0) e c.if-s-i-gt32-2.true;
    }
