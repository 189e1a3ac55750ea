-- The turns of the loop of `trim`: what the machine gives from here, as from the start. Assumes nothing.
use Rattle.lists.proofs.Prelude.{◌≡◌, refl, sym, ap, ◌∙◌, ℕ, ◌+◌, ◌-◌, ◌≤◌, ◌<◌, arith, Bool, true, false, List, length, drop, get_or, drop_of_length-le, eq-eqb, ne_eqb}
use Rattle.text_utf8.specs.declared.Trimmed.TheVariants.{NotUtf8, Blank, Kept}
use Rattle.text_utf8.specs.declared.Seen.{Seen}
use Rattle.text_chars.specs.White.{white}
use Rattle.text_utf8.specs.Text.{Ink, blank, inked, mark, whole, utfs}
use Rattle.text_utf8.specs.Trim.{trim_of, trimmed}
use Rattle.text_chars.specs.LocalsDecode.{decoded}
use Rattle.text_utf8.specs.Locals.{ink_of, Plain}
use Rattle.text_utf8.proofs.Blocks.{plain-taken}
use Rattle.text_utf8.proofs.Decoding.{decoded-taken, decoded-bad}
use Rattle.text_chars.proofs.Wide.{decoded-1}
use Rattle.std.specs.Prelude.{Some, None}

pub ink-none : (k : Seen) → k.last ≡ 0 → ink_of k ≡ blank
ink-none k e = rw (eq-eqb k.last 0 e)

pub ink-some : (k : Seen) → (k.last ≡ 0 → ⊥) → ink_of k ≡ inked k.first k.last
ink-some k n = rw (ne_eqb k.last 0 n)

-- ---- one character more

pub marked-white : (k : Seen) (x : Bool) (s e : ℕ) → x ≡ true → ink_of k ≡ mark x (ink_of k) s e
marked-white k x s e h = rw h refl

pub marked-first : (k : Seen) (x : Bool) (s e : ℕ) → x ≡ false → k.last ≡ 0 → 0 < e → ink_of (record { first = s; last = e }) ≡ mark x (ink_of k) s e
marked-first k x s e h z l = rw (h, ink-none k z, ne_eqb e 0 (λ n. omega arith))

pub marked_next : (k : Seen) (x : Bool) (s e : ℕ) → x ≡ false → (k.last ≡ 0 → ⊥) → 0 < e → ink_of (record { first = k.first; last = e }) ≡ mark x (ink_of k) s e
marked_next k x s e h n l = rw (h, ink-some k n, ne_eqb e 0 (λ n. omega arith))

-- ---- the turns

-- from i on with what has been seen, as from the start
abbrev pub Onward : List ℕ → Seen → ℕ → Type 0
Onward s k i = trim_of (utfs (whole (ink_of k)) i (drop i s)) ≡ trimmed s

pub onward-start : (s : List ℕ) → Onward s (record { first = 0; last = 0 }) 0
unfolding trimmed
onward-start s = refl

module _ (s : List ℕ) (k : Seen) (i : ℕ) (inv : Onward s k i) where
  pub turn : (w : ℕ) (x : Bool) (k' : Seen) → decoded (drop i s) ≡ Some (w, x) → ink_of k' ≡ mark x (ink_of k) i (i + w) → Onward s k' (i + w)
  turn w x k' d e = ap (λ (z : Ink). trim_of (utfs (whole z) (i + w) (drop (i + w) s))) e ∙ ap trim_of (sym (decoded-taken s i w x d (ink_of k))) ∙ inv

  pub turn-ascii : (x : Bool) (k' : Seen) → i < length s → get_or s i 0 < 128 → x ≡ white (get_or s i 0) → ink_of k' ≡ mark x (ink_of k) i (i + 1) → Onward s k' (i + 1)
  turn-ascii x k' h a e = turn 1 x k' (rw e (decoded-1 s i h a))

  pub turn-plain : (n : ℕ) → 0 < k.last → 0 < n → Plain (n - 1) s i → Onward s (record { first = k.first; last = i + n }) (i + n)
  turn-plain n h l p =
      let e : i + (n - 1) + 1 ≡ i + n = omega arith in
      let x : Onward s (record { first = k.first; last = i + (n - 1) + 1 }) (i + (n - 1) + 1) =
      ap (λ (x : Ink). trim_of (utfs (whole x) (i + (n - 1) + 1) (drop (i + (n - 1) + 1) s))) (ink-some (record { first = k.first; last = i + (n - 1) + 1 }) (λ e. omega arith))
      ∙ ap trim_of (sym (plain-taken s k.first (n - 1) k.last i p))
      ∙ ap (λ (x : Ink). trim_of (utfs (whole x) i (drop i s))) (sym (ink-some k (λ e. omega arith)))
      ∙ inv in
      rw e at x

  pub stop-bad : i < length s → decoded (drop i s) ≡ None → NotUtf8 i ≡ trimmed s
  stop-bad h d = sym (decoded-bad s i h d (ink_of k)) ∙ inv

  end : length s ≤ i → trim_of (whole (ink_of k)) ≡ trimmed s
  end h = rw (drop_of_length-le s h) at inv

  pub end-blank : length s ≤ i → k.last ≡ 0 → Blank ≡ trimmed s
  end-blank h z = sym (ap (λ (x : Ink). trim_of (whole x)) (ink-none k z)) ∙ end h

  pub end_kept : length s ≤ i → (k.last ≡ 0 → ⊥) → Kept k.first k.last ≡ trimmed s
  end_kept h n = sym (ap (λ (x : Ink). trim_of (whole x)) (ink-some k n)) ∙ end h
