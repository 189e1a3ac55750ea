-- ASCII bytes after ink, the last of them no white space: the ink ends behind them. Assumes nothing.
use Rattle.lists.proofs.Prelude.{◌≡◌, refl, ap, ◌∙◌, ℕ, zero, suc, ◌+◌, ◌≤◌, ◌<◌, arith, Bool, true, false, List, length, drop, get_or}
use Rattle.text_chars.specs.White.{white}
use Rattle.text_utf8.specs.Text.{Ink, inked, mark, whole, utfs}
use Rattle.text_utf8.specs.Locals.{Plain}
use Rattle.text_utf8.proofs.Decoding.{decoded-taken}
use Rattle.text_chars.proofs.White.{ascii-dark}
use Rattle.text_chars.proofs.Wide.{decoded-1}

pub mark-inked : (x : Bool) (f l s e : ℕ) → (l' : ℕ) × (mark x (inked f l) s e ≡ inked f l')
mark-inked true f l s e = (l, refl)
mark-inked false f l s e = (e, refl)

module _ (s : List ℕ) (f : ℕ) where
  one : (l i : ℕ) → i < length s → get_or s i 0 < 128 → utfs (whole (inked f l)) i (drop i s) ≡ utfs (whole (mark (white (get_or s i 0)) (inked f l) i (i + 1))) (i + 1) (drop (i + 1) s)
  one l i h a = decoded-taken s i 1 (white (get_or s i 0)) (decoded-1 s i h a) (inked f l)

  -- ASCII bytes leave ink that begins where it did
  run : (n l i : ℕ) → i + n ≤ length s → ((k : ℕ) → k < n → get_or s (i + k) 0 < 128) → (l' : ℕ) × (utfs (whole (inked f l)) i (drop i s) ≡ utfs (whole (inked f l')) (i + n) (drop (i + n) s))
  run zero l i h a = let e : i + 0 ≡ i = omega arith in (l, rw e refl)
  run (suc n) l i h a =
      let x = run n l i (omega arith) (λ k q. a k (omega arith)) in
      let y = mark-inked (white (get_or s (i + n) 0)) f x.0 (i + n) (i + n + 1) in
      let e : i + n + 1 ≡ i + suc n = omega arith in
      (y.0, x.1 ∙ one x.0 (i + n) (omega arith) (a n (omega arith)) ∙ ap (λ (k : Ink). utfs (whole k) (i + n + 1) (drop (i + n + 1) s)) y.1 ∙ rw e refl)

  pub plain-taken : (m l i : ℕ) → Plain m s i → utfs (whole (inked f l)) i (drop i s) ≡ utfs (whole (inked f (i + m + 1))) (i + m + 1) (drop (i + m + 1) s)
  plain-taken m l i p =
      let r = p.room in
      let x = run m l i (omega arith) (λ k h. p.ascii k (omega arith)) in
      let a = p.ascii m (omega arith) in
      x.1 ∙ one x.0 (i + m) r a ∙ rw (ascii-dark (get_or s (i + m) 0) p.dark a)
