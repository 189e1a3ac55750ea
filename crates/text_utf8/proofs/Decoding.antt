-- The character at a place, and what the machine does with it. Assumes nothing.
use Rattle.lists.proofs.Prelude.{◌≡◌, refl, ◌∙◌, ℕ, zero, suc, ◌+◌, ◌≤◌, ◌<◌, arith, Bool, true, false, List, ◌∷◌, length, take, drop, get_or, length-drop, drop-drop, pick, sym}
use Rattle.lists.proofs.Places.{drop-next}
use Rattle.lists.proofs.Tests.{never}
use Rattle.text_utf8.specs.declared.Trimmed.TheVariants.{NotUtf8}
use Rattle.text_chars.specs.White.{white}
use Rattle.text_utf8.specs.Text.{Ink, mark, whole, utfs}
use Rattle.text_utf8.specs.Trim.{trim_of}
use Rattle.text_chars.specs.Table.{table37, listed, scalar}
use Rattle.text_chars.specs.LocalsDecode.{of_width, decoded}
use Rattle.text_chars.proofs.Rows.{listed-long}
use Rattle.text_utf8.proofs.Cut.{unlisted-bad}
use Rattle.text_utf8.proofs.Taken.{listed-taken}
use Rattle.std.specs.Prelude.{Some, None}
use Rattle.lists.proofs.Parts.{some-two}

-- a character of one width, or none
by_width : (l1 l2 l3 l4 : Bool) (t : List ℕ) (w : ℕ) (x : Bool) → listed 1 t ≡ l1 → listed 2 t ≡ l2 → listed 3 t ≡ l3 → listed 4 t ≡ l4
    → pick l1 (of_width 1 t) (pick l2 (of_width 2 t) (pick l3 (of_width 3 t) (pick l4 (of_width 4 t) None))) ≡ Some (w, x) → (listed w t ≡ true) × (x ≡ white (scalar (take w t)))
by_width true l2 l3 l4 t w x e1 e2 e3 e4 h = let q = some-two h in rw (sym q.0) (e1, sym q.1)
by_width false true l3 l4 t w x e1 e2 e3 e4 h = let q = some-two h in rw (sym q.0) (e2, sym q.1)
by_width false false true l4 t w x e1 e2 e3 e4 h = let q = some-two h in rw (sym q.0) (e3, sym q.1)
by_width false false false true t w x e1 e2 e3 e4 h = let q = some-two h in rw (sym q.0) (e4, sym q.1)
by_width false false false false t w x e1 e2 e3 e4 h = never cc

pub decoded-listed : (t : List ℕ) (w : ℕ) (x : Bool) → decoded t ≡ Some (w, x) → (listed w t ≡ true) × (x ≡ white (scalar (take w t)))
unfolding decoded
decoded-listed t w x h = by_width (listed 1 t) (listed 2 t) (listed 3 t) (listed 4 t) t w x refl refl refl refl h

none-listed : (l1 l2 l3 l4 : Bool) (t : List ℕ) → listed 1 t ≡ l1 → listed 2 t ≡ l2 → listed 3 t ≡ l3 → listed 4 t ≡ l4
    → pick l1 (of_width 1 t) (pick l2 (of_width 2 t) (pick l3 (of_width 3 t) (pick l4 (of_width 4 t) None))) ≡ None → (n : ℕ) → n ≤ 4 → listed n t ≡ false
unfolding listed table37
none-listed true l2 l3 l4 t e1 e2 e3 e4 h n l = never cc
none-listed false true l3 l4 t e1 e2 e3 e4 h n l = never cc
none-listed false false true l4 t e1 e2 e3 e4 h n l = never cc
none-listed false false false true t e1 e2 e3 e4 h n l = never cc
none-listed false false false false t e1 e2 e3 e4 h zero l = refl
none-listed false false false false t e1 e2 e3 e4 h (suc zero) l = e1
none-listed false false false false t e1 e2 e3 e4 h (suc (suc zero)) l = e2
none-listed false false false false t e1 e2 e3 e4 h (suc (suc (suc zero))) l = e3
none-listed false false false false t e1 e2 e3 e4 h (suc (suc (suc (suc zero)))) l = e4
none-listed false false false false t e1 e2 e3 e4 h (suc (suc (suc (suc (suc n))))) l = absurd (omega arith)

pub decoded-none : (t : List ℕ) → decoded t ≡ None → (n : ℕ) → n ≤ 4 → listed n t ≡ false
unfolding decoded
decoded-none t h = none-listed (listed 1 t) (listed 2 t) (listed 3 t) (listed 4 t) t refl refl refl refl h

module _ (s : List ℕ) (i : ℕ) where
  -- a character lies in the text
  pub decoded-within : (w : ℕ) (x : Bool) → decoded (drop i s) ≡ Some (w, x) → (0 < w) × (i + w ≤ length s)
  decoded-within w x h = let p = listed-long w (drop i s) (decoded-listed (drop i s) w x h).0 in (p.0, omega (arith, p.0, p.1, length-drop i s))

  pub decoded-taken : (w : ℕ) (x : Bool) → decoded (drop i s) ≡ Some (w, x) → (k : Ink) → utfs (whole k) i (drop i s) ≡ utfs (whole (mark x k i (i + w))) (i + w) (drop (i + w) s)
  decoded-taken w x h k =
      let p = decoded-listed (drop i s) w x h in
      listed-taken w (drop i s) p.0 k i ∙ rw (p.1, drop-drop w i s)

  pub decoded-bad : i < length s → decoded (drop i s) ≡ None → (k : Ink) → trim_of (utfs (whole k) i (drop i s)) ≡ NotUtf8 i
  decoded-bad l h k = rw (drop-next s i l) (unlisted-bad (get_or s i 0) (drop (i + 1) s) (decoded-none (get_or s i 0 ∷ drop (i + 1) s) (rw (drop-next s i l) at h)) k i)
