-- Where no sequence of table 3-7 begins, the machine says that this place is bad. Assumes nothing.
use Rattle.lists.proofs.Prelude.{◌≡◌, refl, sym, ap, ◌∙◌, ℕ, zero, suc, ◌+◌, ◌*◌, ◌-◌, ◌≤◌, arith, lt_of_not-le, Bool, true, false, true≢false, and-true, List, [], ◌∷◌, leb, eqb, leb-true, eqb-true, eqb-false}
use native.Mathlib.Decide.{dec_le}
use Rattle.lists.specs.All.{All}
use Rattle.text_utf8.specs.declared.Trimmed.TheVariants.{NotUtf8}
use Rattle.text_chars.specs.White.{within}
use Rattle.text_utf8.specs.Text.{Ink, Range, any, from-a0, to-9f, from-90, to-8f, holds, whole, part, first, later, utfs}
use Rattle.text_utf8.specs.Trim.{trim_of}
use Rattle.text_chars.specs.Table.{to, table37, fits, listed}
use Rattle.text_utf8.proofs.Ranges.{bytes, holds-is, after}
use Rattle.text_chars.proofs.Rows.{unlisted-all, rows_short}
use Rattle.text_utf8.proofs.Steps.{utfs-bad}
use Rattle.lists.proofs.Tests.{and_second}
use Rattle.text_chars.proofs.Tests.{within-true, in_within}

-- a character that is cut off, or goes on with another byte
rest-cut : (n : ℕ) (r : Range) (cs : List ℕ) → fits (after r n) cs ≡ false → (k : Ink) (s code o : ℕ) → trim_of (utfs (part k s n r code) o cs) ≡ NotUtf8 s
rest-cut n r [] h k s code o = refl
rest-cut zero r (c ∷ cs) h k s code o = rw (holds-is r c ∙ sym (and-true (within (bytes r).low (bytes r).high c)) ∙ h, utfs-bad s (suc o) cs)
rest-cut (suc n) r (c ∷ cs) h k s code o =
    go (holds r c) refl (λ f. rest-cut n any cs f k s (code * 64 + (c - 0x80)) (suc o))
  where
    go : (x : Bool) → holds r c ≡ x → (fits (after any n) cs ≡ false → trim_of (utfs (part k s n any (code * 64 + (c - 0x80))) (suc o) cs) ≡ NotUtf8 s)
        → trim_of (utfs (later x k s (suc n) code o c) (suc o) cs) ≡ NotUtf8 s
    go true e f = f (and_second (within (bytes r).low (bytes r).high c) (fits (after any n) cs) h (sym (holds-is r c) ∙ e))
    go false e f = ap trim_of (utfs-bad s (suc o) cs)

module _ (b : ℕ) (cs : List ℕ) (none : All (λ row. fits row (b ∷ cs) ≡ false) table37) (k : Ink) (o : ℕ) where
  -- a row that begins with b
  cut : (a z n : ℕ) (r : Range) (code : ℕ) → a ≤ b → b ≤ z → fits (to a z ∷ after r n) (b ∷ cs) ≡ false → trim_of (utfs (part k o n r code) (suc o) cs) ≡ NotUtf8 o
  cut a z n r code l h f = rest-cut n r cs (and_second (within a z b) (fits (after r n) cs) f (in_within a z b l h)) k o code (suc o)

  first-cut : (b1 b2 b3 b4 b5 b6 b7 b8 : Bool) → leb b 0x7f ≡ b1 → within 0xc2 0xdf b ≡ b2 → eqb b 0xe0 ≡ b3 → eqb b 0xed ≡ b4 → within 0xe1 0xef b ≡ b5
      → eqb b 0xf0 ≡ b6 → within 0xf1 0xf3 b ≡ b7 → eqb b 0xf4 ≡ b8 → trim_of (utfs (first b1 b2 b3 b4 b5 b6 b7 b8 k o b) (suc o) cs) ≡ NotUtf8 o
  unfolding table37
  first-cut true b2 b3 b4 b5 b6 b7 b8 e1 e2 e3 e4 e5 e6 e7 e8 =
      absurd (true≢false (sym (in_within 0 0x7f b (omega arith) (leb-true b 0x7f e1)) ∙ sym (and-true (within 0 0x7f b)) ∙ none.0))
  first-cut false true b3 b4 b5 b6 b7 b8 e1 e2 e3 e4 e5 e6 e7 e8 = let w = within-true 0xc2 0xdf b e2 in cut 0xc2 0xdf 0 any (b - 0xc0) w.0 w.1 none.1.0
  first-cut false false true b4 b5 b6 b7 b8 e1 e2 e3 e4 e5 e6 e7 e8 = let e = eqb-true b 0xe0 e3 in cut 0xe0 0xe0 1 from-a0 (b - 0xe0) (omega arith) (omega arith) none.1.1.0
  first-cut false false false true b5 b6 b7 b8 e1 e2 e3 e4 e5 e6 e7 e8 = let e = eqb-true b 0xed e4 in cut 0xed 0xed 1 to-9f (b - 0xe0) (omega arith) (omega arith) none.1.1.1.1.0
  first-cut false false false false true b6 b7 b8 e1 e2 e3 e4 e5 e6 e7 e8 =
      let w = within-true 0xe1 0xef b e5 in
      let n = eqb-false b 0xed e4 in
      elim (dec_le b 0xec) [ yes h ↦ cut 0xe1 0xec 1 any (b - 0xe0) w.0 h none.1.1.1.0 | no h ↦ cut 0xee 0xef 1 any (b - 0xe0) (omega (arith, lt_of_not-le h, n)) w.1 none.1.1.1.1.1.0 ]
  first-cut false false false false false true b7 b8 e1 e2 e3 e4 e5 e6 e7 e8 = let e = eqb-true b 0xf0 e6 in cut 0xf0 0xf0 2 from-90 (b - 0xf0) (omega arith) (omega arith) none.1.1.1.1.1.1.0
  first-cut false false false false false false true b8 e1 e2 e3 e4 e5 e6 e7 e8 = let w = within-true 0xf1 0xf3 b e7 in cut 0xf1 0xf3 2 any (b - 0xf0) w.0 w.1 none.1.1.1.1.1.1.1.0
  first-cut false false false false false false false true e1 e2 e3 e4 e5 e6 e7 e8 = let e = eqb-true b 0xf4 e8 in cut 0xf4 0xf4 2 to-8f (b - 0xf0) (omega arith) (omega arith) none.1.1.1.1.1.1.1.1.0
  first-cut false false false false false false false false e1 e2 e3 e4 e5 e6 e7 e8 = ap trim_of (utfs-bad o (suc o) cs)

pub unlisted-bad : (b : ℕ) (cs : List ℕ) → ((n : ℕ) → n ≤ 4 → listed n (b ∷ cs) ≡ false) → (k : Ink) (o : ℕ) → trim_of (utfs (whole k) o (b ∷ cs)) ≡ NotUtf8 o
unfolding listed
unlisted-bad b cs h k o =
    first-cut b cs (unlisted-all 4 table37 (b ∷ cs) h rows_short) k o
    (leb b 0x7f) (within 0xc2 0xdf b) (eqb b 0xe0) (eqb b 0xed) (within 0xe1 0xef b) (eqb b 0xf0) (within 0xf1 0xf3 b) (eqb b 0xf4)
    refl refl refl refl refl refl refl refl
