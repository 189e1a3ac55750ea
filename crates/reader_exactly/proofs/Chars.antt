-- Characters of table 3-7 in joined bytes: how wide they are, and what the machine makes of them. Assumes nothing.
use Rattle.lists.proofs.Prelude.{ℕ, suc, ◌+◌, ◌≤◌, ◌≡◌, refl, sym, ap, ◌∙◌, subst, Bool, true, List, [], ◌∷◌, ◌++◌, arith, leb, length, take, drop, take-append-le, drop-append-le, le-leb, lt-leb, pick}
use Rattle.text_chars.specs.White.{white}
use Rattle.text_chars.specs.Table.{Bytes, to, table37, fits, listed, scalar, WellFormed, empty, begins}
use Rattle.text_chars.proofs.Rows.{listed-elim, fits_both, listed-long, listed-take}
use Rattle.text_chars.proofs.Tests.{within-true}
use Rattle.text_utf8.specs.Text.{Ink, inked, mark, whole, utfs}
use Rattle.text_utf8.proofs.Blocks.{mark-inked}
use Rattle.text_utf8.proofs.Taken.{listed-taken}
use Rattle.reader_exactly.specs.Kept.{FirstChar, Blanks, no-space, space}

-- ---- one width

unfoldable width : ℕ → ℕ
width b = pick (leb b 0x7f) 1 (pick (leb b 0xdf) 2 (pick (leb b 0xef) 3 4))

row-width : (a z : ℕ) (rs : List Bytes) (t : List ℕ) → ((b : ℕ) → a ≤ b → b ≤ z → suc (length rs) ≡ width b) → fits (to a z ∷ rs) t ≡ true → (b : ℕ) (cs : List ℕ) → t ≡ b ∷ cs → suc (length rs) ≡ width b
row-width a z rs t f h b cs e =
    let p = fits_both (to a z) rs b cs (subst (λ (u : List ℕ). fits (to a z ∷ rs) u ≡ true) e h) in
    let w = within-true a z b p.0 in
    f b w.0 w.1

width-1 : (b : ℕ) → b ≤ 0x7f → 1 ≡ width b
unfolding width
width-1 b h = rw (le-leb b 0x7f h)

width-2 : (b : ℕ) → 0xc2 ≤ b → b ≤ 0xdf → 2 ≡ width b
unfolding width
width-2 b l h = rw (lt-leb b 0x7f (omega arith), le-leb b 0xdf h)

width-3 : (b : ℕ) → 0xe0 ≤ b → b ≤ 0xef → 3 ≡ width b
unfolding width
width-3 b l h = rw (lt-leb b 0x7f (omega arith), lt-leb b 0xdf (omega arith), le-leb b 0xef h)

width-4 : (b : ℕ) → 0xf0 ≤ b → 4 ≡ width b
unfolding width
width-4 b l = rw (lt-leb b 0x7f (omega arith), lt-leb b 0xdf (omega arith), lt-leb b 0xef (omega arith))

-- the first byte says how wide the character is
listed-width : (n : ℕ) (b : ℕ) (cs : List ℕ) → listed n (b ∷ cs) ≡ true → n ≡ width b
unfolding listed table37
listed-width n b cs h =
    listed-elim (λ m. m ≡ width b) table37 n (b ∷ cs) h (
      (λ f. row-width 0x00 0x7f [] (b ∷ cs) (λ x l g. width-1 x g) f b cs refl),
      (
        (λ f. row-width 0xc2 0xdf (to 0x80 0xbf ∷ []) (b ∷ cs) (λ x l g. width-2 x l g) f b cs refl),
        (
          (λ f. row-width 0xe0 0xe0 (to 0xa0 0xbf ∷ to 0x80 0xbf ∷ []) (b ∷ cs) (λ x l g. width-3 x l (omega arith)) f b cs refl),
          (
            (λ f. row-width 0xe1 0xec (to 0x80 0xbf ∷ to 0x80 0xbf ∷ []) (b ∷ cs) (λ x l g. width-3 x (omega arith) (omega arith)) f b cs refl),
            (
              (λ f. row-width 0xed 0xed (to 0x80 0x9f ∷ to 0x80 0xbf ∷ []) (b ∷ cs) (λ x l g. width-3 x (omega arith) (omega arith)) f b cs refl),
              (
                (λ f. row-width 0xee 0xef (to 0x80 0xbf ∷ to 0x80 0xbf ∷ []) (b ∷ cs) (λ x l g. width-3 x (omega arith) g) f b cs refl),
                (
                  (λ f. row-width 0xf0 0xf0 (to 0x90 0xbf ∷ to 0x80 0xbf ∷ to 0x80 0xbf ∷ []) (b ∷ cs) (λ x l g. width-4 x l) f b cs refl),
                  (
                    (λ f. row-width 0xf1 0xf3 (to 0x80 0xbf ∷ to 0x80 0xbf ∷ to 0x80 0xbf ∷ []) (b ∷ cs) (λ x l g. width-4 x (omega arith)) f b cs refl),
                    (
                      (λ f. row-width 0xf4 0xf4 (to 0x80 0x8f ∷ to 0x80 0xbf ∷ to 0x80 0xbf ∷ []) (b ∷ cs) (λ x l g. width-4 x (omega arith)) f b cs refl),
                      tt,
                    ),
                  ),
                ),
              ),
            ),
          ),
        ),
      ),
    )

pub listed-once : (n m : ℕ) (t : List ℕ) → listed n t ≡ true → listed m t ≡ true → n ≡ m
listed-once n m [] p q = absurd (omega (arith, listed-long n [] p))
listed-once n m (b ∷ cs) p q = listed-width n b cs p ∙ sym (listed-width m b cs q)

-- ---- joined

module _ (u v : List ℕ) where
  -- a character of the first part is one of the whole
  pub listed_more : (n : ℕ) → listed n u ≡ true → listed n (u ++ v) ≡ true
  listed_more n h =
      let l = listed-long n u h in
      sym (listed-take n n (u ++ v) (omega arith)) ∙ ap (listed n) (take-append-le n u v l.1) ∙ listed-take n n u (omega arith) ∙ h

  pub begins-more : (w : Bool) (n : ℕ) → FirstChar w n u → FirstChar w n (u ++ v)
  begins-more w n b = (listed_more n b.0, ap (λ (z : List ℕ). white (scalar z)) (take-append-le n u v (listed-long n u b.0).1) ∙ b.1)

pub well-append : {u : List ℕ} → WellFormed u → (v : List ℕ) → WellFormed v → WellFormed (u ++ v)
well-append empty v w = w
well-append (begins {t = u} n h x) v w =
    begins n (listed_more u v n h) (subst WellFormed (sym (drop-append-le n u v (listed-long n u h).1)) (well-append x v w))

pub blanks-append : {u : List ℕ} → Blanks u → (v : List ℕ) → Blanks v → Blanks (u ++ v)
blanks-append no-space v w = w
blanks-append (space {t = u} n h x) v w =
    space n (begins-more u v true n h) (subst Blanks (sym (drop-append-le n u v (listed-long n u h.0).1)) (blanks-append x v w))

pub blanks-well : {u : List ℕ} → Blanks u → WellFormed u
blanks-well no-space = empty
blanks-well (space n h x) = begins n h.0 (blanks-well x)

-- ---- the machine

pub utfs-begins : (w : Bool) (n : ℕ) (t : List ℕ) → FirstChar w n t → (k : Ink) (o : ℕ) → utfs (whole k) o t ≡ utfs (whole (mark w k o (o + n))) (o + n) (drop n t)
utfs-begins w n t h k o = listed-taken n t h.0 k o ∙ ap (λ (z : Bool). utfs (whole (mark z k o (o + n))) (o + n) (drop n t)) h.1

pub utfs-blanks : {t : List ℕ} → Blanks t → (k : Ink) (o : ℕ) → utfs (whole k) o t ≡ whole k
utfs-blanks no-space k o = refl
utfs-blanks (space {t = t} n h x) k o = utfs-begins true n t h k o ∙ utfs-blanks x k (o + n)

-- ink that has begun
pub utfs-inked : {t : List ℕ} → WellFormed t → (a l o : ℕ) → (m : ℕ) × (utfs (whole (inked a l)) o t ≡ whole (inked a m))
utfs-inked empty a l o = (l, refl)
utfs-inked (begins {t = t} n h x) a l o =
    let k = mark-inked (white (scalar (take n t))) a l o (o + n) in
    let r = utfs-inked x a k.0 (o + n) in
    (r.0, listed-taken n t h (inked a l) o ∙ ap (λ (z : Ink). utfs (whole z) (o + n) (drop n t)) k.1 ∙ r.1)
