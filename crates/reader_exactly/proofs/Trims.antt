-- Trimming keeps a text from its first character that is no white space to the end of the last one: exactly so. Assumes nothing.
use Rattle.lists.proofs.Prelude.{ℕ, ◌+◌, ◌≡◌, refl, sym, ap, ◌∙◌, subst, Bool, true, false, ◌⊎◌, inl, inr, ⊎_elim, List, [], ◌++◌, append_assoc, arith, length, take, drop, take-append-drop, length-append, length-take-le, take-length, drop-length}
use Rattle.lists.proofs.Tests.{never}
use Rattle.text_chars.specs.White.{white}
use Rattle.text_chars.specs.Table.{listed, scalar, WellFormed, empty, begins, BadFrom}
use Rattle.text_chars.proofs.Rows.{listed-long, listed-take}
use Rattle.text_utf8.specs.Text.{Ink, blank, inked, Utf, whole, utfs}
use Rattle.text_utf8.specs.Trim.{trim_of, trimmed}
use Rattle.text_utf8.specs.declared.Trimmed.{Trimmed}
use Rattle.text_utf8.specs.declared.Trimmed.TheVariants.{NotUtf8, Blank, Kept}
use Rattle.text_utf8.proofs.Steps.{place_is, utfs-append}
use Rattle.text_utf8.proofs.WellFormed.{bad-trimmed, trimmed-bad, trimmed-well-formed}
use Rattle.reader_exactly.specs.Slicing.{Iff}
use Rattle.reader_exactly.specs.Kept.{FirstChar, Blanks, no-space, space, Keeps}
use Rattle.reader_exactly.proofs.Chars.{listed-once, begins-more, well-append, blanks-append, blanks-well, utfs-begins, utfs-blanks, utfs-inked}

-- ---- what is kept is found

utfs-from : (u : Utf) (o : ℕ) (xs ys : List ℕ) → utfs u o (xs ++ ys) ≡ utfs (utfs u o xs) (o + length xs) ys
utfs-from u o xs ys = utfs-append u o xs ys ∙ ap (λ (z : ℕ). utfs (utfs u o xs) z ys) (place_is o xs)

-- the last character, with nothing behind it
utfs-last : (char : List ℕ) → FirstChar false (length char) char → (k : Ink) (o : ℕ) → (a : ℕ) × (utfs (whole k) o char ≡ whole (inked a (o + length char))) × (k ≡ blank → a ≡ o) × ((x l : ℕ) → k ≡ inked x l → a ≡ x)
utfs-last char h blank o =
    (o, utfs-begins false (length char) char h blank o ∙ ap (utfs (whole (inked o (o + length char))) (o + length char)) (drop-length char), (λ _. refl), λ x l e. never cc)
utfs-last char h (inked y l) o =
    (y, utfs-begins false (length char) char h (inked y l) o ∙ ap (utfs (whole (inked y (o + length char))) (o + length char)) (drop-length char), (λ e. never cc), λ x m e. cc)

-- the characters before the last, where the first is no white space
utfs-front : (front char : List ℕ) → WellFormed front → (n : ℕ) → FirstChar false n (front ++ char) → (o : ℕ)
    → ((front ≡ []) × (utfs (whole blank) o front ≡ whole blank)) ⊎ ((m : ℕ) × (utfs (whole blank) o front ≡ whole (inked o m)))
utfs-front front char empty n h o = inl (refl, refl)
utfs-front front char (begins m g x) n h o =
    let w : white (scalar (take m front)) ≡ false =
    let b = begins-more front char (white (scalar (take m front))) m (g, refl) in
    let e = listed-once m n (front ++ char) b.0 h.0 in
    sym b.1 ∙ ap (λ (z : ℕ). white (scalar (take z (front ++ char)))) e ∙ h.1 in
    let r = utfs-inked x o (o + m) (o + m) in
    inr (r.0, utfs-begins false m front (g, w) blank o ∙ r.1)

utfs-kept : (text : List ℕ) → (n : ℕ) → FirstChar false n text → (front char : List ℕ) → text ≡ front ++ char → WellFormed front → FirstChar false (length char) char → (o : ℕ)
    → utfs (whole blank) o text ≡ whole (inked o (o + length text))
utfs-kept text n h front char e w b o =
    let l : length text ≡ length front + length char = ap length e ∙ length-append front char in
    let s : o + length front + length char ≡ o + length text = omega arith in
    ap (utfs (whole blank) o) e
    ∙ utfs-from (whole blank) o front char
    ∙ ⊎_elim
    (λ z.
    let q = utfs-last char b blank (o + length front) in
    let f : o + length front ≡ o = omega (arith, ap length z.0) in
    ap (λ (u : Utf). utfs u (o + length front) char) z.1 ∙ q.1 ∙ ap (λ (y : ℕ). whole (inked y (o + length front + length char))) (q.2 refl ∙ f))
    (λ z.
    let q = utfs-last char b (inked o z.0) (o + length front) in
    ap (λ (u : Utf). utfs u (o + length front) char) z.1 ∙ q.1 ∙ ap (λ (y : ℕ). whole (inked y (o + length front + length char))) (q.3 o z.0 refl))
    (utfs-front front char w n (subst (FirstChar false n) e h) o)
    ∙ ap (λ (y : ℕ). whole (inked o y)) s

keeps-trimmed : (t : List ℕ) (f l : ℕ) → Keeps t f l → trimmed t ≡ Kept f l
unfolding trimmed
keeps-trimmed t f l x =
    let k = utfs-kept x.kept x.first.0 x.first.1 x.last.0 x.last.1 x.last.2 x.last.3 x.last.4 (0 + length x.before) in
    let ef : 0 + length x.before ≡ f = omega (arith, x.from) in
    let el : 0 + length x.before + length x.kept ≡ l = omega (arith, x.to) in
    ap (λ (z : List ℕ). trim_of (utfs (whole blank) 0 z)) x.are
    ∙ ap trim_of (utfs-from (whole blank) 0 x.before (x.kept ++ x.behind))
    ∙ ap (λ (u : Utf). trim_of (utfs u (0 + length x.before) (x.kept ++ x.behind))) (utfs-blanks x.blank-before blank 0)
    ∙ ap trim_of (utfs-from (whole blank) (0 + length x.before) x.kept x.behind)
    ∙ ap (λ (u : Utf). trim_of (utfs u (0 + length x.before + length x.kept) x.behind)) k
    ∙ ap trim_of (utfs-blanks x.blank-behind (inked (0 + length x.before) (0 + length x.before + length x.kept)) (0 + length x.before + length x.kept))
    ∙ ap (λ (z : ℕ). Kept z (0 + length x.before + length x.kept)) ef
    ∙ ap (Kept f) el

blanks-trimmed : (t : List ℕ) → Blanks t → trimmed t ≡ Blank
unfolding trimmed
blanks-trimmed t b = ap trim_of (utfs-blanks b blank 0)

-- ---- and every well-formed text is blank or keeps something

abbrev Blank-or-keeps : List ℕ → Type 0
Blank-or-keeps t = Blanks t ⊎ ((f l : ℕ) × Keeps t f l)

module _ (t : List ℕ) (n : ℕ) (h : listed n t ≡ true) where
  abbrev char : List ℕ
  char = take n t

  char-long : length char ≡ n
  char-long = length-take-le n t (listed-long n t h).1

  char-begins : (w : Bool) → white (scalar (take n t)) ≡ w → FirstChar w n char
  char-begins w e = (listed-take n n t (omega arith) ∙ h, ap (λ (z : List ℕ). white (scalar z)) (take-all-of) ∙ e)
    where
      take-all-of : take n (take n t) ≡ take n t
      take-all-of = ap (λ (z : ℕ). take z (take n t)) (sym char-long) ∙ take-length (take n t)

  char-blank : white (scalar (take n t)) ≡ true → Blanks char
  char-blank e = space n (char-begins true e) (subst Blanks (sym (ap (λ (z : ℕ). drop z char) (sym char-long) ∙ drop-length char)) no-space)

  char-well : WellFormed char
  char-well = begins n (char-begins (white (scalar (take n t))) refl).0 (subst WellFormed (sym (ap (λ (z : ℕ). drop z char) (sym char-long) ∙ drop-length char)) empty)

  one_more : Blank-or-keeps (drop n t) → (w : Bool) → white (scalar (take n t)) ≡ w → Blank-or-keeps t
  one_more (inl b) true e = inl (subst Blanks (take-append-drop n t) (blanks-append (char-blank e) (drop n t) b))
  one_more (inl b) false e =
      inr (
        0,
        0 + length char,
        record {
          before = [];
          kept = char;
          behind = drop n t;
          are = sym (take-append-drop n t);
          from = refl;
          to = refl;
          blank-before = no-space;
          blank-behind = b;
          first = (n, char-begins false e);
          last = ([], char, refl, empty, subst (λ (z : ℕ). FirstChar false z char) (sym char-long) (char-begins false e));
        },
      )
  one_more (inr (f, l, x)) true e =
      inr (
        length char + f,
        length char + l,
        record {
          before = char ++ x.before;
          kept = x.kept;
          behind = x.behind;
          are = sym (take-append-drop n t) ∙ ap (λ (z : List ℕ). char ++ z) x.are ∙ sym (append_assoc char x.before (x.kept ++ x.behind));
          from = omega (arith, x.from, length-append char x.before);
          to = omega (arith, x.to, length-append char x.before);
          blank-before = blanks-append (char-blank e) x.before x.blank-before;
          blank-behind = x.blank-behind;
          first = x.first;
          last = x.last;
        },
      )
  one_more (inr (f, l, x)) false e =
      inr (
        0,
        length char + l,
        record {
          before = [];
          kept = char ++ (x.before ++ x.kept);
          behind = x.behind;
          are = sym (take-append-drop n t) ∙ ap (λ (z : List ℕ). char ++ z) (x.are ∙ sym (append_assoc x.before x.kept x.behind)) ∙ sym (append_assoc char (x.before ++ x.kept) x.behind);
          from = refl;
          to = omega (arith, x.to, length-append char (x.before ++ x.kept), length-append x.before x.kept);
          blank-before = no-space;
          blank-behind = x.blank-behind;
          first = (n, begins-more char (x.before ++ x.kept) false n (char-begins false e));
          last = (
            char ++ (x.before ++ x.last.0),
            x.last.1,
            ap (λ (z : List ℕ). char ++ (x.before ++ z)) x.last.2 ∙ ap (λ (z : List ℕ). char ++ z) (sym (append_assoc x.before x.last.0 x.last.1)) ∙ sym (append_assoc char (x.before ++ x.last.0) x.last.1),
            well-append char-well (x.before ++ x.last.0) (well-append (blanks-well x.blank-before) x.last.0 x.last.3),
            x.last.4,
          );
        },
      )

blank-or-keeps : {t : List ℕ} → WellFormed t → Blank-or-keeps t
blank-or-keeps empty = inl no-space
blank-or-keeps (begins {t = t} n h w) = one_more t n h (blank-or-keeps w) (white (scalar (take n t))) refl

-- ---- exactly

module _ (t : List ℕ) where
  sure : (x : Trimmed) → trimmed t ≡ x → ((p : ℕ) → x ≡ NotUtf8 p → ⊥) → Blank-or-keeps t
  sure x e n = blank-or-keeps (trimmed-well-formed t (λ p q. n p (sym e ∙ q)))

  pub trimmed-bad-exactly : (p : ℕ) → Iff (trimmed t ≡ NotUtf8 p) (BadFrom t p)
  trimmed-bad-exactly p = (trimmed-bad t p, bad-trimmed t p)

  pub trimmed-blank-exactly : Iff (trimmed t ≡ Blank) (Blanks t)
  trimmed-blank-exactly =
      ((λ e. ⊎_elim (λ b. b) (λ x. let z : Blank ≡ Kept x.0 x.1 = sym e ∙ keeps-trimmed t x.0 x.1 x.2 in never cc) (sure Blank e (λ p q. never cc))), blanks-trimmed t)

  pub trimmed-kept-exactly : (f l : ℕ) → Iff (trimmed t ≡ Kept f l) (Keeps t f l)
  trimmed-kept-exactly f l = (
    (λ e. ⊎_elim (λ b. let z : Kept f l ≡ Blank = sym e ∙ blanks-trimmed t b in never cc)
        (λ x.
        let z : Kept x.0 x.1 ≡ Kept f l = sym (keeps-trimmed t x.0 x.1 x.2) ∙ e in
        let a : x.0 ≡ f = cc in
        let b : x.1 ≡ l = cc in
        subst (λ (y : ℕ). Keeps t f y) b (subst (λ (y : ℕ). Keeps t y x.1) a x.2))
        (sure (Kept f l) e (λ p q. never cc))),
    keeps-trimmed t f l,
  )
