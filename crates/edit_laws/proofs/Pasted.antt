-- The bytes of a text once a part of it is replaced: what stands before the part, in it, after it; and that it is valid still. Assumes nothing.
use Rattle.lists.proofs.Prelude.{ℕ, suc, ◌+◌, ◌-◌, ◌≤◌, ◌<◌, true, false≢true, List, [], ◌∷◌, ◌++◌, append_assoc, ◌≡◌, refl, sym, ap, ap₂, ◌∙◌, subst, arith, length, take, drop, get_or, take-append-drop, length-append, get_or-append, get_or-eq_default, slice, take-suc, take-take, take-append-le, take-append-add, drop-append-add, drop-cons, get_or-append-add, get_or-take, length-take-le, take_at}
use Rattle.text_utf8.specs.Text.{Ink, blank, Utf, whole, part, bad, utfs}
use Rattle.text_utf8.specs.Trim.{trim_of, trimmed}
use Rattle.lexer_laws.proofs.Kept.{kept}
use Rattle.fit.specs.Fit.{sound, valid_utf8}
use Rattle.tables.proofs.Cases.{below_or}
use Rattle.edit_splice.specs.Splice.{pasted}
use Rattle.fit.proofs.Whole.{whole-sound}

slice-add : (p r : List ℕ) (n a b : ℕ) → length p ≡ n → slice (n + a) (n + b) (p ++ r) ≡ slice a b r
slice-add p r n a b h =
    subst (λ (k : ℕ). slice (k + a) (k + b) (p ++ r) ≡ slice a b r) h
    (ap (drop (length p + a)) (take-append-add p r b) ∙ drop-append-add p (take b r) a)

module _ (t new : List ℕ) (q e : ℕ) (qe : q ≤ e) (el : e ≤ length t) where
  abbrev pub U : List ℕ
  U = pasted t q e new

  length_front : length (take q t) ≡ q
  length_front = length-take-le q t (omega arith)

  -- before the part
  pub byte-before : (i : ℕ) → i < q → get_or U i 0 ≡ get_or t i 0
  byte-before i h = get_or-append (take q t) (new ++ drop e t) 0 i (omega (arith, length_front)) ∙ get_or-take q t i 0 h

  pub slice-before : (a b : ℕ) → b ≤ q → slice a b U ≡ slice a b t
  slice-before a b h = ap (drop a) (take-append-le b (take q t) (new ++ drop e t) (omega (arith, length_front)) ∙ take-take b q t h)

  -- behind it
  front : List ℕ
  front = take q t ++ new

  whole_is : U ≡ front ++ drop e t
  unfolding front
  whole_is = sym (append_assoc (take q t) new (drop e t))

  front-is : length front ≡ q + length new
  unfolding front
  front-is = length-append (take q t) new ∙ ap (λ (z : ℕ). z + length new) length_front

  old-is : t ≡ take e t ++ drop e t
  old-is = sym (take-append-drop e t)

  old-front : length (take e t) ≡ e
  old-front = length-take-le e t el

  pub byte-after : (i : ℕ) → get_or U (q + length new + i) 0 ≡ get_or t (e + i) 0
  byte-after i =
      ap (λ (z : List ℕ). get_or z (q + length new + i) 0) whole_is
      ∙ subst (λ (n : ℕ). get_or (front ++ drop e t) (n + i) 0 ≡ get_or (drop e t) i 0) front-is (get_or-append-add front (drop e t) i 0)
      ∙ sym (ap (λ (z : List ℕ). get_or z (e + i) 0) old-is ∙ subst (λ (n : ℕ). get_or (take e t ++ drop e t) (n + i) 0 ≡ get_or (drop e t) i 0) old-front (get_or-append-add (take e t) (drop e t) i 0))

  pub slice-after : (a b : ℕ) → slice (q + length new + a) (q + length new + b) U ≡ slice (e + a) (e + b) t
  slice-after a b =
      ap (slice (q + length new + a) (q + length new + b)) whole_is
      ∙ slice-add front (drop e t) (q + length new) a b front-is
      ∙ sym (ap (slice (e + a) (e + b)) old-is ∙ slice-add (take e t) (drop e t) e a b old-front)

  -- in it
  pub slice-new : slice q (q + length new) U ≡ new
  slice-new =
      let z : q + 0 ≡ q = omega arith in
      ap (λ (k : ℕ). slice k (q + length new) U) (sym z)
      ∙ slice-add (take q t) (new ++ drop e t) q 0 (length new) length_front
      ∙ take_at new (drop e t) (length new) refl

  -- ---- validity: the part stands after `[` and before `]`

  module _ (some : 0 < q) (opens : get_or t (q - 1) 0 ≡ 0x5b) (closes : get_or t e 0 ≡ 0x5d) where
    inside : e < length t
    inside = below_or e (length t) (λ z. z) (λ z. absurd (omega (arith, closes, get_or-eq_default t 0 z)))

    pub around : (mid : List ℕ) → take q t ++ (mid ++ drop e t) ≡ take (q - 1) t ++ (0x5b ∷ (mid ++ (0x5d ∷ drop (suc e) t)))
    around mid =
        let s : q ≡ suc (q - 1) = omega arith in
        let f : take q t ≡ take (q - 1) t ++ (0x5b ∷ []) =
        ap (λ (k : ℕ). take k t) s ∙ take-suc t (q - 1) 0 (omega (arith, inside)) ∙ ap (λ (x : ℕ). take (q - 1) t ++ (x ∷ [])) opens in
        let r : drop e t ≡ 0x5d ∷ drop (suc e) t = drop-cons t e 0 inside ∙ ap (λ (x : ℕ). x ∷ drop (suc e) t) closes in
        ap₂ (λ (x y : List ℕ). x ++ (mid ++ y)) f r ∙ append_assoc (take (q - 1) t) (0x5b ∷ []) (mid ++ (0x5d ∷ drop (suc e) t))

    pub back : take q t ++ (slice q e t ++ drop e t) ≡ t
    back =
        sym (append_assoc (take q t) (slice q e t) (drop e t))
        ∙ ap (λ (x : List ℕ). x ++ drop e t) (ap (λ (x : List ℕ). x ++ slice q e t) (sym (take-take q e t qe)) ∙ take-append-drop q (take e t))
        ∙ take-append-drop e t

    sound-whole : (u : Utf) → sound (trim_of u) ≡ true → (k : Ink) × (u ≡ whole k)
    sound-whole (whole k) h = (k, refl)
    sound-whole (part k s n r x) h = absurd (false≢true h)
    sound-whole (bad p) h = absurd (false≢true h)

    valid-by : (u : Utf) {k : Ink} → u ≡ whole k → sound (trim_of u) ≡ true
    valid-by u {k} e = ap (λ (z : Utf). sound (trim_of z)) e ∙ whole-sound k

    pub valid-still : valid_utf8 t ≡ true → (kn : Ink) → utfs (whole blank) 0 new ≡ whole kn → valid_utf8 U ≡ true
    unfolding trimmed
    valid-still h kn v =
        let w = sound-whole (utfs (whole blank) 0 t) h in
        let k = kept (take (q - 1) t) (slice q e t) new (drop (suc e) t) w.0 kn (ap (utfs (whole blank) 0) (sym (around (slice q e t)) ∙ back) ∙ w.1) v in
        valid-by (utfs (whole blank) 0 U) (ap (utfs (whole blank) 0) (around new) ∙ k.again)
