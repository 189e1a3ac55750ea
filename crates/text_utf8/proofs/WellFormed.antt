-- What trimming refuses, and where, is what table 3-7 says: in both directions, with no word of the machine. Assumes nothing.
use Rattle.lists.proofs.Prelude.{◌≡◌, refl, sym, ap, ◌∙◌, subst, ◌⊎◌, inl, inr, ⊎_elim, ℕ, zero, suc, ◌+◌, ◌<◌, arith, Bool, true, false, List, [], ◌∷◌, length, take, drop, get_or, length-drop, take-append-drop, drop-drop, length-take-le}
use Rattle.lists.proofs.Places.{drop-next}
use Rattle.text_utf8.specs.declared.Trimmed.TheVariants.{NotUtf8}
use Rattle.text_chars.specs.White.{white}
use Rattle.text_utf8.specs.Text.{Ink, blank, inked, mark, Utf, whole, utfs}
use Rattle.text_utf8.specs.Trim.{trim_of, trimmed}
use Rattle.text_chars.specs.Table.{listed, scalar, WellFormed, empty, begins, BadFrom}
use Rattle.text_chars.specs.LocalsDecode.{decoded}
use Rattle.lists.proofs.Places.{drop-take}
use Rattle.text_chars.proofs.Rows.{listed-long, listed-short, listed-take}
use Rattle.text_utf8.proofs.Steps.{place, place_is, utfs-append}
use Rattle.text_utf8.proofs.Cut.{unlisted-bad}
use Rattle.text_utf8.proofs.Taken.{listed-taken}
use Rattle.text_utf8.proofs.Decoding.{decoded-listed, decoded-none}
use Rattle.std.specs.Prelude.{Option, Some, None}

bad-later : (t : List ℕ) (n p : ℕ) → listed n t ≡ true → BadFrom (drop n t) p → BadFrom t (n + p)
bad-later t n p h x =
    let l = listed-long n t h in
    record {
      inside = omega (arith, x.inside, length-drop n t, l.1);
      before = begins n (listed-take n (n + p) t (omega arith) ∙ h) (subst WellFormed (sym (drop-take n p t l.1)) x.before);
      here = λ m. ap (listed m) (sym (drop-drop p n t)) ∙ x.here m;
    }

bad-here : (b : ℕ) (cs : List ℕ) → decoded (b ∷ cs) ≡ None → BadFrom (b ∷ cs) 0
bad-here b cs h = record { inside = omega arith; before = empty; here = λ n. go n (listed n (b ∷ cs)) refl }
  where
    go : (n : ℕ) (x : Bool) → listed n (b ∷ cs) ≡ x → x ≡ false
    go n true e = sym e ∙ decoded-none (b ∷ cs) h n (listed-short n (b ∷ cs) e)
    go n false e = refl

-- well formed, or bad from a place on
abbrev pub WellOrBad : List ℕ → Type 0
WellOrBad t = WellFormed t ⊎ ((p : ℕ) × BadFrom t p)

one_more : (t : List ℕ) → ((u : List ℕ) → length u < length t → WellOrBad u) → WellOrBad t
one_more [] f = inl empty
one_more (b ∷ cs) f = go (decoded (b ∷ cs)) refl
  where
    go : (d : Option (ℕ × Bool)) → decoded (b ∷ cs) ≡ d → WellOrBad (b ∷ cs)
    go (Some (w, x)) e =
        let h = (decoded-listed (b ∷ cs) w x e).0 in
        ⊎_elim (λ y. inl (begins w h y)) (λ y. inr (w + y.0, bad-later (b ∷ cs) w y.0 h y.1))
        (f (drop w (b ∷ cs)) (omega (arith, listed-long w (b ∷ cs) h, length-drop w (b ∷ cs))))
    go None e = inr (0, bad-here b cs e)

shorter : (m : ℕ) (t : List ℕ) → length t < m → WellOrBad t
shorter zero t l = absurd (omega arith)
shorter (suc m) t l = one_more t (λ u h. shorter m u (omega arith))

pub well-or-bad : (t : List ℕ) → WellOrBad t
well-or-bad t = shorter (suc (length t)) t (omega arith)

-- ---- and so does the machine find it

well-whole : {t : List ℕ} → WellFormed t → (k : Ink) (o : ℕ) → (k' : Ink) × (utfs (whole k) o t ≡ whole k')
well-whole empty k o = (k, refl)
well-whole (begins {t = t} n h w) k o =
    let x = well-whole w (mark (white (scalar (take n t))) k o (o + n)) (o + n) in
    (x.0, listed-taken n t h k o ∙ x.1)

pub bad-trimmed : (t : List ℕ) (p : ℕ) → BadFrom t p → trimmed t ≡ NotUtf8 p
unfolding trimmed
bad-trimmed t p x =
    let w = well-whole x.before blank 0 in
    let q : place 0 (take p t) ≡ p = omega (arith, place_is 0 (take p t), length-take-le p t (omega (arith, x.inside))) in
    ap (λ (l : List ℕ). trim_of (utfs (whole blank) 0 l)) (sym (take-append-drop p t))
    ∙ ap trim_of (utfs-append (whole blank) 0 (take p t) (drop p t))
    ∙ ap (λ (u : Utf). trim_of (utfs u (place 0 (take p t)) (drop p t))) w.1
    ∙ ap (λ (o : ℕ). trim_of (utfs (whole w.0) o (drop p t))) q
    ∙ ap (λ (l : List ℕ). trim_of (utfs (whole w.0) p l)) (drop-next t p x.inside)
    ∙ unlisted-bad (get_or t p 0) (drop (p + 1) t) (λ n l. ap (listed n) (sym (drop-next t p x.inside)) ∙ x.here n) w.0 p

pub well-formed-trimmed : (t : List ℕ) → WellFormed t → (p : ℕ) → trimmed t ≡ NotUtf8 p → ⊥
unfolding trimmed
well-formed-trimmed t w p e = let x = well-whole w blank 0 in never x.0 (sym (ap trim_of x.1) ∙ e)
  where
    never : (k : Ink) → trim_of (whole k) ≡ NotUtf8 p → ⊥
    never blank e = let z : ◌≡◌ {A = ℕ} 0 1 = cc in omega arith
    never (inked f l) e = let z : ◌≡◌ {A = ℕ} 0 1 = cc in omega arith

pub trimmed-bad : (t : List ℕ) (p : ℕ) → trimmed t ≡ NotUtf8 p → BadFrom t p
trimmed-bad t p e =
    ⊎_elim (λ w. absurd (well-formed-trimmed t w p e)) (λ x. let q : x.0 ≡ p = cc (bad-trimmed t x.0 x.1) in subst (BadFrom t) q x.1) (well-or-bad t)

pub trimmed-well-formed : (t : List ℕ) → ((p : ℕ) → trimmed t ≡ NotUtf8 p → ⊥) → WellFormed t
trimmed-well-formed t n = ⊎_elim (λ w. w) (λ x. absurd (n x.0 (bad-trimmed t x.0 x.1))) (well-or-bad t)
