-- The cursor over `SimpleText`. Assumes nothing.
use Rattle.lists.proofs.Prelude.{ℕ, ◌≡◌, sym, ap, ◌∙◌, List, ◌∷◌, arith, get_or, drop, get_or-drop}
use Rattle.values.specs.Read.{read_value}
use Rattle.value_display.specs.Display.{format_text, one_line}
use Rattle.value_display.specs.LocalsShowing.{DisplaysAt, Peeks, other_break}
use Rattle.value_display.proofs.OneLine.{line-empty, break-line, line_other, line-cr-lf, line-cr, line-lf, line-lf-cr-lf, line-lf-cr}
use Rattle.std.specs.Prelude.{Some, None}

-- what `format_text` shows from a place on
abbrev text : List ℕ → ℕ → List ℕ
text s at = format_text (read_value (drop at s))

module _ (s : List ℕ) (at : ℕ) where
  pub simple-end : DisplaysAt format_text s at None → DisplaysAt (λ z. one_line (format_text z)) s at None
  simple-end st = ap one_line st ∙ line-empty

  module _ {b n : ℕ} (st : DisplaysAt format_text s at (Some (b, n))) where
    -- by what the line is that begins with b: the next place is n, or m behind it
    here : {x : ℕ} → one_line (b ∷ text s n) ≡ x ∷ one_line (text s n) → DisplaysAt (λ z. one_line (format_text z)) s at (Some (x, n))
    here e = (ap one_line st.0 ∙ e, st.1, st.2)

    there : {x m : ℕ} → Peeks format_text s n x m → one_line (b ∷ text s n) ≡ 0x20 ∷ one_line (drop 1 (text s n)) → DisplaysAt (λ z. one_line (format_text z)) s at (Some (0x20, m))
    there p e = (ap one_line st.0 ∙ e ∙ ap (λ z. 0x20 ∷ one_line z) (sym p.rest), omega (arith, st.1, p.onward), p.within st.2)

    of : {c x : ℕ} {bs : List ℕ} → b ≡ c → one_line (c ∷ text s n) ≡ x ∷ bs → one_line (b ∷ text s n) ≡ x ∷ bs
    of e f = ap (λ z. one_line (z ∷ text s n)) e ∙ f

    module _ {other : ℕ} (o : other ≡ other_break b) where
      pub simple-other : other ≡ 0 → DisplaysAt (λ z. one_line (format_text z)) s at (Some (b, n))
      simple-other z = here (line_other b (text s n) (sym o ∙ z))

      module _ {x m : ℕ} (p : Peeks format_text s n x m) where
        pub simple-cr-lf : b ≡ 0xd → x ≡ 0xa → DisplaysAt (λ z. one_line (format_text z)) s at (Some (0x20, m))
        simple-cr-lf e f = there p (of e (line-cr-lf (text s n) (sym p.first ∙ f)))

        pub simple-cr : b ≡ 0xd → (x ≡ 0xa → ⊥) → DisplaysAt (λ z. one_line (format_text z)) s at (Some (0x20, n))
        simple-cr e f = here (of e (line-cr (text s n) (λ q. f (p.first ∙ q))))

        module _ (z : other ≡ 0 → ⊥) (l : b ≡ 0xd → ⊥) where
          lf : b ≡ 0xa
          lf = break-line b (λ q. z (o ∙ q)) l

          pub simple-lf : (x ≡ 0xd → ⊥) → DisplaysAt (λ z. one_line (format_text z)) s at (Some (0x20, n))
          simple-lf f = here (of lf (line-lf (text s n) (λ q. f (p.first ∙ q))))

          module _ (f : x ≡ 0xd) {y k : ℕ} (q : Peeks format_text s m y k) where
            third : y ≡ get_or (text s n) 1 0
            third = q.first ∙ ap (λ z. get_or z 0 0) p.rest ∙ get_or-drop 1 (text s n) 0 0

            pub simple-lf-cr-lf : y ≡ 0xa → DisplaysAt (λ z. one_line (format_text z)) s at (Some (0x20, n))
            simple-lf-cr-lf g = here (of lf (line-lf-cr-lf (text s n) (sym p.first ∙ f) (sym third ∙ g)))

            pub simple-lf-cr : (y ≡ 0xa → ⊥) → DisplaysAt (λ z. one_line (format_text z)) s at (Some (0x20, m))
            simple-lf-cr g = there p (of lf (line-lf-cr (text s n) (sym p.first ∙ f) (λ w. g (third ∙ w))))
