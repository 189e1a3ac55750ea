-- The cursor over `format_text`: from here as from the start. Assumes nothing.
use Rattle.lists.proofs.Prelude.{ℕ, ◌≤◌, ◌≡◌, sym, ap, ◌∙◌, List, ◌∷◌, arith, drop}
use Rattle.values.specs.Read.{read_value}
use Rattle.value_display.specs.Display.{format_text}
use Rattle.value_display.specs.LocalsShowing.{DisplaysAt, FormatsAt, other_break, Past}
use Rattle.values.proofs.Steps.{Steps}
use Rattle.value_display.proofs.Formats.{format-empty, format-last, format-shown, format-removed}
use Rattle.std.specs.Prelude.{Some, None}

-- nothing that is shown stands between `from` and `at`
abbrev pub Same : List ℕ → (from at : ℕ) → Type 0
Same s from at = (format_text (read_value (drop from s)) ≡ format_text (read_value (drop at s))) × (from ≤ at)

module _ (s : List ℕ) {from at : ℕ} (inv : Same s from at) where
  pub text-end : Steps s at None → DisplaysAt format_text s from None
  text-end st = inv.0 ∙ ap format_text st ∙ format-empty

  module _ {b n : ℕ} (st : Steps s at (Some (b, n))) where
    pub text-plain : {x m : ℕ} → FormatsAt b s n x m → DisplaysAt format_text s from (Some (x, m))
    text-plain p = (inv.0 ∙ ap format_text st.0 ∙ p.first, omega (arith, inv.1, st.1, p.onward), p.within st.2)

    module _ (e : b ≡ 0x5c) where
      read-slash : read_value (drop at s) ≡ 0x5c ∷ read_value (drop n s)
      read-slash = st.0 ∙ ap (λ (z : ℕ). z ∷ read_value (drop n s)) e

      -- a backslash that is the last of all
      pub text-last : Steps s n None → DisplaysAt format_text s from (Some (b, n))
      text-last end = (
        inv.0
            ∙ ap format_text (read-slash ∙ ap (λ (z : List ℕ). 0x5c ∷ z) end)
            ∙ format-last
            ∙ ap (λ (z : List ℕ). 0x5c ∷ z) (sym (ap format_text end ∙ format-empty))
            ∙ ap (λ (z : ℕ). z ∷ format_text (read_value (drop n s))) (sym e),
        omega (arith, inv.1, st.1),
        st.2,
      )

      module _ {c m other : ℕ} (st2 : Steps s n (Some (c, m))) (o : other ≡ other_break c) where
        pub text-shown : other ≡ 0 → DisplaysAt format_text s from (Some (c, m))
        text-shown z = (
          inv.0 ∙ ap format_text (read-slash ∙ ap (λ (z : List ℕ). 0x5c ∷ z) st2.0) ∙ format-shown c (read_value (drop m s)) o z,
          omega (arith, inv.1, st.1, st2.1),
          st2.2,
        )

        pub text-removed : {r : ℕ} → (other ≡ 0 → ⊥) → Past other s m r → Same s from r
        text-removed z p = (
          inv.0
              ∙ ap format_text (read-slash ∙ ap (λ (z : List ℕ). 0x5c ∷ z) st2.0)
              ∙ format-removed c (read_value (drop m s)) o z
              ∙ ap format_text (sym p.rest),
          omega (arith, inv.1, st.1, st2.1, p.onward),
        )
