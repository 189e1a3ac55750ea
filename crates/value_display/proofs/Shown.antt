-- The cursors of text display. Assumes nothing.
use Rattle.lists.proofs.Prelude.{ℕ, ◌≤◌, ◌≡◌, refl, sym, ap, ◌∙◌, Bool, true, false, ◌||◌, List, ◌∷◌, arith, le_refl, ltb, eqb, get_or, drop, drop-drop, get_or-drop, ltb-true, eq-eqb, ne_eqb}
use Rattle.values.specs.Read.{read_value}
use Rattle.value_display.specs.Display.{blank1, blank2, blank3, format_text}
use Rattle.value_display.specs.LocalsShowing.{DisplaysAt, Peeks, FormatsAt, Past}
use Rattle.value_display.proofs.Formats.{format-blank1, format-blank2, format-blank3, format-plain}
use Rattle.std.specs.Prelude.{Some, None}

module _ (f : List ℕ → List ℕ) (s : List ℕ) (at : ℕ) where
  pub peek-byte : {b n : ℕ} → DisplaysAt f s at (Some (b, n)) → Peeks f s at b n
  peek-byte st = record { first = rw st.0; rest = rw st.0; onward = omega (arith, st.1); within = λ h. st.2 }

  pub peek-end : DisplaysAt f s at None → Peeks f s at 0 at
  peek-end st = record { first = rw st; rest = rw st; onward = le_refl at; within = λ h. h }

-- white space of more than one byte begins with a byte from C2 to E3
outside : (b k : ℕ) → (ltb b 0xc2 || ltb 0xe3 b) ≡ true → 0xc2 ≤ k → k ≤ 0xe3 → b ≡ k → ⊥
outside b k e low high q = go (ltb b 0xc2) refl e
  where
    go : (t : Bool) → ltb b 0xc2 ≡ t → (t || ltb 0xe3 b) ≡ true → ⊥
    go true p w = omega (arith, ltb-true b 0xc2 p)
    go false p w = omega (arith, ltb-true 0xe3 b w)

module _ (b : ℕ) (s : List ℕ) (at : ℕ) (h : b ≡ 0x5c → ⊥) where
  pub begins-blank1 : {r : Bool} → r ≡ blank1 b → r ≡ true → FormatsAt b s at 0x20 at
  begins-blank1 e t = record { first = format-blank1 b (read_value (drop at s)) h (sym e ∙ t); onward = le_refl at; within = λ l. l }

  module _ {r1 : Bool} (e1 : r1 ≡ blank1 b) (t1 : r1 ≡ false) where
    pub begins-outside : (ltb b 0xc2 || ltb 0xe3 b) ≡ true → FormatsAt b s at b at
    begins-outside e =
        let bs = read_value (drop at s) in
        let out : (k : ℕ) → 0xc2 ≤ k → k ≤ 0xe3 → eqb b k ≡ false = λ k low high. ne_eqb b k (outside b k e low high) in
        record {
          first =
              format-plain b bs h (sym e1 ∙ t1) (rw (out 0xc2 (omega arith) (omega arith)))
              (rw (out 0xe1 (omega arith) (omega arith), out 0xe2 (omega arith) (omega arith), out 0xe3 (omega arith) (omega arith)));
          onward = le_refl at;
          within = λ l. l;
        }

    module _ {x n : ℕ} (p : Peeks (λ z. z) s at x n) {r2 : Bool} (e2 : r2 ≡ blank2 b x) where
      second : blank2 b (get_or (read_value (drop at s)) 0 0) ≡ r2
      second = ap (blank2 b) (sym p.first) ∙ sym e2

      pub begins-blank2 : r2 ≡ true → FormatsAt b s at 0x20 n
      begins-blank2 t =
          record {
            first = format-blank2 b (read_value (drop at s)) h (sym e1 ∙ t1) (second ∙ t) ∙ ap (λ z. 0x20 ∷ format_text z) (sym p.rest);
            onward = p.onward;
            within = p.within;
          }

      module _ (t2 : r2 ≡ false) {y m : ℕ} (q : Peeks (λ z. z) s n y m) {r3 : Bool} (e3 : r3 ≡ blank3 b x y) where
        third : blank3 b (get_or (read_value (drop at s)) 0 0) (get_or (read_value (drop at s)) 1 0) ≡ r3
        third =
            ap (λ z. blank3 b z (get_or (read_value (drop at s)) 1 0)) (sym p.first)
            ∙ ap (blank3 b x) (sym (q.first ∙ ap (λ z. get_or z 0 0) p.rest ∙ get_or-drop 1 (read_value (drop at s)) 0 0))
            ∙ sym e3

        pub begins-blank3 : r3 ≡ true → FormatsAt b s at 0x20 m
        begins-blank3 t =
            record {
              first =
                  format-blank3 b (read_value (drop at s)) h (sym e1 ∙ t1) (second ∙ t2) (third ∙ t)
                  ∙ ap (λ z. 0x20 ∷ format_text z) (sym (q.rest ∙ ap (drop 1) p.rest ∙ drop-drop 1 1 (read_value (drop at s))));
              onward = omega (arith, p.onward, q.onward);
              within = λ l. q.within (p.within l);
            }

        pub begins-plain : r3 ≡ false → FormatsAt b s at b at
        begins-plain t = record { first = format-plain b (read_value (drop at s)) h (sym e1 ∙ t1) (second ∙ t2) (third ∙ t); onward = le_refl at; within = λ l. l }

-- a byte, where it is the next read one
module _ (other : ℕ) (s : List ℕ) (at : ℕ) {x n : ℕ} (p : Peeks (λ z. z) s at x n) where
  pub past-it : x ≡ other → Past other s at n
  past-it e = record { rest = rw (eq-eqb (get_or (read_value (drop at s)) 0 0) other (sym p.first ∙ e)) p.rest; onward = p.onward }

  pub past-none : (x ≡ other → ⊥) → Past other s at at
  past-none k = record { rest = rw (ne_eqb (get_or (read_value (drop at s)) 0 0) other (λ e. k (p.first ∙ e))); onward = le_refl at }
