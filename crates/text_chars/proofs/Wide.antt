-- The character at a place, from the bytes there. Assumes nothing.
use Rattle.lists.proofs.Prelude.{◌≡◌, refl, ap, ◌∙◌, ℕ, suc, ◌+◌, ◌-◌, ◌≤◌, ◌<◌, arith, true, false, List, [], ◌∷◌, length, take, drop, get_or, length-drop, drop_of_length-le}
use Rattle.text_chars.specs.White.{white}
use Rattle.text_chars.specs.Table.{table37, listed, scalar}
use Rattle.text_chars.specs.LocalsDecode.{decoded}
use Rattle.text_chars.proofs.Padded.{bytes_at, take-bytes, listed-bytes}
use Rattle.text_chars.proofs.Rows.{listed-long}
use Rattle.text_chars.proofs.Tests.{in_within, above_within}
use Rattle.std.specs.Prelude.{Some, None}

module _ (s : List ℕ) (i : ℕ) (h : i < length s) where
  -- the bytes from i on are those of us, 0 past the end
  Reads : List ℕ → Type 0
  Reads us = bytes_at s i (length us) ≡ us

  no-sequence : (us : List ℕ) → Reads us → listed (length us) us ≡ false → listed (length us) (drop i s) ≡ false
  unfolding Reads
  no-sequence us e l = listed-bytes (length us) s i h ∙ ap (listed (length us)) e ∙ l

  a-sequence : (us : List ℕ) → Reads us → listed (length us) us ≡ true → (listed (length us) (drop i s) ≡ true) × (take (length us) (drop i s) ≡ us)
  unfolding Reads
  a-sequence us e l =
      let p : listed (length us) (drop i s) ≡ true = listed-bytes (length us) s i h ∙ ap (listed (length us)) e ∙ l in
      (p, take-bytes s i (length us) (omega (arith, listed-long (length us) (drop i s) p, length-drop i s)) ∙ e)

  pub decoded-1 : get_or s i 0 < 128 → decoded (drop i s) ≡ Some (1, white (get_or s i 0))
  unfolding decoded Reads listed table37
  decoded-1 l =
      let b = get_or s i 0 in
      let p = a-sequence (b ∷ []) refl (rw (in_within 0 0x7f b (omega arith) (omega arith))) in
      let e : b - 0 ≡ b = omega arith in
      rw (p.0, p.1, e)

  module _ (high : 128 ≤ get_or s i 0) where
    no-1 : listed 1 (drop i s) ≡ false
    unfolding Reads listed table37
    no-1 = no-sequence (get_or s i 0 ∷ []) refl (rw (above_within 0 0x7f (get_or s i 0) (omega arith)))

    module _ (c : ℕ) (ec : c ≡ get_or s (i + 1) 0) where
      bytes_2 : Reads (get_or s i 0 ∷ c ∷ [])
      unfolding Reads
      bytes_2 = let e1 : i + 1 ≡ suc i = omega arith in rw (ec, e1)

      pub decoded-2 : listed 2 (get_or s i 0 ∷ c ∷ []) ≡ true → decoded (drop i s) ≡ Some (2, white (scalar (get_or s i 0 ∷ c ∷ [])))
      unfolding decoded
      decoded-2 l = let p = a-sequence (get_or s i 0 ∷ c ∷ []) bytes_2 l in rw (no-1, p.0, p.1)

      module _ (n2 : listed 2 (get_or s i 0 ∷ c ∷ []) ≡ false) (d : ℕ) (ed : d ≡ get_or s (i + 2) 0) where
        bytes-3 : Reads (get_or s i 0 ∷ c ∷ d ∷ [])
        unfolding Reads
        bytes-3 =
            let e1 : i + 1 ≡ suc i = omega arith in
            let e2 : i + 2 ≡ suc (suc i) = omega arith in
            rw (ec, ed, e1, e2)

        pub decoded-3 : listed 3 (get_or s i 0 ∷ c ∷ d ∷ []) ≡ true → decoded (drop i s) ≡ Some (3, white (scalar (get_or s i 0 ∷ c ∷ d ∷ [])))
        unfolding decoded
        decoded-3 l = let p = a-sequence (get_or s i 0 ∷ c ∷ d ∷ []) bytes-3 l in rw (no-1, no-sequence (get_or s i 0 ∷ c ∷ []) bytes_2 n2, p.0, p.1)

        module _ (n3 : listed 3 (get_or s i 0 ∷ c ∷ d ∷ []) ≡ false) (f : ℕ) (ef : f ≡ get_or s (i + 3) 0) where
          bytes_4 : Reads (get_or s i 0 ∷ c ∷ d ∷ f ∷ [])
          unfolding Reads
          bytes_4 =
              let e1 : i + 1 ≡ suc i = omega arith in
              let e2 : i + 2 ≡ suc (suc i) = omega arith in
              let e3 : i + 3 ≡ suc (suc (suc i)) = omega arith in
              rw (ec, ed, ef, e1, e2, e3)

          pub decoded-4 : listed 4 (get_or s i 0 ∷ c ∷ d ∷ f ∷ []) ≡ true → decoded (drop i s) ≡ Some (4, white (scalar (get_or s i 0 ∷ c ∷ d ∷ f ∷ [])))
          unfolding decoded
          decoded-4 l =
              let p = a-sequence (get_or s i 0 ∷ c ∷ d ∷ f ∷ []) bytes_4 l in
              rw (no-1, no-sequence (get_or s i 0 ∷ c ∷ []) bytes_2 n2, no-sequence (get_or s i 0 ∷ c ∷ d ∷ []) bytes-3 n3, p.0, p.1)

          pub decoded-0 : listed 4 (get_or s i 0 ∷ c ∷ d ∷ f ∷ []) ≡ false → decoded (drop i s) ≡ None
          unfolding decoded
          decoded-0 l =
              rw (no-1, no-sequence (get_or s i 0 ∷ c ∷ []) bytes_2 n2, no-sequence (get_or s i 0 ∷ c ∷ d ∷ []) bytes-3 n3, no-sequence (get_or s i 0 ∷ c ∷ d ∷ f ∷ []) bytes_4 l)

-- none past the end
pub decoded-past : (s : List ℕ) (i : ℕ) → length s ≤ i → decoded (drop i s) ≡ None
unfolding decoded listed table37
decoded-past s i h = rw (drop_of_length-le s h)
