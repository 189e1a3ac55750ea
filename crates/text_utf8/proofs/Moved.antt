-- Ink whose end moves with the places: the same bytes at moved places. Assumes nothing.
use Rattle.lists.proofs.Prelude.{◌≡◌, refl, ℕ, zero, suc, ◌+◌, ◌-◌, ◌*◌, ◌≤◌, arith, Bool, true, false, List, [], ◌∷◌}
use Rattle.text_chars.specs.White.{white}
use Rattle.text_utf8.specs.Text.{blank, inked, mark, holds, Utf, whole, part, bad, later, utf, utfs}
use Rattle.text_utf8.proofs.Steps.{utf-both}

-- every place moved, but for where the ink begins
abbrev pub move_utf : (ℕ → ℕ) → Utf → Utf
move_utf g (whole blank) = whole blank
move_utf g (whole (inked a l)) = whole (inked a (g l))
move_utf g (part blank s n r c) = part blank (g s) n r c
move_utf g (part (inked a l) s n r c) = part (inked a (g l)) (g s) n r c
move_utf g (bad p) = bad (g p)

-- there is ink, or a bad sequence
abbrev pub Inky : Utf → Type 0
Inky (whole blank) = ⊥
Inky (whole (inked a l)) = Unit {0}
Inky (part blank s n r c) = ⊥
Inky (part (inked a l) s n r c) = Unit {0}
Inky (bad p) = Unit {0}

module _ (g : ℕ → ℕ) where
  abbrev Good : Utf → Utf → Type 0
  Good u u' = (u' ≡ move_utf g u) × Inky u

  good-mark : (w : Bool) (a l s s' o : ℕ) → g (suc o) ≡ suc (g o) → Good (whole (mark w (inked a l) s (suc o))) (whole (mark w (inked a (g l)) s' (suc (g o))))
  good-mark true a l s s' o h = (refl, tt)
  good-mark false a l s s' o h = (rw h, tt)

  good-later : (t : Bool) (a l s n c o b : ℕ) → g (suc o) ≡ suc (g o) → Good (later t (inked a l) s n c o b) (later t (inked a (g l)) (g s) n c (g o) b)
  good-later true a l s zero c o b h = good-mark (white (c * 64 + (b - 0x80))) a l s (g s) o h
  good-later true a l s (suc n) c o b h = (refl, tt)
  good-later false a l s n c o b h = (refl, tt)

  good-utf : (u : Utf) (o b : ℕ) → g (suc o) ≡ suc (g o) → Inky u → Good (utf u o b) (utf (move_utf g u) (g o) b)
  good-utf (whole blank) o b h i = absurd i
  good-utf (whole (inked a l)) o b h i = utf-both Good (inked a l) (inked a (g l)) o (g o) b (good-mark (white b) a l o (g o) o h) (λ n r c. (refl, tt)) (refl, tt)
  good-utf (part blank s n r c) o b h i = absurd i
  good-utf (part (inked a l) s n r c) o b h i = good-later (holds r b) a l s n c o b h
  good-utf (bad p) o b h i = (refl, tt)

  pub move-utfs : (u : Utf) (o : ℕ) (bs : List ℕ) → ((j : ℕ) → o ≤ j → g (suc j) ≡ suc (g j)) → Inky u → utfs (move_utf g u) (g o) bs ≡ move_utf g (utfs u o bs)
  move-utfs u o [] h i = refl
  move-utfs u o (b ∷ bs) h i =
      let k = good-utf u o b (h o (omega arith)) i in
      rw (k.0, ← h o (omega arith)) (move-utfs (utf u o b) (suc o) bs (λ j a. h j (omega arith)) k.1)
