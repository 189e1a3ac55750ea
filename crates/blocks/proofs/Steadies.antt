-- ASCII bytes where the token rules and the rows stand as after the last character that is no white space. Assumes nothing.
use Rattle.lists.proofs.Prelude.{◌≡◌, refl, sym, ap, ap₂, ◌∙◌, subst⁻¹, ℕ, zero, suc, ◌+◌, ◌≤◌, ◌<◌, arith, true, false, List, [], ◌∷◌, ◌++◌, length, take, drop, get_or, add-one, take-append-drop, drop-drop}
use Rattle.tables.specs.Numbers.{text_limit}
use Rattle.text_chars.proofs.White.{ascii-dark}
use Rattle.lexer_scan.specs.Scan.{space}
use Rattle.lexer_laws.proofs.Laws.{space-exactly}
use Rattle.blocks_step.specs.declared.Utf8.TheVariants.{Whole}
use Rattle.blocks_step.specs.declared.Phase.{Phase}
use Rattle.blocks_step.specs.declared.Phase.TheVariants.{Value, After}
use Rattle.blocks_step.specs.Lean.{moves}
use Rattle.blocks.specs.Room.{filled_with, rows_at, add_rows, Room, room, keeps, takes_byte, takes_all}
use Rattle.blocks.specs.LocalsSteady.{ValueRun, PairFrom, WhiteStays, quiet_move, steady_at}
use Rattle.blocks.proofs.Taking.{went, took-ink, took-white}
use Rattle.blocks.proofs.Quiets.{takes-append, silent-goes, ends-ascii, quietly, quiet-byte, values-over, take_next, value-silent, close-silent}

-- ---- bytes from a place on

pub block-part : (bs : List ℕ) (i n : ℕ) (w v z : Room) → takes_all w (take n (drop i bs)) ≡ v → takes_all w (drop i bs) ≡ z → takes_all v (drop (i + n) bs) ≡ z
block-part bs i n w v z e y =
    let x : drop i bs ≡ take n (drop i bs) ++ drop (i + n) bs = sym (take-append-drop n (drop i bs)) ∙ ap (λ (l : List ℕ). take n (drop i bs) ++ l) (drop-drop n i bs) in
    ap (λ (r : Room). takes_all r (drop (i + n) bs)) (sym e)
    ∙ sym (takes-append (take n (drop i bs)) (drop (i + n) bs) w)
    ∙ sym (ap (takes_all w) x)
    ∙ y

pub block-part-by : (bs : List ℕ) (i n m : ℕ) (w v z : Room) → m ≡ n → takes_all w (take n (drop i bs)) ≡ v → takes_all w (drop i bs) ≡ z → takes_all v (drop (i + m) bs) ≡ z
block-part-by bs i n m w v z q e y = subst⁻¹ (λ (x : ℕ). takes_all v (drop (i + x) bs) ≡ z) q (block-part bs i n w v z e y)

-- ---- one byte

module _ (o l : ℕ) (p : Phase) (c : ℕ) (t : List ℕ) (h : o < text_limit) where
  steady-quiet : (b : ℕ) (q : Phase) → 32 < b → b < 128 → moves p o b ≡ quiet_move q → takes_byte (room (steady_at o l p c) t) b ≡ room (steady_at (o + 1) (o + 1) q c) t
  unfolding steady_at quietly
  steady-quiet b q d a e = quiet-byte (steady_at o l p c) t b q refl h a d e

  pub steady-white : (b : ℕ) → 0 < l → space b ≡ true → WhiteStays p → takes_byte (room (steady_at o l p c) t) b ≡ room (steady_at (o + 1) l p c) t
  unfolding steady_at
  steady-white b z e f =
      let a = (space-exactly b).1 e in
      sym (took-white (steady_at o l p c) t b h true refl (ends-ascii (steady_at o l p c) b refl a true (sym ((space-exactly b).0 a) ∙ e)) (λ x. absurd (omega (arith, x, z))))
      ∙ silent-goes (steady_at o l p c) t b p (f o b e)
      ∙ ap (λ (n : ℕ). room (steady_at n l p c) t) (sym (add-one o))

  pub steady-ink : (b : ℕ) → 32 < b → b < 128 → (n : ℕ) (t' : List ℕ) (q : Phase) → filled_with n t' ≡ add_rows (filled_with c t) (rows_at (moves p o b).tokens o) → q ≡ (moves p o b).next
      → takes_byte (room (steady_at o l p c) t) b ≡ room (steady_at (o + 1) (o + 1) q n) t'
  unfolding steady_at keeps
  steady-ink b d a n t' q f e =
      sym (took-ink (steady_at o l p c) t b h false refl (ends-ascii (steady_at o l p c) b refl a false (ascii-dark b d a)))
      ∙ ap keeps (sym (went (steady_at o l p c) t b Whole (moves p o b) n t' refl f))
      ∙ ap (λ (z : Phase). room (steady_at (o + 1) (o + 1) z n) t') (sym e)

-- ---- bytes of a value

pub steady-values : (o l : ℕ) (p : Phase) (c : ℕ) (t bs : List ℕ) (i n : ℕ) → 0 < l → o + n ≤ text_limit → ValueRun p bs i n
    → takes_all (room (steady_at o l p c) t) (take n (drop i bs)) ≡ room (steady_at (o + n) (o + n) p c) t
unfolding steady_at quietly
steady-values o l p c t bs i zero z h r = absurd (omega (arith, r.run.some))
steady-values o l p c t bs i (suc n) z h r =
    values-over n bs i r.run (steady_at o l p c) t r.start refl z r.stands h
    ∙ ap (λ (q : Phase). room (steady_at (o + suc n) (o + suc n) q c) t) (sym r.stands)

four : (bs : List ℕ) (i : ℕ) → i + 4 ≤ length bs → take 4 (drop i bs) ≡ get_or bs i 0 ∷ get_or bs (i + 1) 0 ∷ get_or bs (i + 2) 0 ∷ get_or bs (i + 3) 0 ∷ []
four bs i h =
    take_next bs i 3 (omega arith)
    ∙ ap (λ (l : List ℕ). get_or bs i 0 ∷ l) (next 0 2 (omega arith) ∙ ap (λ (l : List ℕ). get_or bs (i + 1) 0 ∷ l) (next 1 1 (omega arith) ∙ ap (λ (l : List ℕ). get_or bs (i + 2) 0 ∷ l) (next 2 0 (omega arith))))
  where
    next : (j n : ℕ) → i + (j + 1) < length bs → take (suc n) (drop (i + (j + 1)) bs) ≡ get_or bs (i + (j + 1)) 0 ∷ take n (drop (i + (j + 2)) bs)
    next j n l =
        let e : i + (j + 1) + 1 ≡ i + (j + 2) = omega arith in
        take_next bs (i + (j + 1)) n l ∙ ap (λ (z : ℕ). get_or bs (i + (j + 1)) 0 ∷ take n (drop z bs)) e

module _ (o l : ℕ) (p : Phase) (c : ℕ) (t bs : List ℕ) (i : ℕ) (q : Phase) (h : o + 4 ≤ text_limit) (r : PairFrom p bs i q) where
  pub steady-pair : get_or bs i 0 ≡ 91 → takes_all (room (steady_at o l p c) t) (take 4 (drop i bs)) ≡ room (steady_at (o + 4) (o + 4) q c) t
  steady-pair e =
      let s = r.start in
      let x = get_or bs (i + 1) 0 in
      let y = get_or bs (i + 2) 0 in
      let z = get_or bs (i + 3) 0 in
      let w1 = room (steady_at (o + 1) (o + 1) (Value s) c) t in
      let e1 : o + 1 + 1 ≡ o + 2 = omega arith in
      let e2 : o + 2 + 1 ≡ o + 3 = omega arith in
      let e3 : o + 3 + 1 ≡ o + 4 = omega arith in
      let at : (m : ℕ) (u : Phase) → Room = λ m u. room (steady_at m m u c) t in
      ap (takes_all (room (steady_at o l p c) t)) (four bs i r.pair.room)
      ∙ ap (λ (b : ℕ). takes_all (takes_byte (room (steady_at o l p c) t) b) (x ∷ y ∷ z ∷ [])) e
      ∙ ap (λ (w : Room). takes_all w (x ∷ y ∷ z ∷ [])) (steady-quiet o l p c t (omega arith) 91 (Value s) (omega arith) (omega arith) (r.opens o))
      ∙ ap (λ (w : Room). takes_all w (y ∷ z ∷ [])) (steady-quiet (o + 1) (o + 1) (Value s) c t (omega arith) x (Value s) r.pair.first.dark r.pair.first.plain.ascii (value-silent s (o + 1) x r.pair.first.plain) ∙ ap (λ (m : ℕ). at m (Value s)) e1)
      ∙ ap (λ (w : Room). takes_all w (z ∷ [])) (steady-quiet (o + 2) (o + 2) (Value s) c t (omega arith) y (Value s) r.pair.second.dark r.pair.second.plain.ascii (value-silent s (o + 2) y r.pair.second.plain) ∙ ap (λ (m : ℕ). at m (Value s)) e2)
      ∙ ap (λ (b : ℕ). takes_byte (at (o + 3) (Value s)) b) r.pair.closes
      ∙ steady-quiet (o + 3) (o + 3) (Value s) c t (omega arith) 93 (After s) (omega arith) (omega arith) (close-silent s (o + 3))
      ∙ ap₂ at e3 (sym r.past)
