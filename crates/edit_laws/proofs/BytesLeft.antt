-- The bytes of the buffer that an accepted edit leaves: before the value, in its place, behind it, freed, beyond. Assumes nothing.
use Rattle.lists.proofs.Prelude.{ℕ, ◌+◌, ◌-◌, ◌≤◌, ◌<◌, List, ◌++◌, append_assoc, ◌≡◌, sym, ap, ◌∙◌, arith, length, take, drop, get_or, replicate, length-append, length-replicate, get_or-replicate, get_or-append, take-append-le, take-take, take_at, drop_at, get_or-append-add, get_or-drop, length-take-le}
use Rattle.tables.specs.Flat.{over}
use Rattle.edit_splice.specs.Locals.{Within}
use Rattle.edit_splice.specs.Splice.{pasted, cleared}
use Rattle.edit_splice.proofs.Replaced.{length-pasted}
use Rattle.edit_laws.specs.Edits.{BytesEdited}
use Rattle.edit_laws.proofs.Left.{text-left, length-buffer-left}
use Rattle.edit_laws.proofs.Pasted.{slice-new}

-- what stands behind the numbers put in front stays
pub over-beyond : (xs t : List ℕ) (i : ℕ) → length xs ≤ i → get_or (over xs t) i 0 ≡ get_or t i 0
over-beyond xs t i h =
    let j : length xs + (i - length xs) ≡ i = omega arith in
    ap (λ (n : ℕ). get_or (over xs t) n 0) (sym j)
    ∙ get_or-append-add xs (drop (length xs) t) (i - length xs) 0
    ∙ get_or-drop (length xs) t (i - length xs) 0
    ∙ ap (λ (n : ℕ). get_or t n 0) j

module _ (b new : List ℕ) (used q e : ℕ) (x : Within b used q e) where
  abbrev t : List ℕ
  t = take used b

  abbrev u : List ℕ
  u = pasted t q e new

  abbrev z : List ℕ
  z = replicate (used - length u) 0

  abbrev rest : List ℕ
  rest = drop (length (u ++ z)) b

  abbrev after : List ℕ
  after = over (cleared u used) b

  long : length t ≡ used
  long = length-take-le used b x.lent

  new-long : length u ≡ q + length new + (used - e)
  new-long = length-pasted b new used q e x

  front_long : length (take q t) ≡ q
  front_long = length-take-le q t (omega (arith, long, x.order, x.inside))

  length_both : length (u ++ z) ≡ length u + (used - length u)
  length_both = length-append u z ∙ ap (λ (n : ℕ). length u + n) (length-replicate (used - length u) 0)

  after_is : after ≡ u ++ (z ++ rest)
  after_is = append_assoc u z rest

  take_after : (n : ℕ) → n ≤ length u → take n after ≡ take n u
  take_after n h = ap (take n) after_is ∙ take-append-le n u (z ++ rest) h

  ahead-stays : take q after ≡ take q b
  ahead-stays = take_after q (omega (arith, new-long)) ∙ take_at (take q t) (new ++ drop e t) q front_long ∙ take-take q used b (omega (arith, x.order, x.inside))

  here-new : drop q (take (q + length new) after) ≡ new
  here-new = ap (drop q) (take_after (q + length new) (omega (arith, new-long))) ∙ slice-new t new q e x.order (omega (arith, long, x.inside))

  behind-follows : drop (q + length new) (take (length u) after) ≡ drop e t
  behind-follows =
      let l : length (take q t ++ new) ≡ q + length new = length-append (take q t) new ∙ ap (λ (n : ℕ). n + length new) front_long in
      ap (drop (q + length new)) (text-left u b used ∙ sym (append_assoc (take q t) new (drop e t)))
      ∙ drop_at (take q t ++ new) (drop e t) (q + length new) l

  freed-zero : (i : ℕ) → length u ≤ i → i < used → get_or after i 0 ≡ 0
  freed-zero i a h =
      let j : length u + (i - length u) ≡ i = omega arith in
      ap (λ (n : ℕ). get_or after n 0) (sym j)
      ∙ ap (λ (l : List ℕ). get_or l (length u + (i - length u)) 0) after_is
      ∙ get_or-append-add u (z ++ rest) (i - length u) 0
      ∙ get_or-append z rest 0 (i - length u) (omega (arith, length-replicate {A = ℕ} (used - length u) 0))
      ∙ get_or-replicate (used - length u) (i - length u) 0 0 (omega arith)

  -- all of it, where the new text has room
  pub bytes_left : length u ≤ length b → BytesEdited b used q e new after (length u)
  bytes_left l =
      record {
        ahead = ahead-stays;
        here = here-new;
        behind = behind-follows;
        freed = freed-zero;
        beyond = λ i a h. over-beyond (u ++ z) b i (omega (arith, length_both));
        room = length-buffer-left u b used x.lent l;
      }
