-- Letters and points read back, and stand for themselves. Assumes nothing.
use Rattle.lists.proofs.Prelude.{ℕ, ◌+◌, ◌-◌, ◌<◌, ◌≡◌, ap, ◌∙◌, [], ◌∷◌, le_refl, arith, ltb, le-leb, lt-leb, ltb-true, ltb-false}
use Rattle.lists.specs.All.{All}
use Rattle.lists.proofs.Pick.{pick-elim}
use Rattle.values.specs.Read.{read_value}
use Rattle.values.proofs.Safe.{Safe, read-safe}
use Rattle.go_points.specs.Area.{letter_of, letter, move_to, move_of, cornered, area_of}
use Rattle.go_points.specs.declared.Area.TheVariants.{Rect}
use Rattle.go_points.specs.declared.Value.TheVariants.{Move}

pub letter-back : (n : ℕ) → n < 52 → letter_of (letter n) ≡ n
unfolding letter_of letter
letter-back n h =
    pick-elim (λ (z : ℕ). letter_of z ≡ n) (ltb n 26)
    (λ e. let p = ltb-true n 26 e in rw (le-leb 0x61 (0x61 + n) (omega arith), le-leb (0x61 + n) 0x7a (omega arith)) (omega arith))
    (λ e.
    let p = ltb-false n 26 e in
    rw (lt-leb 0x61 (0x41 + (n - 26)) (omega arith), le-leb 0x41 (0x41 + (n - 26)) (omega arith), le-leb (0x41 + (n - 26)) 0x5a (omega arith)) (omega arith))

pub letter-safe : (n : ℕ) → n < 52 → Safe (letter n)
unfolding letter
letter-safe n h =
    pick-elim Safe (ltb n 26)
    (λ e. let p = ltb-true n 26 e in record { ascii = omega arith; no-escape = λ q. omega arith; no-close = λ q. omega arith })
    (λ e. let p = ltb-false n 26 e in record { ascii = omega arith; no-escape = λ q. omega arith; no-close = λ q. omega arith })

module _ (x y : ℕ) (h : x < 52) (k : y < 52) where
  pub point-safe : All Safe (letter x ∷ letter y ∷ [])
  point-safe = (letter-safe x h, (letter-safe y k, tt))

  pub move-back : move_of (read_value (letter x ∷ letter y ∷ [])) ≡ Move x y
  unfolding move_of move_to
  move-back = ap move_of (read-safe (letter x ∷ letter y ∷ []) point-safe) ∙ rw (letter-back x h, letter-back y k, le-leb x 51 (omega arith), le-leb y 51 (omega arith))

  pub area-back : area_of (read_value (letter x ∷ letter y ∷ [])) ≡ Rect x y x y
  unfolding area_of cornered
  area-back =
      ap area_of (read-safe (letter x ∷ letter y ∷ []) point-safe)
      ∙ rw (letter-back x h, letter-back y k, le-leb x x (le_refl x), le-leb y y (le_refl y), le-leb x 51 (omega arith), le-leb y 51 (omega arith))
