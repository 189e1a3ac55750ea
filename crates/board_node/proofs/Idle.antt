-- Properties that neither set nor move. Assumes nothing.
use Rattle.lists.proofs.Prelude.{ℕ, zero, suc, ◌+◌, ◌<◌, ◌≤◌, Bool, true, false, ◌&&◌, ◌≡◌, refl, sym, ap₂, List, [], ◌∷◌, ◌++◌, pick, leb, le-leb, eqb, ne_eqb, and-false, arith}
use Rattle.values.specs.Read.{read_identifier}
use Rattle.tables.specs.Each.{tabulate}
use Rattle.parts_props.specs.Props.{Property}
use Rattle.board_play.specs.Steps.{Act}
use Rattle.board_node.specs.Node.{setup_colour, move_colour, all_setups, all_moves}
use Rattle.board_node.specs.LocalsSeen.{Idle}
use Rattle.board_node.proofs.Moves.{setups-none, moves-none}

-- one letter sets nothing
pub idle-letter : (b : ℕ) → move_colour (read_identifier (b ∷ [])) < 1 → Idle (read_identifier (b ∷ []))
unfolding setup_colour read_identifier
idle-letter b l = record { sets-none = go (leb 0x41 b && leb b 0x5a); moves-none = l }
  where
    go : (t : Bool) → 2 < setup_colour (pick t (b ∷ []) [])
    go true = rw (and-false (eqb b 0x41)) (omega arith)
    go false = omega arith

-- two capitals, the first not A
pub idle-pair : (a b : ℕ) → 0x41 < a → a ≤ 0x5a → 0x41 ≤ b → b ≤ 0x5a → Idle (read_identifier (a ∷ b ∷ []))
unfolding read_identifier setup_colour move_colour
idle-pair a b l m i j = rw read (record { sets-none = none; moves-none = still })
  where
    read : read_identifier (a ∷ b ∷ []) ≡ a ∷ b ∷ []
    read = rw (le-leb 0x41 a (omega arith), le-leb a 0x5a m, le-leb 0x41 b i, le-leb b 0x5a j)

    none : 2 < setup_colour (a ∷ b ∷ [])
    none = rw (ne_eqb a 0x41 (λ e. omega arith)) (omega arith)

    still : move_colour (a ∷ b ∷ []) < 1
    still = rw (and-false (eqb a 0x42), and-false (eqb a 0x57)) (omega arith)

-- the rows of such properties do nothing
pub idle-rows : (w h : ℕ) (f : ℕ → Property) (n at : ℕ) → ((p : ℕ) → at ≤ p → p < at + n → Idle (f p).name)
    → (all_setups (tabulate f at n) ≡ []) × (all_moves w h (tabulate f at n) ≡ [])
unfolding tabulate
idle-rows w h f zero at i = (refl, refl)
idle-rows w h f (suc n) at i =
    let x = i at (omega arith) (omega arith) in
    let y = idle-rows w h f n (suc at) (λ p l m. i p (omega arith) (omega arith)) in (
      ap₂ (λ (a b : List Act). a ++ b) (sym (setups-none w h (f at) x.sets-none)) y.0,
      ap₂ (λ (a b : List Act). a ++ b) (sym (moves-none w h (f at) x.moves-none)) y.1,
    )
