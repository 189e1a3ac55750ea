-- What the cursors of text display promise.
use Rattle.std.specs.Prelude.{◌≤◌, ◌<◌, ◌≡◌, ◌∷◌, Option, Some, None}
use Rattle.lists.specs.Prelude.{ℕ, List, [], eqb, length, get_or, drop, pick}
use Rattle.value_display.specs.Display.{format_text}
use Rattle.values.specs.Read.{read_value}

-- a byte is the first that f shows of the read value from `at` on, and the next place is further on
abbrev pub DisplaysAt : (List ℕ → List ℕ) → List ℕ → ℕ → Option (ℕ × ℕ) → Type 0
DisplaysAt f s at (Some (b, n)) = (f (read_value (drop at s)) ≡ b ∷ f (read_value (drop n s))) × (at < n) × (n ≤ length s)
DisplaysAt f s at None = f (read_value (drop at s)) ≡ []

-- the byte that f shows first, or 0 at the end, and the place after it
pub record Peeks (f : List ℕ → List ℕ) (s : List ℕ) (at byte next : ℕ) : Type 0 where
  pub first : byte ≡ get_or (f (read_value (drop at s))) 0 0
  pub rest : f (read_value (drop next s)) ≡ drop 1 (f (read_value (drop at s)))
  pub onward : at ≤ next
  pub within : at ≤ length s → next ≤ length s

-- what is shown of the byte b and the read value behind it, where b is no backslash
pub record FormatsAt (b : ℕ) (s : List ℕ) (at byte next : ℕ) : Type 0 where
  pub first : format_text (b ∷ read_value (drop at s)) ≡ byte ∷ format_text (read_value (drop next s))
  pub onward : at ≤ next
  pub within : at ≤ length s → next ≤ length s

-- the line break byte that makes a pair with b; 0 where b is none
unfoldable pub other_break : ℕ → ℕ
other_break b = pick (eqb b 0xa) 0xd (pick (eqb b 0xd) 0xa 0)

-- the place after `other`, where it stands first
pub record Past (other : ℕ) (s : List ℕ) (at next : ℕ) : Type 0 where
  pub rest : read_value (drop next s) ≡ pick (eqb (get_or (read_value (drop at s)) 0 0) other) (drop 1 (read_value (drop at s))) (read_value (drop at s))
  pub onward : at ≤ next
