-- What trimming keeps, in words: characters and white space, no machine.
use Rattle.std.specs.Prelude.{◌+◌, ◌≡◌, ◌++◌}
use Rattle.lists.specs.Prelude.{ℕ, Bool, true, false, List, [], length, take, drop}
use Rattle.text_chars.specs.White.{white}
use Rattle.text_chars.specs.Table.{listed, scalar, WellFormed}

-- the bytes begin with a character of n bytes: is it white space
abbrev pub FirstChar : Bool → ℕ → List ℕ → Type 0
FirstChar w n t = (listed n t ≡ true) × (white (scalar (take n t)) ≡ w)

-- nothing, or white space and then the same
pub data Blanks : List ℕ → Type 0 where
  no-space : Blanks []
  space : {t : List ℕ} (n : ℕ) → FirstChar true n t → Blanks (drop n t) → Blanks t

-- from f to l: white space before and behind it, and its first and last characters are none (SCOPE 68)
pub record Keeps (t : List ℕ) (f l : ℕ) : Type 0 where
  pub before : List ℕ
  pub kept : List ℕ
  pub behind : List ℕ
  pub are : t ≡ before ++ (kept ++ behind)
  pub from : f ≡ length before
  pub to : l ≡ length before + length kept
  pub blank-before : Blanks before
  pub blank-behind : Blanks behind
  pub first : (n : ℕ) × FirstChar false n kept
  pub last : (front char : List ℕ) × (kept ≡ front ++ char) × WellFormed front × FirstChar false (length char) char
