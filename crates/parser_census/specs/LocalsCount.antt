-- What the steps of a census find.
use Rattle.std.specs.Prelude.{◌+◌, ◌≤◌, ◌≡◌, Option, Some, None}
use Rattle.lists.specs.Prelude.{ℕ, Bool, true, false, List, length, get_or}
use Rattle.lexer_scan.specs.Scan.{space, values_end_at}
use Rattle.lexer.specs.Step.{next_at, vals_at}
use Rattle.lexer.specs.declared.Step.TheVariants.{Property}
use Rattle.parser_census.specs.declared.Mode.{Mode}
use Rattle.parser_census.specs.declared.Mode.TheVariants.{Outside, First, Root, Typed, Node, Opened, Bare, Full, Odd}

-- may a property follow
abbrev pub takes : Mode → Bool
takes Outside = false
takes First = false
takes Root = true
takes Typed = true
takes Node = true
takes Opened = false
takes Bare = false
takes Full = false
takes Odd = false

-- is it the odd one
abbrev pub is_odd : Mode → Bool
is_odd Outside = false
is_odd First = false
is_odd Root = false
is_odd Typed = false
is_odd Node = false
is_odd Opened = false
is_odd Bare = false
is_odd Full = false
is_odd Odd = true

-- n values stand from k on and end at e, which is no white space
pub record ValuesCountIs (s : List ℕ) (k n e : ℕ) : Type 0 where
  pub ends : values_end_at s k ≡ Some e
  pub count : n ≡ length (vals_at s k)
  pub still : space (get_or s e 0) ≡ false

-- the values that stand from k on, or that one does not close
abbrev pub CountedIs : (s : List ℕ) (k : ℕ) → Option (ℕ × ℕ) → Type 0
CountedIs s k (Some (n, e)) = ValuesCountIs s k n e
CountedIs s k None = values_end_at s k ≡ None

-- a token begins at i that is no start, no end and no node
pub record NameAt (s : List ℕ) (i : ℕ) : Type 0 where
  pub start : get_or s i 0 ≡ 0x28 → ⊥
  pub end : get_or s i 0 ≡ 0x29 → ⊥
  pub node : get_or s i 0 ≡ 0x3b → ⊥
  pub still : space (get_or s i 0) ≡ false

-- a property of one letter from i, with one value of two bytes
pub record ShortIs (s : List ℕ) (i : ℕ) : Type 0 where
  pub inside : i + 6 ≤ length s
  pub next : next_at s i ≡ Property i (i + 1) (i + 5)
  pub one : length (vals_at s (i + 1)) ≡ 1
  pub still : space (get_or s (i + 5) 0) ≡ false
