-- What the locals of `trim` stand for.
use Rattle.std.specs.Prelude.{◌+◌, ◌≤◌, ◌<◌}
use Rattle.lists.specs.Prelude.{ℕ, List, eqb, length, get_or, pick}
use Rattle.text_utf8.specs.declared.Seen.{Seen}
use Rattle.text_utf8.specs.Text.{Ink, blank, inked}

-- the ink seen so far: none as long as `last` is 0
abbrev pub ink_of : Seen → Ink
ink_of k = pick (eqb k.last 0) blank (inked k.first k.last)

-- m ASCII bytes from i on, and one more that is no white space
pub record Plain (m : ℕ) (s : List ℕ) (i : ℕ) : Type 0 where
  pub room : i + m < length s
  pub ascii : (k : ℕ) → k ≤ m → get_or s (i + k) 0 < 128
  pub dark : 32 < get_or s (i + m) 0
