-- Bytes that a scan for a closing bracket may step over.
use Rattle.std.specs.Prelude.{◌≤◌, ◌≡◌, ◌&&◌, ◌+◌, get_or}
use Rattle.lists.specs.Prelude.{ℕ, Bool, not, List, eqb, ltb, length}
use Rattle.lexer_close.specs.Close.{close_at}

-- neither `]` nor a backslash
abbrev pub closes_nothing : ℕ → Bool
closes_nothing b = not (eqb b 0x5d) && not (eqb b 0x5c)

-- two bytes that close nothing stand at a place, and a `]` behind them
abbrev pub pair_at : List ℕ → ℕ → Bool
pair_at s i = ltb (i + 2) (length s) && (eqb (get_or s (i + 2) 0) 0x5d && (closes_nothing (get_or s i 0) && closes_nothing (get_or s (i + 1) 0)))

-- a scan from a may go on at e: it finds the same
pub record LeadsTo (s : List ℕ) (a e : ℕ) : Type 0 where
  pub order : a ≤ e
  pub inside : e ≤ length s
  pub same : close_at s e ≡ close_at s a
