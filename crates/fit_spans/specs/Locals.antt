-- What the check's own loops promise each other.
use Rattle.std.specs.Prelude.{◌&&◌, ◌++◌, ◌≡◌}
use Rattle.lists.specs.Prelude.{ℕ, Bool, List}
use Rattle.fit_spans.specs.Spans.{Span, ascending}

-- the spans of a run lie one after another, the first at o or later, in a text of `used` bytes, and what follows them may start at `next`
pub record Spanned (used o : ℕ) (run : List Span) (ok : Bool) (next : ℕ) : Type 0 where
  pub rest : (ss : List Span) → ascending used o (run ++ ss) ≡ (ok && ascending used next ss)
