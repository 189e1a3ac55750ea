-- Close: how the tokens end, the answer, and the lent rows after it.
use Rattle.std.specs.Prelude.{◌+◌, ◌-◌, ◌*◌, ◌/◌, ◌≡◌, ◌∷◌, ◌++◌}
use Rattle.lists.specs.Prelude.{ℕ, List, [], length, take, drop, replicate, eqb, ltb, pick}
use Rattle.lists.specs.Put.{put_at}
use Rattle.tables.specs.Numbers.{text_limit}
use Rattle.lexer.specs.Token.{Tok, End, done, broken, finish, fault_number}
use Rattle.blocks_step.specs.declared.Utf8.{Utf8}
use Rattle.blocks_step.specs.declared.Utf8.TheVariants.{Whole, Within, Bad}
use Rattle.blocks_step.specs.declared.Phase.{Phase}
use Rattle.blocks_step.specs.Lean.{machine_of, token_from}
use Rattle.blocks.specs.declared.BlocksState.{BlocksState}
use Rattle.blocks.specs.declared.BlocksKnown.{BlocksKnown}
use Rattle.blocks.specs.declared.Closing.{Closing}
use Rattle.blocks.specs.declared.Closing.TheVariants.{Refused, Rows, Last}
use Rattle.blocks.specs.declared.Closed.{Closed}
use Rattle.blocks.specs.State.{state_says}
use Rattle.blocks.specs.Room.{token_row}

-- ---- how the tokens end

-- with n rows; the end of the text at l gives one property more at most
abbrev pub closing_rows : List Tok → (n l : ℕ) → Closing
closing_rows [] n l = Rows n
closing_rows (t ∷ ts) n l = Last n (token_from t) l

-- by the end of the token rules
abbrev pub closing_by : End → List Tok → (n l : ℕ) → Closing
closing_by done ts n l = closing_rows ts n l
closing_by (broken f s) ts n l = Refused (fault_number f) s

-- where UTF-8 ends so, and the token rules stand so at the last character that is no white space
abbrev pub closing_at : Utf8 → Phase → (n l : ℕ) → Closing
closing_at Whole p n l = pick (eqb l 0) (Rows 0) (closing_by (finish (machine_of p) l).end (finish (machine_of p) l).toks n l)
closing_at (Within left s code) p n l = Refused 2 s
closing_at (Bad q) p n l = Refused 2 q

-- 1, then 2, then 3 to 5 (SCOPE 183)
unfoldable pub closing : BlocksKnown → Closing
closing k = pick (ltb text_limit k.total) (Refused 1 0) (closing_at k.utf8 k.kept k.held k.last)

-- ---- the answer

-- zeros from row n on to the last whole row
unfoldable pub cleared_rows : List ℕ → ℕ → List ℕ
cleared_rows t n = take (n * 3) t ++ (replicate (length t / 3 * 3 - n * 3) 0 ++ drop (length t / 3 * 3) t)

-- closed, else as it was
abbrev pub shut_of : BlocksState → BlocksState
shut_of s =
    record {
      total = s.total;
      utf = s.utf;
      utf_from = s.utf_from;
      code = s.code;
      last = s.last;
      now = s.now;
      now_from = s.now_from;
      count = s.count;
      kept = s.kept;
      kept_from = s.kept_from;
      held = s.held;
      closed = 1;
    }

-- refused with a number and a place
abbrev pub refused_at : BlocksState → (n p : ℕ) → Closed
refused_at s n p = record { number = n; place = p; tokens = 0; state = shut_of s }

-- so many tokens
abbrev pub accepted_with : BlocksState → ℕ → Closed
accepted_with s n = record { number = 0; place = 0; tokens = n; state = shut_of s }

-- by how the tokens end and the rows lent; 14 comes last
abbrev pub closed_by : Closing → BlocksState → ℕ → Closed
closed_by (Refused n p) s rows = refused_at s n p
closed_by (Rows n) s rows = pick (ltb rows n) (refused_at s 14 0) (accepted_with s n)
closed_by (Last n f l) s rows = pick (ltb rows (n + 1)) (refused_at s 14 0) (accepted_with s (n + 1))

-- the rows, and zeros behind them; where it is refused, zeros
abbrev pub cells_by : Closing → List ℕ → List ℕ
cells_by (Refused n p) t = cleared_rows t 0
cells_by (Rows n) t = pick (ltb (length t / 3) n) (cleared_rows t 0) (cleared_rows t n)
cells_by (Last n f l) t = pick (ltb (length t / 3) (n + 1)) (cleared_rows t 0) (cleared_rows (put_at t (n * 3) (token_row 4 f l)) (n + 1))

-- 20: nothing changes
abbrev pub closed_before : BlocksState → Closed
closed_before s = record { number = 20; place = 0; tokens = 0; state = s }

-- close; a second one is refused and nothing changes (SCOPE 184)
pub record CloseIs (s : BlocksState) (t : List ℕ) (r : Closed) (t' : List ℕ) : Type 0 where
  pub answer : r ≡ pick (eqb s.closed 0) (closed_by (closing (state_says s)) s (length t / 3)) (closed_before s)
  pub rows : t' ≡ pick (eqb s.closed 0) (cells_by (closing (state_says s)) t) t
