-- Calls one after another: blocks, with the same rows lent, from the start on; and what a close must answer then.
use Rattle.std.specs.Prelude.{◌/◌, ◌≡◌, ◌∷◌, ◌++◌}
use Rattle.lists.specs.Prelude.{ℕ, List, [], length, ltb, pick}
use Rattle.blocks.specs.declared.BlocksState.{BlocksState}
use Rattle.blocks.specs.declared.Blocked.{Blocked}
use Rattle.blocks.specs.declared.Closed.{Closed}
use Rattle.blocks.specs.Block.{BlockIs}
use Rattle.blocks_laws.specs.Reading.{TokenReading, tokens_read, not_read, rows_left}

-- all zero: the start
abbrev pub at_start : BlocksState
at_start =
    record {
      total = 0;
      utf = 0;
      utf_from = 0;
      code = 0;
      last = 0;
      now = 0;
      now_from = 0;
      count = 0;
      kept = 0;
      kept_from = 0;
      held = 0;
      closed = 0;
    }

-- blocks taken one after another: each call gets the state and the rows that the one before left
pub data BlockCalls : BlocksState → List ℕ → List (List ℕ) → BlocksState → List ℕ → Type 0 where
  no_more : {s : BlocksState} {t : List ℕ} → BlockCalls s t [] s t
  one_more : {s : BlocksState} {t x t1 : List ℕ} {r : Blocked} {xs : List (List ℕ)} {s' : BlocksState} {t' : List ℕ}
      → BlockIs s x t r t1 → BlockCalls r.state t1 xs s' t' → BlockCalls s t (x ∷ xs) s' t'

-- the joined text
abbrev pub joined_text : List (List ℕ) → List ℕ
joined_text [] = []
joined_text (x ∷ xs) = x ++ joined_text xs

-- the number: that of the reading, and 14 where the rows do not suffice
abbrev pub number_read : TokenReading → (rows : ℕ) → ℕ
number_read (tokens_read rs) m = pick (ltb m (length rs)) 14 0
number_read (not_read n p) m = n

-- the place, 0 where there is none
abbrev pub place_read : TokenReading → ℕ
place_read (tokens_read rs) = 0
place_read (not_read n p) = p

-- how many tokens
abbrev pub count_read : TokenReading → (rows : ℕ) → ℕ
count_read (tokens_read rs) m = pick (ltb m (length rs)) 0 (length rs)
count_read (not_read n p) m = 0

-- what is lent then: the rows and zeros, or zeros where it is refused
abbrev pub left_read : TokenReading → List ℕ → List ℕ
left_read (tokens_read rs) t = pick (ltb (length t / 3) (length rs)) (rows_left [] t) (rows_left rs t)
left_read (not_read n p) t = rows_left [] t

-- the answer and the rows are those of this reading into the rows t; and it is closed
pub record ReadAs (x : TokenReading) (t : List ℕ) (r : Closed) (t' : List ℕ) : Type 0 where
  pub number : r.number ≡ number_read x (length t / 3)
  pub place : r.place ≡ place_read x
  pub tokens : r.tokens ≡ count_read x (length t / 3)
  pub rows : t' ≡ left_read x t
  pub shut : r.state.closed ≡ 1
