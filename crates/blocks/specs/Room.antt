-- One byte more: what is known, and the lent rows.
use Rattle.std.specs.Prelude.{◌+◌, ◌*◌, ◌∷◌}
use Rattle.lists.specs.Prelude.{ℕ, suc, true, false, List, [], length, eqb, leb, ltb, pick}
use Rattle.lists.specs.Put.{put_at}
use Rattle.tables.specs.Numbers.{text_limit}
use Rattle.blocks_step.specs.declared.Utf8.{Utf8}
use Rattle.blocks_step.specs.declared.Utf8.TheVariants.{Whole}
use Rattle.blocks_step.specs.declared.Char.{Char}
use Rattle.blocks_step.specs.declared.Char.TheVariants.{Ended, Goes}
use Rattle.blocks_step.specs.declared.Tokens.{Tokens}
use Rattle.blocks_step.specs.declared.Tokens.TheVariants.{Silent, Single, Property, Both}
use Rattle.blocks_step.specs.declared.Moved.{Moved}
use Rattle.blocks_step.specs.Decode.{decodes}
use Rattle.blocks_step.specs.Lean.{moves}
use Rattle.blocks.specs.declared.BlocksKnown.{BlocksKnown}

-- ---- rows

-- a token row: kind, start, end (SCOPE 181)
abbrev pub token_row : (kind from to : ℕ) → List ℕ
token_row k a e = k ∷ a ∷ e ∷ []

-- the rows of the tokens that the byte at o completes
abbrev pub rows_at : Tokens → ℕ → List (List ℕ)
rows_at Silent o = []
rows_at (Single k) o = token_row k o (suc o) ∷ []
rows_at (Property s) o = token_row 4 s o ∷ []
rows_at (Both s k) o = token_row 4 s o ∷ token_row k o (suc o) ∷ []

-- so many rows, and what is lent for them
pub record Filled : Type 0 where
  pub count : ℕ
  pub cells : List ℕ

-- these
abbrev pub filled_with : ℕ → List ℕ → Filled
filled_with n t = record { count = n; cells = t }

-- one row more; a text has no more tokens than bytes
unfoldable pub counted_on : ℕ → ℕ
counted_on n = pick (ltb n text_limit) (suc n) n

-- a row behind those that are counted, where it fits
unfoldable pub add_row : Filled → List ℕ → Filled
add_row f r =
    filled_with (counted_on f.count) (pick (leb (f.count * 3 + 3) (length f.cells)) (put_at f.cells (f.count * 3) r) f.cells)

-- rows one behind the other
abbrev pub add_rows : Filled → List (List ℕ) → Filled
add_rows f [] = f
add_rows f (r ∷ rs) = add_rows (add_row f r) rs

-- ---- a byte

-- what is known, and what is lent for rows
pub record Room : Type 0 where
  pub known : BlocksKnown
  pub cells : List ℕ

-- these
abbrev pub room : BlocksKnown → List ℕ → Room
room k t = record { known = k; cells = t }

-- nothing but white space so far: as it was
unfoldable pub goes_back : Room → Room
goes_back w =
    room (record {
      total = suc w.known.total;
      utf8 = Whole;
      last = w.known.last;
      now = w.known.kept;
      count = w.known.held;
      kept = w.known.kept;
      held = w.known.held;
    }) w.cells

-- what is known with these rows and this byte done
abbrev pub gone : Utf8 → BlocksKnown → Moved → Filled → Room
gone u k m f =
    room (record { total = suc k.total; utf8 = u; last = k.last; now = m.next; count = f.count; kept = k.kept; held = k.held }) f.cells

-- the rows after what a byte does
abbrev pub with_tokens : Room → Moved → Filled
with_tokens w m = add_rows (filled_with w.known.count w.cells) (rows_at m.tokens w.known.total)

-- white space, or a character that is not whole yet: the token rules go on
unfoldable pub goes : Utf8 → Room → ℕ → Room
goes u w b = gone u w.known (moves w.known.now w.known.total b) (with_tokens w (moves w.known.now w.known.total b))

-- a character that is no white space ended: this much is kept
unfoldable pub keeps : Room → Room
keeps w =
    room (record {
      total = w.known.total;
      utf8 = w.known.utf8;
      last = w.known.total;
      now = w.known.now;
      count = w.known.count;
      kept = w.known.now;
      held = w.known.count;
    }) w.cells

-- by what the byte does to UTF-8
abbrev pub settled : Char → Room → ℕ → Room
settled (Ended true) w b = pick (eqb w.known.last 0) (goes_back w) (goes Whole w b)
settled (Ended false) w b = keeps (goes Whole w b)
settled (Goes u) w b = goes u w b

-- beyond the limit nothing is looked at
unfoldable pub past_limit : Room → Room
past_limit w =
    room (record {
      total = 1048577;
      utf8 = w.known.utf8;
      last = w.known.last;
      now = w.known.now;
      count = w.known.count;
      kept = w.known.kept;
      held = w.known.held;
    }) w.cells

-- one byte (SCOPE 180)
unfoldable pub takes_byte : Room → ℕ → Room
takes_byte w b = pick (ltb w.known.total text_limit) (settled (decodes w.known.utf8 w.known.total b) w b) (past_limit w)

-- a block
abbrev pub takes_all : Room → List ℕ → Room
takes_all w [] = w
takes_all w (b ∷ bs) = takes_all (takes_byte w b) bs
