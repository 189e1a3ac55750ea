-- The state between two bytes with its rows as lists, and what is kept of the text; what the proofs go by.
use Rattle.std.specs.Prelude.{◌++◌}
use Rattle.lists.specs.Prelude.{ℕ, suc, List, [], eqb, pick}
use Rattle.text_utf8.specs.Text.{blank, inked, Utf, whole, part, bad, utf}
use Rattle.lexer.specs.Token.{finish}
use Rattle.blocks_step.specs.declared.Phase.{Phase}
use Rattle.blocks_step.specs.declared.Phase.TheVariants.{Between}
use Rattle.blocks_step.specs.declared.Moved.{Moved}
use Rattle.blocks_step.specs.Lean.{machine_of, moves}
use Rattle.blocks.specs.Room.{rows_at}
use Rattle.blocks_laws.specs.Reading.{TokenReading, tokens_read, not_read, read_end, token_rows}

-- the bytes so far, UTF-8 and ink; the phase and the rows after all of them; and after the last character that is no white space
pub record Listed : Type 0 where
  pub total : ℕ
  pub utf8 : Utf
  pub now : Phase
  pub rows : List (List ℕ)
  pub kept : Phase
  pub held : List (List ℕ)

-- before the first byte
abbrev pub begun : Listed
begun = record { total = 0; utf8 = whole blank; now = Between; rows = []; kept = Between; held = [] }

-- nothing but white space so far: as at the start
abbrev pub backs : Utf → Listed → Listed
backs u s = record { total = suc s.total; utf8 = u; now = s.kept; rows = s.held; kept = s.kept; held = s.held }

-- white space, or a character that is not whole yet
abbrev pub went_on : Utf → Listed → Moved → Listed
went_on u s m = record { total = suc s.total; utf8 = u; now = m.next; rows = s.rows ++ rows_at m.tokens s.total; kept = s.kept; held = s.held }

-- a character that is no white space ends here
abbrev pub keeps_all : Utf → Listed → Moved → Listed
keeps_all u s m =
    record {
      total = suc s.total;
      utf8 = u;
      now = m.next;
      rows = s.rows ++ rows_at m.tokens s.total;
      kept = m.next;
      held = s.rows ++ rows_at m.tokens s.total;
    }

-- by what UTF-8 makes of the byte
abbrev pub settles : Utf → Listed → Moved → Listed
settles (whole blank) s m = backs (whole blank) s
settles (whole (inked f l)) s m = pick (eqb l (suc s.total)) (keeps_all (whole (inked f l)) s m) (went_on (whole (inked f l)) s m)
settles (part k p n r c) s m = went_on (part k p n r c) s m
settles (bad p) s m = went_on (bad p) s m

-- one byte
abbrev pub lists : Listed → ℕ → Listed
lists s b = settles (utf s.utf8 s.total b) s (moves s.now s.total b)

-- close
abbrev pub listed_end : Utf → Listed → TokenReading
listed_end (whole blank) s = tokens_read []
listed_end (whole (inked f l)) s = read_end (finish (machine_of s.kept) l).end (s.held ++ token_rows (finish (machine_of s.kept) l).toks)
listed_end (part k p n r c) s = not_read 2 p
listed_end (bad p) s = not_read 2 p
