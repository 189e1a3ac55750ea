-- The tables of an accepted reading denote its trees. Assumes nothing.
use Rattle.lists.proofs.Prelude.{◌≡◌, ℕ, zero, suc, ◌+◌, List, [], ◌∷◌, length, Bool}
use Rattle.lexer.specs.Token.{Tok}
use Rattle.tables.specs.Record.{Tree}
use Rattle.tables.specs.Rows.{tables}
use Rattle.fit.specs.Record.{record_of}
use Rattle.fit.proofs.Recorded.{Rooted, record-of-tables}
use Rattle.parser.specs.LocalsSlice.{rest_from}
use Rattle.parser.specs.Read.{accepted, read}
use Rattle.parser.proofs.Denoted.{read-denotes}
use Rattle.reader_laws.proofs.Grown.{Grew}
use Rattle.reader_laws.proofs.Accepted.{reading-is}

pub grew-rooted : (len : Bool) (base k : ℕ) (us : List Tok) (ts : List Tree) → Grew len base k us ts → Rooted base ts
grew-rooted len base zero us [] g = tt
grew-rooted len base zero us (t ∷ ts) g = absurd g
grew-rooted len base (suc k) us [] g = absurd g
grew-rooted len base (suc k) us (t ∷ ts) g = (g.0.root, grew-rooted len (base + length t.nodes) k (rest_from 0 us) ts g.1)

-- strict or lenient
pub record_of_lem : (len : Bool) (t : List ℕ) (ts : List Tree) → read len t ≡ accepted ts → record_of t (tables ts) ≡ ts
record_of_lem len t ts h =
    let r = reading-is len t ts h in
    record-of-tables t ts (read-denotes len t ts h) (grew-rooted len 0 r.k r.toks ts r.grew)
