-- What the reader leaves in lent tables fits the text and has the rows of the record that was read: from the reader's contract. Assumes nothing.
use Rattle.lists.proofs.Prelude.{◌≡◌, refl, ap, ◌∙◌, ℕ, ◌≤◌, arith, Bool, true, false, List, length, take, drop, take-length, pick}
use Rattle.tables.specs.Flat.{flat_trees, flat_nodes, flat_props, flat_vals}
use Rattle.tables.specs.Record.{Tree}
use Rattle.tables.specs.Rows.{Tables, tables, counts_of}
use Rattle.tables.specs.declared.Counts.{Counts}
use Rattle.tables.specs.declared.Reason.TheVariants.{NoRoom}
use Rattle.tables.specs.Memory.{memory}
use Rattle.fit.specs.Fit.{Fit}
use Rattle.fit.specs.Record.{rows_of, record_of}
use Rattle.fit.proofs.Rows.{rows-of-flat}
use Rattle.parser.specs.Read.{Answer, refused, accepted, read}
use Rattle.reader.specs.Lent.{Lent, roomy, stored, answers, leaves, ReadIs}
use Rattle.reader_laws.proofs.Fitting.{buffer-fits}
use Rattle.lists.proofs.Tests.{never}
use Rattle.reader_laws.proofs.Recorded.{record_of_lem}
use Rattle.std.specs.Prelude.{Ok, Err}
use Rattle.tables.specs.Refusals.{refusal}

-- a record was read, its counts are given back, and its rows are stored
abbrev Left : Bool → List ℕ → (before after : Lent) → Counts → List Tree → Type 0
Left len t before after c ts = (read len t ≡ accepted ts) × (c ≡ counts_of (tables ts)) × (after ≡ stored (tables ts) before)

module _ (len : Bool) (t : List ℕ) (before after : Lent) (c : Counts) (x : ReadIs (read len t) before after (Ok c)) where
  left : (ts : List Tree) × Left len t before after c ts
  left = go (read len t) refl x.answer x.tables
    where
      go : (y : Answer) → read len t ≡ y → Ok c ≡ answers y before → after ≡ leaves y before → (ts : List Tree) × Left len t before after c ts
      go (refused r p) q e l = never cc
      go (accepted ts) q e l = roomed (roomy (tables ts) before) e l
        where
          roomed : (f : Bool) → Ok c ≡ pick f (Ok (counts_of (tables ts))) (Err (refusal NoRoom 0)) → after ≡ pick f (stored (tables ts) before) before → (us : List Tree) × Left len t before after c us
          roomed true w s = let z : c ≡ counts_of (tables ts) = cc in (ts, (q, z, s))
          roomed false w s = never cc

  -- the rows in the lent tables are those of the record that was read, and denote it
  pub read-rows : (ts : List Tree) × (read len t ≡ accepted ts) × (rows_of c after.trees after.nodes after.props after.vals ≡ tables ts)
      × (record_of t (rows_of c after.trees after.nodes after.props after.vals) ≡ ts)
  read-rows = go left.0 left.1.0 left.1.1 left.1.2
    where
      go : (ts : List Tree) → read len t ≡ accepted ts → c ≡ counts_of (tables ts) → after ≡ stored (tables ts) before
          → (us : List Tree) × (read len t ≡ accepted us) × (rows_of c after.trees after.nodes after.props after.vals ≡ tables us)
          × (record_of t (rows_of c after.trees after.nodes after.props after.vals) ≡ us)
      go ts q e s =
          let T : Tables = tables ts in
          let z : rows_of c after.trees after.nodes after.props after.vals ≡ tables ts =
          rw (e, s) (rows-of-flat (tables ts) (drop (length (flat_trees T.trees)) before.trees) (drop (length (flat_nodes T.nodes)) before.nodes)
          (drop (length (flat_props T.props)) before.props) (drop (length (flat_vals T.vals)) before.vals)) in
          (ts, q, z, ap (record_of t) z ∙ record_of_lem len t ts q)

-- of the first `used` bytes of a buffer
pub read-buffer-fits : (len : Bool) (buf : List ℕ) (used : ℕ) (before after : Lent) (c : Counts) → used ≤ length buf → ReadIs (read len (take used buf)) before after (Ok c)
    → Fit (memory buf used c after.trees after.nodes after.props after.vals) ≡ true
read-buffer-fits len buf used before after c l x = go (left len (take used buf) before after c x)
  where
    go : (ts : List Tree) × Left len (take used buf) before after c ts → Fit (memory buf used c after.trees after.nodes after.props after.vals) ≡ true
    go (ts, (q, e, s)) =
        let T : Tables = tables ts in
        rw (e, s) (buffer-fits len buf used ts l q (drop (length (flat_trees T.trees)) before.trees) (drop (length (flat_nodes T.nodes)) before.nodes)
        (drop (length (flat_props T.props)) before.props) (drop (length (flat_vals T.vals)) before.vals))

-- of a text that is used whole
pub read_fits : (len : Bool) (t : List ℕ) (before after : Lent) (c : Counts) → ReadIs (read len t) before after (Ok c)
    → Fit (memory t (length t) c after.trees after.nodes after.props after.vals) ≡ true
read_fits len t before after c x = read-buffer-fits len t (length t) before after c (omega arith) (rw (take-length t) x)
