-- A line by what the calls of its code answer. Assumes nothing.
use Rattle.lists.proofs.Prelude.{ℕ, Bool, true, false, List, ◌≡◌, refl, sym, ap, ap₂, ◌∙◌, subst, length, take-length, pick}
use Rattle.lists.proofs.Tests.{never}
use Rattle.tables.specs.Record.{Tree}
use Rattle.tables.specs.Rows.{tables, counts_of}
use Rattle.tables.specs.Memory.{Memory, memory}
use Rattle.tables.specs.Numbers.{number_of}
use Rattle.tables.specs.declared.Counts.{Counts}
use Rattle.tables.specs.declared.Reason.{Reason}
use Rattle.tables.specs.declared.Reason.TheVariants.{NoRoom}
use Rattle.fit.specs.Fit.{Fit}
use Rattle.fit.specs.Record.{record_of, rows_of, record_in}
use Rattle.parser.specs.Read.{Answer, refused, accepted, read, read_strict}
use Rattle.reader.specs.Lent.{Lent, roomy, answers, ReadIs}
use Rattle.reader_laws.proofs.Lent.{read-rows, read_fits}
use Rattle.serialize.specs.Form.{writing, written, output}
use Rattle.season_tally.specs.Tally.{tally_with, WriteTallyIs}
use Rattle.season_totals.specs.declared.Line.{Line}
use Rattle.season_totals.specs.declared.Line.TheVariants.{Refused, Counted}
use Rattle.season_totals.specs.declared.Tally.{Tally}
use Rattle.season.specs.Season.{written_with, line_by, line_of, line_leaves, LineIs, RecordLineIs}
use Rattle.std.specs.Prelude.{Result, Ok, Err}
use Rattle.tables.specs.Refusals.{refusal}
use Rattle.tables.specs.declared.Refusal.{Refusal}
use Rattle.lists.proofs.Parts.{ok-three}
use Rattle.tables.proofs.Refusals.{err-refusal}

-- the line of a record by its writing and counting
module _ (m : Memory) (out out' : List ℕ) {r : Result (ℕ × Tally × ℕ) Reason} (x : WriteTallyIs m out out' r) where
  pub line_refused : {k : Reason} → r ≡ Err k → {n : ℕ} → n ≡ number_of k → RecordLineIs m out out' (Refused n)
  line_refused {k} h {n} e = record { line = ap Refused e ∙ go (written m (length out)) (sym h ∙ x.answer); bytes = x.bytes }
    where
      go : (w : Result ℕ Reason) → Err k ≡ tally_with w (record_in m) → Refused (number_of k) ≡ line_by w (record_in m)
      go (Ok n) e = never cc
      go (Err j) e = let d : k ≡ j = cc in ap (λ (z : Reason). Refused (number_of z)) d

  pub line-counted : {n : ℕ} {t : Tally} {g : ℕ} → r ≡ Ok (n, t, g) → RecordLineIs m out out' (Counted t g)
  line-counted {n} {t} {g} h = record { line = go (written m (length out)) (sym h ∙ x.answer); bytes = x.bytes }
    where
      go : (w : Result ℕ Reason) → Ok (n, t, g) ≡ tally_with w (record_in m) → Counted t g ≡ line_by w (record_in m)
      go (Ok k) e = let z = ok-three e in cc (z.0, z.1, z.2)
      go (Err k) e = never cc

-- a reading that is refused
turned : (a : Answer) (before after : Lent) (x : Reason) (p : ℕ) → ReadIs a before after (Err (refusal x p)) → (out : List ℕ) → LineIs a before after out out (Refused (number_of x))
unfolding line_of line_leaves
turned (refused r q) before after x p z out = let e = z.answer in let h : x ≡ r = (err-refusal e).0 in record { line = ap (λ (y : Reason). Refused (number_of y)) h; tables = z.tables; bytes = refl }
turned (accepted ts) before after x p z out = go (roomy (tables ts) before) refl z.answer
  where
    go : (f : Bool) → roomy (tables ts) before ≡ f → Err (refusal x p) ≡ pick f (Ok (counts_of (tables ts))) (Err (refusal NoRoom 0)) → LineIs (accepted ts) before after out out (Refused (number_of x))
    go true q e = never cc
    go false q e = let h : x ≡ NoRoom = (err-refusal e).0 in record { line = rw q (ap (λ (y : Reason). Refused (number_of y)) h); tables = z.tables; bytes = rw q refl }

pub line-unread : (a : Answer) (before after : Lent) {y : Result Counts (Refusal Reason)} → ReadIs a before after y → {x : Reason} {p : ℕ} → y ≡ Err (refusal x p) → (out : List ℕ) {n : ℕ} → n ≡ number_of x
    → LineIs a before after out out (Refused n)
line-unread a before after z {x} {p} h out e =
    subst (λ (k : ℕ). LineIs a before after out out (Refused k)) (sym e) (turned a before after x p (subst (ReadIs a before after) h z) out)

-- one that is accepted had room
room_was : (a : Answer) (ts : List Tree) (before : Lent) (c : Counts) → a ≡ accepted ts → Ok c ≡ answers a before → roomy (tables ts) before ≡ true
room_was a ts before c e h = go (roomy (tables ts) before) refl (h ∙ ap (λ (z : Answer). answers z before) e)
  where
    go : (f : Bool) → roomy (tables ts) before ≡ f → Ok c ≡ pick f (Ok (counts_of (tables ts))) (Err (refusal NoRoom 0)) → roomy (tables ts) before ≡ true
    go true q w = q
    go false q w = never cc

-- a record that was read: its line is that of its text
module _ (t : List ℕ) (before after : Lent) (c : Counts) (x : ReadIs (read_strict t) before after (Ok c)) (out out' : List ℕ) (r : Line) where
  abbrev m : Memory
  m = memory t (length t) c after.trees after.nodes after.props after.vals

  pub line_read : RecordLineIs m out out' r → LineIs (read_strict t) before after out out' r
  unfolding line_of line_leaves
  line_read y = go (read-rows false t before after c x)
    where
      go : (ts : List Tree) × (read false t ≡ accepted ts) × (rows_of c after.trees after.nodes after.props after.vals ≡ tables ts)
          × (record_of t (rows_of c after.trees after.nodes after.props after.vals) ≡ ts) → LineIs (read_strict t) before after out out' r
      go (ts, q, z, d) =
          let f : Fit m ≡ true = read_fits false t before after c x in
          let u : record_in m ≡ ts = ap (λ (s : List ℕ). record_of s (rows_of c after.trees after.nodes after.props after.vals)) (take-length t) ∙ d in
          let w : written m (length out) ≡ written_with ts (length out) = rw (f, u) refl in
          let k : roomy (tables ts) before ≡ true = room_was (read_strict t) ts before c q x.answer in
          let a : r ≡ line_of (accepted ts) before (length out) = y.line ∙ ap₂ line_by w u ∙ rw k refl in
          let b : out' ≡ line_leaves (accepted ts) before out = y.bytes ∙ ap₂ (λ (o : Result ℕ Reason) (s : List ℕ). output o s out) w (ap writing u) ∙ rw k refl in
          record {
            line = a ∙ ap (λ (o : Answer). line_of o before (length out)) (sym q);
            tables = x.tables;
            bytes = b ∙ ap (λ (o : Answer). line_leaves o before out) (sym q);
          }

pub line-of-read : (t : List ℕ) (before after : Lent) {y : Result Counts (Refusal Reason)} → ReadIs (read_strict t) before after y → {c : Counts} → y ≡ Ok c → (out out' : List ℕ) (r : Line)
    → RecordLineIs (memory t (length t) c after.trees after.nodes after.props after.vals) out out' r → LineIs (read_strict t) before after out out' r
line-of-read t before after x {c} h out out' r y = line_read t before after c (subst (ReadIs (read_strict t) before after) h x) out out' r y
