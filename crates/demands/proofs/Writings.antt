-- What the writer makes of memory: of any, of such as a reading left, and of two that hold one record. Assumes nothing.
use Rattle.lists.proofs.Prelude.{ℕ, ◌≤◌, ◌<◌, Bool, true, false, List, ◌++◌, ◌≡◌, sym, ap, ap₂, ◌∙◌, subst, ltb, length, take, drop, take-length, take_at, le-ltb, lt-ltb}
use Rattle.tables.specs.Memory.{Memory}
use Rattle.tables.specs.Record.{Tree, all_nodes, all_props}
use Rattle.tables.specs.Rows.{tables}
use Rattle.tables.specs.declared.Counts.{Counts}
use Rattle.tables.specs.declared.Reason.TheVariants.{NoRoom}
use Rattle.fit.specs.Fit.{Fit}
use Rattle.fit.specs.Record.{rows_of, record_of, rows_in, record_in}
use Rattle.parser.specs.Read.{accepted, read}
use Rattle.reader.specs.Lent.{Lent, ReadIs}
use Rattle.reader_laws.proofs.Lent.{read_fits, read-rows}
use Rattle.serialize.specs.Form.{writing, written, output, WriteIs}
use Rattle.serialize.specs.Locals.{write_answer}
use Rattle.serialize.specs.Branch.{nameless}
use Rattle.serialize.proofs.Room.{answer-length}
use Rattle.serialize_laws.specs.Alike.{Alike}
use Rattle.serialize_laws.proofs.OneWriting as one
use Rattle.serialize_laws.proofs.Alikes.{alike-names}
use Rattle.demands.specs.Holding.{holding}
use Rattle.demands.proofs.Rereadings.{trees-once}
use Rattle.std.specs.Prelude.{Result, Ok, Err}
use Rattle.tables.specs.declared.Reason.{Reason}

-- what is written is the writing of the record in memory
pub wrote-bytes : (m : Memory) (out out' : List ℕ) (n : ℕ) → WriteIs m out out' (Ok n)
    → (n ≡ length (writing (record_in m))) × (take n out' ≡ writing (record_in m))
wrote-bytes m out out' n w =
    let W : List ℕ = writing (record_in m) in
    let l : n ≡ length W = answer-length (Fit m) (nameless (all_props (all_nodes (record_in m)))) (ltb (length out) (length W)) n W w.is in
    (l, ap (take n) w.bytes ∙ take_at W (drop n out) n (sym l))

-- tables that fit and have no identifier that reads as empty: they are written where there is room, and only 14 refuses them
pub fit-writes : (m : Memory) → Fit m ≡ true → nameless (all_props (all_nodes (record_in m))) ≡ false → (out out' : List ℕ) (r : Result ℕ Reason)
    → WriteIs m out out' r
    → (length (writing (record_in m)) ≤ length out → (r ≡ Ok (length (writing (record_in m)))) × (out' ≡ writing (record_in m) ++ drop (length (writing (record_in m))) out))
    × (length out < length (writing (record_in m)) → (r ≡ Err NoRoom) × (out' ≡ out))
fit-writes m f e out out' r w = (
  λ l. (
      let q : r ≡ Ok (length W) = is ∙ ap (λ (s : Bool). write_answer true false s W) (le-ltb (length out) (length W) l) in
      (q, w.bytes ∙ ap (λ (a : Result ℕ Reason). output a W out) q)
      ),
  λ l. (
      let q : r ≡ Err NoRoom = is ∙ ap (λ (s : Bool). write_answer true false s W) (lt-ltb (length out) (length W) l) in
      (q, w.bytes ∙ ap (λ (a : Result ℕ Reason). output a W out) q)
      ),
)
  where
    W : List ℕ
    W = writing (record_in m)

    is : r ≡ write_answer true false (ltb (length out) (length W)) W
    is = w.is ∙ ap₂ (λ (a b : Bool). write_answer a b (ltb (length out) (length W)) W) f e

-- two memories that hold one record
module _ (m m' : Memory) (a : Alike (record_in m) (record_in m')) where
  pub one-writing : (out out₁ out' out₁' : List ℕ) (n n' : ℕ) → WriteIs m out out₁ (Ok n) → WriteIs m' out' out₁' (Ok n')
      → (n ≡ n') × (take n out₁ ≡ take n' out₁')
  one-writing out out₁ out' out₁' n n' w w' =
      let p = wrote-bytes m out out₁ n w in
      let q = wrote-bytes m' out' out₁' n' w' in
      let e : writing (record_in m) ≡ writing (record_in m') = one.same-written (record_in m) (record_in m') a in
      (p.0 ∙ ap length e ∙ sym q.0, p.1 ∙ e ∙ sym q.1)

  -- and both fit: the writer gives one answer
  pub one_answer : Fit m ≡ true → Fit m' ≡ true → (room : ℕ) → written m room ≡ written m' room
  one_answer f g room =
      ap₂ (λ (x y : Bool). write_answer x y (ltb room (length (writing (record_in m)))) (writing (record_in m))) (f ∙ sym g) (sym (alike-names (record_in m) (record_in m') a))
      ∙ ap (λ (w : List ℕ). write_answer (Fit m') (nameless (all_props (all_nodes (record_in m')))) (ltb room (length w)) w) (one.same-written (record_in m) (record_in m') a)

module _ (len : Bool) (t : List ℕ) (before after : Lent) (c : Counts) (x : ReadIs (read len t) before after (Ok c)) where
  -- what memory holds after a reading is the record that was read
  pub left-record : (ts : List Tree) × (read len t ≡ accepted ts) × (rows_in (holding t c after) ≡ tables ts) × (record_in (holding t c after) ≡ ts)
  left-record =
      let r = read-rows len t before after c x in
      (r.0, r.1, r.2, ap (λ (z : List ℕ). record_of z (rows_of c after.trees after.nodes after.props after.vals)) (take-length t) ∙ r.3)

  pub left-rows : rows_in (holding t c after) ≡ tables (record_in (holding t c after))
  left-rows = left-record.2 ∙ ap tables (sym left-record.3)

  pub left-reads : read len t ≡ accepted (record_in (holding t c after))
  left-reads = left-record.1 ∙ ap accepted (sym left-record.3)

  pub left-fits : Fit (holding t c after) ≡ true
  left-fits = read_fits len t before after c x

  pub bytes-written : (out out' : List ℕ) (n : ℕ) → WriteIs (holding t c after) out out' (Ok n)
      → (ts : List Tree) × (read len t ≡ accepted ts) × (take n out' ≡ writing ts)
  bytes-written out out' n w = (left-record.0, left-record.1, (wrote-bytes (holding t c after) out out' n w).1 ∙ ap writing left-record.3)

-- two readings of texts that are read as records that are alike
module _ (len : Bool) (t : List ℕ) (before after : Lent) (c : Counts) (x : ReadIs (read len t) before after (Ok c))
    (len' : Bool) (u : List ℕ) (before' after' : Lent) (c' : Counts) (y : ReadIs (read len' u) before' after' (Ok c'))
    (ts us : List Tree) (e : read len t ≡ accepted ts) (e' : read len' u ≡ accepted us) (a : Alike ts us) where
  left-alike : Alike (record_in (holding t c after)) (record_in (holding u c' after'))
  left-alike =
      subst (Alike (record_in (holding t c after))) (trees-once (sym e' ∙ left-reads len' u before' after' c' y))
      (subst (λ (z : List Tree). Alike z us) (trees-once (sym e ∙ left-reads len t before after c x)) a)

  pub readings-written : (out out₁ out' out₁' : List ℕ) (n n' : ℕ) → WriteIs (holding t c after) out out₁ (Ok n)
      → WriteIs (holding u c' after') out' out₁' (Ok n')
      → (n ≡ n') × (take n out₁ ≡ take n' out₁')
  readings-written = one-writing (holding t c after) (holding u c' after') left-alike

  pub readings-answer : (room : ℕ) → written (holding t c after) room ≡ written (holding u c' after') room
  readings-answer = one_answer (holding t c after) (holding u c' after') left-alike (left-fits len t before after c x) (left-fits len' u before' after' c' y)
