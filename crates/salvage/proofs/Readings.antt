-- Salvage of a text whose result is allowed: the reader looks for the rows of the tables, and then all is written. Assumes nothing.
use Rattle.lists.proofs.Prelude.{ℕ, ◌/◌, ◌≤◌, Bool, true, false, List, ◌≡◌, refl, sym, ap, ap₂, ◌∙◌, subst, arith, length, take, take-length, pick, le-ltb, le-leb}
use Rattle.lists.proofs.Tests.{never}
use Rattle.tables.specs.Numbers.{text_limit, depth_limit}
use Rattle.tables.specs.Record.{Tree}
use Rattle.tables.specs.Rows.{Tables, tables, counts_of}
use Rattle.tables.specs.Flat.{over}
use Rattle.tables.specs.Memory.{Memory, memory}
use Rattle.tables.specs.Lenient.{as_reading}
use Rattle.tables.specs.declared.Counts.{Counts}
use Rattle.tables.specs.declared.LenientRefusal.TheVariants as lenient
use Rattle.tables.specs.declared.Reason.{Reason}
use Rattle.tables.specs.declared.Reason.TheVariants.{NoRoom}
use Rattle.fit.specs.Record.{record_of, rows_of, record_in}
use Rattle.parser.specs.Read.{Answer, refused, accepted, read, read_lenient}
use Rattle.reader.specs.Lent.{Lent, roomy, stored, answers, leaves, ReadIs, LenientIs}
use Rattle.reader_laws.proofs.Lent.{read-rows, read_fits}
use Rattle.serialize.specs.Form.{writing}
use Rattle.serialize_laws.specs.Depth.{depth_of}
use Rattle.salvage_list.specs.ListRows.{text_changes}
use Rattle.salvage_mend.specs.Mend.{mended}
use Rattle.salvage_laws.specs.Result.{salvage_of}
use Rattle.salvage.specs.Salvage.{salvage_gives, tables_left, list_left, bytes_left, SalvageIs}
use Rattle.salvage.specs.LocalsRecord.{Decided, WrittenWhole}
use Rattle.salvage.proofs.Answers.{Planned, gives, gives-by, room_by}
use Rattle.std.specs.Prelude.{Result, Ok, Err}
use Rattle.tables.specs.Refusals.{refusal}
use Rattle.tables.specs.declared.LenientRefusal.{LenientRefusal}
use Rattle.tables.specs.declared.Refusal.{Refusal}
use Rattle.tables.proofs.Refusals.{err-refusal}

denoted : (t : List ℕ) (r : Tables) (ts : List Tree) → record_of t r ≡ ts → record_of (take (length t) t) r ≡ ts
denoted t r ts d = ap (λ (s : List ℕ). record_of s r) (take-length t) ∙ d

module _ (t : List ℕ) (before : Lent) (list out : List ℕ) where
  module _ {k : ℕ} (y : Planned t list out k) (after : Lent) {x : Result Counts LenientRefusal} (z : LenientIs (read_lenient t) before after x) where
    pub salvage-unread : {r : Reason} {p : ℕ} → as_reading x ≡ Err (refusal r p) → SalvageIs t before after list list out out (Err (refusal r p))
    unfolding salvage_gives
    salvage-unread {r} {p} e =
        let q = go (read_lenient t) y.short y.shallow (sym e ∙ z.answer) in
        record { answer = q.0; tables = z.tables ∙ q.1; changes = refl; bytes = refl }
      where
        go : (a : Answer) → length (salvage_of a) ≤ text_limit → depth_of (salvage_of a) ≤ depth_limit → Err (refusal r p) ≡ answers a before → (Err (refusal r p) ≡ gives t before list out a) × (leaves a before ≡ before)
        go (refused s q) l d h = let z = err-refusal h in (ap₂ (λ (x : Reason) (y : ℕ). Err (refusal x y)) z.0 z.1, refl)
        go (accepted ts) l d h = roomed (roomy (tables ts) before) refl h
          where
            roomed : (b : Bool) → roomy (tables ts) before ≡ b → Err (refusal r p) ≡ pick b (Ok (counts_of (tables ts))) (Err (refusal NoRoom 0))
                → (Err (refusal r p) ≡ gives t before list out (accepted ts)) × (leaves (accepted ts) before ≡ before)
            roomed true q v = never cc
            roomed false q v = let z = err-refusal v in (
              ap₂ (λ (x : Reason) (y : ℕ). Err (refusal x y)) z.0 z.1 ∙ sym (gives-by t before list out ts (le-ltb text_limit (length (writing (mended ts))) l) (le-ltb depth_limit (depth_of (writing (mended ts))) d) (room_by t before list out ts q refl refl)),
              ap (λ (b : Bool). pick b (stored (tables ts) before) before) q,
            )

    module _ {c : Counts} (h : x ≡ Ok c) where
      abbrev m : Memory
      m = memory t (length t) c after.trees after.nodes after.props after.vals

      as_read : ReadIs (read_lenient t) before after (Ok c)
      as_read = record { answer = sym (ap as_reading h) ∙ z.answer; tables = z.tables }

      -- the record that was read, there was room for it, and its counts
      was_read : (ts : List Tree) × (read_lenient t ≡ accepted ts) × (record_in m ≡ ts) × (roomy (tables ts) before ≡ true) × (c ≡ counts_of (tables ts))
      was_read = go (read-rows true t before after c as_read)
        where
          roomed : (ts : List Tree) (f : Bool) → roomy (tables ts) before ≡ f → Ok c ≡ pick f (Ok (counts_of (tables ts))) (Err (refusal NoRoom 0)) → (roomy (tables ts) before ≡ true) × (c ≡ counts_of (tables ts))
          roomed ts true q v = (q, cc)
          roomed ts false q v = never cc

          go : (ts : List Tree) × (read true t ≡ accepted ts) × (rows_of c after.trees after.nodes after.props after.vals ≡ tables ts)
              × (record_of t (rows_of c after.trees after.nodes after.props after.vals) ≡ ts)
              → (ts : List Tree) × (read_lenient t ≡ accepted ts) × (record_in m ≡ ts) × (roomy (tables ts) before ≡ true) × (c ≡ counts_of (tables ts))
          go (ts, q, v, d) =
              let k = roomed ts (roomy (tables ts) before) refl (as_read.answer ∙ ap (λ (a : Answer). answers a before) q) in
              (ts, q, denoted t (rows_of c after.trees after.nodes after.props after.vals) ts d, k.0, k.1)

      pub decided : Decided m (text_changes t) list out k
      decided = go was_read
        where
          go : (ts : List Tree) × (read_lenient t ≡ accepted ts) × (record_in m ≡ ts) × (roomy (tables ts) before ≡ true) × (c ≡ counts_of (tables ts)) → Decided m (text_changes t) list out k
          go (ts, q, u, f, v) =
              let s : salvage_of (read_lenient t) ≡ writing (mended (record_in m)) = ap salvage_of q ∙ ap (λ (us : List Tree). writing (mended us)) (sym u) in
              record {
                fits = read_fits true t before after c as_read;
                short = subst (λ (o : List ℕ). length o ≤ text_limit) s y.short;
                room = subst (λ (o : List ℕ). length o ≤ length out) s y.room;
                count = y.count;
                rows = y.rows;
              }

      pub salvage-of-read : {list' out' : List ℕ} {r : Result (Counts × ℕ × ℕ) (Refusal Reason)} → WrittenWhole m (text_changes t) list list' out out' r → SalvageIs t before after list list' out out' r
      salvage-of-read {list'} {out'} {r} n = go was_read
        where
          go : (ts : List Tree) × (read_lenient t ≡ accepted ts) × (record_in m ≡ ts) × (roomy (tables ts) before ≡ true) × (c ≡ counts_of (tables ts)) → SalvageIs t before after list list' out out' r
          go (ts, q, u, f, v) =
              let s : salvage_of (read_lenient t) ≡ writing (mended ts) = ap salvage_of q in
              let l = subst (λ (o : List ℕ). length o ≤ text_limit) s y.short in
              let d = subst (λ (o : List ℕ). depth_of o ≤ depth_limit) s y.shallow in
              let o = subst (λ (o : List ℕ). length o ≤ length out) s y.room in
              let i = y.count in
              let j = y.rows in
              let g : gives t before list out (accepted ts) ≡ Ok (counts_of (tables ts), length (writing (mended ts)), length (text_changes t)) =
              gives-by t before list out ts (le-ltb text_limit (length (writing (mended ts))) l) (le-ltb depth_limit (depth_of (writing (mended ts))) d)
              (room_by t before list out ts f (le-leb (length (text_changes t)) (length list / 3) (omega (arith, i, j))) (le-leb (length (writing (mended ts))) (length out) o)) in
              record {
                answer = n.answer ∙ ap₂ (λ (a : Counts) (us : List Tree). Ok (a, length (writing (mended us)), length (text_changes t))) v u ∙ sym g ∙ ap (gives t before list out) (sym q);
                tables = z.tables ∙ ap (λ (a : Result (Counts × ℕ × ℕ) (Refusal Reason)). tables_left a (read_lenient t) before) (sym n.answer);
                changes = n.changes ∙ ap (λ (a : Result (Counts × ℕ × ℕ) (Refusal Reason)). list_left a (text_changes t) list) (sym n.answer);
                bytes = n.bytes
                    ∙ ap (λ (us : List Tree). over (writing (mended us)) out) u
                    ∙ ap (λ (a : Answer). over (salvage_of a) out) (sym q)
                    ∙ ap (λ (a : Result (Counts × ℕ × ℕ) (Refusal Reason)). bytes_left a (salvage_of (read_lenient t)) out) (sym n.answer);
              }
