-- Read, write, read, write: composed over the contracts. Assumes nothing.
use Rattle.lists.proofs.Prelude.{ℕ, ◌≤◌, ◌<◌, Bool, true, false, List, ◌++◌, ◌≡◌, refl, sym, ap, ap₂, ◌∙◌, subst, arith, ltb, length, take, drop, lt-ltb, pick}
use Rattle.lists.specs.All.{All}
use Rattle.lists.proofs.Tests.{never}
use Rattle.text_utf8.specs.Text.{blank, utfs, whole}
use Rattle.tables.proofs.Cases.{below_or}
use Rattle.tables.proofs.Lengths.{prop-rows-length}
use Rattle.tables.specs.Memory.{Memory}
use Rattle.tables.specs.Numbers.{depth_limit, text_limit}
use Rattle.tables.specs.Record.{Tree, all_nodes, all_props}
use Rattle.tables.specs.Rows.{Tables, tables, counts_of}
use Rattle.tables.specs.declared.Counts.{Counts}
use Rattle.tables.specs.declared.Reason.TheVariants.{TextTooLong, TooDeep, NoRoom}
use Rattle.fit.specs.Fit.{Fit}
use Rattle.fit.specs.Record.{rows_in, record_in}
use Rattle.parser.specs.Read.{Answer, refused, accepted, parse_utf8, read, read_strict}
use Rattle.reader.specs.Lent.{Lent, roomy, answers, ReadIs}
use Rattle.reader.proofs.Theorems.{counts-are-lengths}
use Rattle.reader_laws.specs.Enough.{strict_rows, Lends}
use Rattle.reader_laws.proofs.Enough.{strict-accepts}
use Rattle.go.specs.declared.value.GoValue.{GoValue}
use Rattle.ask.specs.Ask.{given, refuses, go_at, go_answer}
use Rattle.tables.specs.declared.Reason.TheVariants as reason
use Rattle.serialize.specs.Form.{writing, WriteIs}
use Rattle.serialize.specs.Branch.{nameless}
use Rattle.serialize_laws.specs.Alike.{Alike}
use Rattle.serialize_laws.specs.Back.{Named, BeginsAll}
use Rattle.serialize_laws.specs.Depth.{depth_of}
use Rattle.serialize_laws.specs.Same.{Pairs, SameTree, ReadsBack}
use Rattle.serialize_laws.proofs.Alikes.{same_alike, alike-go, alike-properties, alike-names, named-all}
use Rattle.serialize_laws.proofs.OneWriting.{same-written}
use Rattle.serialize_laws.proofs.Theorem.{reads-back-within, too-deep}
use Rattle.demands.specs.Holding.{holding}
use Rattle.demands.proofs.Rereadings.{trees-once}
use Rattle.demands.proofs.Writings.{wrote-bytes, fit-writes, left-rows, left-reads, left-fits}
use Rattle.std.specs.Prelude.{Result, Ok, Err}
use Rattle.tables.specs.Refusals.{refusal}
use Rattle.tables.specs.declared.Reason.{Reason}
use Rattle.tables.specs.declared.Refusal.{Refusal}
use Rattle.tables.proofs.Refusals.{err-refusal}

-- as many properties are counted as the record has
properties-read : (t : List ℕ) (before after : Lent) (k : Counts) → ReadIs (read_strict t) before after (Ok k)
    → k.properties ≡ length (all_props (all_nodes (record_in (holding t k after))))
properties-read t before after k x =
    let n = counts-are-lengths false t before after k x in
    let e : n.0 ≡ record_in (holding t k after) = trees-once (sym n.1 ∙ left-reads false t before after k x) in
    ap (λ (z : Counts). z.properties) n.2 ∙ prop-rows-length 0 (all_props (all_nodes n.0)) ∙ ap (λ (ts : List Tree). length (all_props (all_nodes ts))) e

-- the Go value of a property by its number, where tables fit and hold one record
go_same : (m m' : Memory) → Fit m ≡ true → Fit m' ≡ true → m'.counts.properties ≡ m.counts.properties → Alike (record_in m) (record_in m') → (p : ℕ) → go_answer m' p ≡ go_answer m p
unfolding go_answer
go_same m m' f g n a p =
    ap (λ (b : Bool). pick b (pick (ltb p m'.counts.properties) (given (go_at (record_in m') p)) (refuses reason.NoSuchNumber)) (refuses reason.NotFitting)) (g ∙ sym f)
    ∙ ap₂ (λ (k : ℕ) (v : GoValue). pick (Fit m) (pick (ltb p k) (given v) (refuses reason.NoSuchNumber)) (refuses reason.NotFitting)) n (alike-go (record_in m) (record_in m') a p)

-- a text beyond the limit
pub long-one : (len : Bool) (t : List ℕ) (before after : Lent) (r : Result Counts (Refusal Reason)) → text_limit < length t
    → ReadIs (read len t) before after r → r ≡ Err (refusal TextTooLong 0)
long-one len t before after r h y =
    y.answer
    ∙ ap (λ (b : Bool). answers (pick b (refused TextTooLong 0) (parse_utf8 len (utfs (whole blank) 0 t) t)) before) (lt-ltb text_limit (length t) h)

module _ (t : List ℕ) (before after : Lent) (k : Counts) (x : ReadIs (read_strict t) before after (Ok k))
    (b : BeginsAll t) (nm : All Named (all_props (all_nodes (record_in (holding t k after))))) where
  abbrev M : Memory
  M = holding t k after

  reads : read_strict t ≡ accepted (record_in (holding t k after))
  reads = left-reads false t before after k x

  names : nameless (all_props (all_nodes (record_in (holding t k after)))) ≡ false
  names = named-all (all_props (all_nodes (record_in (holding t k after)))) nm

  pub named-writes : (out out' : List ℕ) (r : Result ℕ Reason) → WriteIs (holding t k after) out out' r
      → (length (writing (record_in (holding t k after))) ≤ length out
      → (r ≡ Ok (length (writing (record_in (holding t k after))))) × (out' ≡ writing (record_in (holding t k after)) ++ drop (length (writing (record_in (holding t k after)))) out))
      × (length out < length (writing (record_in (holding t k after))) → (r ≡ Err NoRoom) × (out' ≡ out))
  named-writes = fit-writes (holding t k after) (left-fits false t before after k x) names

  module _ (out out' : List ℕ) (n : ℕ) (w : WriteIs (holding t k after) out out' (Ok n)) (l : n ≤ text_limit) where
    long : n ≡ length (writing (record_in (holding t k after)))
    long = (wrote-bytes (holding t k after) out out' n w).0

    is : take n out' ≡ writing (record_in (holding t k after))
    is = (wrote-bytes (holding t k after) out out' n w).1

    short : length (writing (record_in (holding t k after))) ≤ text_limit
    short = omega (arith, l, long)

    pub deep-nine : depth_limit < depth_of (take n out') → (before₂ after₂ : Lent) (r : Result Counts (Refusal Reason))
        → ReadIs (read_strict (take n out')) before₂ after₂ r → r ≡ Err (refusal TooDeep 0)
    deep-nine h before₂ after₂ r y =
        y.answer
        ∙ ap (λ (a : Answer). answers a before₂)
        (ap (read_strict) is ∙ too-deep t (record_in (holding t k after)) reads b nm short (subst (λ (z : List ℕ). depth_limit < depth_of z) is h))

    module _ (s : depth_of (take n out') ≤ depth_limit) where
      pub back : ReadsBack (record_in (holding t k after))
      back = reads-back-within t (record_in (holding t k after)) reads b nm short (subst (λ (z : List ℕ). depth_of z ≤ depth_limit) is s)

      pub reads-again : read_strict (take n out') ≡ accepted back.again
      reads-again = ap (read_strict) is ∙ back.accepts

      -- the rows of what is read are lent, or not
      pub room-exactly : (before₂ after₂ : Lent) (r : Result Counts (Refusal Reason)) → ReadIs (read_strict (take n out')) before₂ after₂ r
          → (roomy (tables back.again) before₂ ≡ true → r ≡ Ok (counts_of (tables back.again))) × (roomy (tables back.again) before₂ ≡ false → r ≡ Err (refusal NoRoom 0))
      room-exactly before₂ after₂ r y = (so true, so false)
        where
          so : (f : Bool) → roomy (tables back.again) before₂ ≡ f → r ≡ pick f (Ok (counts_of (tables back.again))) (Err (refusal NoRoom 0))
          so f h =
              y.answer
              ∙ ap (λ (a : Answer). answers a before₂) reads-again
              ∙ ap (λ (g : Bool). pick g (Ok (counts_of (tables back.again))) (Err (refusal NoRoom 0))) h

      -- tables for n bytes have room
      pub room-enough : (before₂ after₂ : Lent) (r : Result Counts (Refusal Reason)) → ReadIs (read_strict (take n out')) before₂ after₂ r
          → Lends (strict_rows n) before₂
          → r ≡ Ok (counts_of (tables back.again))
      room-enough before₂ after₂ r y h =
          y.answer
          ∙ strict-accepts false (take n out') back.again reads-again refl before₂ (subst (λ (z : ℕ). Lends (strict_rows z) before₂) (long ∙ sym (ap length is)) h)

      module _ (before₂ after₂ : Lent) (k₂ : Counts) (y : ReadIs (read_strict (take n out')) before₂ after₂ (Ok k₂)) where
        again-is : back.again ≡ record_in (holding (take n out') k₂ after₂)
        again-is = trees-once (sym reads-again ∙ left-reads false (take n out') before₂ after₂ k₂ y)

        pub same-record : Pairs SameTree (record_in (holding t k after)) (record_in (holding (take n out') k₂ after₂))
        same-record = subst (Pairs SameTree (record_in (holding t k after))) again-is back.same

        alike : Alike (record_in (holding t k after)) (record_in (holding (take n out') k₂ after₂))
        alike = same_alike (record_in (holding t k after)) (record_in (holding (take n out') k₂ after₂)) same-record

        pub same-tree-rows : (rows_in (holding (take n out') k₂ after₂)).trees ≡ (rows_in (holding t k after)).trees
        same-tree-rows =
            ap (λ (T : Tables). T.trees) (left-rows false (take n out') before₂ after₂ k₂ y)
            ∙ ap (λ (us : List Tree). (tables us).trees) (sym again-is) ∙ back.tree-rows
            ∙ sym (ap (λ (T : Tables). T.trees) (left-rows false t before after k x))

        pub same-node-rows : (rows_in (holding (take n out') k₂ after₂)).nodes ≡ (rows_in (holding t k after)).nodes
        same-node-rows =
            ap (λ (T : Tables). T.nodes) (left-rows false (take n out') before₂ after₂ k₂ y)
            ∙ ap (λ (us : List Tree). (tables us).nodes) (sym again-is) ∙ back.node-rows
            ∙ sym (ap (λ (T : Tables). T.nodes) (left-rows false t before after k x))

        pub same-go : (p : ℕ) → go_answer (holding (take n out') k₂ after₂) p ≡ go_answer (holding t k after) p
        same-go =
            go_same (holding t k after) (holding (take n out') k₂ after₂) (left-fits false t before after k x) (left-fits false (take n out') before₂ after₂ k₂ y)
            (properties-read (take n out') before₂ after₂ k₂ y
            ∙ alike-properties (record_in (holding t k after)) (record_in (holding (take n out') k₂ after₂)) alike
            ∙ sym (properties-read t before after k x)) alike

        pub writes_again : (out₂ out₂' : List ℕ) (r : Result ℕ Reason) → WriteIs (holding (take n out') k₂ after₂) out₂ out₂' r → n ≤ length out₂
            → (r ≡ Ok n) × (take n out₂' ≡ take n out')
        writes_again out₂ out₂' r v m =
            let M₂ : Memory = holding (take n out') k₂ after₂ in
            let e : writing (record_in M) ≡ writing (record_in M₂) = same-written (record_in M) (record_in M₂) alike in
            let o : n ≡ length (writing (record_in M₂)) = long ∙ ap length e in
            let f = (fit-writes M₂ (left-fits false (take n out') before₂ after₂ k₂ y)
            (alike-names (record_in M) (record_in M₂) alike ∙ names) out₂ out₂' r v).0 (omega (arith, m, o)) in
            let q : r ≡ Ok n = f.0 ∙ ap Ok (sym o) in
            (q, (wrote-bytes M₂ out₂ out₂' n (subst (WriteIs M₂ out₂ out₂') q v)).1 ∙ sym e ∙ sym is)

    -- 9, and 9 only, where it is too deep
    pub nine-deep : (before₂ after₂ : Lent) (p : ℕ) → ReadIs (read_strict (take n out')) before₂ after₂ (Err (refusal TooDeep p))
        → depth_limit < depth_of (take n out')
    nine-deep before₂ after₂ p y =
        below_or depth_limit (depth_of (take n out')) (λ h. h)
        (λ h. go (roomy (tables (back h).again) before₂) (counts_of (tables (back h).again)) (y.answer ∙ ap (λ (a : Answer). answers a before₂) (reads-again h)))
      where
        go : (f : Bool) (z : Counts) → Err (refusal TooDeep p) ≡ pick f (Ok z) (Err (refusal NoRoom 0)) → depth_limit < depth_of (take n out')
        go true z e = never cc
        go false z e = let w = (err-refusal {r = TooDeep} {x = NoRoom} e).0 in never cc
