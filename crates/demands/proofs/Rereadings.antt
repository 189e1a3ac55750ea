-- Memory that a reading left, calls on it, and a second reading of it. Assumes nothing.
use Rattle.lists.proofs.Prelude.{ℕ, ◌*◌, ◌≤◌, Bool, true, ◌&&◌, List, ◌++◌, ◌≡◌, refl, sym, ap, ap₂, ◌∙◌, subst, arith, length, take, drop, take-append-drop, take_at, length-take-le, le-leb, pick, false}
use Rattle.tables.specs.Columns.{node_stride}
use Rattle.tables.specs.Flat.{over}
use Rattle.tables.specs.Memory.{Memory}
use Rattle.tables.specs.Record.{Tree}
use Rattle.tables.specs.Rows.{Tables, tables, counts_of}
use Rattle.tables.specs.declared.Counts.{Counts}
use Rattle.tables.specs.declared.Reason.TheVariants.{NoRoom}
use Rattle.fit.specs.Locals.{RowsLent}
use Rattle.fit.specs.Record.{rows_of, rows_in, text_in}
use Rattle.fit.proofs.Whole.{fit-lent}
use Rattle.parser.specs.Read.{Answer, accepted, read_strict}
use Rattle.reader.specs.Lent.{Lent, lent, roomy, stored, answers, leaves, ReadIs}
use Rattle.reader_laws.proofs.Lent.{read-rows, read-buffer-fits}
use Rattle.c_answers.specs.Structs.{reading_in_c}
use Rattle.c_answers.specs.declared.SgfReading.{SgfReading}
use Rattle.sgf.specs.ReadInC.{ReadInC}
use Rattle.edit_laws.specs.Calls.{text_rows}
use Rattle.edit_laws.specs.Calls as edit
use Rattle.edit_laws.specs.Fresh.{Fresh}
use Rattle.edit_laws.specs.Run.{Order}
use Rattle.edit_laws.specs.Run as rows
use Rattle.edit_laws.proofs.CallsRun.{calls-fit}
use Rattle.edit_laws.proofs.Cells.{tree-cells, node-cells, property-cells, value-cells}
use Rattle.edit_laws.proofs.OnCode.{calls-reads, counts-reads}
use Rattle.demands.specs.Cells.{tables_in, has_room, counts_read, SameCells}
use Rattle.demands.specs.When.{ReadsInto}
use Rattle.demands.proofs.Readings.{reading-exactly, reads-answer}
use Rattle.std.specs.Prelude.{Result, Ok, Err}
use Rattle.tables.specs.Refusals.{refusal}
use Rattle.tables.specs.declared.Reason.{Reason}
use Rattle.tables.specs.declared.Refusal.{Refusal}

pub read-reads : (m : Memory) (before : Lent) → ReadIs (read_strict (text_in m)) before (tables_in m) (Ok m.counts) → rows.Reads (text_rows m)
read-reads m before x = let r = read-rows false (text_in m) before (tables_in m) m.counts x in record { trees = r.0; reads = r.1; same_rows = r.2 }

pub read-fresh : (m : Memory) (before : Lent) → m.used ≤ length m.text
    → ReadIs (read_strict (text_in m)) before (tables_in m) (Ok m.counts) → Fresh m
read-fresh m before l x =
    record { fits = read-buffer-fits false m.text m.used before (tables_in m) m.counts l x; reads = read-reads m before x }

pub shown-fresh : {i : ℕ} (m : Memory) (before : Lent) (r : SgfReading) → m.used ≤ length m.text
    → ReadInC i (read_strict (text_in m)) before (tables_in m) r → r.number ≡ 0 → counts_read r ≡ m.counts → Fresh m
shown-fresh {i} m before r l s z k =
    let x : ReadsInto false (text_in m) before = (reading-exactly false (text_in m) before (tables_in m) r s).zero.0 z in
    let a = reads-answer false (text_in m) before x in
    let e : counts_of (tables x.trees) ≡ m.counts = sym (ap counts_read (s.is ∙ ap (reading_in_c i) a)) ∙ k in
    read-fresh m before l (record { answer = ap Ok (sym e) ∙ sym a; tables = s.tables })

pub calls-fresh : (m m' : Memory) (xs : List Order) → Fresh m → edit.Calls m xs m' → Fresh m'
calls-fresh m m' xs f k = record { fits = calls-fit m m' xs f.fits k; reads = calls-reads m m' xs f.reads k }

-- ---- a second reading

pub trees-once : {ts us : List Tree} → accepted ts ≡ accepted us → ts ≡ us
trees-once e = cc

pub reread-rows : (m : Memory) → rows.Reads (text_rows m) → (before after : Lent) (k : Counts) → ReadIs (read_strict (text_in m)) before after (Ok k)
    → rows_of k after.trees after.nodes after.props after.vals ≡ rows_in m
reread-rows m f before after k x =
    let r = read-rows false (text_in m) before after k x in
    r.2 ∙ ap tables (trees-once (sym r.1 ∙ f.reads)) ∙ sym f.same_rows

take-over : (xs ys t : List ℕ) (n : ℕ) → xs ≡ take n t → n ≤ length t → take n (over xs ys) ≡ take n t
take-over xs ys t n e h = ap (λ (z : List ℕ). take n (over z ys)) e ∙ take_at (take n t) (drop (length (take n t)) ys) n (length-take-le n t h)

over-own : (xs t : List ℕ) (n : ℕ) → xs ≡ take n t → n ≤ length t → over xs t ≡ t
over-own xs t n e h = ap (λ (z : List ℕ). over z t) e ∙ ap (λ (k : ℕ). take n t ++ drop k t) (length-take-le n t h) ∙ take-append-drop n t

all-four : {a b c d : Bool} → a ≡ true → b ≡ true → c ≡ true → d ≡ true → (a && b && c && d) ≡ true
all-four ea eb ec ed = rw (ea, eb, ec, ed)

module _ (m : Memory) (f : Fresh m) where
  abbrev T : Tables
  T = tables f.reads.trees

  held : RowsLent m.counts m.trees m.nodes m.properties m.values
  held = (fit-lent m f.fits).1

  fresh-counts : m.counts ≡ counts_of T
  fresh-counts = counts-reads m f.reads

  pub own_room : has_room m.counts (tables_in m) ≡ true
  own_room = all-four (le-leb _ _ held.trees) (le-leb _ _ held.nodes) (le-leb _ _ held.properties) (le-leb _ _ held.values)

  module _ (before : Lent) (h : has_room m.counts before ≡ true) where
    roomy-again : roomy T before ≡ true
    roomy-again = subst (λ (k : Counts). has_room k before ≡ true) fresh-counts h

    answer-again : answers (read_strict (text_in m)) before ≡ Ok m.counts
    answer-again =
        ap (λ (a : Answer). answers a before) f.reads.reads
        ∙ ap (λ (b : Bool). pick b (Ok (counts_of T)) (Err (refusal NoRoom 0))) roomy-again
        ∙ ap Ok (sym fresh-counts)

    leaves-again : leaves (read_strict (text_in m)) before ≡ stored (rows_in m) before
    leaves-again =
        ap (λ (a : Answer). leaves a before) f.reads.reads
        ∙ ap (λ (b : Bool). pick b (stored T before) before) roomy-again
        ∙ ap (λ (z : Tables). stored z before) (sym f.reads.same_rows)

  n-trees : m.counts.trees * 2 ≤ length m.trees
  n-trees = omega (arith, held.trees)

  n-nodes : m.counts.nodes * node_stride ≤ length m.nodes
  n-nodes = omega (arith, held.nodes)

  n-properties : m.counts.properties * 4 ≤ length m.properties
  n-properties = omega (arith, held.properties)

  n-values : m.counts.values * 2 ≤ length m.values
  n-values = omega (arith, held.values)

  stored-cells : (before : Lent) → SameCells m.counts (stored (rows_in m) before) (tables_in m)
  stored-cells before =
      record {
        trees = take-over _ before.trees m.trees _ (tree-cells m.trees m.counts.trees n-trees) n-trees;
        nodes = take-over _ before.nodes m.nodes _ (node-cells m.nodes m.counts.nodes n-nodes) n-nodes;
        properties = take-over _ before.props m.properties _ (property-cells m.properties m.counts.properties n-properties) n-properties;
        values = take-over _ before.vals m.values _ (value-cells m.values m.counts.values n-values) n-values;
      }

  stored-own : stored (rows_in m) (tables_in m) ≡ tables_in m
  stored-own =
      ap₂ (λ (x y : List ℕ). lent x y (stored (rows_in m) (tables_in m)).props (stored (rows_in m) (tables_in m)).vals) (over-own _ m.trees _ (tree-cells m.trees m.counts.trees n-trees) n-trees)
      (over-own _ m.nodes _ (node-cells m.nodes m.counts.nodes n-nodes) n-nodes)
      ∙ ap₂ (λ (x y : List ℕ). lent m.trees m.nodes x y)
      (over-own _ m.properties _ (property-cells m.properties m.counts.properties n-properties) n-properties)
      (over-own _ m.values _ (value-cells m.values m.counts.values n-values) n-values)

  -- into tables with room: accepted with the same counts, and the same cells
  pub reread : (before after : Lent) (r : Result Counts (Refusal Reason)) → has_room m.counts before ≡ true → ReadIs (read_strict (text_in m)) before after r
      → (r ≡ Ok m.counts) × SameCells m.counts after (tables_in m)
  reread before after r h x =
      (x.answer ∙ answer-again before h, subst (λ (l : Lent). SameCells m.counts l (tables_in m)) (sym (x.tables ∙ leaves-again before h)) (stored-cells before))

  -- into its own tables: every number stays
  pub reread-own : (after : Lent) (r : Result Counts (Refusal Reason)) → ReadIs (read_strict (text_in m)) (tables_in m) after r
      → (r ≡ Ok m.counts) × (after ≡ tables_in m)
  reread-own after r x = (x.answer ∙ answer-again (tables_in m) own_room, x.tables ∙ leaves-again (tables_in m) own_room ∙ stored-own)

  -- as sgf_read_strict says it
  pub reread-shown : {i : ℕ} (before after : Lent) (r : SgfReading) → has_room m.counts before ≡ true → ReadInC i (read_strict (text_in m)) before after r
      → (r.number ≡ 0) × (counts_read r ≡ m.counts) × SameCells m.counts after (tables_in m)
  reread-shown {i} before after r h s =
      let e : r ≡ reading_in_c i (Ok m.counts) = s.is ∙ ap (reading_in_c i) (answer-again before h) in
      let x = reread before after (answers (read_strict (text_in m)) before) h (record { answer = refl; tables = s.tables }) in
      (ap (λ (z : SgfReading). z.number) e, ap counts_read e, x.1)
