-- The scope's useless builds, each held on one small input against the contract of the function below the exported one: none meets it; the exported ones: UselessShown. Assumes nothing.
use Rattle.lists.proofs.Prelude.{ℕ, Bool, true, false, List, [], ◌∷◌, ◌++◌, ◌≡◌, refl, ap, ◌∙◌, arith, get_or, pick}
use Rattle.lists.proofs.Tests.{never}
use Rattle.text_chars.specs.White.{white}
use Rattle.text_utf8.specs.Trim.{trimmed}
use Rattle.lexer_scan.specs.Scan.{space}
use Rattle.tables.specs.Columns.{depth_at}
use Rattle.tables.specs.Memory.{Memory, memory}
use Rattle.tables.specs.Numbers.{none}
use Rattle.tables.specs.Record.{Tree}
use Rattle.tables.specs.Rows.{counts_of, tables}
use Rattle.tables.specs.declared.Counts.{Counts}
use Rattle.tables.specs.declared.Reason.{Reason}
use Rattle.tables.specs.declared.Reason.TheVariants.{UnexpectedGameTreeStart, NoRoom}
use Rattle.tables.specs.Each.{each, sum, tabulate}
use Rattle.fit.specs.Fit.{fit_text, Fit}
use Rattle.fit_nodes.specs.Nodes.{orphans, upward, on_path, first_under, nodes_fit}
use Rattle.fit_spans.specs.Ranges.{ranges_fit}
use Rattle.fit_spans.specs.Spans.{spans, ascending, plain_name, spans_fit}
use Rattle.parser.specs.Examples.{bytes, strict}
use Rattle.parser.specs.Read.{Answer, accepted, read}
use Rattle.reader.specs.Lent.{Lent, lent, roomy, stored, answers, leaves, ReadIs}
use Rattle.edit_answer.specs.Answer.{outcome_of, edited_for}
use Rattle.edit.specs.Lent.{memory_after, EditIs}
use Rattle.std.specs.Prelude.{Ok, Err}
use Rattle.tables.specs.Refusals.{refusal}
use Rattle.tables.proofs.Refusals.{err-refusal}

-- so many rows
abbrev pub rows : (trees nodes properties values : ℕ) → Counts
rows t n p v = record { trees = t; nodes = n; properties = p; values = v }

-- tables with room for one tree of two nodes
abbrev pub room : Lent
room = lent (0 ∷ 0 ∷ []) (0 ∷ 0 ∷ 0 ∷ 0 ∷ 0 ∷ 0 ∷ 0 ∷ 0 ∷ 0 ∷ 0 ∷ 0 ∷ 0 ∷ []) [] []

pub two-nodes : answers (read strict (bytes "(;;)")) room ≡ Ok (rows 1 2 0 0)
unfolding white space
two-nodes = refl

-- a reader that refuses everything
pub refusing-reader : (after : Lent) (r : Reason) (p : ℕ) → ReadIs (read strict (bytes "(;;)")) room after (Err (refusal r p)) → ⊥
refusing-reader after r p x = let e = x.answer ∙ two-nodes in never cc

-- one that returns one empty tree, or invents its counts
pub inventing-reader : (after : Lent) (c : Counts) → ReadIs (read strict (bytes "(;;)")) room after (Ok c) → c ≡ rows 1 2 0 0
inventing-reader after c x = let e = x.answer ∙ two-nodes in cc

-- a text of three nodes, one below the other: whatever tables are lent, node 2 stands in its row with depth 2
three-deep : (ts : List Tree) × (read strict (bytes "(;;;)") ≡ accepted ts) × ((l : Lent) → depth_at (stored (tables ts) l).nodes 2 ≡ 2)
unfolding white space
three-deep = (_, refl, λ l. refl)

-- one that leaves flat depths: accepted, whatever tables are lent, node 2 has depth 2
pub flat-reader : (before after : Lent) (c : Counts) → ReadIs (read strict (bytes "(;;;)")) before after (Ok c) → depth_at after.nodes 2 ≡ 2
flat-reader before after c x = go three-deep
  where
    go : (ts : List Tree) × (read strict (bytes "(;;;)") ≡ accepted ts) × ((l : Lent) → depth_at (stored (tables ts) l).nodes 2 ≡ 2) → depth_at after.nodes 2 ≡ 2
    go (ts, e, d) = roomed (roomy (tables ts) before) (x.answer ∙ ap (λ (a : Answer). answers a before) e) (x.tables ∙ ap (λ (a : Answer). leaves a before) e)
      where
        roomed : (f : Bool) → Ok c ≡ pick f (Ok (counts_of (tables ts))) (Err (refusal NoRoom 0)) → after ≡ pick f (stored (tables ts) before) before
            → depth_at after.nodes 2 ≡ 2
        roomed true w s = ap (λ (l : Lent). depth_at l.nodes 2) s ∙ d before
        roomed false w s = never cc

-- no rows at all
abbrev pub nothing : Lent
nothing = lent [] [] [] []

pub ten-first : answers (read strict (bytes "((;))")) nothing ≡ Err (refusal UnexpectedGameTreeStart 0)
unfolding white space
ten-first = refl

-- a reader that looks for room before it looks at the trees
pub hasty-reader : (after : Lent) (p : ℕ) → ReadIs (read strict (bytes "((;))")) nothing after (Err (refusal NoRoom p)) → ⊥
hasty-reader after p x = let w = (err-refusal {r = NoRoom} {x = UnexpectedGameTreeStart} (x.answer ∙ ten-first)).0 in never cc

-- a text of two nodes in memory, with these properties and values
abbrev held : (text : List ℕ) (used : ℕ) (properties values : List ℕ) → Memory
held t used pr vl = memory t used (rows 1 2 2 2) (0 ∷ 0 ∷ []) (none ∷ 1 ∷ none ∷ 0 ∷ 1 ∷ 0 ∷ 0 ∷ none ∷ none ∷ 1 ∷ 1 ∷ 1 ∷ []) pr vl

-- the text of P10, its value 0 becoming `x`, and then its value 1 `y`; the used length is the caller's
abbrev pub first : Memory
first = held (bytes "(;C[ab];B[cd])") 14 (2 ∷ 3 ∷ 0 ∷ 1 ∷ 8 ∷ 9 ∷ 1 ∷ 1 ∷ []) (4 ∷ 6 ∷ 10 ∷ 12 ∷ [])

abbrev pub second : (used : ℕ) → Memory
second used = held (bytes "(;C[x];B[cd])" ++ (0 ∷ [])) used (2 ∷ 3 ∷ 0 ∷ 1 ∷ 7 ∷ 8 ∷ 1 ∷ 1 ∷ []) (4 ∷ 5 ∷ 9 ∷ 11 ∷ [])

abbrev third : Memory
third = held (bytes "(;C[x];B[y])" ++ (0 ∷ 0 ∷ [])) 13 (2 ∷ 3 ∷ 0 ∷ 1 ∷ 7 ∷ 8 ∷ 1 ∷ 1 ∷ []) (4 ∷ 5 ∷ 9 ∷ 10 ∷ [])

pub first-edit : (edited_for (outcome_of first 0 (bytes "x")) ≡ Ok 13) × (memory_after (outcome_of first 0 (bytes "x")) first ≡ second 14)
unfolding outcome_of Fit fit_text nodes_fit ranges_fit spans_fit trimmed white each sum tabulate orphans upward on_path first_under spans ascending plain_name
first-edit = (refl, refl)

pub second-edit : memory_after (outcome_of (second 13) 1 (bytes "y")) (second 13) ≡ third
unfolding outcome_of Fit fit_text nodes_fit ranges_fit spans_fit trimmed white each sum tabulate orphans upward on_path first_under spans ascending plain_name
second-edit = refl

-- an edit that always refuses
pub refusing-edit : (after : Memory) (r : Reason) (p : ℕ) → EditIs first after 0 (bytes "x") (Err (refusal r p)) → ⊥
refusing-edit after r p x = let e = x.answer ∙ first-edit.0 in never cc

-- one that does nothing and says yes
pub idle-edit : (n : ℕ) → EditIs first first 0 (bytes "x") (Ok n) → ⊥
idle-edit n x = let e : ◌≡◌ {A = ℕ} 6 5 = ap (λ (m : Memory). get_or m.values 1 0) (x.memory ∙ first-edit.1) in absurd (omega (arith, e))

-- one that mends the first call and merely says yes later
pub later-idle-edit : (n : ℕ) → EditIs (second 13) (second 13) 1 (bytes "y") (Ok n) → ⊥
later-idle-edit n x = let e : ◌≡◌ {A = ℕ} 11 10 = ap (λ (m : Memory). get_or m.values 3 0) (x.memory ∙ second-edit) in absurd (omega (arith, e))
