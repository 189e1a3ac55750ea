-- Depths in words: in tables that fit, as every accepted reading leaves them; none is above its node's number; those of small texts, computed. Assumes nothing.
use Rattle.lists.proofs.Prelude.{ℕ, zero, suc, ◌≤◌, ◌<◌, Bool, true, List, [], ◌∷◌, ◌≡◌, refl, ◌∙◌, arith, eqb, eq-eqb, ne_eqb, eqb-true, length, get_or, pick, map}
use Rattle.lists.proofs.Tests.{same_or}
use Rattle.text_chars.specs.White.{white}
use Rattle.lexer_scan.specs.Scan.{space}
use Rattle.tables.specs.Columns.{parent_at, depth_at}
use Rattle.tables.specs.Memory.{Memory}
use Rattle.tables.specs.Numbers.{none}
use Rattle.tables.specs.Rows.{NodeRow, depths, tables}
use Rattle.tables.specs.declared.Counts.{Counts}
use Rattle.tables.proofs.Cases.{below_or}
use Rattle.tables.proofs.Depths.{depths-root, depths-child}
use Rattle.tables.proofs.Each.{each_at}
use Rattle.fit.specs.Fit.{Fit}
use Rattle.fit.proofs.Clauses.{fit-clauses}
use Rattle.fit.proofs.RecordRows.{ruled}
use Rattle.fit_nodes.specs.Nodes.{depth_right}
use Rattle.fit_nodes.proofs.Rule.{rule-before}
use Rattle.parser.specs.Examples.{bytes, strict}
use Rattle.parser.specs.Read.{Answer, refused, accepted, read}
use Rattle.reader.specs.Lent.{Lent, ReadIs}
use Rattle.reader_laws.proofs.Lent.{read_fits}
use Rattle.c_answers.specs.declared.SgfReading.{SgfReading}
use Rattle.sgf.specs.ReadInC.{ReadInC}
use Rattle.demands.specs.Cells.{counts_read}
use Rattle.demands.specs.Holding.{holding}
use Rattle.demands.proofs.Exported.{shown-accepted}
use Rattle.std.specs.Prelude.{Ok}
use Prim.Native.String.{String}

-- ---- tables that fit

module _ (m : Memory) (h : Fit m ≡ true) where
  asked : (k : ℕ) → k < m.counts.nodes → depth_at m.nodes k ≡ pick (eqb (parent_at m.nodes k) none) 0 (suc (depth_at m.nodes (parent_at m.nodes k)))
  asked k l =
      eqb-true (depth_at m.nodes k) (pick (eqb (parent_at m.nodes k) none) 0 (suc (depth_at m.nodes (parent_at m.nodes k))))
      (each_at (depth_right m.nodes) m.counts.nodes k (fit-clauses m h).depths l)

  -- a root has depth 0
  pub fit-root-depth : (k : ℕ) → k < m.counts.nodes → parent_at m.nodes k ≡ none → depth_at m.nodes k ≡ 0
  fit-root-depth k l e = asked k l ∙ rw (eq-eqb (parent_at m.nodes k) none e)

  -- any other node its parent's plus 1
  pub fit-child-depth : (k : ℕ) → k < m.counts.nodes → (parent_at m.nodes k ≡ none → ⊥) → depth_at m.nodes k ≡ suc (depth_at m.nodes (parent_at m.nodes k))
  fit-child-depth k l e = asked k l ∙ rw (ne_eqb (parent_at m.nodes k) none e)

  under : (n k : ℕ) → k < n → k < m.counts.nodes → depth_at m.nodes k ≤ k
  under zero k a l = absurd (omega arith)
  under (suc n) k a l =
      same_or (parent_at m.nodes k) none
      (λ e. omega (arith, fit-root-depth k l e))
      (λ e.
      let b : parent_at m.nodes k < k = rule-before (ruled (fit-clauses m h)) k l e in
      omega (arith, fit-child-depth k l e, under n (parent_at m.nodes k) (omega arith) (omega arith)))

  -- no depth is above its node's number
  pub fit-depth-below : (k : ℕ) → k < m.counts.nodes → depth_at m.nodes k ≤ k
  fit-depth-below k l = under (suc k) k (omega arith) l

-- ---- an accepted reading, strict or lenient

-- node k has depth 0 where it is a root, else its parent's plus 1
abbrev pub Deep : List ℕ → ℕ → Type 0
Deep nd k = (parent_at nd k ≡ none → depth_at nd k ≡ 0) × ((parent_at nd k ≡ none → ⊥) → depth_at nd k ≡ suc (depth_at nd (parent_at nd k)))

-- so it is of the tables that it leaves
pub reading-depths : (len : Bool) (t : List ℕ) (before after : Lent) (c : Counts) → ReadIs (read len t) before after (Ok c) → (k : ℕ) → k < c.nodes
    → Deep after.nodes k
reading-depths len t before after c x k l =
    let f = read_fits len t before after c x in
    (fit-root-depth (holding t c after) f k l, fit-child-depth (holding t c after) f k l)

-- and of those that an exported reading with number 0 leaves
pub exported-depths : {i : ℕ} (len : Bool) (t : List ℕ) (before after : Lent) (r : SgfReading) → ReadInC i (read len t) before after r → r.number ≡ 0
    → (k : ℕ) → k < (counts_read r).nodes → Deep after.nodes k
exported-depths len t before after r x z = reading-depths len t before after (counts_read r) (shown-accepted (read len t) before after r x z)

-- ---- the definition

below : (ps : List ℕ) (n k : ℕ) → k < n → k < length ps → get_or (depths ps) k 0 ≤ k
below ps zero k a l = absurd (omega arith)
below ps (suc n) k a l =
    below_or (get_or ps k 0) k
    (λ b. omega (arith, depths-child ps k l b, below ps n (get_or ps k 0) (omega arith) (omega arith)))
    (λ b. omega (arith, depths-root ps k l b))

-- the same of the depths that parents give
pub depth_below : (ps : List ℕ) (k : ℕ) → k < length ps → get_or (depths ps) k 0 ≤ k
depth_below ps k l = below ps (suc k) k (omega arith) l

-- ---- small texts

-- the depths of the rows, none where the text is refused
abbrev column : Answer → List ℕ
column (refused r p) = []
column (accepted ts) = map (λ (r : NodeRow). r.depth) (tables ts).nodes

-- of a text that is read strictly
abbrev pub depths_read : String → List ℕ
depths_read t = column (read strict (bytes t))

-- two children of a root; a second tree; nested trees; a sequence
pub depths-computed : (depths_read "(;(;);)" ≡ 0 ∷ 1 ∷ 1 ∷ []) × (depths_read "(;;)(;)" ≡ 0 ∷ 1 ∷ 0 ∷ [])
    × (depths_read "(;(;(;)))" ≡ 0 ∷ 1 ∷ 2 ∷ []) × (depths_read "(;;;)" ≡ 0 ∷ 1 ∷ 2 ∷ [])
unfolding white space
depths-computed = (refl, refl, refl, refl)
