-- No more tokens than bytes: what a byte completes was owed before it, or is its own. Assumes nothing.
use Rattle.lists.proofs.Prelude.{refl, ℕ, suc, ◌+◌, ◌≤◌, arith, Bool, true, false, List, [], leb, eqb, length}
use Rattle.lexer_scan.specs.Scan.{space}
use Rattle.lexer.specs.Token.{Prop, begins, property_state, afters, values, finish}
use Rattle.blocks_step.specs.declared.Phase.{Phase}
use Rattle.blocks_step.specs.declared.Phase.TheVariants.{Between, Ident, Value, Escaped, After, Foreign}
use Rattle.blocks_step.specs.declared.Tokens.{Tokens}
use Rattle.blocks_step.specs.declared.Tokens.TheVariants.{Silent, Single, Property, Both}
use Rattle.blocks_step.specs.declared.Moved.{Moved}
use Rattle.blocks_step.specs.Lean.{phase_of, machine_of, moved_of, moves}
use Rattle.blocks.specs.Room.{rows_at}
use Rattle.blocks_laws.specs.Reading.{token_rows}
use Rattle.blocks_laws.proofs.Stored.{Threes}

-- a property that is begun owes a row
abbrev pub owed : Phase → ℕ
owed Between = 0
owed (Ident s) = 1
owed (Value s) = 1
owed (Escaped s) = 1
owed (After s) = 1
owed (Foreign s) = 0

-- what comes of a byte is at most n
abbrev Costs : Moved → ℕ → ℕ → Type 0
Costs m o n = length (rows_at m.tokens o) + owed m.next ≤ n

property-owed : (c high : Bool) (s : ℕ) (w : List ℕ) (o b : ℕ) → owed (phase_of (property_state c high s w o b)) ≤ 1
property-owed true high s w o b = omega arith
property-owed false true s w o b = omega arith
property-owed false false s w o b = omega arith

begins-owed : (c1 c2 c3 c4 : Bool) (o b : ℕ) → Costs (moved_of (begins c1 c2 c3 c4 o b)) o 1
begins-owed true c2 c3 c4 o b = omega arith
begins-owed false true c3 c4 o b = omega arith
begins-owed false false true c4 o b = omega arith
begins-owed false false false true o b = omega arith
begins-owed false false false false o b = let h = property-owed (eqb b 0x5b) (leb 0x80 b) o [] o b in omega arith

values-owed : (c x : Bool) (s o b : ℕ) → owed (phase_of (values false c x s 0 [] [] 0 [] o b)) ≤ 1
values-owed true x s o b = omega arith
values-owed false true s o b = omega arith
values-owed false false s o b = omega arith

afters-owed : (c c' c1 c2 c3 c4 : Bool) (p : Prop) (o b : ℕ) → Costs (moved_of (afters c c' p (begins c1 c2 c3 c4 o b) o)) o 2
afters-owed true c' c1 c2 c3 c4 p o b = omega arith
afters-owed false true c1 c2 c3 c4 p o b = omega arith
afters-owed false false true c2 c3 c4 p o b = omega arith
afters-owed false false false true c3 c4 p o b = omega arith
afters-owed false false false false true c4 p o b = omega arith
afters-owed false false false false false true p o b = omega arith
afters-owed false false false false false false p o b = let h = property-owed (eqb b 0x5b) (leb 0x80 b) o [] o b in omega arith

pub moves-owed : (p : Phase) (o b : ℕ) → Costs (moves p o b) o (suc (owed p))
unfolding moves
moves-owed Between o b = begins-owed (eqb b 0x28) (eqb b 0x29) (eqb b 0x3b) (space b) o b
moves-owed (Ident s) o b = let h = property-owed (eqb b 0x5b) (leb 0x80 b) s [] o b in omega arith
moves-owed (Value s) o b = let h = values-owed (eqb b 0x5d) (eqb b 0x5c) s o b in omega arith
moves-owed (Escaped s) o b = omega arith
moves-owed (After s) o b = afters-owed (space b) (eqb b 0x5b) (eqb b 0x28) (eqb b 0x29) (eqb b 0x3b) (space b) (record { from = s; to = 0; name = []; vals = [] }) o b
moves-owed (Foreign s) o b = omega arith

pub finish-owed : (p : Phase) (o : ℕ) → length (token_rows (finish (machine_of p) o).toks) ≤ owed p
finish-owed Between o = omega arith
finish-owed (Ident s) o = omega arith
finish-owed (Value s) o = omega arith
finish-owed (Escaped s) o = omega arith
finish-owed (After s) o = omega arith
finish-owed (Foreign s) o = omega arith

pub rows-threes : (t : Tokens) (o : ℕ) → Threes (rows_at t o)
rows-threes Silent o = tt
rows-threes (Single k) o = (refl, tt)
rows-threes (Property s) o = (refl, tt)
rows-threes (Both s k) o = (refl, (refl, tt))
