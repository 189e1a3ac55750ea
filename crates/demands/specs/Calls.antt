-- Runs of calls of the exported edit.
use Rattle.std.specs.Prelude.{◌∷◌}
use Rattle.lists.specs.Prelude.{List, [], eqb, pick}
use Rattle.tables.specs.Memory.{Memory, memory}
use Rattle.tables.specs.declared.Counts.{Counts}
use Rattle.c_answers.specs.declared.SgfEdit.{SgfEdit}
use Rattle.sgf.specs.ChangeInC.{EditInC}
use Rattle.edit_laws.specs.Run.{Order}

-- the counts given back
abbrev pub counts_in : SgfEdit → Counts
counts_in r = r.counts

-- what a caller goes on with: after number 0 the used length and the counts given back, after a refusal those from before it (SCOPE 56)
abbrev pub goes_on : Memory → SgfEdit → Memory
goes_on m r = pick (eqb r.number 0) (memory m.text r.used (counts_in r) m.trees m.nodes m.properties m.values) m

-- calls one after another, of which each only meets the exported contract
pub data ExportedCalls : Memory → List Order → Memory → Type 0 where
  none : {m : Memory} → ExportedCalls m [] m
  call : {m m'' : Memory} {x : Order} {xs : List Order} (r : SgfEdit) (m' : Memory)
      → EditInC m m' x.value x.bytes r → ExportedCalls (goes_on m' r) xs m'' → ExportedCalls m (x ∷ xs) m''
