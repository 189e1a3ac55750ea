-- What the writer wrote lies in the bytes lent. Assumes nothing.
use Rattle.lists.proofs.Prelude.{ℕ, ◌≤◌, Bool, true, false, List, ◌++◌, ◌≡◌, sym, ap, ◌∙◌, arith, ltb, length, drop, length-append}
use Rattle.lists.proofs.Tests.{never}
use Rattle.tables.specs.Record.{all_nodes, all_props}
use Rattle.tables.specs.Memory.{Memory}
use Rattle.fit.specs.Fit.{Fit}
use Rattle.fit.specs.Record.{record_in}
use Rattle.serialize.specs.Form.{writing, output, WriteIs}
use Rattle.serialize.specs.Locals.{write_answer}
use Rattle.serialize.specs.Branch.{nameless}
use Rattle.std.specs.Prelude.{Result, Ok}
use Rattle.tables.specs.declared.Reason.{Reason}

-- an accepted writing has the length that is answered
pub answer-length : (f b s : Bool) (n : ℕ) (w : List ℕ) → Ok n ≡ write_answer f b s w → n ≡ length w
answer-length false b s n w h = never cc
answer-length true true s n w h = never cc
answer-length true false true n w h = never cc
answer-length true false false n w h = cc

module _ (m : Memory) (out out' : List ℕ) (n : ℕ) where
  pub write-room : {r : Result ℕ Reason} → WriteIs m out out' r → r ≡ Ok n → n ≤ length out'
  write-room x e =
      let ts = record_in m in
      let l = answer-length (Fit m) (nameless (all_props (all_nodes ts))) (ltb (length out) (length (writing ts))) n (writing ts) (sym e ∙ x.is) in
      let b : length out' ≡ length (writing ts ++ drop n out) = ap length (x.bytes ∙ ap (λ (r : Result ℕ Reason). output r (writing ts) out) e) in
      omega (arith, l, b, length-append (writing ts) (drop n out))
