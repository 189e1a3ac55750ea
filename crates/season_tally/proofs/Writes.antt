-- A record that was written, and counted behind the writer's own check. Assumes nothing.
use Rattle.lists.proofs.Prelude.{ℕ, Bool, true, false, List, ◌≡◌, refl, sym, ap, ap₂, ◌∙◌, ltb, length, take, drop, take_at}
use Rattle.lists.proofs.Tests.{never}
use Rattle.tables.specs.Record.{all_nodes, all_props}
use Rattle.tables.specs.Memory.{Memory}
use Rattle.tables.specs.declared.Reason.{Reason}
use Rattle.fit.specs.Fit.{Fit}
use Rattle.fit.specs.Record.{record_in}
use Rattle.serialize.specs.Branch.{nameless}
use Rattle.serialize.specs.Form.{writing, written, output, WriteIs}
use Rattle.serialize.specs.Locals.{write_answer}
use Rattle.serialize.proofs.Room.{answer-length}
use Rattle.season_tag.specs.Tag.{tag_of}
use Rattle.season_totals.specs.declared.Tally.{Tally}
use Rattle.season_tally.specs.Tally.{tally_of, tally_with, WriteTallyIs}
use Rattle.std.specs.Prelude.{Result, Ok, Err}

-- a record that was written had tables that fit
answer-fits : (f b s : Bool) (n : ℕ) (w : List ℕ) → Ok n ≡ write_answer f b s w → f ≡ true
answer-fits true b s n w h = refl
answer-fits false b s n w h = never cc

pub wrote-fits : (m : Memory) (out out' : List ℕ) (n : ℕ) {r : Result ℕ Reason} → WriteIs m out out' r → r ≡ Ok n → Fit m ≡ true
wrote-fits m out out' n x e =
    let ts = record_in m in
    answer-fits (Fit m) (nameless (all_props (all_nodes ts))) (ltb (length out) (length (writing ts))) n (writing ts) (sym e ∙ x.is)

module _ (m : Memory) (out out' : List ℕ) {w : Result ℕ Reason} (x : WriteIs m out out' w) where
  by-writer : tally_with w (record_in m) ≡ tally_with (written m (length out)) (record_in m)
  by-writer = ap (λ (z : Result ℕ Reason). tally_with z (record_in m)) x.is

  left_so : out' ≡ output (written m (length out)) (writing (record_in m)) out
  left_so = x.bytes ∙ ap (λ (z : Result ℕ Reason). output z (writing (record_in m)) out) x.is

  pub tally-undone : {k : Reason} → w ≡ Err k → WriteTallyIs m out out' (Err k)
  tally-undone h = record { answer = ap (λ (z : Result ℕ Reason). tally_with z (record_in m)) (sym h) ∙ by-writer; bytes = left_so }

  module _ {n : ℕ} (h : w ≡ Ok n) where
    long : n ≡ length (writing (record_in m))
    long = let ts = record_in m in answer-length (Fit m) (nameless (all_props (all_nodes ts))) (ltb (length out) (length (writing ts))) n (writing ts) (sym h ∙ x.is)

    -- the first bytes are the writing
    pub wrote-first : take n out' ≡ writing (record_in m)
    wrote-first =
        let ts = record_in m in
        ap₂ (λ (k : ℕ) (z : List ℕ). take k z) long (x.bytes ∙ ap (λ (z : Result ℕ Reason). output z (writing ts) out) h) ∙ take_at (writing ts) (drop n out) (length (writing ts)) refl

    pub tally-done : {t : Tally} {g : ℕ} → t ≡ tally_of (record_in m) → g ≡ tag_of (take n out') → WriteTallyIs m out out' (Ok (n, t, g))
    tally-done a b =
        record {
          answer = ap₂ (λ (t : Tally) (g : ℕ). Ok (n, t, g)) a (b ∙ ap tag_of wrote-first) ∙ ap (λ (z : Result ℕ Reason). tally_with z (record_in m)) (sym h) ∙ by-writer;
          bytes = left_so;
        }
