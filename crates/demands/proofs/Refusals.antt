-- What a refusal leaves, from each contract. Assumes nothing.
use Rattle.lists.proofs.Prelude.{ℕ, Bool, true, false, List, ◌++◌, ◌≡◌, leb, length, drop, pick, slice}
use Rattle.lists.proofs.Tests.{never}
use Rattle.value_display.specs.Display.{display_text, displayed, displayed_in}
use Rattle.values.specs.Read.{read_value}
use Rattle.value_display.specs.declared.Kind.{Kind}
use Rattle.tables.specs.Memory.{Memory}
use Rattle.tables.specs.Rows.{tables, counts_of}
use Rattle.tables.specs.declared.Reason.{Reason}
use Rattle.tables.specs.declared.Reason.TheVariants as reason
use Rattle.parser.specs.Read.{Answer, refused, accepted}
use Rattle.reader.specs.Lent.{Lent, roomy, stored, answers, leaves}
use Rattle.ask.specs.Ask.{display_for, display, display_in}
use Rattle.edit_answer.specs.Answer.{edited_for}
use Rattle.edit_answer.specs.Edit.{Outcome, refuses, gives}
use Rattle.edit.specs.Lent.{memory_after}
use Rattle.std.specs.Prelude.{Some, None, Result, Ok, Err}
use Rattle.tables.specs.Refusals.{refusal}

pub reading-leaves : (a : Answer) (before after : Lent) (r : Reason) (p : ℕ) → Err (refusal r p) ≡ answers a before → after ≡ leaves a before → after ≡ before
reading-leaves (refused s q) before after r p e l = l
reading-leaves (accepted ts) before after r p e l = go (roomy (tables ts) before) e l
  where
    go : (b : Bool) → Err (refusal r p) ≡ pick b (Ok (counts_of (tables ts))) (Err (refusal reason.NoRoom 0))
        → after ≡ pick b (stored (tables ts) before) before → after ≡ before
    go true e l = never cc
    go false e l = l

pub edit-leaves : (o : Outcome) (before after : Memory) (r : Reason) (p : ℕ) → Err (refusal r p) ≡ edited_for o → after ≡ memory_after o before → after ≡ before
edit-leaves (refuses s q) before after r p e l = l
edit-leaves (gives t T) before after r p e l = never cc

pub display-leaves : (t : List ℕ) (a : Result (ℕ × ℕ) Reason) (kind : Kind) (out out' : List ℕ) (r : Reason) → Err r ≡ display t a kind out
    → out' ≡ display_in t a kind out → out' ≡ out
unfolding displayed displayed_in
display-leaves t (Ok (x, y)) kind out out' r e l = go (leb (length w) (length out)) e l
  where
    w : List ℕ
    w = display_text kind (read_value (slice x y t))

    go : (b : Bool) → Err r ≡ display_for (pick b (Some (length w)) None) → out' ≡ pick b (w ++ drop (length w) out) out → out' ≡ out
    go true e l = never cc
    go false e l = l
display-leaves t (Err s) kind out out' r e l = l
