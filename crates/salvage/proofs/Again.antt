-- What is in order comes back as it is: a text of that kind, and the result of a salvage. Assumes nothing.
use Rattle.lists.proofs.Prelude.{ℕ, ◌≤◌, ◌<◌, true, false, List, [], ◌≡◌, sym, ap, ◌∙◌, subst, length, take}
use Rattle.lists.specs.All.{All}
use Rattle.tables.specs.Numbers.{text_limit, depth_limit}
use Rattle.tables.specs.Record.{Tree, all_nodes, all_props}
use Rattle.tables.specs.Rows.{tables, counts_of}
use Rattle.tables.specs.declared.Counts.{Counts}
use Rattle.tables.specs.declared.Reason.TheVariants.{TooDeep}
use Rattle.tables.proofs.Cases.{below_or}
use Rattle.parser.specs.Read.{accepted, read_lenient, read_strict}
use Rattle.parser.proofs.Answers.{not-both}
use Rattle.reader.specs.Lent.{Lent, roomy}
use Rattle.reader_laws.proofs.Accepted.{reading-is}
use Rattle.serialize.specs.Form.{writing}
use Rattle.serialize_laws.specs.Back.{BeginsAll, Named}
use Rattle.serialize_laws.specs.Depth.{depth_of}
use Rattle.salvage_mend.specs.Mend.{mended}
use Rattle.salvage_list.specs.ListRows.{text_changes}
use Rattle.salvage_laws.specs.Again.{Again}
use Rattle.salvage_laws.specs.Tail.{NoTail}
use Rattle.salvage_laws.proofs.Empty.{own-list, twice-list}
use Rattle.salvage_laws.proofs.Theorem.{mended-own, mended-too-deep, mended-twice}
use Rattle.salvage.specs.Salvage.{SalvageIs}
use Rattle.salvage.proofs.Stays.{text-stays}
use Rattle.salvage.proofs.Theorems.{changes-are, IsDone, done-read, first-bytes}
use Rattle.std.specs.Prelude.{Result, Ok}
use Rattle.tables.specs.declared.Reason.{Reason}
use Rattle.tables.specs.declared.Refusal.{Refusal}

-- a strictly accepted text that is its own writing, each tree beginning with `(` and nothing behind the last, whose raw identifiers are non-empty and uppercase
module _ (t : List ℕ) (ts : List Tree) (h : read_strict t ≡ accepted ts) (b : BeginsAll t) (nm : All Named (all_props (all_nodes ts))) (tail : NoTail t) (own : writing ts ≡ t) where
  abbrev kept : (read_lenient t ≡ accepted ts) × (mended ts ≡ ts)
  kept = mended-own t ts h b nm

  same_text : writing (mended ts) ≡ t
  same_text = ap writing kept.1 ∙ own

  silent : text_changes t ≡ []
  silent = changes-are t ts kept.0 ∙ own-list t ts h b nm tail

  shallow : depth_of t ≤ depth_limit
  shallow =
      below_or depth_limit (depth_of t)
      (λ d. let short : length (writing (mended ts)) ≤ text_limit = subst (λ (z : List ℕ). length z ≤ text_limit) (sym same_text) (reading-is false t ts h).short in
      let n = mended-too-deep t ts kept.0 short (subst (λ (z : List ℕ). depth_limit < depth_of z) (sym same_text) d) in
      not-both TooDeep 0 ts (sym n ∙ ap read_strict same_text ∙ h))
      (λ d. d)

  -- is salvaged as it is, with an empty list
  pub salvage-own : (before : Lent) (list out : List ℕ) → roomy (tables ts) before ≡ true → length t ≤ length out
      → {after : Lent} {list' out' : List ℕ} {r : Result (Counts × ℕ × ℕ) (Refusal Reason)} → SalvageIs t before after list list' out out' r
      → (r ≡ Ok (counts_of (tables ts), length t, 0)) × (list' ≡ list) × (take (length t) out' ≡ t)
  salvage-own before list out room enough x = text-stays t ts kept.0 kept.1 own silent shallow before list out room enough x

-- the result of a salvage
module _ {t : List ℕ} {before after : Lent} {list list' out out' : List ℕ} {c : Counts} {n k : ℕ} (x : SalvageIs t before after list list' out out' (Ok (c, n, k))) where
  -- a text that is leniently read, and salvaged as it is, with an empty list
  abbrev Twice : List ℕ → Type 0
  Twice w =
      (us : List Tree) × (read_lenient w ≡ accepted us) × ((before₂ : Lent) (list₂ out₂ : List ℕ) → roomy (tables us) before₂ ≡ true → length w ≤ length out₂
      → (after₂ : Lent) (list₂' out₂' : List ℕ) (r : Result (Counts × ℕ × ℕ) (Refusal Reason)) → SalvageIs w before₂ after₂ list₂ list₂' out₂ out₂' r
      → (r ≡ Ok (counts_of (tables us), length w, 0)) × (list₂' ≡ list₂) × (take (length w) out₂' ≡ w))

  pub salvage-twice : Twice (take n out')
  salvage-twice = go (done-read t before (length list) (length out) c n k x.answer)
    where
      go : (ts : List Tree) × (read_lenient t ≡ accepted ts) × IsDone (writing (mended ts)) (text_changes t) c n k ts → Twice (take n out')
      go (ts, h, d) =
          let s : length (writing (mended ts)) ≤ text_limit = d.short in
          let deep : depth_of (writing (mended ts)) ≤ depth_limit = d.shallow in
          let a : Again (writing (mended ts)) = mended-twice t ts h s deep in
          let us : List Tree = a.trees in
          let none : text_changes (writing (mended ts)) ≡ [] = changes-are (writing (mended ts)) us a.reads ∙ twice-list t ts h s deep in
          subst Twice (sym (first-bytes x ts h d.long)) (
            us,
            a.reads,
            (λ before₂ list₂ out₂ room enough after₂ list₂' out₂' r y. text-stays (writing (mended ts)) us a.reads a.stays a.bytes none deep before₂ list₂ out₂ room enough y),
          )
