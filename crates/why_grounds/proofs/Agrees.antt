-- An explanation has the number of the reading, for every text, strict and lenient: the fact's number where it is refused, the counts where it is accepted. Assumes nothing.
use Rattle.lists.proofs.Prelude.{ℕ, ◌≡◌, refl, sym, ap, ◌∙◌, subst, Bool, List}
use Rattle.text_utf8.specs.Trim.{trimmed}
use Rattle.tables.specs.Record.{Tree}
use Rattle.tables.specs.Rows.{tables, counts_of}
use Rattle.tables.specs.declared.Counts.{Counts}
use Rattle.tables.specs.declared.Reason.{Reason}
use Rattle.parser.specs.Read.{Answer, refused, accepted, read}
use Rattle.reader.specs.Lent.{rows_counted}
use Rattle.why_blame.specs.Numbered.{fact_reason}
use Rattle.why_blame.specs.declared.Fact.{Fact}
use Rattle.why.specs.Why.{text_blame, trim_loose, explained_by, explained}
use Rattle.why.proofs.Trees.{Agree}
use Rattle.why.proofs.Agrees.{text-agrees}
use Rattle.why_grounds.specs.Agree.{SameVerdict}
use Rattle.std.specs.Prelude.{Option, Some, None, Ok, Err}
use Rattle.tables.specs.Refusals.{refusal}
use Rattle.tables.specs.declared.Refusal.{Refusal}

module _ (len : Bool) (t : List ℕ) where
  -- refused where the reading is, with a fact of its number; accepted where it is, with its counts
  pub why-number : SameVerdict (read len t) (explained len t)
  why-number = go (read len t) (text_blame len t) (text-agrees len t)
    where
      go : (a : Answer) (b : Option (Refusal Fact)) → Agree a b → SameVerdict a (explained_by (rows_counted a) b (trim_loose len t (trimmed t)))
      go (refused r p) None h = absurd h
      go (refused r p) (Some e) h = h
      go (accepted ts) None h = refl
      go (accepted ts) (Some e) h = absurd h

  -- a text that is explained by a fact is refused with its number
  pub why-refused : {f : Fact} {p : ℕ} → explained len t ≡ Err (refusal f p) → (place : ℕ) × (read len t ≡ refused (fact_reason f) place)
  why-refused {f} {p} e = go (read len t) refl (subst (SameVerdict (read len t)) e why-number)
    where
      go : (a : Answer) → read len t ≡ a → SameVerdict a (Err (refusal f p)) → (place : ℕ) × (read len t ≡ refused (fact_reason f) place)
      go (refused r o) q h = (o, q ∙ ap (λ (z : Reason). refused z o) (sym h))
      go (accepted ts) q h = absurd h

  -- one that is explained by counts is accepted with them
  pub why-accepted : {c : Counts} {p : ℕ} → explained len t ≡ Ok (c, p) → (ts : List Tree) × (read len t ≡ accepted ts) × (c ≡ counts_of (tables ts))
  why-accepted {c} {p} e = go (read len t) refl (subst (SameVerdict (read len t)) e why-number)
    where
      go : (a : Answer) → read len t ≡ a → SameVerdict a (Ok (c, p)) → (ts : List Tree) × (read len t ≡ accepted ts) × (c ≡ counts_of (tables ts))
      go (refused r o) q h = absurd h
      go (accepted ts) q h = (ts, q, h)
