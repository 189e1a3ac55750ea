-- The loop that tests spans and identifiers together. Assumes nothing.
use Rattle.lists.proofs.Prelude.{ℕ, ◌≤◌, ◌<◌, Bool, true, false, ◌&&◌, and-false, List, [], ◌++◌, ◌≡◌, sym, ap, ◌∙◌}
use Rattle.tables.specs.Columns.{name_from_at, name_to_at, first_val_at, val_count_at}
use Rattle.tables.specs.Each.{each, tabulate}
use Rattle.tables.proofs.Cases.{and_left}
use Rattle.tables.proofs.Each.{each-end, each-fails}
use Rattle.fit_spans.specs.Locals.{Spanned}
use Rattle.fit_spans.specs.Spans.{span, val_span, prop_spans, spans, ascending, name_right}
use Rattle.fit_spans.proofs.Lying.{first-lies}

-- the identifier of a property whose spans ascend lies in the text
pub name-lies : (pr vl : List ℕ) (k used o : ℕ) {ok : Bool} {next : ℕ} → Spanned used o (prop_spans pr vl k) ok next → ok ≡ true → (name_from_at pr k ≤ name_to_at pr k) × (name_to_at pr k ≤ used)
unfolding ascending
name-lies pr vl k used o {ok} {next} x e =
    (first-lies used o (span (name_from_at pr k) (name_to_at pr k)) (tabulate (val_span vl) (first_val_at pr k) (val_count_at pr k) ++ []) (x.rest [] ∙ ap (λ (z : Bool). z && ascending used next []) e)).0

module _ (t pr vl : List ℕ) (used n : ℕ) where
  pub both-spans : ascending used 0 (spans pr vl 0 n) ≡ false → false ≡ (ascending used 0 (spans pr vl 0 n) && each n (name_right t pr))
  both-spans e = sym (ap (λ (z : Bool). z && each n (name_right t pr)) e)

  pub both-names : (k : ℕ) → k < n → name_right t pr k ≡ false → false ≡ (ascending used 0 (spans pr vl 0 n) && each n (name_right t pr))
  both-names k h e = sym (and-false (ascending used 0 (spans pr vl 0 n))) ∙ ap (λ (z : Bool). ascending used 0 (spans pr vl 0 n) && z) (each-fails (name_right t pr) k n h e)

  pub both_right : true ≡ ascending used 0 (spans pr vl 0 n) → (k : ℕ) → k ≤ n → n ≤ k → each k (name_right t pr) ≡ true → true ≡ (ascending used 0 (spans pr vl 0 n) && each n (name_right t pr))
  both_right e k a b h = each-end (name_right t pr) k n a b h ∙ ap (λ (z : Bool). z && each n (name_right t pr)) e

  pub spans-of : (ascending used 0 (spans pr vl 0 n) && each n (name_right t pr)) ≡ true → ascending used 0 (spans pr vl 0 n) ≡ true
  spans-of h = and_left (ascending used 0 (spans pr vl 0 n)) (each n (name_right t pr)) h
