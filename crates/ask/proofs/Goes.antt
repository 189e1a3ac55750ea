-- The Go value of a property of tables that fit, by its rows and the rule of its tree. Assumes nothing.
use Rattle.lists.proofs.Prelude.{ℕ, ◌-◌, ◌<◌, List, ◌≡◌, refl, ap, ◌∙◌}
use Rattle.values.specs.Read.{read_identifier}
use Rattle.parts.specs.Rows.{values_at}
use Rattle.go.specs.Value.{go_value}
use Rattle.tables.specs.declared.Counts.{Counts}
use Rattle.tables.specs.Columns.{first_val_at, val_count_at}
use Rattle.fit_rule.specs.Rule.{rule_of, rule_at}
use Rattle.fit_rule.proofs.Denotes.{values-raw, rule-tree}
use Rattle.fit.specs.Record.{record_of, rows_of}
use Rattle.fit.proofs.Clauses.{Clauses}
use Rattle.ask.specs.Ask.{go_of, go_at}
use Rattle.ask.specs.Locals.{tree_from, name_at}
use Rattle.ask.proofs.ByNumber.{asked-of-rows}

-- property p of fitting tables over the used text t
pub go-of-rows : {t : List ℕ} {c : Counts} {tr nd pr vl : List ℕ} → Clauses t c tr nd pr vl → (p : ℕ) → p < c.properties
    → go_at (record_of t (rows_of c tr nd pr vl)) p ≡ go_value (rule_at t tr nd pr vl (tree_from tr nd p 0 (c.trees - 1))) (read_identifier (name_at t pr p)) (values_at t vl (first_val_at pr p) (val_count_at pr p))
go-of-rows {t} {c} {tr} {nd} {pr} {vl} f p h =
    asked-of-rows rule_of go_of go_at (λ t ts p. refl) f (rule_at t tr nd pr vl) (rule-tree f) p h
    ∙ ap (go_value (rule_at t tr nd pr vl (tree_from tr nd p 0 (c.trees - 1))) (read_identifier (name_at t pr p))) (values-raw f p h)
