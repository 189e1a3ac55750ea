-- The simple value of a property of tables that fit, by its rows and the game type of its tree. Assumes nothing.
use Rattle.lists.proofs.Prelude.{ℕ, ◌-◌, ◌<◌, List, ◌≡◌, refl, ap, ◌∙◌}
use Rattle.values.specs.Read.{read_identifier}
use Rattle.parts.specs.Rows.{values_at}
use Rattle.ff4_values.specs.Simple.{simple_value}
use Rattle.tables.specs.Record.{Tree}
use Rattle.tables.specs.declared.Counts.{Counts}
use Rattle.tables.specs.Columns.{game_at, first_val_at, val_count_at}
use Rattle.fit_rule.proofs.Denotes.{values-raw}
use Rattle.fit.specs.Record.{record_of, rows_of}
use Rattle.fit.proofs.Clauses.{Clauses}
use Rattle.ask.specs.Locals.{tree_from, name_at}
use Rattle.ask.proofs.ByNumber.{asked-of-rows}
use Rattle.ask_simple.specs.AskSimple.{simple_of_prop, simple_at}

-- property p of fitting tables over the used text t
pub simple-of-rows : {t : List ℕ} {c : Counts} {tr nd pr vl : List ℕ} → Clauses t c tr nd pr vl → (p : ℕ) → p < c.properties
    → simple_at (record_of t (rows_of c tr nd pr vl)) p ≡ simple_value (game_at tr (tree_from tr nd p 0 (c.trees - 1))) (read_identifier (name_at t pr p)) (values_at t vl (first_val_at pr p) (val_count_at pr p))
simple-of-rows {t} {c} {tr} {nd} {pr} {vl} f p h =
    asked-of-rows (λ (x : Tree). x.game) simple_of_prop simple_at (λ x xs q. refl) f (game_at tr) (λ r b l m. refl) p h
    ∙ ap (simple_value (game_at tr (tree_from tr nd p 0 (c.trees - 1))) (read_identifier (name_at t pr p))) (values-raw f p h)
