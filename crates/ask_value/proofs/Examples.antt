-- The values of `(;C[ab];B[cd])`, accessed. By computation. Assumes nothing.
use Rattle.lists.proofs.Prelude.{ℕ, [], ◌∷◌, map, ◌≡◌, refl, set}
use Rattle.text_chars.specs.White.{white}
use Rattle.text_utf8.specs.Trim.{trimmed}
use Rattle.ask_value.specs.Access.{accessed, access_number, raw_value}
use Rattle.tables.specs.Each.{each, sum, tabulate}
use Rattle.tables.specs.Memory.{memory}
use Rattle.fit.specs.Fit.{fit_text, Fit}
use Rattle.fit_nodes.specs.Nodes.{orphans, upward, on_path, first_under, nodes_fit}
use Rattle.fit_spans.specs.Ranges.{ranges_fit}
use Rattle.fit_spans.specs.Spans.{spans, ascending, plain_name, spans_fit}
use Rattle.fit.proofs.Examples.{text, counts, tr, nd, pr, vl}

-- values 0, 1 and 2; and value 2 where the tables don't fit
pub values-accessed : map (λ (k : ℕ). raw_value (memory text 14 (counts 1 2 2 2) tr nd pr vl) k) (0 ∷ 1 ∷ 2 ∷ []) ≡ (0x61 ∷ 0x62 ∷ []) ∷ (0x63 ∷ 0x64 ∷ []) ∷ [] ∷ []
unfolding trimmed white each sum tabulate orphans upward on_path first_under nodes_fit ranges_fit spans ascending plain_name spans_fit fit_text Fit accessed
values-accessed = refl

pub numbers-given : access_number (accessed (memory text 14 (counts 1 2 2 2) tr nd pr vl) 1) ∷ access_number (accessed (memory text 14 (counts 1 2 2 2) tr nd pr vl) 2) ∷ access_number (accessed (memory text 13 (counts 1 2 2 2) tr (set nd 2 0) pr vl) 2) ∷ []
    ≡ 0 ∷ 16 ∷ 19 ∷ []
unfolding trimmed white each sum tabulate orphans upward on_path first_under nodes_fit ranges_fit spans ascending plain_name spans_fit fit_text Fit accessed
numbers-given = refl
