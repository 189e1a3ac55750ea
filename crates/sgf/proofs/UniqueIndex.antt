-- No second answer of the exported functions of the property index. Assumes nothing.
use Rattle.lists.proofs.Prelude.{ℕ, ◌≡◌, List}
use Rattle.lists.specs.Once.{Once}
use Rattle.lists.proofs.Once.{once_is}
use Rattle.values.specs.Read.{read_identifier}
use Rattle.parts.specs.Rows.{values_at}
use Rattle.tables.specs.Memory.{Memory}
use Rattle.ff4_index.specs.Listed.{entry_of}
use Rattle.ff4_values.specs.Simple.{simple_value}
use Rattle.ask_simple.specs.AskSimple.{simple_answer}
use Rattle.c_simple.specs.InC.{entry_in_c, simple_in_c, simple_answer_in_c}
use Rattle.c_simple.specs.declared.SgfEntry.{SgfEntry}
use Rattle.c_simple.specs.declared.SgfSimple.{SgfSimple}

pub sgf-entry-once : (s : List ℕ) → Once (λ (r : SgfEntry). r ≡ entry_in_c (entry_of (read_identifier s)))
sgf-entry-once s = once_is (entry_in_c (entry_of (read_identifier s)))

pub sgf-simple-value-once : (m : Memory) (p : ℕ) → Once (λ (r : SgfSimple). r ≡ simple_answer_in_c (simple_answer m p))
sgf-simple-value-once m p = once_is (simple_answer_in_c (simple_answer m p))

pub sgf-simple-property-once : (rule : ℕ) (s text vl : List ℕ) (first count : ℕ)
    → Once (λ (r : SgfSimple). r ≡ simple_in_c (simple_value rule (read_identifier s) (values_at text vl first count)))
sgf-simple-property-once rule s text vl first count = once_is (simple_in_c (simple_value rule (read_identifier s) (values_at text vl first count)))
