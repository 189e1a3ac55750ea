-- No second answer of a public function. Assumes nothing.
use Rattle.lists.proofs.Prelude.{◌≡◌}
use Rattle.lists.specs.Once.{Once}
use Rattle.lists.proofs.Once.{once_is}
use Rattle.ff4_index.specs.declared.Entry.{Entry}
use Rattle.ff4_values.specs.declared.Simple.{Simple}
use Rattle.c_simple.specs.InC.{entry_in_c, simple_in_c, simple_answer_in_c}
use Rattle.c_simple.specs.declared.SgfEntry.{SgfEntry}
use Rattle.c_simple.specs.declared.SgfSimple.{SgfSimple}
use Rattle.std.specs.Prelude.{Result}
use Rattle.tables.specs.declared.Reason.{Reason}

pub entry-in-c-once : (e : Entry) → Once (λ (r : SgfEntry). r ≡ entry_in_c e)
entry-in-c-once e = once_is (entry_in_c e)

pub simple-in-c-once : (s : Simple) → Once (λ (r : SgfSimple). r ≡ simple_in_c s)
simple-in-c-once s = once_is (simple_in_c s)

pub simple-answer-in-c-once : (a : Result Simple Reason) → Once (λ (r : SgfSimple). r ≡ simple_answer_in_c a)
simple-answer-in-c-once a = once_is (simple_answer_in_c a)
