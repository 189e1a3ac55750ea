-- No second answer of the exported functions that count and explain. Assumes nothing.
use Rattle.lists.proofs.Prelude.{ℕ, ◌≡◌, true, false, List}
use Rattle.lists.specs.Once.{Once}
use Rattle.lists.proofs.Once.{once_is}
use Rattle.parser.specs.Read.{read_strict, read_lenient}
use Rattle.reader.specs.Lent.{rows_counted}
use Rattle.c_answers.specs.Structs.{reading_in_c}
use Rattle.c_answers.specs.declared.SgfReading.{SgfReading}
use Rattle.why.specs.Why.{explained}
use Rattle.c_why.specs.WhyInC.{why_in_c}
use Rattle.c_why.specs.declared.SgfWhy.{SgfWhy}

module _ (t : List ℕ) where
  pub count-strict-once : Once (λ (r : SgfReading). r ≡ reading_in_c 0 (rows_counted (read_strict t)))
  count-strict-once = once_is (reading_in_c 0 (rows_counted (read_strict t)))

  pub count-lenient-once : Once (λ (r : SgfReading). r ≡ reading_in_c 0 (rows_counted (read_lenient t)))
  count-lenient-once = once_is (reading_in_c 0 (rows_counted (read_lenient t)))

  pub why-strict-once : Once (λ (r : SgfWhy). r ≡ why_in_c (explained false t))
  why-strict-once = once_is (why_in_c (explained false t))

  pub why-lenient-once : Once (λ (r : SgfWhy). r ≡ why_in_c (explained true t))
  why-lenient-once = once_is (why_in_c (explained true t))
