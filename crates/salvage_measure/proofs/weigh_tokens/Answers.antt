use Rattle.salvage_measure.proofs.Measuring.{tokens-refused, tokens-bare}
use Rattle.salvage_measure.proofs.Counting.{unput}
use Rattle.salvage_mend.specs.Changes.{empty_root}
use Rattle.salvage_list.specs.Listed.{tail_of}
use Rattle.salvage_list.proofs.Slices.{tokens_none, tokens-empty, tokens-ready}
use Rattle.lexer.specs.Token.{lex_at}
use Rattle.lists.proofs.Prelude.{ℕ, ◌+◌, arith, refl, ap, ◌∙◌, [], ◌∷◌}
use Rattle.salvage_measure.proofs.weigh_tokens.Goals as goal

pub overflow_add-count_tail : goal.overflow_add-count_tail
overflow_add-count_tail c = let t = c.count_tail.ensures.1 in omega (arith, t)

pub weigh_slices-requires : goal.weigh_slices-requires
weigh_slices-requires c = tokens-ready c.args.s.now c.args.from c.survey_lenient.ensures c.in-Slices.is c.requires.0 c.requires.1

pub returns-in-Refused : goal.returns-in-Refused
returns-in-Refused c = (record { result = c.together.ensures.0 ∙ tokens-refused c.args.s.now c.args.from c.survey_lenient.ensures c.in-Refused.is; changes = let z = (tokens_none c.args.s.now c.args.from c.survey_lenient.ensures c.in-Refused.is []).next in let w = c.together.ensures.1 in omega (arith, z, w) }, λ h. let z = c.together.ensures.4 in absurd (omega (arith, z, h)))

pub returns-in-Empty : goal.returns-in-Empty
returns-in-Empty c = (record { result = c.together-in-Empty.ensures.0 ∙ tokens-bare c.args.s.now c.args.from c.survey_lenient.ensures c.in-Empty.is; changes = let z = (tokens-empty c.args.s.now c.args.from c.survey_lenient.ensures c.in-Empty.is (unput 0 (empty_root 0 ∷ []) refl) (unput 1 (tail_of (lex_at c.args.s.now c.args.from).toks (lex_at c.args.s.now c.args.from).end) (ap (λ (z : ℕ). 1 + z) c.count_tail.ensures.0))).next in let w = c.together-in-Empty.ensures.1 in omega (arith, z, w) }, λ h. let z = c.together-in-Empty.ensures.4 in absurd (omega (arith, z, h)))
