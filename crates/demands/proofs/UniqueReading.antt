-- No second answer: of each public function, two answers that meet its contract are equal. Assumes nothing.
use Rattle.lists.proofs.Prelude.{◌≡◌, refl, Bool, true, false, List, ℕ, sym, ap, ◌∙◌, eqb, pick}
use Rattle.lists.specs.Once.{Once}
use Rattle.lists.proofs.Once.{once_is}
use Rattle.lexer.specs.Token.{lex_at}
use Rattle.parser.specs.LocalsSurvey.{survey_of}
use Rattle.parser.specs.declared.Survey.{Survey}
use Rattle.parser_split.specs.LocalsPlans.{plan_text}
use Rattle.parser.specs.Game.{game_vals, find_gametype}
use Rattle.parser.specs.LocalsSlice.{slice_from}
use Rattle.lexer.specs.Step.{vals_at}
use Rattle.parser_game.specs.LocalsGame.{type_of}
use Rattle.parser_census.specs.LocalsCensus.{census_of}
use Rattle.parser_step.specs.LocalsActs.{next_act}
use Rattle.parser_step.specs.declared.State.{State}
use Rattle.parser_step.specs.declared.Act.{Act}
use Rattle.parser_tree.specs.LocalsTree.{Held, tree_left}
use Rattle.parser_tree.specs.LocalsWalks.{LeftIs}
use Rattle.tables.specs.Lenient.{as_reading}
use Rattle.tables.specs.Numbers.{number_of}
use Rattle.tables.specs.declared.LenientRefusal.TheVariants as lenient
use Rattle.parser.specs.Read.{read_strict, read_lenient}
use Rattle.reader.specs.LocalsKnown.{known_of}
use Rattle.reader.specs.Lent.{Lent, ReadIs, LenientIs}
use Rattle.std.specs.Prelude.{Option, Result, Ok, Err}
use Rattle.tables.specs.declared.Counts.{Counts}
use Rattle.tables.specs.declared.LenientRefusal.{LenientRefusal}
use Rattle.tables.specs.declared.Reason.{Reason}
use Rattle.tables.specs.declared.Refusal.{Refusal}

-- parser

-- of survey_strict (len is false) and survey_lenient (true)
pub survey-once : (len : Bool) (s : List ℕ) (from : ℕ) → Once (λ (r : Survey). r ≡ survey_of len (lex_at s from))
survey-once len s from = once_is (survey_of len (lex_at s from))

-- parser_split

pub plan-strict-once : (t : List ℕ) → Once (λ (r : Result (ℕ × ℕ × ℕ) (Refusal Reason)). r ≡ plan_text false t)
plan-strict-once t = once_is (plan_text false t)

pub known-once : (t : List ℕ) → Once (λ (r : Option (ℕ × ℕ × Counts)). r ≡ known_of t)
known-once t = once_is (known_of t)

pub plan-lenient-once : (t : List ℕ) → Once (λ (r : Result (ℕ × ℕ × ℕ) (Refusal Reason)). r ≡ plan_text true t)
plan-lenient-once t = once_is (plan_text true t)

-- parser_game

pub game-type-once : (s : List ℕ) (from : ℕ) → Once (λ (r : Result ℕ Reason). r ≡ type_of (find_gametype (slice_from 0 (lex_at s from).toks)))
game-type-once s from = once_is (type_of (find_gametype (slice_from 0 (lex_at s from).toks)))

pub kind-values-once : (s : List ℕ) (k : ℕ) → Once (λ (r : Result ℕ Reason). r ≡ type_of (game_vals (vals_at s k)))
kind-values-once s k = once_is (type_of (game_vals (vals_at s k)))

-- parser_census

pub take-census-once : (s : List ℕ) (from : ℕ) → Once (λ (r : Option (ℕ × ℕ × ℕ × ℕ)). r ≡ census_of (lex_at s from))
take-census-once s from = once_is (census_of (lex_at s from))

-- parser_step

pub look-once : (len : Bool) (u : List ℕ) (base : ℕ) (st : State) (a : List ℕ) → Once (λ (r : Act). r ≡ next_act len u base st a)
look-once len u base st a = once_is (next_act len u base st a)

-- parser_tree

pub walk-tree-once : (len : Bool) (u : List ℕ) (from base p0 v0 : ℕ) (before x y : Held) (r s : Result (ℕ × ℕ × ℕ × ℕ) Reason)
    → LeftIs (tree_left len u from (record { nodes = base; props = p0; vals = v0 }) before) len u from base p0 v0 x.nodes x.props x.vals r
    → LeftIs (tree_left len u from (record { nodes = base; props = p0; vals = v0 }) before) len u from base p0 v0 y.nodes y.props y.vals s
    → (r ≡ s) × (x ≡ y)
walk-tree-once len u from base p0 v0 before x y r s p q = (p.answer ∙ sym q.answer, p.held ∙ sym q.held)

-- reader

pub read-strict-once : (t : List ℕ) (before x y : Lent) (r s : Result Counts (Refusal Reason)) → ReadIs (read_strict t) before x r
    → ReadIs (read_strict t) before y s → (r ≡ s) × (x ≡ y)
read-strict-once t before x y r s p q = (p.answer ∙ sym q.answer, p.tables ∙ sym q.tables)

-- a reading as a case of the lenient answer, by its number
abbrev back : Result Counts (Refusal Reason) → Result Counts LenientRefusal
back (Ok c) = Ok c
back (Err e) = pick (eqb (number_of e.reason) 1) (Err lenient.TextTooLong) (pick (eqb (number_of e.reason) 2) (Err (lenient.NotUtf8 e.place)) (pick (eqb (number_of e.reason) 9) (Err lenient.TooDeep) (Err lenient.NoRoom)))

as-reading-back : (l : Result Counts LenientRefusal) → back (as_reading l) ≡ l
as-reading-back (Ok c) = refl
as-reading-back (Err lenient.TextTooLong) = refl
as-reading-back (Err (lenient.NotUtf8 p)) = refl
as-reading-back (Err lenient.TooDeep) = refl
as-reading-back (Err lenient.NoRoom) = refl

-- two lenient answers with one reading are equal
pub as-reading-once : (r s : Result Counts LenientRefusal) → as_reading r ≡ as_reading s → r ≡ s
as-reading-once r s e = sym (as-reading-back r) ∙ ap back e ∙ as-reading-back s

pub read-lenient-once : (t : List ℕ) (before x y : Lent) (r s : Result Counts LenientRefusal) → LenientIs (read_lenient t) before x r
    → LenientIs (read_lenient t) before y s → (r ≡ s) × (x ≡ y)
read-lenient-once t before x y r s p q = (as-reading-once r s (p.answer ∙ sym q.answer), p.tables ∙ sym q.tables)
