-- What is left of an enum where one variant is shut out. Assumes nothing.
use Rattle.lists.proofs.Prelude.{ℕ, ◌≡◌, refl, true, List, [], ◌∷◌}
use types.Run.{OneOf, miss}
use denote.Enum.Declared.{tag_of}
use Rattle.values.specs.declared.decimal.Number.{Number}
use Rattle.values.specs.declared.decimal.Number.TheVariants.{Bad, Plus, Minus}
use Rattle.values.specs.contracts.decimal.Number as number
use Rattle.lexer.specs.Token.{Val}
use Rattle.lexer.specs.Step.{vals_on, step_on}
use Rattle.lexer_scan.specs.declared.ValueStep.{ValueStep}
use Rattle.lexer_scan.specs.declared.ValueStep.TheVariants.{Value, NoMore, Unclosed}
use Rattle.lexer_scan.specs.contracts.ValueStep as value-step
use Rattle.lexer.specs.declared.Step.{Step}
use Rattle.lexer.specs.declared.Step.TheVariants.{Start, End, Node, Property, Refused, Done}
use Rattle.lexer.specs.contracts.Step as step
use Rattle.parser.specs.Game.{is_i32, props}

-- not `Bad`
pub not-bad : (x : Number) → OneOf (1 ∷ 2 ∷ []) (tag_of number.the_type x) → is_i32 x ≡ true
not-bad Bad e = absurd (miss (1 ∷ 2 ∷ []) 0 tt e)
not-bad (Plus n) e = refl
not-bad (Minus n) e = refl

-- no value
pub not-value : (g : ℕ → List Val) (s : List ℕ) (x : ValueStep) → OneOf (1 ∷ 2 ∷ []) (tag_of value-step.the_type x) → vals_on g s x ≡ []
not-value g s (Value a e n) z = absurd (miss (1 ∷ 2 ∷ []) 0 tt z)
not-value g s NoMore z = refl
not-value g s Unclosed z = refl

-- no property
pub not-property : (u : List ℕ) (x : Step) → OneOf (0 ∷ 1 ∷ 2 ∷ 4 ∷ 5 ∷ []) (tag_of step.the_type x) → props (step_on u x).toks ≡ []
not-property u (Start i) z = refl
not-property u (End i) z = refl
not-property u (Node i) z = refl
not-property u (Property i k e) z = absurd (miss (0 ∷ 1 ∷ 2 ∷ 4 ∷ 5 ∷ []) 3 tt z)
not-property u (Refused f i) z = refl
not-property u Done z = refl
