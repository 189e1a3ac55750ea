-- No second answer of a public function. Assumes nothing.
use Rattle.lists.proofs.Prelude.{ℕ, ◌≡◌, sym, ◌∙◌, Bool, false, List, ext_get_or}
use Rattle.lists.specs.Once.{Once}
use Rattle.lists.proofs.Once.{once_is}
use Rattle.values.specs.Read.{read_value}
use Rattle.go_points.specs.Area.{area_of}
use Rattle.go.specs.Marks.{Adds, good, in_area}
use Rattle.lexer.specs.Token.{lex_at}
use Rattle.parser.specs.Game.{props}
use Rattle.salvage_form.specs.declared.root.RootRule.{RootRule}
use Rattle.salvage_form.specs.Measured.{property_length}
use Rattle.salvage_form.specs.Rooted.{root_rule}

pub property-length-once : (s : List ℕ) (rule i k : ℕ) → Once (λ (r : ℕ). r ≡ property_length s rule i k)
property-length-once s rule i k = once_is (property_length s rule i k)

pub root-rule-once : (s : List ℕ) (at : ℕ) → Once (λ (r : RootRule). r ≡ root_rule (props (lex_at s at).toks))
root-rule-once s at = once_is (root_rule (props (lex_at s at).toks))

-- go

pub mark-value-once : (v : List ℕ) (old : List Bool) (r s : Bool) (x y : List Bool) → (r ≡ good (area_of (read_value v))) × Adds (in_area (area_of (read_value v))) old x
    → (s ≡ good (area_of (read_value v))) × Adds (in_area (area_of (read_value v))) old y → (r ≡ s) × (x ≡ y)
mark-value-once v old r s x y p q =
    (p.0 ∙ sym q.0, ext_get_or false x y (p.1.as_long ∙ sym q.1.as_long) (λ i h. p.1.at i ∙ sym (q.1.at i)))
