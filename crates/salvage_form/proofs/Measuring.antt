-- Lengths property by property, and what mending leaves of them. Assumes nothing.
use Rattle.lists.proofs.Prelude.{ℕ, ◌+◌, ◌≤◌, ◌≡◌, sym, ap, List, [], ◌∷◌, ◌++◌, map, arith, length, length-append}
use Rattle.values.specs.Read.{read_identifier}
use Rattle.lexer.specs.Token.{Prop}
use Rattle.lexer.specs.Step.{prop_at}
use Rattle.tables.specs.Numbers.{text_limit}
use Rattle.fit.specs.Record.{raws_of}
use Rattle.go.specs.Normal.{normal}
use Rattle.serialize.specs.Branch.{vals_text, write_props}
use Rattle.serialize.specs.Form.{placeless_val, form_prop}
use Rattle.salvage_mend.specs.Mend.{respelled}
use Rattle.salvage_rows.proofs.Again.{read-own}
use Rattle.salvage_form.specs.Measured.{length_of, property_length}
use Rattle.salvage_form.proofs.Lengths.{form-length, length-there}

-- the properties of a node are as long as each of them together
pub props-length : (rule : ℕ) (p : Prop) (ps : List Prop) → length (write_props (map (form_prop rule) (p ∷ ps))) ≡ length_of rule p + length (write_props (map (form_prop rule) ps))
props-length rule p ps =
    let w : List ℕ = read_identifier p.name in
    let v : List ℕ = vals_text (form_prop rule p).vals in
    let r : List ℕ = write_props (map (form_prop rule) ps) in
    let a = length-append w (v ++ r) in
    let b = length-append v r in
    let c = length-append w (v ++ []) in
    let d = length-append v [] in
    omega arith

-- a property under its read identifier is as long
pub respelled-length : (rule : ℕ) (p : Prop) → length_of rule (respelled p) ≡ length_of rule p
respelled-length rule p = ap (λ (z : List ℕ). length (z ++ (vals_text (map placeless_val (normal rule z (raws_of p))) ++ []))) (read-own p.name)

-- of the places of a token in a text within the limit
pub length-is : (s : List ℕ) (rule i k : ℕ) → length s ≤ text_limit → k ≤ length s → i ≤ k → property_length s rule i k ≡ length_of rule (prop_at s i k)
length-is s rule i k a b c = sym (length-there s rule i k a b c (sym (form-length s rule i k)))
