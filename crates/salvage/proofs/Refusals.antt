-- Of a text that is refused nothing is listed. Assumes nothing.
use Rattle.lists.proofs.Prelude.{ℕ, ◌≡◌, refl, sym, ap, ◌∙◌, Bool, true, false, List, [], length, ltb, pick}
use Rattle.text_utf8.specs.Text.{Ink, Utf, whole, part, bad, blank, utfs}
use Rattle.tables.specs.Numbers.{text_limit}
use Rattle.tables.specs.declared.Reason.{Reason}
use Rattle.tables.specs.declared.Reason.TheVariants.{TextTooLong}
use Rattle.parser.specs.Split.{Slices, no, slices, split_by_gametree}
use Rattle.parser.specs.Read.{refused, parse_slices, tokenize, parse_utf8, read_lenient}
use Rattle.parser.proofs.Answers.{not-both}
use Rattle.salvage_list.specs.Listed.{slices_changes, utf_changes, changes_of}
use Rattle.salvage_list.specs.ListRows.{text_changes}
use Rattle.salvage_measure.proofs.Accepts.{slices-accepted}

pub refused-silent : (t : List ℕ) (r : Reason) (p : ℕ) → read_lenient t ≡ refused r p → text_changes t ≡ []
refused-silent t r p h = by_length (ltb text_limit (length t)) refl
  where
    by-slices : (k : Ink) (x : Slices) → parse_slices true x ≡ refused r p → slices_changes x (tokenize k t) ≡ []
    by-slices k (no q) e = refl
    by-slices k (slices ss) e = let a = slices-accepted ss in not-both r p a.0 (sym e ∙ a.1)

    by-utf : (u : Utf) → parse_utf8 true u t ≡ refused r p → utf_changes u t ≡ []
    by-utf (whole k) e = by-slices k (split_by_gametree true (tokenize k t).toks) e
    by-utf (part k s n q c) e = refl
    by-utf (bad q) e = refl

    by_length : (b : Bool) → ltb text_limit (length t) ≡ b → text_changes t ≡ []
    by_length true e = ap (λ (z : Bool). pick z [] (changes_of t)) e
    by_length false e =
        ap (λ (z : Bool). pick z [] (changes_of t)) e
        ∙ by-utf (utfs (whole blank) 0 t) (sym (ap (λ (z : Bool). pick z (refused TextTooLong 0) (parse_utf8 true (utfs (whole blank) 0 t) t)) e) ∙ h)
