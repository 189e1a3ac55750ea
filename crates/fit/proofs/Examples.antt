-- Tables of `(;C[ab];B[cd])` fit it, and with one cell or count changed they do not. By computation. Assumes nothing.
use Rattle.lists.proofs.Prelude.{ℕ, Bool, true, false, ◌||◌, List, [], ◌∷◌, ◌≡◌, refl, set}
use Rattle.text_chars.specs.White.{white}
use Rattle.text_utf8.specs.Trim.{trimmed}
use Rattle.tables.specs.Numbers.{none}
use Rattle.tables.specs.declared.Counts.{Counts}
use Rattle.tables.specs.Each.{each, sum, tabulate}
use Rattle.tables.specs.Memory.{memory}
use Rattle.fit.specs.Fit.{fit_text, Fit}
use Rattle.fit_nodes.specs.Nodes.{orphans, upward, on_path, first_under, nodes_fit}
use Rattle.fit_spans.specs.Ranges.{ranges_fit}
use Rattle.fit_spans.specs.Spans.{spans, ascending, plain_name, spans_fit}

abbrev pub text : List ℕ
text = 0x28 ∷ 0x3b ∷ 0x43 ∷ 0x5b ∷ 0x61 ∷ 0x62 ∷ 0x5d ∷ 0x3b ∷ 0x42 ∷ 0x5b ∷ 0x63 ∷ 0x64 ∷ 0x5d ∷ 0x29 ∷ []

abbrev pub tr : List ℕ
tr = 0 ∷ 0 ∷ []

abbrev pub nd : List ℕ
nd = none ∷ 1 ∷ none ∷ 0 ∷ 1 ∷ 0 ∷ 0 ∷ none ∷ none ∷ 1 ∷ 1 ∷ 1 ∷ []

abbrev pub pr : List ℕ
pr = 2 ∷ 3 ∷ 0 ∷ 1 ∷ 8 ∷ 9 ∷ 1 ∷ 1 ∷ []

abbrev pub vl : List ℕ
vl = 4 ∷ 6 ∷ 10 ∷ 12 ∷ []

abbrev pub counts : (trees nodes properties values : ℕ) → Counts
counts a b c d = record { trees = a; nodes = b; properties = c; values = d }

abbrev fitting : (tr nd pr vl : List ℕ) → Bool
fitting tr nd pr vl = Fit (memory text 14 (counts 1 2 2 2) tr nd pr vl)

abbrev counted : ℕ → Counts → Bool
counted used c = Fit (memory text used c tr nd pr vl)

abbrev any : List Bool → Bool
any [] = false
any (b ∷ bs) = b || any bs

pub unchanged : fitting tr nd pr vl ≡ true
unfolding trimmed white each sum tabulate orphans upward on_path first_under nodes_fit ranges_fit spans ascending plain_name spans_fit fit_text Fit
unchanged = refl

pub changed : any (
    fitting (set tr 0 1) nd pr vl
    ∷ fitting (set tr 1 2) nd pr vl
    ∷ fitting tr (set nd 0 0) pr vl
    ∷ fitting tr (set nd 0 1) pr vl
    ∷ fitting tr (set nd 1 none) pr vl
    ∷ fitting tr (set nd 1 0) pr vl
    ∷ fitting tr (set nd 2 1) pr vl
    ∷ fitting tr (set nd 3 1) pr vl
    ∷ fitting tr (set nd 4 2) pr vl
    ∷ fitting tr (set nd 5 1) pr vl
    ∷ fitting tr (set nd 5 none) pr vl
    ∷ fitting tr (set nd 6 none) pr vl
    ∷ fitting tr (set nd 6 1) pr vl
    ∷ fitting tr (set nd 7 1) pr vl
    ∷ fitting tr (set nd 8 0) pr vl
    ∷ fitting tr (set nd 9 0) pr vl
    ∷ fitting tr (set nd 10 2) pr vl
    ∷ fitting tr (set nd 10 0) pr vl
    ∷ fitting tr (set nd 11 0) pr vl
    ∷ fitting tr (set nd 11 2) pr vl
    ∷ fitting tr nd (set pr 0 4) vl
    ∷ fitting tr nd (set pr 1 4) vl
    ∷ fitting tr nd (set pr 1 1) vl
    ∷ fitting tr nd (set pr 2 1) vl
    ∷ fitting tr nd (set pr 3 0) vl
    ∷ fitting tr nd (set pr 3 2) vl
    ∷ fitting tr nd (set pr 4 6) vl
    ∷ fitting tr nd (set pr 5 10) vl
    ∷ fitting tr nd (set pr 6 0) vl
    ∷ fitting tr nd (set pr 7 0) vl
    ∷ fitting tr nd pr (set vl 0 5)
    ∷ fitting tr nd pr (set vl 0 3)
    ∷ fitting tr nd pr (set vl 1 5)
    ∷ fitting tr nd pr (set vl 1 7)
    ∷ fitting tr nd pr (set vl 2 11)
    ∷ fitting tr nd pr (set vl 3 13)
    ∷ fitting tr nd pr (set vl 3 14)
    ∷ counted 15 (counts 1 2 2 2)
    ∷ counted 12 (counts 1 2 2 2)
    ∷ counted 14 (counts 0 2 2 2)
    ∷ counted 14 (counts 2 2 2 2)
    ∷ counted 14 (counts 1 3 2 2)
    ∷ counted 14 (counts 1 2 1 2)
    ∷ counted 14 (counts 1 2 2 1)
    ∷ []
    ) ≡ false
unfolding trimmed white each sum tabulate orphans upward on_path first_under nodes_fit ranges_fit spans ascending plain_name spans_fit fit_text Fit
changed = refl
