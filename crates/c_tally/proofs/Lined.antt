-- A line shown as numbers, by what was written and counted. Assumes nothing.
use Rattle.lists.proofs.Prelude.{ℕ, List, ◌≡◌, sym, ap, ◌∙◌, length}
use Rattle.lists.proofs.Tests.{never}
use Rattle.tables.specs.Memory.{Memory}
use Rattle.tables.specs.Numbers.{number_of}
use Rattle.tables.specs.declared.Reason.{Reason}
use Rattle.fit.specs.Record.{record_in}
use Rattle.serialize.specs.Form.{written}
use Rattle.season_totals.specs.declared.Tally.{Tally}
use Rattle.season_tally.specs.Tally.{tally_with, WriteTallyIs}
use Rattle.c_tally.specs.LineInC.{no_line_in_c, counted_in_c, line_in_c, LineInC}
use Rattle.std.specs.Prelude.{Result, Ok, Err}
use Rattle.lists.proofs.Parts.{ok-three}

module _ (m : Memory) (out out' : List ℕ) {r : Result (ℕ × Tally × ℕ) Reason} (x : WriteTallyIs m out out' r) where
  pub line_refused : {k : Reason} → r ≡ Err k → {n : ℕ} → n ≡ number_of k → LineInC m out out' (no_line_in_c n)
  line_refused {k} h e = record { is = ap no_line_in_c e ∙ go (written m (length out)) (sym h ∙ x.answer); bytes = x.bytes }
    where
      go : (w : Result ℕ Reason) → Err k ≡ tally_with w (record_in m) → no_line_in_c (number_of k) ≡ line_in_c w (record_in m)
      go (Ok n) e = never cc
      go (Err j) e = let d : k ≡ j = cc in ap (λ (z : Reason). no_line_in_c (number_of z)) d

  pub line-counted : {n : ℕ} {t : Tally} {g : ℕ} → r ≡ Ok (n, t, g) → LineInC m out out' (counted_in_c n t g)
  line-counted {n} {t} {g} h = record { is = go (written m (length out)) (sym h ∙ x.answer); bytes = x.bytes }
    where
      go : (w : Result ℕ Reason) → Ok (n, t, g) ≡ tally_with w (record_in m) → counted_in_c n t g ≡ line_in_c w (record_in m)
      go (Ok k) e = let z = ok-three e in cc (z.0, z.1, z.2)
      go (Err k) e = never cc
