-- Memory that holds a text with other bytes for its values: with their own it fits, and where it fits, it does with other bytes for one more value. Assumes nothing.
use Rattle.lists.proofs.Prelude.{ℕ, ◌≤◌, ◌<◌, Bool, true, false, ◌≡◌, refl, sym, ap, ap₂, ◌∙◌, subst⁻¹, arith, List, length}
use Rattle.lists.specs.Same.{same}
use Rattle.text_utf8.specs.Text.{Ink, blank, whole, utfs}
use Rattle.lexer.specs.Closed.{closed}
use Rattle.tables.specs.Flat.{flat_props, flat_vals}
use Rattle.tables.specs.Memory.{Memory}
use Rattle.tables.specs.Numbers.{text_limit}
use Rattle.tables.specs.Rows.{Tables}
use Rattle.parser.specs.Game.{GM}
use Rattle.fit.specs.Fit.{Fit}
use Rattle.fit.specs.Record.{rows_in, text_in}
use Rattle.fit.proofs.Whole.{fit-lent}
use Rattle.edit_answer.specs.Answer.{outcome_of, edited_for}
use Rattle.edit_answer.specs.Edit.{Outcome, gives, owner_name}
use Rattle.edit.specs.Lent.{memory_after}
use Rattle.edit_laws.specs.Calls.{memory_next}
use Rattle.edit_laws.specs.Run.{TextRows}
use Rattle.edit_laws.proofs.Left.{text-left, length-buffer-left}
use Rattle.edit_laws.proofs.Stays.{edit-stays}
use Rattle.edit_session.specs.Session.{asked}
use Rattle.edit_session.proofs.CallBack.{same-fit, over-over, outcome-asked}
use Rattle.edit_session.proofs.Step.{lays-edit}
use Rattle.feed_laid.specs.Laid.{with}
use Rattle.feed_laid.specs.OfMemory.{laid_text, laid_tables, own_bytes}
use Rattle.feed_laws.proofs.Holds.{held-own}
use Rattle.feed_undo.proofs.Puts.{flat-props-same, flat-vals-same}
use Rattle.feed_undo.proofs.Relaid.{laid_memory, vals-length, props-length, text-held, rows-held}
use Rattle.std.specs.Prelude.{Ok}

module _ (m : Memory) (fit : Fit m ≡ true) where
  abbrev n : ℕ
  n = m.counts.values

  abbrev own : ℕ → List ℕ
  own = own_bytes m

  abbrev room : ℕ
  room = length m.text

  abbrev game : ℕ → Bool
  game k = same (owner_name (text_in m) (rows_in m).props k) GM

  pub text-lent : (g : ℕ → List ℕ) → length (laid_text m g) ≤ room → length (laid_memory m g).text ≡ room
  text-lent g l = length-buffer-left (laid_text m g) m.text m.used (fit-lent m fit).0 l

  -- with its own bytes
  pub own-fits : Fit (laid_memory m own) ≡ true
  own-fits = subst⁻¹ (λ (z : Memory). Fit z ≡ true) (held-own m fit) fit

  -- ---- one value

  module _ (g : ℕ → List ℕ) (roomy : length (laid_text m g) ≤ room) (fits : Fit (laid_memory m g) ≡ true) (k : ℕ) (new : List ℕ) (below : k < n) (free : game k ≡ false)
      (i : Ink) (valid : utfs (whole blank) 0 new ≡ whole i) (shut : closed new ≡ true)
      (short : length (laid_text m (with g k new)) ≤ text_limit) (roomy' : length (laid_text m (with g k new)) ≤ room) where
    abbrev h : ℕ → List ℕ
    h = with g k new

    abbrev M : Memory
    M = laid_memory m g

    gone : outcome_of M k new ≡ gives (laid_text m h) (laid_tables m h)
    gone =
        outcome-asked M (record { value = k; bytes = new }) fits
        ∙ ap₂ (λ (r : ℕ) (s : TextRows). asked r s (record { value = k; bytes = new })) (text-lent g roomy)
        (ap₂ (λ (t : List ℕ) (T : Tables). record { text = t; rows = T }) (text-held m fit g) (rows-held m fit g))
        ∙ lays-edit m fit g room k new below free i valid shut short roomy'

    abbrev N : Memory
    N = memory_next (memory_after (gives (laid_text m h) (laid_tables m h)) M) (Ok (length (laid_text m h)))

    fits_next : Fit N ≡ true
    fits_next =
        edit-stays M (memory_after (gives (laid_text m h) (laid_tables m h)) M) k new (length (laid_text m h))
        (record { answer = ap edited_for (sym gone); memory = ap (λ (o : Outcome). memory_after o M) (sym gone) })

    pub one-fits : Fit (laid_memory m h) ≡ true
    one-fits =
        same-fit N (laid_memory m h)
        (record {
          used = refl;
          text = text-held m fit h ∙ sym (text-left (laid_text m h) M.text M.used);
          room = text-lent h roomy'
              ∙ sym (length-buffer-left (laid_text m h) M.text M.used (fit-lent M fits).0 (omega (arith, text-lent g roomy, roomy')) ∙ text-lent g roomy);
          counts = refl;
          trees = refl;
          nodes = refl;
          properties = sym (over-over (flat_props (laid_tables m h).props) (flat_props (laid_tables m g).props) m.properties
              (flat-props-same (laid_tables m h).props (laid_tables m g).props (props-length m fit h ∙ sym (props-length m fit g))));
          values = sym (over-over (flat_vals (laid_tables m h).vals) (flat_vals (laid_tables m g).vals) m.values
              (flat-vals-same (laid_tables m h).vals (laid_tables m g).vals (vals-length m fit h ∙ sym (vals-length m fit g))));
        })
        fits_next
