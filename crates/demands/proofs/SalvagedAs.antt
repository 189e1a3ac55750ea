-- The exported salvage: when each number is given, and what a refusal leaves. Assumes nothing.
use Rattle.lists.proofs.Prelude.{ℕ, ◌<◌, Bool, true, List, ◌≡◌, refl, ap, ◌∙◌, arith, length, lt-ltb, le-ltb}
use Rattle.tables.specs.Numbers.{number_of, text_limit, depth_limit}
use Rattle.tables.specs.Record.{Tree}
use Rattle.tables.specs.Rows.{tables, counts_of}
use Rattle.tables.specs.declared.Reason.{Reason}
use Rattle.tables.specs.declared.Reason.TheVariants.{TextTooLong, TooDeep, NoRoom}
use Rattle.tables.proofs.Cases.{either-bool, below_or, true-false}
use Rattle.parser.specs.Read.{Answer, refused, accepted, read_lenient}
use Rattle.reader.specs.Lent.{Lent}
use Rattle.reader.proofs.Reasons.{refused-with}
use Rattle.serialize.specs.Form.{writing}
use Rattle.serialize_laws.specs.Depth.{depth_of}
use Rattle.salvage_mend.specs.Mend.{mended}
use Rattle.salvage_list.specs.ListRows.{text_changes}
use Rattle.salvage_laws.specs.Result.{salvage_of}
use Rattle.salvage.specs.Salvage.{room_for_all, salvage_gives, salvage_at, tables_left, list_left, bytes_left}
use Rattle.c_answers.specs.Structs.{no_counts}
use Rattle.c_salvage.specs.SalvageInC.{salvage_in_c, SalvageInC}
use Rattle.c_salvage.specs.declared.SgfSalvage.{SgfSalvage}
use Rattle.demands.specs.Lists.{OneOf, lenient_numbers}
use Rattle.demands.specs.Requests.{OnlyAt}
use Rattle.demands.specs.Salvages.{SalvageBecause, unread, long, deep, full, done}
use Rattle.demands.proofs.Fed.{only_at}
use Rattle.demands.proofs.Listed.{one_of}
use Rattle.std.specs.Prelude.{Result, Ok, Err}
use Rattle.tables.specs.Refusals.{refusal}
use Rattle.tables.specs.declared.Counts.{Counts}
use Rattle.tables.specs.declared.Refusal.{Refusal}

module _ (t : List ℕ) (before after : Lent) (list list' out out' : List ℕ) (r : SgfSalvage) (s : SalvageInC t before after list list' out out' r) where
  abbrev w : List Tree → List ℕ
  w ts = writing (mended ts)

  abbrev room : List Tree → Bool
  room ts = room_for_all (tables ts) before (w ts) (text_changes t) (length list) (length out)

  given : (a : Answer) → read_lenient t ≡ a → salvage_at t before list out ≡ salvage_gives a (text_changes t) before (length list) (length out)
  given a e = ap (λ (z : Answer). salvage_gives z (text_changes t) before (length list) (length out)) e

  answer-is : (n p : ℕ) → SalvageBecause t before list out n p
      → (x : Result (Counts × ℕ × ℕ) (Refusal Reason)) × (salvage_at t before list out ≡ x) × ((salvage_in_c x).number ≡ n) × ((salvage_in_c x).place ≡ p)
  unfolding salvage_gives
  answer-is n p (unread {x = x} {p = q} e) = (Err (refusal x q), given (refused x q) e, refl, refl)
  answer-is n p (long ts e l) = (Err (refusal TextTooLong 0), given (accepted ts) e ∙ rw (lt-ltb text_limit (length (w ts)) l), refl, refl)
  answer-is n p (deep ts e l d) = (Err (refusal TooDeep 0), given (accepted ts) e ∙ rw (le-ltb text_limit (length (w ts)) l, lt-ltb depth_limit (depth_of (w ts)) d), refl, refl)
  answer-is n p (full ts e l d f) =
      (Err (refusal NoRoom 0), given (accepted ts) e ∙ rw (le-ltb text_limit (length (w ts)) l, le-ltb depth_limit (depth_of (w ts)) d, f), refl, refl)
  answer-is n p (done ts e l d f) =
      (Ok (counts_of (tables ts), length (w ts), length (text_changes t)), given (accepted ts) e ∙ rw (le-ltb text_limit (length (w ts)) l, le-ltb depth_limit (depth_of (w ts)) d, f), refl, refl)

  numbers : (n p : ℕ) → SalvageBecause t before list out n p → (r.number ≡ n) × (r.place ≡ p)
  numbers n p b =
      let x = answer-is n p b in
      let e = s.is ∙ ap salvage_in_c x.1 in
      (ap (λ (z : SgfSalvage). z.number) e ∙ x.2, ap (λ (z : SgfSalvage). z.place) e ∙ x.3)

  decided : (n : ℕ) × (p : ℕ) × SalvageBecause t before list out n p
  decided = go (read_lenient t) refl
    where
      go : (a : Answer) → read_lenient t ≡ a → (n : ℕ) × (p : ℕ) × SalvageBecause t before list out n p
      go (refused x p) e = (number_of x, p, unread e)
      go (accepted ts) e =
          below_or text_limit (length (w ts)) (λ l. (1, 0, long ts e l))
          (λ l. below_or depth_limit (depth_of (w ts)) (λ d. (9, 0, deep ts e l d))
          (λ d. either-bool (room ts) (λ f. (0, 0, done ts e l d f)) (λ f. (14, 0, full ts e l d f))))

  pub salvage-only : OnlyAt (SalvageBecause t before list out) r.number r.place
  salvage-only = only_at (SalvageBecause t before list out) r.number r.place decided numbers

  pub salvage-stays : 0 < r.number → (after ≡ before) × (list' ≡ list) × (out' ≡ out)
  salvage-stays l = go (salvage_at t before list out) s.is s.tables s.changes s.bytes
    where
      go : (x : Result (Counts × ℕ × ℕ) (Refusal Reason)) → r ≡ salvage_in_c x → after ≡ tables_left x (read_lenient t) before
          → list' ≡ list_left x (text_changes t) list
          → out' ≡ bytes_left x (salvage_of (read_lenient t)) out → (after ≡ before) × (list' ≡ list) × (out' ≡ out)
      go (Ok (c, n, k)) e a b d = absurd (omega (arith, l, ap (λ (z : SgfSalvage). z.number) e))
      go (Err r) e a b d = (a, b, d)

  pub salvage-zeros : 0 < r.number → (r.length ≡ 0) × (r.changes ≡ 0) × (r.counts ≡ no_counts)
  salvage-zeros l = go (salvage_at t before list out) s.is
    where
      go : (x : Result (Counts × ℕ × ℕ) (Refusal Reason)) → r ≡ salvage_in_c x → (r.length ≡ 0) × (r.changes ≡ 0) × (r.counts ≡ no_counts)
      go (Ok (c, n, k)) e = absurd (omega (arith, l, ap (λ (z : SgfSalvage). z.number) e))
      go (Err r) e = (ap (λ (z : SgfSalvage). z.length) e, ap (λ (z : SgfSalvage). z.changes) e, ap (λ (z : SgfSalvage). z.counts) e)

  because-listed : (n p : ℕ) → SalvageBecause t before list out n p → OneOf lenient_numbers n
  because-listed n p (unread e) =
      refused-with true (λ (y : Reason) (q : ℕ). OneOf lenient_numbers (number_of y)) (one_of lenient_numbers 1 refl) (λ q. one_of lenient_numbers 2 refl) (one_of lenient_numbers 9 refl)
      (λ f. true-false true refl f) t e
  because-listed n p (long ts e l) = one_of lenient_numbers 1 refl
  because-listed n p (deep ts e l d) = one_of lenient_numbers 9 refl
  because-listed n p (full ts e l d f) = one_of lenient_numbers 14 refl
  because-listed n p (done ts e l d f) = one_of lenient_numbers 0 refl

  pub salvage-listed : OneOf lenient_numbers r.number
  salvage-listed = because-listed r.number r.place salvage-only.only
