-- The exported counts, for which no table is lent: when each number is given, and which numbers there are. Assumes nothing.
use Rattle.lists.proofs.Prelude.{ℕ, Bool, true, false, List, [], ◌∷◌, ◌++◌, ◌⊎◌, inl, inr, ◌≡◌, refl, sym, ap, ◌∙◌, subst⁻¹, arith, pick}
use Rattle.lists.proofs.Tests.{same_or}
use Rattle.tables.specs.Rows.{tables, counts_of}
use Rattle.tables.specs.declared.Reason.{Reason}
use Rattle.tables.specs.declared.Reason.TheVariants.{NoRoom}
use Rattle.tables.proofs.Cases.{either-bool}
use Rattle.parser.specs.Read.{Answer, refused, accepted, read}
use Rattle.reader.specs.Lent.{Lent, lent, roomy, answers, leaves, rows_counted}
use Rattle.c_answers.specs.Structs.{reading_in_c}
use Rattle.c_answers.specs.declared.SgfReading.{SgfReading}
use Rattle.sgf.specs.ReadInC.{ReadInC}
use Rattle.demands.specs.Cells.{counts_read}
use Rattle.demands.specs.Lists.{OneOf, count_numbers, lenient_count_numbers}
use Rattle.demands.specs.Requests.{CountsAs}
use Rattle.demands.specs.Settings.{SameAnswer}
use Rattle.demands.specs.When.{Exactly}
use Rattle.demands.proofs.Accepts.{upto-12}
use Rattle.demands.proofs.Numbers.{exactly}
use Rattle.demands.proofs.Readings.{strict-listed, lenient-listed}
use Rattle.std.specs.Prelude.{Result, Ok, Err}
use Rattle.tables.specs.Refusals.{refusal}
use Rattle.tables.specs.declared.Counts.{Counts}
use Rattle.tables.specs.declared.Refusal.{Refusal}

-- ---- a reading without tables

without : (xs : List ℕ) (y n : ℕ) → OneOf (xs ++ (y ∷ [])) n → (n ≡ y → ⊥) → OneOf xs n
without [] y n (inl e) h = absurd (h e)
without [] y n (inr o) h = absurd o
without (x ∷ xs) y n (inl e) h = inl e
without (x ∷ xs) y n (inr o) h = inr (without xs y n o h)

module _ (len : Bool) (t : List ℕ) (q : SgfReading) (s : q ≡ reading_in_c 0 (rows_counted (read len t))) where
  counted : (a : Answer) → read len t ≡ a → q ≡ reading_in_c 0 (rows_counted a)
  counted a e = s ∙ ap (λ (z : Answer). reading_in_c 0 (rows_counted z)) e

  count-decided : CountsAs len t (counts_read q) ⊎ ((x : Reason) × (read len t ≡ refused x q.place))
  count-decided = go (read len t) refl
    where
      go : (a : Answer) → read len t ≡ a → CountsAs len t (counts_read q) ⊎ ((x : Reason) × (read len t ≡ refused x q.place))
      go (refused x p) e = inr (x, e ∙ ap (refused x) (sym (ap (λ (z : SgfReading). z.place) (counted (refused x p) e))))
      go (accepted ts) e = inl (record { trees = ts; is = e; counts = ap counts_read (counted (accepted ts) e) })

  pub count-exactly : Exactly q.number (CountsAs len t (counts_read q)) (λ x. read len t ≡ refused x q.place)
  count-exactly =
      exactly q.number (CountsAs len t (counts_read q)) (λ x. read len t ≡ refused x q.place) count-decided
      (λ c. ap (λ (z : SgfReading). z.number) (counted (accepted c.trees) c.is))
      (λ x e. ap (λ (z : SgfReading). z.number) (counted (refused x q.place) e))

  -- ---- beside a reading into any tables

  module _ {i : ℕ} (before after : Lent) (r : SgfReading) (u : ReadInC i (read len t) before after r) where
    as-shown : (x : Result Counts (Refusal Reason)) → answers (read len t) before ≡ x → q ≡ reading_in_c 0 x → SameAnswer q r
    as-shown x e f = go x (u.is ∙ ap (reading_in_c i) e) f
      where
        go : (x : Result Counts (Refusal Reason)) → r ≡ reading_in_c i x → q ≡ reading_in_c 0 x → SameAnswer q r
        go (Ok c) a b =
            record {
              number = ap (λ (z : SgfReading). z.number) b ∙ sym (ap (λ (z : SgfReading). z.number) a);
              place = ap (λ (z : SgfReading). z.place) b ∙ sym (ap (λ (z : SgfReading). z.place) a);
              counts = ap counts_read b ∙ sym (ap counts_read a);
            }
        go (Err e) a b =
            record {
              number = ap (λ (z : SgfReading). z.number) b ∙ sym (ap (λ (z : SgfReading). z.number) a);
              place = ap (λ (z : SgfReading). z.place) b ∙ sym (ap (λ (z : SgfReading). z.place) a);
              counts = ap counts_read b ∙ sym (ap counts_read a);
            }

    pub count-as-read : (r.number ≡ 14 → ⊥) → SameAnswer q r
    count-as-read n = go (read len t) refl
      where
        go : (a : Answer) → read len t ≡ a → SameAnswer q r
        go (refused x p) e = as-shown (Err (refusal x p)) (ap (λ (a : Answer). answers a before) e) (counted (refused x p) e)
        go (accepted ts) e =
            either-bool (roomy (tables ts) before)
            (λ f. as-shown (Ok (counts_of (tables ts))) (ap (λ (a : Answer). answers a before) e ∙ rw f) (counted (accepted ts) e))
            (λ f.
            absurd (n (ap (λ (z : SgfReading). z.number) u.is ∙ ap (λ (a : Answer). (reading_in_c i (answers a before)).number) e
            ∙ ap (λ (b : Bool). (reading_in_c i (pick b (Ok (counts_of (tables ts))) (Err (refusal NoRoom 0)))).number) f)))

    pub count-for-room : r.number ≡ 14 → q.number ≡ 0
    count-for-room h = go (read len t) refl
      where
        go : (a : Answer) → read len t ≡ a → q.number ≡ 0
        go (refused x p) e = absurd (omega (arith, h, upto-12 len t x p e, ap (λ (z : SgfReading). z.number) (u.is ∙ ap (λ (a : Answer). reading_in_c i (answers a before)) e)))
        go (accepted ts) e = ap (λ (z : SgfReading). z.number) (counted (accepted ts) e)

  -- the numbers of a reading but 14
  but-room : (xs : List ℕ) → OneOf xs 0 → OneOf (xs ++ (14 ∷ [])) (reading_in_c 0 (answers (read len t) (lent [] [] [] []))).number → OneOf xs q.number
  but-room xs zero l =
      let r = reading_in_c 0 (answers (read len t) (lent [] [] [] [])) in
      let u : ReadInC 0 (read len t) (lent [] [] [] []) (leaves (read len t) (lent [] [] [] [])) r = record { is = refl; tables = refl } in
      same_or r.number 14
      (λ e. subst⁻¹ (OneOf xs) (count-for-room {i = 0} (lent [] [] [] []) _ r u e) zero)
      (λ n. subst⁻¹ (OneOf xs) (count-as-read {i = 0} (lent [] [] [] []) _ r u n).number (without xs 14 r.number l n))

pub count-strict-listed : (t : List ℕ) (q : SgfReading) → q ≡ reading_in_c 0 (rows_counted (read false t)) → OneOf count_numbers q.number
count-strict-listed t q s = but-room false t q s count_numbers (inl refl) (strict-listed false t (lent [] [] [] []) _ _ (record { is = refl; tables = refl }))

pub count-lenient-listed : (t : List ℕ) (q : SgfReading) → q ≡ reading_in_c 0 (rows_counted (read true t)) → OneOf lenient_count_numbers q.number
count-lenient-listed t q s = but-room true t q s lenient_count_numbers (inl refl) (lenient-listed true t (lent [] [] [] []) _ _ (record { is = refl; tables = refl }) refl)
