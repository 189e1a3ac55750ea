-- What a report says, as it is put: counts of numbers, one after another, and lines by their cases. Assumes nothing.
use Rattle.lists.proofs.Prelude.{ℕ, suc, ◌+◌, ◌-◌, ◌^◌, ◌<◌, ◌≤◌, ◌≡◌, refl, sym, ap, ◌∙◌, List, [], ◌∷◌, ◌++◌, length, get_or, arith, add-one, eq-eqb, ne_eqb}
use Rattle.store_bytes.specs.LocalsWrote.{Wrote}
use Rattle.store_bytes.proofs.Written.{wrote_none, wrote-more, wrote-length, wrote-is}
use Rattle.values.specs.Decimal.{decimal}
use Rattle.season_tag.specs.Hex.{hex_of}
use Rattle.season_totals.specs.declared.Tally.{Tally}
use Rattle.season_totals.specs.declared.Line.{Line}
use Rattle.season_totals.specs.declared.Line.TheVariants.{Unread, Refused, Counted}
use Rattle.season_totals.specs.Report.{unread_word, accepted_word, refused_word, dashes, column, tally_text, named, line_text, count_text, refused_text}

module _ (number count : ℕ) where
  pub count_none : (out : List ℕ) (at : ℕ) → at < 2 ^ 64 → count ≡ 0 → Wrote (count_text number count) out at out at
  unfolding count_text
  count_none out at h e = rw (eq-eqb count 0 e) (wrote_none out at h)

  pub count-some : {out out1 : List ℕ} {at r : ℕ} → (count ≡ 0 → ⊥) → Wrote (refused_word ++ (column number ++ (column count ++ (10 ∷ [])))) out at out1 r
      → Wrote (count_text number count) out at out1 r
  unfolding count_text
  count-some h w = rw (ne_eqb count 0 h) w

module _ (line : Line) (name : List ℕ) {out out1 : List ℕ} {at r : ℕ} where
  pub line-unread : line ≡ Unread → Wrote (unread_word ++ named name) out at out1 r → Wrote (line_text line name) out at out1 r
  unfolding line_text
  line-unread e w = wrote-is (sym (ap (λ (l : Line). line_text l name) e)) w

  pub line_refused : (n : ℕ) → line ≡ Refused n → Wrote (decimal n ++ (dashes ++ named name)) out at out1 r → Wrote (line_text line name) out at out1 r
  unfolding line_text
  line_refused n e w = wrote-is (sym (ap (λ (l : Line). line_text l name) e)) w

  pub line-counted : (t : Tally) (tag : ℕ) → line ≡ Counted t tag → Wrote (accepted_word ++ (tally_text t ++ ((9 ∷ []) ++ (hex_of tag ++ named name)))) out at out1 r
      → Wrote (line_text line name) out at out1 r
  unfolding line_text
  line-counted t tag e w = wrote-is (sym (ap (λ (l : Line). line_text l name) e)) w

module _ (sums out₀ : List ℕ) (at : ℕ) where
  -- the numbers before `number` are put
  pub record Numbering (out : List ℕ) (next number : ℕ) : Type 0 where
    pub len : length out ≡ length out₀
    pub below : next < 2 ^ 64
    pub rest : (out2 : List ℕ) (s : ℕ) → Wrote (refused_text number (32 - number) sums) out next out2 s → Wrote (refused_text 0 32 sums) out₀ at out2 s

  pub numbering-first : at < 2 ^ 64 → Numbering out₀ at 0
  numbering-first h = record { len = refl; below = h; rest = λ out2 s w. w }

  module _ (out : List ℕ) (next number : ℕ) (p : Numbering out next number) where
    pub numbering-next : length out₀ < 2 ^ 64 → number < 32 → {out1 : List ℕ} {r : ℕ} → Wrote (count_text number (get_or sums (6 + number) 0)) out next out1 r
        → Numbering out1 r (number + 1)
    unfolding refused_text
    numbering-next h l {out1} {r} w =
        let n = p.len in
        let e : 32 - number ≡ suc (32 - (number + 1)) = omega arith in
        record {
          len = wrote-length w ∙ p.len;
          below = let q = w.place in omega arith;
          rest = λ out2 s x.
              p.rest out2 s
              (wrote-is (sym (ap (λ (k : ℕ). refused_text number k sums) e)) (wrote-more (omega arith) w (wrote-is (ap (λ (k : ℕ). refused_text k (32 - (number + 1)) sums) (add-one number)) x)));
        }

    pub numbering-end : 32 ≤ number → Wrote (refused_text 0 32 sums) out₀ at out next
    unfolding refused_text
    numbering-end h = let e : 32 - number ≡ 0 = omega arith in p.rest out next (wrote-is (sym (ap (λ (k : ℕ). refused_text number k sums) e)) (wrote_none out next p.below))
