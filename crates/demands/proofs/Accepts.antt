-- When the reader's definition accepts, and the reasons that it never gives. Assumes nothing.
use Rattle.lists.proofs.Prelude.{ℕ, ◌≤◌, Bool, true, false, List, [], ◌⊎◌, inl, inr, ⊎_elim, ◌↔◌, ◌≡◌, refl, sym, ap, ◌∙◌, arith}
use Rattle.lists.proofs.Tests.{never}
use Rattle.text_utf8.proofs.WellFormed.{bad-trimmed, well-formed-trimmed}
use Rattle.lexer.specs.Token.{Tok, End, done, broken}
use Rattle.tables.specs.Numbers.{number_of}
use Rattle.tables.specs.Record.{Tree}
use Rattle.tables.specs.declared.Reason.{Reason}
use Rattle.tables.specs.declared.Reason.TheVariants.{TextTooLong, NotUtf8, MissingPropertyIdentifier, UnexpectedEndOfPropertyIdentifier, UnexpectedEndOfPropertyValue, UnexpectedGameTreeEnd, UnexpectedEndOfData, NoGameTrees, TooDeep, UnexpectedGameTreeStart, UnexpectedProperty, InvalidGameType, NoRoom, EmptyIdentifier, NoSuchNumber, GameTypeFixed, NotClosed, NotFitting}
use Rattle.parser.specs.Read.{Answer, refused, accepted, Trees, trees_so_far, no_trees, parse_gametrees, answer, read, read_strict, read_lenient}
use Rattle.parser.proofs.Texts.{text-long}
use Rattle.reader.proofs.Reasons.{refused-with}
use Rattle.reader_exactly.specs.Slicing.{Any, slices_from, Deep}
use Rattle.reader_exactly.specs.When.{Valid, tokens_of, Lexes, Splits}
use Rattle.reader_exactly.proofs.Cover.{uncovered-six, unclosed-seven, bare-eight}
use Rattle.reader_exactly.proofs.Exactly.{strict-7, strict-10, strict-11, strict-12, lenient-1, lenient-2, lenient-9}
use Rattle.reader_exactly.proofs.Firm.{slices-covered}
use Rattle.reader_exactly.proofs.Gives.{fault-read, split-read}
use Rattle.reader_exactly.proofs.Growths.{AllWhy, all-why}
use Rattle.reader_exactly.proofs.Lenient.{deep-read}
use Rattle.reader_exactly.proofs.Stages.{bad-read, text-cases, broken-fails, too-deep, not-deep, split-cases}
use Rattle.demands.specs.When.{Recorded, Sound}

-- ---- the reasons

module _ (len : Bool) (t : List ℕ) (x : Reason) (p : ℕ) (e : read len t ≡ refused x p) where
  pub upto-12 : number_of x ≤ 12
  upto-12 =
      refused-with len (λ r q. number_of r ≤ 12) (omega arith) (λ q. omega arith) (omega arith)
      (λ _. record { no3 = λ q. omega arith; no4 = λ q. omega arith; no5 = λ q. omega arith; no6 = omega arith; no7 = omega arith; no8 = omega arith; no10 = omega arith; no11 = omega arith; no12 = omega arith }) t e

pub never-room : (len : Bool) (t : List ℕ) (p : ℕ) → read len t ≡ refused NoRoom p → ⊥
never-room len t p e = omega (arith, upto-12 len t NoRoom p e)

-- ---- strict

module _ (t : List ℕ) where
  abbrev toks : List Tok
  toks = (tokens_of t).toks

  -- it is not both
  both : {X : Type 0} (len : Bool) (ts : List Tree) (r : Reason) (p : ℕ) → read len t ≡ accepted ts → read len t ≡ refused r p → X
  both len ts r p e h = let z : accepted ts ≡ refused r p = sym e ∙ h in never cc

  accepted-splits : (ts : List Tree) → read_strict t ≡ accepted ts → Splits t
  accepted-splits ts e =
      text-cases false t
      (λ h. both false ts TextTooLong 0 e (text-long false t h))
      (λ p h b. both false ts NotUtf8 p e (bad-read false t p h b))
      (λ v. go v (tokens_of t).end refl)
    where
      go : Valid t → (z : End) → (tokens_of t).end ≡ z → Splits t
      go v done q =
          let l : Lexes t = record { valid = v; faultless = q } in
          split-cases toks
          (λ u. both false ts UnexpectedGameTreeEnd 0 e (split-read t l (uncovered-six toks u)))
          (λ u. both false ts UnexpectedEndOfData 0 e (split-read t l (unclosed-seven toks u)))
          (λ u. both false ts NoGameTrees 0 e (split-read t l (bare-eight toks u)))
          (λ b d. both false ts TooDeep 0 e (split-read t l (too-deep toks b d)))
          (λ b n. record { lexes = l; balanced = b; shallow = n })
      go v (broken f p) q = both false ts _ p e (fault-read t f p v (broken-fails t f p q))

  recorded-sound : Recorded false t → Sound t
  recorded-sound (ts, e) =
      let s = accepted-splits ts e in
      record {
        splits = s;
        noded = λ x. both false ts UnexpectedEndOfData 0 e ((strict-7 t 0).1 (inr (s, x), refl));
        started = λ x. both false ts UnexpectedGameTreeStart 0 e ((strict-10 t 0).1 ((s, x), refl));
        expected = λ x. both false ts UnexpectedProperty 0 e ((strict-11 t 0).1 ((s, x), refl));
        typed = λ x. both false ts InvalidGameType 0 e ((strict-12 t 0).1 ((s, x), refl));
      }

  sound-recorded : Sound t → Recorded false t
  sound-recorded s = go (parse_gametrees false (trees_so_far 0 []) (slices_from 0 toks)) reads (all-why (slices_from 0 toks) (slices-covered toks))
    where
      reads : read_strict t ≡ answer (parse_gametrees false (trees_so_far 0 []) (slices_from 0 toks))
      reads = split-read t s.splits.lexes (not-deep toks s.splits.balanced s.splits.shallow)

      none : (r : Reason) → read_strict t ≡ refused r 0 → AllWhy (slices_from 0 toks) (no_trees r) → ⊥
      none TextTooLong e w = w.holds
      none NotUtf8 e w = w.holds
      none MissingPropertyIdentifier e w = w.holds
      none UnexpectedEndOfPropertyIdentifier e w = w.holds
      none UnexpectedEndOfPropertyValue e w = w.holds
      none UnexpectedGameTreeEnd e w = w.holds
      none UnexpectedEndOfData e w = s.noded w
      none NoGameTrees e w = w.holds
      none TooDeep e w = w.holds
      none UnexpectedGameTreeStart e w = s.started w
      none UnexpectedProperty e w = s.expected w
      none InvalidGameType e w = s.typed w
      none NoRoom e w = w.holds
      none EmptyIdentifier e w = w.holds
      none NoSuchNumber e w = w.holds
      none GameTypeFixed e w = w.holds
      none NotClosed e w = w.holds
      none NotFitting e w = w.holds

      go : (x : Trees) → read_strict t ≡ answer x → AllWhy (slices_from 0 toks) x → Recorded false t
      go (trees_so_far n ts) e w = (_, e)
      go (no_trees r) e w = absurd (none r e w)

  pub strict-0 : Recorded false t ↔ Sound t
  strict-0 = (recorded-sound, sound-recorded)

  -- ---- lenient

  abbrev Shallow : Type 0
  Shallow = Valid t × (Any (Deep 0) (slices_from 0 toks) → ⊥)

  recorded-shallow : Recorded true t → Shallow
  recorded-shallow (ts, e) =
      text-cases true t
      (λ h. both true ts TextTooLong 0 e (text-long true t h))
      (λ p h b. both true ts NotUtf8 p e (bad-read true t p h b))
      (λ v. (v, λ h. both true ts TooDeep 0 e (deep-read t v h)))

  three : (x : Reason) (p : ℕ) → read_lenient t ≡ refused x p → (x ≡ TextTooLong) ⊎ ((x ≡ NotUtf8) ⊎ (x ≡ TooDeep))
  three x p e =
      refused-with true (λ r q. (r ≡ TextTooLong) ⊎ ((r ≡ NotUtf8) ⊎ (r ≡ TooDeep))) (inl refl) (λ q. inr (inl refl)) (inr (inr refl)) (λ z. never cc) t e

  shallow-recorded : Shallow → Recorded true t
  shallow-recorded (v, n) = go (read_lenient t) refl
    where
      called : (x y : Reason) (p : ℕ) → read_lenient t ≡ refused x p → x ≡ y → read_lenient t ≡ refused y p
      called x y p e q = e ∙ ap (λ (r : Reason). refused r p) q

      go : (a : Answer) → read_lenient t ≡ a → Recorded true t
      go (accepted ts) e = (ts, e)
      go (refused x p) e =
          ⊎_elim (λ q. let l = ((lenient-1 t p).0 (called x TextTooLong p e q)).0 in absurd (omega (arith, l, v.short)))
          (⊎_elim (λ q. absurd (well-formed-trimmed t v.formed p (bad-trimmed t p ((lenient-2 t p).0 (called x NotUtf8 p e q)).1)))
          (λ q. absurd (n ((lenient-9 t p).0 (called x TooDeep p e q)).1))) (three x p e)

  pub lenient-0 : Recorded true t ↔ Shallow
  lenient-0 = (recorded-shallow, shallow-recorded)
