-- What an acceptance says, strict or lenient: the text is valid and short, and the trees grew from slices of its tokens. Assumes nothing.
use Rattle.lists.proofs.Prelude.{◌≡◌, refl, sym, ap, ◌∙◌, subst, ◌⊎◌, inl, inr, ℕ, suc, ◌≤◌, arith, Bool, true, false, List, [], ◌∷◌, reverse, reverse-reverse, ltb, length, ltb-false, pick}
use Rattle.text_utf8.specs.Text.{Ink, blank, Utf, whole, part, bad, utfs}
use Rattle.lexer.specs.Token.{Tok, End, done, broken}
use Rattle.tables.specs.Numbers.{text_limit, reason_of}
use Rattle.tables.specs.Record.{Tree}
use Rattle.tables.specs.declared.Reason.TheVariants.{TextTooLong, NotUtf8}
use Rattle.parser.proofs.Answers.{not-both}
use Rattle.parser.specs.Split.{Slices, no, slices, split_by_gametree}
use Rattle.parser.specs.LocalsSlice.{slice_from, first_slices}
use Rattle.parser.specs.LocalsSurvey.{found_as, survey_of_slices}
use Rattle.parser.specs.declared.Survey.TheVariants.{Slices as found}
use Rattle.parser.specs.Read.{refused, accepted, Trees, trees_so_far, no_trees, parse_gametrees, answer, parse_slices, parsed, lexing, tokenize, parse_utf8, read}
use Rattle.parser.proofs.Slices.{slices-cut}
use Rattle.reader_laws.proofs.Grown.{Grew, grow-all}

-- what an acceptance says; `toks`: the tokens that the slices are cut from, all or none of the text's
pub record Reading (len : Bool) (t : List ℕ) (ts : List Tree) : Type 0 where
  pub ink : Ink
  pub valid : utfs (whole blank) 0 t ≡ whole ink
  pub short : length t ≤ text_limit
  pub toks : List Tok
  pub from : (toks ≡ (tokenize ink t).toks) ⊎ (toks ≡ [])
  pub k : ℕ
  pub bound : k ≤ suc (length toks)
  pub cuts : split_by_gametree len (tokenize ink t).toks ≡ slices (first_slices k toks)
  pub grew : Grew len 0 k toks ts

record Cutting (l : List Tok) (ss : List (List Tok)) : Type 0 where
  toks : List Tok
  from : (toks ≡ l) ⊎ (toks ≡ [])
  k : ℕ
  bound : k ≤ suc (length toks)
  are : ss ≡ first_slices k toks

found-cut : (len : Bool) (l : List Tok) (ss : List (List Tok)) (k : ℕ) → split_by_gametree len l ≡ slices ss → found_as ss ≡ found k → Cutting l ss
found-cut len l ss k e f =
    let x = slices-cut len l k (ap survey_of_slices e ∙ f) in
    let h = x.bound in
    let a : slices ss ≡ slices (first_slices k l) = sym e ∙ x.are in
    record { toks = l; from = inl refl; k = k; bound = omega arith; are = cc }

cutting : (len : Bool) (l : List Tok) (ss : List (List Tok)) → split_by_gametree len l ≡ slices ss → Cutting l ss
unfolding first_slices slice_from
cutting len l [] e = found-cut len l [] 0 e refl
cutting len l ([] ∷ []) e = record { toks = []; from = inr refl; k = 1; bound = omega arith; are = refl }
cutting len l ((t ∷ ts) ∷ []) e = found-cut len l ((t ∷ ts) ∷ []) 1 e refl
cutting len l (s ∷ u ∷ ss) e = found-cut len l (s ∷ u ∷ ss) (suc (suc (length ss))) e refl

module _ (len : Bool) (t : List ℕ) (ts : List Tree) where
  of-planted : (l : List Tok) (ink : Ink) → utfs (whole blank) 0 t ≡ whole ink → length t ≤ text_limit → l ≡ (tokenize ink t).toks
      → (x : Slices) → split_by_gametree len l ≡ x → parse_slices len x ≡ accepted ts → Reading len t ts
  of-planted l ink v s el (no r) e h = not-both r 0 ts h
  of-planted l ink v s el (slices ss) e h =
      let c = cutting len l ss e in
      go (parse_gametrees len (trees_so_far 0 []) ss) refl h c
    where
      go : (x : Trees) → parse_gametrees len (trees_so_far 0 []) ss ≡ x → answer x ≡ accepted ts → Cutting l ss → Reading len t ts
      go (trees_so_far n all) q z c =
          let r = grow-all len c.k c.toks 0 [] n all (ap (parse_gametrees len (trees_so_far 0 [])) (sym c.are) ∙ q) in
          let w : reverse all ≡ ts = cc in
          let y : r.0 ≡ ts = sym (reverse-reverse r.0) ∙ ap reverse (sym r.2) ∙ w in
          record {
            ink = ink;
            valid = v;
            short = s;
            toks = c.toks;
            from = elim c.from [ inl a ↦ inl (a ∙ el) | inr a ↦ inr a ];
            k = c.k;
            bound = c.bound;
            cuts = ap (split_by_gametree len) (sym el) ∙ e ∙ ap slices c.are;
            grew = subst (Grew len 0 c.k c.toks) y r.1;
          }
      go (no_trees r) q z c = not-both r 0 ts z

  of-lexing : (b : Bool) (e : End) (l : List Tok) → lexing b e l ≡ accepted ts → parsed b l ≡ accepted ts
  of-lexing true e l h = h
  of-lexing false done l h = h
  of-lexing false (broken f s) l h = not-both (reason_of f) s ts h

  of-decoded : (u : Utf) → utfs (whole blank) 0 t ≡ u → length t ≤ text_limit → parse_utf8 len u t ≡ accepted ts → Reading len t ts
  of-decoded (whole k) e s h =
      let l : List Tok = (tokenize k t).toks in
      of-planted (tokenize k t).toks k e s refl (split_by_gametree len (tokenize k t).toks) refl (of-lexing len (tokenize k t).end (tokenize k t).toks h)
  of-decoded (part k p n r c) e s h = not-both NotUtf8 p ts h
  of-decoded (bad p) e s h = not-both NotUtf8 p ts h

  -- of every text that is read
  pub reading-is : read len t ≡ accepted ts → Reading len t ts
  reading-is h = go (ltb text_limit (length t)) refl h
    where
      go : (b : Bool) → ltb text_limit (length t) ≡ b → pick b (refused TextTooLong 0) (parse_utf8 len (utfs (whole blank) 0 t) t) ≡ accepted ts → Reading len t ts
      go true e z = not-both TextTooLong 0 ts z
      go false e z = of-decoded (utfs (whole blank) 0 t) refl (ltb-false text_limit (length t) e) z
