-- From a text to its tokens, and from the entries that were put to the lent rows. Assumes nothing.
use Rattle.lists.proofs.Prelude.{ℕ, ◌/◌, ◌≤◌, ◌<◌, ◌≡◌, refl, sym, ap, ◌∙◌, Bool, true, List, [], ◌++◌, arith, length, take, drop, le-leb, lt-leb, lt-ltb, le-ltb, pick}
use Rattle.lists.proofs.Put.{put_all}
use Rattle.text_utf8.specs.Text.{Utf, whole, part, bad, blank, inked, utfs}
use Rattle.text_utf8.specs.Trim.{trim_of, trimmed}
use Rattle.text_utf8.specs.declared.Trimmed.{Trimmed}
use Rattle.text_utf8.specs.declared.Trimmed.TheVariants.{NotUtf8, Blank, Kept}
use Rattle.text_utf8.proofs.Extent.{trim-bounds}
use Rattle.lexer.specs.Token.{Lexed, lex_at}
use Rattle.tables.specs.Numbers.{text_limit}
use Rattle.parser.specs.Split.{split_by_gametree}
use Rattle.parser.specs.Read.{tokenize}
use Rattle.parser.proofs.Texts.{lex-prefix}
use Rattle.salvage_mend.specs.Changes.{Change}
use Rattle.salvage_list.specs.Listed.{slices_changes, utf_changes, changes_of}
use Rattle.salvage_list.specs.ListRows.{change_rows, text_changes, with_changes}
use Rattle.salvage_list.specs.LocalsPuts.{EntriesPut}
use Rattle.salvage_list.proofs.Puts.{rows-length}

-- of tokens
abbrev pub tokens_changes : Lexed → List Change
tokens_changes l = slices_changes (split_by_gametree true l.toks) l

module _ (t : List ℕ) where
  abbrev trim_changes : Trimmed → List Change
  trim_changes (NotUtf8 p) = []
  trim_changes Blank = tokens_changes (tokenize blank t)
  trim_changes (Kept f l) = tokens_changes (tokenize (inked f l) t)

  utf-trims : (u : Utf) → utf_changes u t ≡ trim_changes (trim_of u)
  utf-trims (whole blank) = refl
  utf-trims (whole (inked f l)) = refl
  utf-trims (part k s n r c) = refl
  utf-trims (bad p) = refl

  pub listed-long : text_limit < length t → text_changes t ≡ []
  listed-long h = ap (λ (z : Bool). pick z [] (changes_of t)) (lt-ltb text_limit (length t) h)

  module _ (h : length t ≤ text_limit) {x : Trimmed} (e : x ≡ trimmed t) where
    listed_by : {y : Trimmed} → x ≡ y → text_changes t ≡ trim_changes y
    unfolding trimmed
    listed_by q = ap (λ (z : Bool). pick z [] (changes_of t)) (le-ltb text_limit (length t) h) ∙ utf-trims (utfs (whole blank) 0 t) ∙ ap trim_changes (sym e ∙ q)

    pub listed-bad : {p : ℕ} → x ≡ NotUtf8 p → text_changes t ≡ []
    listed-bad q = listed_by q

    pub listed-blank : x ≡ Blank → text_changes t ≡ tokens_changes (lex_at [] 0)
    unfolding lex_at
    listed-blank q = listed_by q

    pub listed_kept : {f l : ℕ} → x ≡ Kept f l → text_changes t ≡ tokens_changes (lex_at (take l t) f)
    listed_kept {f} {l} q = listed_by q ∙ ap tokens_changes (lex-prefix t f l (trim-bounds t f l (sym e ∙ q)).1)

-- ---- the lent rows

module _ (cs : List Change) {t : List ℕ} {n : ℕ} (e : n ≡ length cs) where
  pub rows-with : n ≤ length t / 3 → {r : ℕ} {t' : List ℕ} → EntriesPut t 0 cs r t' → t' ≡ with_changes cs t
  rows-with h p =
      let l = rows-length cs in
      let i : length (change_rows cs) ≤ length t = omega arith in
      put_all p.put i ∙ sym (ap (λ (z : Bool). pick z (change_rows cs ++ drop (length (change_rows cs)) t) t) (le-leb (length (change_rows cs)) (length t) i))

  pub rows_stay : length t / 3 < n → t ≡ with_changes cs t
  rows_stay h =
      let l = rows-length cs in
      sym (ap (λ (z : Bool). pick z (change_rows cs ++ drop (length (change_rows cs)) t) t) (lt-leb (length (change_rows cs)) (length t) (omega arith)))
