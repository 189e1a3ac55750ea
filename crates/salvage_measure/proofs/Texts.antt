-- From a text to its tokens, and from its slices to the writing of the mended record. Assumes nothing.
use Rattle.lists.proofs.Prelude.{ℕ, ◌≤◌, ◌<◌, ◌≡◌, refl, sym, ap, ap₂, ◌∙◌, subst, Bool, true, List, [], arith, length, length-take-le, take, lt-ltb, le-ltb, pick}
use Rattle.text_utf8.specs.Text.{Ink, Utf, whole, part, bad, blank, inked, utfs}
use Rattle.text_utf8.specs.Trim.{trim_of, trimmed}
use Rattle.text_utf8.specs.declared.Trimmed.{Trimmed}
use Rattle.text_utf8.specs.declared.Trimmed.TheVariants.{NotUtf8, Blank, Kept}
use Rattle.text_utf8.proofs.Extent.{trim-bounds}
use Rattle.lexer.specs.Token.{Lexed, lex_at}
use Rattle.tables.specs.Numbers.{text_limit}
use Rattle.tables.specs.declared.Reason.TheVariants.{TextTooLong}
use Rattle.parser.specs.Split.{Slices, no, slices, split_by_gametree}
use Rattle.parser.specs.Read.{Answer, refused, accepted, parse_slices, tokenize, parse_utf8, read_lenient}
use Rattle.parser.proofs.Texts.{lex-prefix}
use Rattle.salvage_laws.specs.Result.{salvage_of}
use Rattle.salvage_size.proofs.Slices.{slices-length, slices-depth}
use Rattle.salvage_measure.specs.Measure.{measure_of, text_measure}
use Rattle.salvage_measure.specs.LocalsMeasure.{measured, unmeasured, slices_measure, utf_measure, TokensWeighed, SlicesToldFrom, SlicesTold}
use Rattle.salvage_measure.specs.declared.Measured.{Measured}
use Rattle.salvage_measure.specs.declared.Weighed.{Weighed}
use Rattle.salvage_list.specs.LocalsWalk.{ListReady}
use Rattle.salvage_measure.proofs.Accepts.{slices-accepted}

-- ---- the result

module _ (t : List ℕ) where
  abbrev read_by : Bool → Answer
  read_by b = pick b (refused TextTooLong 0) (parse_utf8 true (utfs (whole blank) 0 t) t)

  pub measured-long : text_limit < length t → unmeasured ≡ text_measure t
  measured-long h = ap (λ (b : Bool). measure_of (salvage_of (read_by b))) (sym (lt-ltb text_limit (length t) h))

  module _ (h : length t ≤ text_limit) where
    read-within : read_lenient t ≡ parse_utf8 true (utfs (whole blank) 0 t) t
    read-within = ap read_by (le-ltb text_limit (length t) h)

    by-slices : (k : Ink) → utfs (whole blank) 0 t ≡ whole k → (x : Slices) → split_by_gametree true (tokenize k t).toks ≡ x → slices_measure x ≡ text_measure t
    by-slices k e (no r) q =
        sym (ap (λ (a : Answer). measure_of (salvage_of a)) (read-within ∙ ap (λ (u : Utf). parse_utf8 true u t) e ∙ ap (parse_slices true) q))
    by-slices k e (slices ss) q =
        let a = slices-accepted ss in
        let r : read_lenient t ≡ accepted a.0 = read-within ∙ ap (λ (u : Utf). parse_utf8 true u t) e ∙ ap (parse_slices true) q ∙ a.1 in
        ap₂ measured (sym (slices-length t a.0 r k ss e q)) (sym (slices-depth t a.0 r k ss e q))
        ∙ sym (ap (λ (z : Answer). measure_of (salvage_of z)) r)

    by-utf : (u : Utf) → utfs (whole blank) 0 t ≡ u → utf_measure u t ≡ text_measure t
    by-utf (whole k) e = by-slices k e (split_by_gametree true (tokenize k t).toks) refl
    by-utf (part k s n r c) e = sym (ap (λ (a : Answer). measure_of (salvage_of a)) (read-within ∙ ap (λ (u : Utf). parse_utf8 true u t) e))
    by-utf (bad p) e = sym (ap (λ (a : Answer). measure_of (salvage_of a)) (read-within ∙ ap (λ (u : Utf). parse_utf8 true u t) e))

    -- ---- the tokens

    abbrev trim_measure : Trimmed → Measured
    trim_measure (NotUtf8 p) = unmeasured
    trim_measure Blank = slices_measure (split_by_gametree true (tokenize blank t).toks)
    trim_measure (Kept f l) = slices_measure (split_by_gametree true (tokenize (inked f l) t).toks)

    utf-trims : (u : Utf) → trim_measure (trim_of u) ≡ utf_measure u t
    utf-trims (whole blank) = refl
    utf-trims (whole (inked f l)) = refl
    utf-trims (part k s n r c) = refl
    utf-trims (bad p) = refl

    module _ {x : Trimmed} (e : x ≡ trimmed t) where
      measured-by : {y : Trimmed} → x ≡ y → trim_measure y ≡ text_measure t
      unfolding trimmed
      measured-by q = ap trim_measure (sym q ∙ e) ∙ utf-trims (utfs (whole blank) 0 t) ∙ by-utf (utfs (whole blank) 0 t) refl

      pub measured-bad : {p : ℕ} → x ≡ NotUtf8 p → unmeasured ≡ text_measure t
      measured-bad q = measured-by q

      pub measured-blank : x ≡ Blank → {r : Measured} → r ≡ slices_measure (split_by_gametree true (lex_at [] 0).toks) → r ≡ text_measure t
      unfolding lex_at
      measured-blank q w = w ∙ measured-by q

      pub measured-kept : {f l : ℕ} → x ≡ Kept f l → {r : Measured} → r ≡ slices_measure (split_by_gametree true (lex_at (take l t) f).toks) → r ≡ text_measure t
      measured-kept {f} {l} q w =
          w ∙ sym (ap (λ (z : Lexed). slices_measure (split_by_gametree true z.toks)) (lex-prefix t f l (trim-bounds t f l (sym e ∙ q)).1)) ∙ measured-by q

-- ---- the slices that are told

pub none_told : (t : List ℕ) (r : Weighed) → r.slices ≡ 0 → SlicesTold t r
none_told t r e h = absurd (omega (arith, e, h))

pub found-told : (t : List ℕ) {f l : ℕ} {x : Trimmed} → length t ≤ text_limit → x ≡ trimmed t → x ≡ Kept f l → (r : Weighed) → SlicesToldFrom (take l t) f r → SlicesTold t r
found-told t {f} {l} h e q r w z =
    let y = w z in
    let k : trimmed t ≡ Kept f l = sym e ∙ q in
    let el : r.last ≡ l = y.1 ∙ length-take-le l t (trim-bounds t f l k).1 in
    record {
      short = h;
      kept = k ∙ ap₂ Kept (sym y.0) (sym el);
      ready = subst (λ (n : ℕ). ListReady (take n t) r.first r.slices) (sym el) (subst (λ (n : ℕ). ListReady (take l t) n r.slices) (sym y.0) y.2);
    }

pub blank-weighed : (r : Weighed) → r.result ≡ measured 3 1 → r.changes ≡ 1 → TokensWeighed (lex_at [] 0) r
unfolding lex_at
blank-weighed r a b = record { result = a; changes = b }
