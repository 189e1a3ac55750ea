-- The bytes that a value of fitting tables has may be put back: they are closed, and valid UTF-8 by themselves. Assumes nothing.
use Rattle.lists.proofs.Prelude.{ℕ, suc, ◌-◌, ◌<◌, true, false≢true, ◌≡◌, refl, sym, ap, ◌∙◌, subst, List, ◌∷◌, ◌++◌, take, drop, slice, take-take, lt-ltb}
use Rattle.lists.proofs.Tests.{never}
use Rattle.text_utf8.specs.Text.{Ink, blank, inked, any, from-a0, to-9f, from-90, to-8f, Utf, whole, part, bad, utf, utfs}
use Rattle.text_utf8.specs.Trim.{trim_of, trimmed}
use Rattle.text_utf8.proofs.Steps.{place, utfs-append}
use Rattle.text_utf8.proofs.Like.{Like, like-utf, like-utfs}
use Rattle.text_utf8.proofs.Solid.{ink-at, solid-open, solid-close}
use Rattle.lexer.specs.Closed.{closed}
use Rattle.tables.specs.Columns.{val_from_at, val_to_at}
use Rattle.tables.specs.Memory.{Memory}
use Rattle.fit.specs.Fit.{Fit, sound}
use Rattle.fit.specs.Record.{text_in}
use Rattle.fit.proofs.Clauses.{Clauses, fit-clauses, fit-vals}
use Rattle.ask_value.specs.Access.{accessed, raw_value}
use Rattle.edit_laws.proofs.Boxes.{Boxed, value-box}
use Rattle.edit_laws.proofs.Pasted.{around, back}
use Rattle.feed_laid.specs.OfMemory.{own_bytes}
use Rattle.feed_laid.proofs.OverMemory.{order, inside}

-- ---- what stands between `[` and `]` in a valid text

sound-whole : (u : Utf) → sound (trim_of u) ≡ true → (k : Ink) × (u ≡ whole k)
sound-whole (whole k) h = (k, refl)
sound-whole (part k s n r x) h = absurd (false≢true h)
sound-whole (bad p) h = absurd (false≢true h)

like-is-whole : (a : ℕ) (X : Utf) (k : Ink) → Like a X (whole k) → (i : Ink) × (X ≡ whole i)
like-is-whole a (whole i) k h = (i, refl)
like-is-whole a (part i s n r c) k h = absurd h
like-is-whole a (bad p) k h = absurd h

-- before a `]` the characters are whole
close-whole : (X : Utf) (o : ℕ) (k : Ink) → utf X o 0x5d ≡ whole k → (i : Ink) × (X ≡ whole i)
close-whole (whole i) o k e = (i, refl)
close-whole (part i s n any c) o k e = never cc
close-whole (part i s n from-a0 c) o k e = never cc
close-whole (part i s n to-9f c) o k e = never cc
close-whole (part i s n from-90 c) o k e = never cc
close-whole (part i s n to-8f c) o k e = never cc
close-whole (bad p) o k e = never cc

module _ (p body post : List ℕ) (k : Ink) (h : utfs (whole blank) 0 (p ++ (0x5b ∷ (body ++ (0x5d ∷ post)))) ≡ whole k) where
  abbrev o : ℕ
  o = place 0 p

  abbrev u : Utf
  u = utfs (whole blank) 0 p

  opened : (a : ℕ) × (utf u o 0x5b ≡ whole (inked a (suc o)))
  opened = ink-at (utf u o 0x5b) o (body ++ (0x5d ∷ post)) k (solid-open u o) (sym (utfs-append (whole blank) 0 p (0x5b ∷ (body ++ (0x5d ∷ post)))) ∙ h)

  abbrev v : Utf
  v = utfs (whole (inked opened.0 (suc o))) (suc o) body

  shut : (a : ℕ) × (utf v (place (suc o) body) 0x5d ≡ whole (inked a (suc (place (suc o) body))))
  shut =
      ink-at (utf v (place (suc o) body) 0x5d) (place (suc o) body) post k (solid-close v (place (suc o) body))
      (sym (utfs-append (whole (inked opened.0 (suc o))) (suc o) body (0x5d ∷ post))
      ∙ ap (λ (z : Utf). utfs z (suc o) (body ++ (0x5d ∷ post))) (sym opened.1)
      ∙ sym (utfs-append (whole blank) 0 p (0x5b ∷ (body ++ (0x5d ∷ post))))
      ∙ h)

  between-valid : (i : Ink) × (utfs (whole blank) 0 body ≡ whole i)
  between-valid =
      let X = utfs (whole blank) 0 body in
      let l = like-utf opened.0 X v (place 0 body) (place (suc o) body) 0x5d (like-utfs opened.0 (whole blank) (whole (inked opened.0 (suc o))) 0 (suc o) body refl) in
      let w = like-is-whole opened.0 (utf X (place 0 body) 0x5d) (inked shut.0 (suc (place (suc o) body))) (subst (Like opened.0 (utf X (place 0 body) 0x5d)) shut.1 l) in
      close-whole X (place 0 body) w.0 w.1

-- ---- of a value

module _ (m : Memory) (fit : Fit m ≡ true) (k : ℕ) (below : k < m.counts.values) where
  F : Clauses (text_in m) m.counts m.trees m.nodes m.properties m.values
  F = fit-clauses m fit

  box : Boxed (text_in m) (val_from_at m.values k) (val_to_at m.values k)
  box = value-box (text_in m) m.counts m.trees m.nodes m.properties m.values F k below (own_bytes m k) (order m fit k below) (inside m fit k below) k below

  pub own-closed : closed (own_bytes m k) ≡ true
  own-closed = box.shut

  pub own-valid : (i : Ink) × (utfs (whole blank) 0 (own_bytes m k) ≡ whole i)
  unfolding trimmed
  own-valid =
      let t = text_in m in
      let q = val_from_at m.values k in
      let e = val_to_at m.values k in
      let w = sound-whole (utfs (whole blank) 0 t) F.utf8 in
      let qe = order m fit k below in
      let el = inside m fit k below in
      between-valid (take (q - 1) t) (own_bytes m k) (drop (suc e) t) w.0
      (ap (utfs (whole blank) 0)
      (sym (around t (own_bytes m k) q e qe el box.some box.opens box.closes (own_bytes m k)) ∙ back t (own_bytes m k) q e qe el box.some box.opens box.closes)
      ∙ w.1)

  own-used : slice (val_from_at m.values k) (val_to_at m.values k) (text_in m) ≡ slice (val_from_at m.values k) (val_to_at m.values k) m.text
  own-used = ap (drop (val_from_at m.values k)) (take-take (val_to_at m.values k) m.used m.text (fit-vals m fit k below).1)

  -- they are what is handed out for the value
  pub own-handed : raw_value m k ≡ own_bytes m k
  unfolding accessed
  own-handed = rw (fit, lt-ltb k m.counts.values below) (sym own-used)
