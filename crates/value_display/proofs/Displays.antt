-- What is shown, byte by byte into the output, and the answer. Assumes nothing.
use Rattle.lists.proofs.Prelude.{ℕ, ◌^◌, ◌<◌, ◌≡◌, refl, sym, ap, ◌∙◌, subst, Bool, true, false, List, [], ◌∷◌, ◌++◌, append_assoc, append-nil, le_refl, arith, leb, length, drop, le-leb, lt-leb, leb-true, leb-false}
use Rattle.values.specs.Read.{read_value}
use Rattle.value_display.specs.Display.{format_text, one_line, display_text, displayed, displayed_in}
use Rattle.value_display.specs.LocalsShowing.{DisplaysAt}
use Rattle.store_bytes.specs.LocalsWrote.{Wrote}
use Rattle.value_display.specs.declared.Kind.{Kind}
use Rattle.value_display.specs.declared.Kind.TheVariants.{Text, SimpleText}
use Rattle.store_bytes.proofs.Lists.{sets-out}
use Rattle.store_bytes.proofs.Written.{wrote_none, wrote-more, wrote-is, wrote-all}
use Rattle.std.specs.Prelude.{Option, Some, None}

module _ (s : List ℕ) (at : ℕ) (r : Option (ℕ × ℕ)) {kind : Kind} where
  pub shows-text : kind ≡ Text → DisplaysAt format_text s at r → DisplaysAt (display_text kind) s at r
  unfolding display_text
  shows-text e h = subst (λ k. DisplaysAt (display_text k) s at r) (sym e) h

  pub shows-simple : kind ≡ SimpleText → DisplaysAt (λ z. one_line (format_text z)) s at r → DisplaysAt (display_text kind) s at r
  unfolding display_text
  shows-simple e h = subst (λ k. DisplaysAt (display_text k) s at r) (sym e) h

-- what is written of the text, and what is left to show
pub record Displaying (kind : Kind) (raw out₀ out : List ℕ) (at to : ℕ) : Type 0 where
  pub done : List ℕ
  pub is : display_text kind (read_value raw) ≡ done ++ display_text kind (read_value (drop at raw))
  pub wrote : Wrote done out₀ 0 out to

pub display-first : (kind : Kind) (raw out : List ℕ) → Displaying kind raw out out 0 0
display-first kind raw out = record { done = []; is = refl; wrote = wrote_none out 0 (omega arith) }

module _ (kind : Kind) (raw : List ℕ) {out₀ out : List ℕ} {at to : ℕ} (d : Displaying kind raw out₀ out at to) where
  pub display-next : {out' : List ℕ} {b n to' : ℕ} → length out₀ < 2 ^ 64 → DisplaysAt (display_text kind) raw at (Some (b, n)) → Wrote (b ∷ []) out to out' to' → Displaying kind raw out₀ out' n to'
  display-next {b = b} {n} l st w =
      record {
        done = d.done ++ (b ∷ []);
        is = d.is ∙ ap (λ z. d.done ++ z) st.0 ∙ sym (append_assoc d.done (b ∷ []) (display_text kind (read_value (drop n raw))));
        wrote = wrote-more l d.wrote w;
      }

  pub display-end : DisplaysAt (display_text kind) raw at None → Wrote (display_text kind (read_value raw)) out₀ 0 out to
  display-end st = wrote-is (sym (d.is ∙ ap (λ z. d.done ++ z) st ∙ append-nil d.done)) d.wrote

module _ (w out : List ℕ) (b : length out < 2 ^ 63) where
  -- a text that was measured on an empty part
  pub room-measured : {e : List ℕ} {need : ℕ} → Wrote w [] 0 e need → (leb need (length (e ++ out)) ≡ leb (length w) (length out)) × (e ++ out ≡ out)
  room-measured {e} {need} m = (ap (λ (z : List ℕ). leb need (length z)) kept ∙ go (leb (length w) (length out)) refl, kept)
    where
      kept : e ++ out ≡ out
      kept = ap (λ z. z ++ out) (m.bytes ∙ sets-out [] 0 w (le_refl 0))

      go : (t : Bool) → leb (length w) (length out) ≡ t → leb need (length out) ≡ t
      go true q = le-leb need (length out) (omega (arith, m.place, leb-true (length w) (length out) q))
      go false q = lt-leb need (length out) (omega (arith, m.place, leb-false (length w) (length out) q))

  module _ {r : Bool} {out1 : List ℕ} (e : r ≡ leb (length w) (length out)) (k : out1 ≡ out) where
    pub display-refused : r ≡ false → (None ≡ displayed w out) × (out1 ≡ displayed_in w out)
    unfolding displayed displayed_in
    display-refused t = (rw (sym e ∙ t), rw (sym e ∙ t) k)

    pub display-done : {out2 : List ℕ} {n : ℕ} → r ≡ true → Wrote w out1 0 out2 n → (Some n ≡ displayed w out) × (out2 ≡ displayed_in w out)
    unfolding displayed displayed_in
    display-done {out2} {n} t x =
        let s = leb-true (length w) (length out) (sym e ∙ t) in
        let p = x.place in
        let q : n ≡ length w = omega arith in
        (rw (sym e ∙ t) (ap Some q), rw (sym e ∙ t) (wrote-all (subst (λ z. Wrote w z 0 out2 n) k x) s))
