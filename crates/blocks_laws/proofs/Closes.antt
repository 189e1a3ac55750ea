-- What close leaves in lent memory, by the rows that stand there. Assumes nothing.
use Rattle.lists.proofs.Prelude.{◌≡◌, refl, sym, ap, ap₂, ◌∙◌, subst, ℕ, ◌+◌, ◌-◌, ◌*◌, ◌/◌, ◌≤◌, ◌<◌, arith, Bool, true, false, List, [], ◌∷◌, ◌++◌, length, take, drop, replicate, length-append, take_all, ltb, lt-ltb, le-ltb, le-leb, ltb-true, ltb-false, pick}
use Rattle.lists.specs.Put.{put_at}
use Rattle.blocks.specs.declared.BlocksState.{BlocksState}
use Rattle.blocks.specs.declared.Closed.{Closed}
use Rattle.blocks.specs.declared.Closing.TheVariants.{Refused, Rows, Last}
use Rattle.blocks.specs.Room.{filled_with, token_row, add_row}
use Rattle.blocks.specs.Close.{cleared_rows, refused_at, accepted_with, closed_by, cells_by}
use Rattle.blocks_laws.specs.Reading.{tokens_read, not_read, flat_rows, rows_left}
use Rattle.blocks_laws.specs.Calls.{ReadAs}
use Rattle.blocks_laws.proofs.Stored.{Stored, Lent, lent_both, stored-none, add-lent, add-stored}

cleared-left : (t t' : List ℕ) (rs : List (List ℕ)) → Lent t t' → Stored rs t' → length rs * 3 ≤ length t → cleared_rows t' (length rs) ≡ rows_left rs t
unfolding cleared_rows
cleared-left t t' rs l s h =
    let e : take (length rs * 3) t' ≡ flat_rows rs = s (length rs) (omega arith) (omega (arith, h, l.len)) ∙ ap flat_rows (take_all (length rs) rs (omega arith)) in
    let r : drop (length t' / 3 * 3) t' ≡ drop (length t / 3 * 3) t = ap (λ (n : ℕ). drop (n / 3 * 3) t') l.len ∙ l.rest in
    ap₂ (λ (x y : List ℕ). x ++ (replicate (length t' / 3 * 3 - length rs * 3) 0 ++ y)) e r
    ∙ ap (λ (n : ℕ). flat_rows rs ++ (replicate (n / 3 * 3 - length rs * 3) 0 ++ drop (length t / 3 * 3) t)) l.len

module _ (t t' : List ℕ) (l : Lent t t') (s : BlocksState) (r : Closed) (t'' : List ℕ) where
  none_left : t'' ≡ cleared_rows t' 0 → t'' ≡ rows_left [] t
  none_left e = e ∙ cleared-left t t' [] l (stored-none t') (omega arith)

  pub refused_as : (n p : ℕ) → r ≡ closed_by (Refused n p) s (length t' / 3) → t'' ≡ cells_by (Refused n p) t' → ReadAs (not_read n p) t r t''
  refused_as n p a b =
      record {
        number = ap (λ (z : Closed). z.number) a;
        place = ap (λ (z : Closed). z.place) a;
        tokens = ap (λ (z : Closed). z.tokens) a;
        rows = none_left b;
        shut = ap (λ (z : Closed). z.state.closed) a;
      }

  -- the rows do not suffice
  short-as : (rs : List (List ℕ)) → length t / 3 < length rs → r ≡ refused_at s 14 0 → t'' ≡ cleared_rows t' 0 → ReadAs (tokens_read rs) t r t''
  short-as rs h a b =
      let x : ltb (length t / 3) (length rs) ≡ true = lt-ltb (length t / 3) (length rs) h in
      record {
        number = ap (λ (z : Closed). z.number) a ∙ sym (ap (λ (z : Bool). pick z 14 0) x);
        place = ap (λ (z : Closed). z.place) a;
        tokens = ap (λ (z : Closed). z.tokens) a ∙ sym (ap (λ (z : Bool). pick z 0 (length rs)) x);
        rows = none_left b ∙ sym (ap (λ (z : Bool). pick z (rows_left [] t) (rows_left rs t)) x);
        shut = ap (λ (z : Closed). z.state.closed) a;
      }

  -- the rows suffice
  full-as : (rs : List (List ℕ)) → length rs ≤ length t / 3 → r ≡ accepted_with s (length rs) → t'' ≡ rows_left rs t → ReadAs (tokens_read rs) t r t''
  full-as rs h a b =
      let x : ltb (length t / 3) (length rs) ≡ false = le-ltb (length t / 3) (length rs) h in
      record {
        number = ap (λ (z : Closed). z.number) a ∙ sym (ap (λ (z : Bool). pick z 14 0) x);
        place = ap (λ (z : Closed). z.place) a;
        tokens = ap (λ (z : Closed). z.tokens) a ∙ sym (ap (λ (z : Bool). pick z 0 (length rs)) x);
        rows = b ∙ sym (ap (λ (z : Bool). pick z (rows_left [] t) (rows_left rs t)) x);
        shut = ap (λ (z : Closed). z.state.closed) a;
      }

  pub rows_as : (rs : List (List ℕ)) → Stored rs t' → r ≡ closed_by (Rows (length rs)) s (length t' / 3) → t'' ≡ cells_by (Rows (length rs)) t' → ReadAs (tokens_read rs) t r t''
  rows_as rs st a b = go (ltb (length t' / 3) (length rs)) refl
    where
      go : (c : Bool) → ltb (length t' / 3) (length rs) ≡ c → ReadAs (tokens_read rs) t r t''
      go true e =
          short-as rs (omega (arith, ltb-true (length t' / 3) (length rs) e, l.len))
          (a ∙ ap (λ (z : Bool). pick z (refused_at s 14 0) (accepted_with s (length rs))) e)
          (b ∙ ap (λ (z : Bool). pick z (cleared_rows t' 0) (cleared_rows t' (length rs))) e)
      go false e =
          let h = ltb-false (length t' / 3) (length rs) e in
          full-as rs (omega (arith, h, l.len))
          (a ∙ ap (λ (z : Bool). pick z (refused_at s 14 0) (accepted_with s (length rs))) e)
          (b ∙ ap (λ (z : Bool). pick z (cleared_rows t' 0) (cleared_rows t' (length rs))) e ∙ cleared-left t t' rs l st (omega (arith, h, l.len)))

  pub last_as : (hs : List (List ℕ)) (f e : ℕ) → Stored hs t' → r ≡ closed_by (Last (length hs) f e) s (length t' / 3) → t'' ≡ cells_by (Last (length hs) f e) t' → ReadAs (tokens_read (hs ++ (token_row 4 f e ∷ []))) t r t''
  unfolding add_row
  last_as hs f e st a b = go (ltb (length t' / 3) (length hs + 1)) refl
    where
      n : length hs + 1 ≡ length (hs ++ (token_row 4 f e ∷ []))
      n = sym (length-append hs (token_row 4 f e ∷ []))

      go : (c : Bool) → ltb (length t' / 3) (length hs + 1) ≡ c → ReadAs (tokens_read (hs ++ (token_row 4 f e ∷ []))) t r t''
      go true q =
          short-as (hs ++ (token_row 4 f e ∷ [])) (omega (arith, ltb-true (length t' / 3) (length hs + 1) q, l.len, n))
          (a ∙ ap (λ (z : Bool). pick z (refused_at s 14 0) (accepted_with s (length hs + 1))) q)
          (b ∙ ap (λ (z : Bool). pick z (cleared_rows t' 0) (cleared_rows (put_at t' (length hs * 3) (token_row 4 f e)) (length hs + 1))) q)
      go false q =
          let h = ltb-false (length t' / 3) (length hs + 1) q in
          let p : (add_row (filled_with (length hs) t') (token_row 4 f e)).cells ≡ put_at t' (length hs * 3) (token_row 4 f e) =
          ap (λ (z : Bool). pick z (put_at t' (length hs * 3) (token_row 4 f e)) t') (le-leb (length hs * 3 + 3) (length t') (omega (arith, h))) in
          let k = subst (λ (z : List ℕ). Lent t' z) p (add-lent (filled_with (length hs) t') (token_row 4 f e) refl) in
          let g = subst (λ (z : List ℕ). Stored (hs ++ (token_row 4 f e ∷ [])) z) p (add-stored (filled_with (length hs) t') (token_row 4 f e) refl hs refl st) in
          full-as (hs ++ (token_row 4 f e ∷ [])) (omega (arith, h, l.len, n))
          (a ∙ ap (λ (z : Bool). pick z (refused_at s 14 0) (accepted_with s (length hs + 1))) q ∙ ap (accepted_with s) n)
          (b
          ∙ ap (λ (z : Bool). pick z (cleared_rows t' 0) (cleared_rows (put_at t' (length hs * 3) (token_row 4 f e)) (length hs + 1))) q
          ∙ ap (cleared_rows (put_at t' (length hs * 3) (token_row 4 f e))) n
          ∙ cleared-left t (put_at t' (length hs * 3) (token_row 4 f e)) (hs ++ (token_row 4 f e ∷ [])) (lent_both t t' (put_at t' (length hs * 3) (token_row 4 f e)) l k) g (omega (arith, h, l.len, n)))
