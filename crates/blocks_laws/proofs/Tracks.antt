-- The state after bytes is what the machine with contents has come to, between the first and the last character that is no white space, and behind it. Assumes nothing.
use Rattle.lists.proofs.Prelude.{◌≡◌, refl, sym, ap, ap₂, ◌∙◌, subst, subst⁻¹, ℕ, zero, suc, ◌+◌, ◌-◌, ◌*◌, arith, Bool, true, false, List, [], ◌∷◌, ◌++◌, append_assoc, append-nil, eqb, length, length-append, eq-eqb, ne_eqb}
use Rattle.text_chars.specs.White.{white}
use Rattle.text_utf8.specs.Text.{blank, inked, mark, any, holds, Utf, whole, part, bad, later, utf}
use Rattle.text_utf8.proofs.Steps.{place, place_is, utf-both}
use Rattle.lexer.specs.Token.{Tok, St, step, emits, state_after}
use Rattle.lexer.specs.Token as machine
use Rattle.lexer_laws.proofs.Machine.{ends-append, emits-append}
use Rattle.blocks_step.specs.declared.Phase.{Phase}
use Rattle.blocks_step.specs.declared.Phase.TheVariants.{Between}
use Rattle.blocks_step.specs.declared.Moved.{Moved}
use Rattle.blocks_step.specs.Lean.{phase_of, moved_of, moves}
use Rattle.blocks.specs.Room.{rows_at}
use Rattle.blocks_laws.specs.Reading.{token_rows}
use Rattle.blocks_laws.specs.LocalsListed.{Listed, went_on, keeps_all, settles}
use Rattle.blocks_laws.proofs.Leans.{step-lean, step-rows, rows_append}

-- ---- one byte more

-- the phase and the rows after bytes that stand from f on
pub record At (f : ℕ) (xs : List ℕ) (p : Phase) (rs : List (List ℕ)) : Type 0 where
  pub phase : p ≡ phase_of (state_after machine.between f xs)
  pub rows : rs ≡ token_rows (emits machine.between f xs)

pub at_none : (f : ℕ) → At f [] Between []
at_none f = record { phase = refl; rows = refl }

pub at_more : (f : ℕ) (xs : List ℕ) (p : Phase) (rs : List (List ℕ)) (o b : ℕ) → f + length xs ≡ o → At f xs p rs → At f (xs ++ (b ∷ [])) (moves p o b).next (rs ++ rows_at (moves p o b).tokens o)
at_more f xs p rs o b e h =
    let st = state_after machine.between f xs in
    let w : place f xs ≡ o = place_is f xs ∙ e in
    let m : moves p o b ≡ moved_of (step st (place f xs) b) =
    ap₂ (λ (z : Phase) (n : ℕ). moves z n b) h.phase (sym w) ∙ sym (step-lean st (place f xs) b) in
    let q : rows_at (moves p o b).tokens o ≡ token_rows (step st (place f xs) b).toks =
    ap₂ (λ (z : Moved) (n : ℕ). rows_at z.tokens n) m (sym w) ∙ step-rows st (place f xs) b in
    record {
      phase = ap (λ (z : Moved). z.next) m ∙ ap phase_of (sym (ends-append machine.between f xs (b ∷ [])));
      rows = ap₂ (λ (r z : List (List ℕ)). r ++ z) h.rows q
          ∙ sym (rows_append (emits machine.between f xs) (step st (place f xs) b).toks)
          ∙ ap (λ (z : List Tok). token_rows (emits machine.between f xs ++ z)) (sym (append-nil (step st (place f xs) b).toks))
          ∙ ap token_rows (sym (emits-append machine.between f xs (b ∷ [])));
    }

-- ---- what is known after the bytes xs

-- nothing but white space
pub record Start (s : Listed) : Type 0 where
  pub now : At 0 [] s.now s.rows
  pub kept : At 0 [] s.kept s.held

-- a first character that began at p
pub record Fresh (xs : List ℕ) (p : ℕ) (s : Listed) : Type 0 where
  pub pre : List ℕ
  pub mid : List ℕ
  pub is : xs ≡ pre ++ mid
  pub from : length pre ≡ p
  pub kept : At 0 [] s.kept s.held
  pub now : At p mid s.now s.rows

-- ink from f to l, and what follows it
pub record Run (xs : List ℕ) (f l : ℕ) (s : Listed) : Type 0 where
  pub pre : List ℕ
  pub mid : List ℕ
  pub tail : List ℕ
  pub is : xs ≡ pre ++ (mid ++ tail)
  pub from : length pre ≡ f
  pub to : f + length mid ≡ l
  pub kept : At f mid s.kept s.held
  pub now : At f (mid ++ tail) s.now s.rows

-- by UTF-8
abbrev pub Tracks : List ℕ → Utf → Listed → Type 0
Tracks xs (whole blank) s = Start s
Tracks xs (whole (inked f l)) s = Run xs f l s
Tracks xs (part blank p n r c) s = Fresh xs p s
Tracks xs (part (inked f l) p n r c) s = Run xs f l s
Tracks xs (bad p) s = Unit {0}

module _ (xs : List ℕ) (s : Listed) (b : ℕ) (e : s.total ≡ length xs) where
  abbrev o : ℕ
  o = s.total

  abbrev m : Moved
  m = moves s.now s.total b

  fresh_start : (u : Utf) → Start s → Fresh (xs ++ (b ∷ [])) o (went_on u s m)
  fresh_start u h =
      record {
        pre = xs;
        mid = b ∷ [];
        is = refl;
        from = sym e;
        kept = h.kept;
        now = at_more o [] s.now s.rows o b (omega arith) (record { phase = h.now.phase; rows = h.now.rows });
      }

  run-start : (u : Utf) → Start s → Run (xs ++ (b ∷ [])) o (suc o) (keeps_all u s m)
  run-start u h =
      let a = at_more o [] s.now s.rows o b (omega arith) (record { phase = h.now.phase; rows = h.now.rows }) in
      record { pre = xs; mid = b ∷ []; tail = []; is = refl; from = sym e; to = omega arith; kept = a; now = a }

  fresh-more : (u : Utf) (p : ℕ) → Fresh xs p s → Fresh (xs ++ (b ∷ [])) p (went_on u s m)
  fresh-more u p h =
      record {
        pre = h.pre;
        mid = h.mid ++ (b ∷ []);
        is = ap (λ (z : List ℕ). z ++ (b ∷ [])) h.is ∙ append_assoc h.pre h.mid (b ∷ []);
        from = h.from;
        kept = h.kept;
        now = at_more p h.mid s.now s.rows o b (omega (arith, e, h.from, ap length h.is, length-append h.pre h.mid)) h.now;
      }

  run-fresh : (u : Utf) (p : ℕ) → Fresh xs p s → Run (xs ++ (b ∷ [])) p (suc o) (keeps_all u s m)
  run-fresh u p h =
      let l : p + length h.mid ≡ o = omega (arith, e, h.from, ap length h.is, length-append h.pre h.mid) in
      let a = at_more p h.mid s.now s.rows o b l h.now in
      record {
        pre = h.pre;
        mid = h.mid ++ (b ∷ []);
        tail = [];
        is = ap (λ (z : List ℕ). z ++ (b ∷ [])) h.is ∙ append_assoc h.pre h.mid (b ∷ []) ∙ ap (λ (z : List ℕ). h.pre ++ z) (sym (append-nil (h.mid ++ (b ∷ []))));
        from = h.from;
        to = omega (arith, l, length-append h.mid (b ∷ []));
        kept = a;
        now = subst⁻¹ (λ (z : List ℕ). At p z m.next (s.rows ++ rows_at m.tokens o)) (append-nil (h.mid ++ (b ∷ []))) a;
      }

  module _ (f l : ℕ) (h : Run xs f l s) where
    size : f + length (h.mid ++ h.tail) ≡ o
    size = omega (arith, e, h.from, ap length h.is, length-append h.pre (h.mid ++ h.tail))

    more : At f ((h.mid ++ h.tail) ++ (b ∷ [])) m.next (s.rows ++ rows_at m.tokens o)
    more = at_more f (h.mid ++ h.tail) s.now s.rows o b size h.now

    whole_is : xs ++ (b ∷ []) ≡ h.pre ++ ((h.mid ++ h.tail) ++ (b ∷ []))
    whole_is = ap (λ (z : List ℕ). z ++ (b ∷ [])) h.is ∙ append_assoc h.pre (h.mid ++ h.tail) (b ∷ [])

    later-is : (h.mid ++ h.tail) ++ (b ∷ []) ≡ h.mid ++ (h.tail ++ (b ∷ []))
    later-is = append_assoc h.mid h.tail (b ∷ [])

    run-goes : (u : Utf) → Run (xs ++ (b ∷ [])) f l (went_on u s m)
    run-goes u =
        record {
          pre = h.pre;
          mid = h.mid;
          tail = h.tail ++ (b ∷ []);
          is = whole_is ∙ ap (λ (z : List ℕ). h.pre ++ z) later-is;
          from = h.from;
          to = h.to;
          kept = h.kept;
          now = subst (λ (z : List ℕ). At f z m.next (s.rows ++ rows_at m.tokens o)) later-is more;
        }

    run-keeps : (u : Utf) → Run (xs ++ (b ∷ [])) f (suc o) (keeps_all u s m)
    run-keeps u =
        record {
          pre = h.pre;
          mid = (h.mid ++ h.tail) ++ (b ∷ []);
          tail = [];
          is = whole_is ∙ ap (λ (z : List ℕ). h.pre ++ z) (sym (append-nil ((h.mid ++ h.tail) ++ (b ∷ []))));
          from = h.from;
          to = omega (arith, size, length-append (h.mid ++ h.tail) (b ∷ []));
          kept = more;
          now = subst⁻¹ (λ (z : List ℕ). At f z m.next (s.rows ++ rows_at m.tokens o)) (append-nil ((h.mid ++ h.tail) ++ (b ∷ []))) more;
        }

    before : eqb l (suc o) ≡ false
    before = ne_eqb l (suc o) (λ z. absurd (omega (arith, z, size, h.to, length-append h.mid h.tail)))

  ink-start : (w : Bool) → Start s → Tracks (xs ++ (b ∷ [])) (whole (mark w blank o (suc o))) (settles (whole (mark w blank o (suc o))) s m)
  ink-start true h = record { now = h.kept; kept = h.kept }
  ink-start false h = rw (eq-eqb (suc o) (suc o) refl) (run-start (whole (inked o (suc o))) h)

  ink-fresh : (w : Bool) (p : ℕ) → Fresh xs p s → Tracks (xs ++ (b ∷ [])) (whole (mark w blank p (suc o))) (settles (whole (mark w blank p (suc o))) s m)
  ink-fresh true p h = record { now = h.kept; kept = h.kept }
  ink-fresh false p h = rw (eq-eqb (suc o) (suc o) refl) (run-fresh (whole (inked p (suc o))) p h)

  ink-run : (w : Bool) (f l p : ℕ) → Run xs f l s → Tracks (xs ++ (b ∷ [])) (whole (mark w (inked f l) p (suc o))) (settles (whole (mark w (inked f l) p (suc o))) s m)
  ink-run true f l p h = rw (before f l h) (run-goes f l h (whole (inked f l)))
  ink-run false f l p h = rw (eq-eqb (suc o) (suc o) refl) (run-keeps f l h (whole (inked f (suc o))))

  later-fresh : (t : Bool) (p n c : ℕ) → Fresh xs p s → Tracks (xs ++ (b ∷ [])) (later t blank p n c o b) (settles (later t blank p n c o b) s m)
  later-fresh true p zero c h = ink-fresh (white (c * 64 + (b - 0x80))) p h
  later-fresh true p (suc n) c h = fresh-more (part blank p n any (c * 64 + (b - 0x80))) p h
  later-fresh false p n c h = tt

  later-run : (t : Bool) (f l p n c : ℕ) → Run xs f l s → Tracks (xs ++ (b ∷ [])) (later t (inked f l) p n c o b) (settles (later t (inked f l) p n c o b) s m)
  later-run true f l p zero c h = ink-run (white (c * 64 + (b - 0x80))) f l p h
  later-run true f l p (suc n) c h = run-goes f l h (part (inked f l) p n any (c * 64 + (b - 0x80)))
  later-run false f l p n c h = tt

  -- one byte
  pub byte-tracks : (u : Utf) → Tracks xs u s → Tracks (xs ++ (b ∷ [])) (utf u o b) (settles (utf u o b) s m)
  byte-tracks (whole blank) h =
      utf-both (λ (z _ : Utf). Tracks (xs ++ (b ∷ [])) z (settles z s m)) blank blank o o b (ink-start (white b) h) (λ n r c. fresh_start (part blank o n r c) h) tt
  byte-tracks (whole (inked f l)) h =
      utf-both (λ (z _ : Utf). Tracks (xs ++ (b ∷ [])) z (settles z s m)) (inked f l) (inked f l) o o b (ink-run (white b) f l o h) (λ n r c. run-goes f l h (part (inked f l) o n r c)) tt
  byte-tracks (part blank p n r c) h = later-fresh (holds r b) p n c h
  byte-tracks (part (inked f l) p n r c) h = later-run (holds r b) f l p n c h
  byte-tracks (bad p) h = tt
