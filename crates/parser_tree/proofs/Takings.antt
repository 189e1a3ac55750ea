-- The values of a property, one a turn. Assumes nothing.
use Rattle.lists.proofs.Prelude.{ℕ, ◌+◌, ◌-◌, ◌*◌, ◌≤◌, ◌≡◌, refl, sym, ap, ◌∙◌, List, [], ◌∷◌, ◌++◌, append_assoc, append-nil, arith, length, length-append, slice}
use Rattle.lists.specs.Put.{PutWhole}
use Rattle.lexer.specs.Token.{Val}
use Rattle.lexer_scan.specs.Scan.{value_step_at, values_end_at}
use Rattle.lexer.specs.Step.{vals_on, vals_by, vals_at}
use Rattle.lexer_scan.specs.declared.ValueStep.TheVariants.{Value, NoMore, Unclosed}
use Rattle.lexer_scan.proofs.Bounds.{value-is}
use Rattle.lexer_scan.proofs.Values.{values-more, values-none, values-unclosed}
use Rattle.lexer.proofs.Listed.{vals-more, vals-none}
use Rattle.tables.specs.Rows.{val_rows}
use Rattle.tables.specs.Columns.{value_stride}
use Rattle.parser_tree.specs.LocalsTurns.{end_or, TakenIs}
use Rattle.parser_tree.specs.LocalsTree.{put_rows, val_lists}
use Rattle.parser_tree.specs.declared.Taken.{Taken}
use Rattle.parser_tree.proofs.Rowed.{row-whole, rows_append, rows-one, rows_none, rows_long, val-lists-append}
use Rattle.parser_tree.proofs.Laid.{vals-long}

vals-open : (u : List ℕ) (i : ℕ) → value_step_at u i ≡ Unclosed → vals_at u i ≡ []
unfolding vals_at vals_by
vals-open u i q = ap (vals_on (vals_by (length u) u) u) q

-- vs are taken, those from i on are to come
pub record Taking (u : List ℕ) (from v0 : ℕ) (t₀ t : List ℕ) (i v : ℕ) : Type 0 where
  pub vs : List Val
  pub all : vals_at u from ≡ vs ++ vals_at u i
  pub same : values_end_at u from ≡ values_end_at u i
  pub count : v ≡ v0 + length vs
  pub rows : t ≡ put_rows t₀ (v0 * value_stride) (val_lists (val_rows vs))
  pub low : v + from ≤ v0 + i
  pub inside : i ≤ length u

pub taking-first : (u : List ℕ) (from v0 : ℕ) (t : List ℕ) → from ≤ length u → Taking u from v0 t t from v0
taking-first u from v0 t h = record { vs = []; all = refl; same = refl; count = omega arith; rows = sym (rows_none t (v0 * value_stride)); low = omega arith; inside = h }

module _ {u : List ℕ} {from v0 : ℕ} {t₀ t : List ℕ} {i v : ℕ} (x : Taking u from v0 t₀ t i v) where
  pub taking-more : (a e n : ℕ) → value_step_at u i ≡ Value a e n → {t2 : List ℕ} → PutWhole t (v * value_stride) (a ∷ e ∷ []) t2 → Taking u from v0 t₀ t2 n (v + 1)
  taking-more a e n h {t2} w =
      let y : Val = record { from = a; to = e; raw = slice a e u } in
      let b = value-is u i a e n h in
      let lo = x.low in
      let co = x.count in
      let l = length-append x.vs (y ∷ []) in
      record {
        vs = x.vs ++ (record { from = a; to = e; raw = slice a e u } ∷ []);
        all = x.all ∙ ap (λ (z : List Val). x.vs ++ z) (vals-more u i a e n h) ∙ sym (append_assoc x.vs (record { from = a; to = e; raw = slice a e u } ∷ []) (vals_at u n));
        same = x.same ∙ values-more u i a e n h;
        count = omega arith;
        rows =
            row-whole w
            ∙ sym (rows-one t (v * value_stride) (a ∷ e ∷ []))
            ∙ ap (λ (z : List ℕ). put_rows z (v * value_stride) ((a ∷ e ∷ []) ∷ [])) x.rows
            ∙ sym (rows_append t₀ (v0 * value_stride) (val_lists (val_rows x.vs)) ((a ∷ e ∷ []) ∷ []) (omega (arith, vals-long x.vs)))
            ∙ ap (put_rows t₀ (v0 * value_stride)) (sym (val-lists-append x.vs (record { from = a; to = e; raw = slice a e u } ∷ [])));
        low = omega arith;
        inside = omega arith;
      }

  -- the table is as long as before
  pub taking-long : length t ≡ length t₀
  taking-long = ap length x.rows ∙ rows_long t₀ (v0 * value_stride) (val_lists (val_rows x.vs))

  -- no more of them
  taking-all : vals_at u i ≡ [] → {end : ℕ} → end ≡ end_or (length u) (values_end_at u i) → i ≤ end → end ≤ length u → TakenIs u from v0 t₀ t (record { next = v; end = end })
  taking-all h e le l =
      let a : vals_at u from ≡ x.vs = x.all ∙ ap (λ (z : List Val). x.vs ++ z) h ∙ append-nil x.vs in
      let lo = x.low in
      record {
        ends = e ∙ ap (end_or (length u)) (sym x.same);
        next = x.count ∙ ap (λ (z : List Val). v0 + length z) (sym a);
        rows = x.rows ∙ ap (λ (z : List Val). put_rows t₀ (v0 * value_stride) (val_lists (val_rows z))) (sym a);
        low = omega arith;
        inside = l;
      }

  pub taking-end : value_step_at u i ≡ NoMore → TakenIs u from v0 t₀ t (record { next = v; end = i })
  taking-end h = taking-all (vals-none u i h) (sym (ap (end_or (length u)) (values-none u i h))) (omega arith) x.inside

  pub taking-unclosed : value_step_at u i ≡ Unclosed → TakenIs u from v0 t₀ t (record { next = v; end = length u })
  taking-unclosed h = taking-all (vals-open u i h) (sym (ap (end_or (length u)) (values-unclosed u i h))) x.inside (omega arith)

-- how many were taken
pub taken-count : {u : List ℕ} {k v0 : ℕ} {w w' : List ℕ} {r : Taken} → TakenIs u k v0 w w' r → r.next - v0 ≡ length (vals_at u k)
taken-count x = let n = x.next in omega arith

pub taken-long : {u : List ℕ} {k v0 : ℕ} {w w' : List ℕ} {r : Taken} → TakenIs u k v0 w w' r → length w' ≡ length w
taken-long {u} {k} {v0} {w} {w'} {r} x = ap length x.rows ∙ rows_long w (v0 * value_stride) (val_lists (val_rows (vals_at u k)))
