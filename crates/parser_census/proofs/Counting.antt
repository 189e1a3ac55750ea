-- The values of a property, counted one a turn. Assumes nothing.
use Rattle.lists.proofs.Prelude.{ℕ, ◌+◌, ◌≤◌, ◌<◌, ◌≡◌, refl, sym, ap, ◌∙◌, subst⁻¹, false, List, [], ◌∷◌, ◌++◌, append_assoc, append-nil, arith, length, length-append, get_or, slice}
use Rattle.lexer.specs.Token.{Val}
use Rattle.lexer_scan.specs.Scan.{space, value_step_at, values_end_at}
use Rattle.lexer.specs.Step.{vals_at}
use Rattle.lexer_scan.specs.declared.ValueStep.TheVariants.{Value, NoMore, Unclosed}
use Rattle.lexer_scan.proofs.Bounds.{value-is}
use Rattle.lexer_scan.proofs.Values.{values-more, values-none, values-unclosed}
use Rattle.lexer.proofs.Listed.{vals-more, vals-none}
use Rattle.lexer_laws.proofs.Rest.{skip-stops}
use Rattle.parser_census.specs.LocalsCount.{ValuesCountIs}
use Rattle.std.specs.Prelude.{None}

-- vs are counted, those from i on are to come
pub record Counting (u : List ℕ) (from i n : ℕ) : Type 0 where
  pub vs : List Val
  pub all : vals_at u from ≡ vs ++ vals_at u i
  pub same : values_end_at u from ≡ values_end_at u i
  pub count : n ≡ length vs
  pub low : n + from ≤ i
  pub inside : i ≤ length u
  pub still : space (get_or u i 0) ≡ false

pub counting-first : (u : List ℕ) (from : ℕ) → from < length u → space (get_or u from 0) ≡ false → Counting u from from 0
counting-first u from h s = record { vs = []; all = refl; same = refl; count = refl; low = omega arith; inside = omega (arith, h); still = s }

module _ {u : List ℕ} {from i n : ℕ} (x : Counting u from i n) where
  pub counting_more : (a e j : ℕ) → value_step_at u i ≡ Value a e j → Counting u from j (n + 1)
  counting_more a e j h =
      let b = value-is u i a e j h in
      let lo = x.low in
      let co = x.count in
      let l = length-append x.vs (record { from = a; to = e; raw = slice a e u } ∷ []) in
      record {
        vs = x.vs ++ (record { from = a; to = e; raw = slice a e u } ∷ []);
        all = x.all ∙ ap (λ (z : List Val). x.vs ++ z) (vals-more u i a e j h) ∙ sym (append_assoc x.vs (record { from = a; to = e; raw = slice a e u } ∷ []) (vals_at u j));
        same = x.same ∙ values-more u i a e j h;
        count = omega arith;
        low = omega arith;
        inside = omega arith;
        still = subst⁻¹ (λ (z : ℕ). space (get_or u z 0) ≡ false) b.next (skip-stops u (e + 1));
      }

  pub counting-end : value_step_at u i ≡ NoMore → ValuesCountIs u from n i
  counting-end h =
      let e : vals_at u from ≡ x.vs = x.all ∙ ap (λ (z : List Val). x.vs ++ z) (vals-none u i h) ∙ append-nil x.vs in
      record { ends = x.same ∙ values-none u i h; count = x.count ∙ ap length (sym e); still = x.still }

  pub counting-open : value_step_at u i ≡ Unclosed → values_end_at u from ≡ None
  counting-open h = x.same ∙ values-unclosed u i h
