-- Why the strict walk of a slice is refused: 10 and 11 as the scope says, and never 6. Assumes nothing.
use Rattle.lists.proofs.Prelude.{ℕ, suc, ◌+◌, ◌<◌, ◌≡◌, refl, sym, ap, ◌∙◌, subst, Bool, true, false, inr, List, [], ◌∷◌, ◌++◌, append_assoc, append-nil, arith, length, pick}
use Rattle.lexer.specs.Token.{Prop, Tok, start, end, node, prop}
use Rattle.tables.specs.Numbers.{none}
use Rattle.tables.specs.Record.{Node}
use Rattle.tables.specs.declared.Reason.TheVariants.{UnexpectedGameTreeStart, UnexpectedProperty}
use Rattle.parser.specs.Game.{is, find_gametype}
use Rattle.parser.specs.Walk.{Walk, walk, halted, stopped, children, walks, walked}
use Rattle.parser.proofs.Runs.{walked-append, stopped-stays}
use Rattle.parser.specs.Balance.{Covered}
use Rattle.reader_exactly.specs.When.{nodes}
use Rattle.reader_exactly.proofs.Games.{Refuses}

-- a node with one property more
abbrev added : Node → Prop → Node
added n p = record { parent = n.parent; props = n.props ++ (p ∷ []) }

nodes-append : (u v : List Tok) → nodes (u ++ v) ≡ nodes u + nodes v
nodes-append [] v = omega arith
nodes-append (start o ∷ u) v = nodes-append u v
nodes-append (end o ∷ u) v = nodes-append u v
nodes-append (node o ∷ u) v = omega (arith, nodes-append u v)
nodes-append (prop p e ∷ u) v = nodes-append u v

-- where a property may follow there is a node
abbrev Open : Bool → List Node → Type 0
Open false ns = Unit {0}
Open true ns = 0 < length ns

module _ (base : ℕ) (s : List Tok) (k : ℕ) (typed : find_gametype s ≡ is k) where
  abbrev run : Walk → List Tok → Walk
  run w v = walked false base w v

  abbrev new : Walk
  new = walk none [] false []

  -- it is refused with reason; or it made the slice's nodes
  abbrev pub WalkWhy : Walk → Type 0
  WalkWhy (walk cur st g ns) = length ns ≡ nodes s
  WalkWhy (halted ns) = ⊥
  WalkWhy (stopped r) = Refuses base s r

  module _ (u : List Tok) (t : Tok) where
    abbrev past : List Tok
    past = u ++ (t ∷ [])

    on : (v : List Tok) → s ≡ u ++ (t ∷ v) → s ≡ past ++ v
    on v e = e ∙ sym (append_assoc u (t ∷ []) v)

    to : (w : Walk) → run new u ≡ w → run new past ≡ walks false base w t
    to w h = walked-append false base new u (t ∷ []) ∙ ap (λ (z : Walk). walks false base z t) h

  walk-why : (v u : List Tok) → s ≡ u ++ v → (cur : ℕ) (st : List ℕ) (g : Bool) (ns : List Node) → run new u ≡ walk cur st g ns → Open g ns
      → length ns ≡ nodes u → Covered (length st) v → WalkWhy (run (walk cur st g ns) v)
  walk-why [] u e cur st g ns h q m cv = m ∙ sym (ap nodes (e ∙ append-nil u))
  walk-why (start o ∷ v) u e cur [] g ns h q m cv =
      walk-why v (past u (start o)) (on u (start o) v e) cur (cur ∷ []) false ns (to u (start o) (walk cur [] g ns) h) tt (omega (arith, m, nodes-append u (start o ∷ []))) (λ k. omega (arith, cv (suc k)))
  walk-why (start o ∷ v) u e cur (y ∷ st) g ns h q m cv =
      go (children y ns) refl
      (λ h2. walk-why v (past u (start o)) (on u (start o) v e) cur (cur ∷ y ∷ st) false ns h2 tt (omega (arith, m, nodes-append u (start o ∷ []))) (λ k. omega (arith, cv (suc k))))
    where
      go : (b : Bool) → children y ns ≡ b
          → (run new (past u (start o)) ≡ walk cur (cur ∷ y ∷ st) false ns → WalkWhy (run (walk cur (cur ∷ y ∷ st) false ns) v))
          → WalkWhy (run (pick b (walk cur (cur ∷ y ∷ st) false ns) (stopped UnexpectedGameTreeStart)) v)
      go true f ih =
          ih (to u (start o) (walk cur (y ∷ st) g ns) h ∙ ap (λ (b : Bool). pick b (walk cur (cur ∷ y ∷ st) false ns) (stopped UnexpectedGameTreeStart)) f)
      go false f ih =
          subst WalkWhy (sym (stopped-stays false base UnexpectedGameTreeStart v))
          (u, o, cur, y, st, g, ns, record { type = k; typed = typed; rest = v; are = e; walked_to = h }, f)
  walk-why (end o ∷ v) u e cur [] g ns h q m cv = absurd (omega (arith, cv 1))
  walk-why (end o ∷ v) u e cur (y ∷ st) g ns h q m cv =
      walk-why v (past u (end o)) (on u (end o) v e) y st false ns (to u (end o) (walk cur (y ∷ st) g ns) h) tt (omega (arith, m, nodes-append u (end o ∷ []))) (λ k. omega (arith, cv (suc k)))
  walk-why (node o ∷ v) u e cur st g ns h q m cv =
      walk-why v (past u (node o)) (on u (node o) v e) (base + length ns) st true (record { parent = cur; props = [] } ∷ ns) (to u (node o) (walk cur st g ns) h)
      (omega arith) (omega (arith, m, nodes-append u (node o ∷ []))) (λ k. cv (suc k))
  walk-why (prop p x ∷ v) u e cur st false ns h q m cv =
      subst WalkWhy (sym (stopped-stays false base UnexpectedProperty v))
      (inr (u, p, x, cur, st, ns, record { type = k; typed = typed; rest = v; are = e; walked_to = h }))
  walk-why (prop p x ∷ v) u e cur st true [] h q m cv = absurd (omega (arith, q))
  walk-why (prop p x ∷ v) u e cur st true (n ∷ ns) h q m cv =
      walk-why v (past u (prop p x)) (on u (prop p x) v e) cur st true (added n p ∷ ns) (to u (prop p x) (walk cur st true (n ∷ ns)) h)
      (omega arith) (omega (arith, m, nodes-append u (prop p x ∷ []))) (λ k. cv (suc k))

  pub walked-why : Covered 0 s → WalkWhy (walked false base (walk none [] false []) s)
  walked-why cv = walk-why s [] refl none [] false [] refl tt refl cv
