-- A walk that is not too deep goes as the definition's without the limit, and lenient reading refuses nothing. Assumes nothing.
use Rattle.lists.proofs.Prelude.{ℕ, suc, ◌≤◌, ◌<◌, ◌≡◌, refl, ap, ◌∙◌, Bool, true, false, List, [], ◌∷◌, arith, length, le-leb, pick}
use Rattle.lists.proofs.Pick.{pick-elim}
use Rattle.lexer.specs.Token.{Tok, start, end, node, prop}
use Rattle.tables.specs.Numbers.{depth_limit}
use Rattle.tables.specs.Record.{Node}
use Rattle.tables.specs.declared.Reason.{Reason}
use Rattle.tables.specs.declared.Reason.TheVariants.{UnexpectedGameTreeEnd, UnexpectedGameTreeStart, UnexpectedProperty, TooDeep}
use Rattle.parser.specs.Walk.{Walk, walk, halted, stopped, children, refuse, opens, walks, walked}
use Rattle.parser.specs.LocalsSlice.{Shallow}
use Rattle.parser_tree.specs.LocalsTree.{Run, limited, nodes_after, run_on, runs}

-- no token ahead goes too deep
abbrev pub Within : Walk → List Tok → Type 0
Within (walk cur st g ns) ts = Shallow (length st) ts
Within (halted ns) ts = Unit {0}
Within (stopped r) ts = Unit {0}

refuse-within : (len : Bool) (r : Reason) (ns : List Node) (ts : List Tok) → Within (refuse len r ns) ts
refuse-within true r ns ts = tt
refuse-within false r ns ts = tt

-- the limit says nothing of what is refused
refuse-limited : (len : Bool) (o : ℕ) (r : Reason) (ns : List Node) → limited (start o) (refuse len r ns) ≡ refuse len r ns
refuse-limited true o r ns = refl
refuse-limited false o r ns = refl

limited-halted : (t : Tok) (ns : List Node) → limited t (halted ns) ≡ halted ns
limited-halted (start o) ns = refl
limited-halted (end o) ns = refl
limited-halted (node o) ns = refl
limited-halted (prop p e) ns = refl

limited-stopped : (t : Tok) (r : Reason) → limited t (stopped r) ≡ stopped r
limited-stopped (start o) r = refl
limited-stopped (end o) r = refl
limited-stopped (node o) r = refl
limited-stopped (prop p e) r = refl

walk-limited : (o cur : ℕ) (st : List ℕ) (g : Bool) (ns : List Node) → length st ≤ depth_limit → limited (start o) (walk cur st g ns) ≡ walk cur st g ns
walk-limited o cur st g ns h = ap (λ (b : Bool). pick b (walk cur st g ns) (stopped TooDeep)) (le-leb (length st) depth_limit h)

module _ (len : Bool) (base : ℕ) where
  -- a token goes as without the limit
  Goes : Tok → List Tok → Walk → Type 0
  Goes t ts w = (limited t w ≡ w) × Within w ts

  goes-start : (o cur : ℕ) (st : List ℕ) (ns : List Node) (ts : List Tok) → length st < depth_limit → Shallow (suc (length st)) ts → Goes (start o) ts (opens len cur st ns)
  unfolding Goes
  goes-start o cur [] ns ts h s = (walk-limited o cur (cur ∷ []) false ns (omega arith), s)
  goes-start o cur (p ∷ st) ns ts h s =
      pick-elim (Goes (start o) ts) (children p ns) (λ _. (walk-limited o cur (cur ∷ p ∷ st) false ns (omega arith), s))
      (λ _. (refuse-limited len o UnexpectedGameTreeStart ns, refuse-within len UnexpectedGameTreeStart ns ts))

  goes_on : (w : Walk) (t : Tok) (ts : List Tok) → Within w (t ∷ ts) → Goes t ts (walks len base w t)
  unfolding Goes Shallow
  goes_on (walk cur st g ns) (start o) ts h = goes-start o cur st ns ts h.0 h.1
  goes_on (walk cur [] g ns) (end o) ts h = (refl, refuse-within len UnexpectedGameTreeEnd ns ts)
  goes_on (walk cur (p ∷ st) g ns) (end o) ts h = (refl, h)
  goes_on (walk cur st g ns) (node o) ts h = (refl, h)
  goes_on (walk cur st false ns) (prop p e) ts h = (refl, refuse-within len UnexpectedProperty ns ts)
  goes_on (walk cur st true []) (prop p e) ts h = (refl, refuse-within len UnexpectedProperty [] ts)
  goes_on (walk cur st true (n ∷ ns)) (prop p e) ts h = (refl, h)
  goes_on (halted ns) t ts h = (limited-halted t ns, tt)
  goes_on (stopped r) t ts h = (limited-stopped t r, tt)

  pub run-walked : (ts : List Tok) (r : Run) → Within r.walk ts → (runs len base r ts).walk ≡ walked len base r.walk ts
  unfolding Goes
  run-walked [] r h = refl
  run-walked (t ∷ ts) r h =
      let s = goes_on r.walk t ts h in
      ap (λ (z : Walk). (runs len base (run_on r z) ts).walk) s.0 ∙ run-walked ts (run_on r (walks len base r.walk t)) s.1

  -- the nodes are those of the walk, unless it is refused
  after-again : (ns : List Node) (w : Walk) → nodes_after (nodes_after ns w) w ≡ nodes_after ns w
  after-again ns (walk cur st g ms) = refl
  after-again ns (halted ms) = refl
  after-again ns (stopped r) = refl

  pub run-nodes : (ts : List Tok) (r : Run) → nodes_after r.nodes r.walk ≡ r.nodes → nodes_after (runs len base r ts).nodes (runs len base r ts).walk ≡ (runs len base r ts).nodes
  run-nodes [] r h = h
  run-nodes (t ∷ ts) r h = run-nodes ts (run_on r (limited t (walks len base r.walk t))) (after-again r.nodes (limited t (walks len base r.walk t)))

-- ---- lenient reading refuses nothing

abbrev pub Mild : Walk → Type 0
Mild (walk cur st g ns) = Unit {0}
Mild (halted ns) = Unit {0}
Mild (stopped r) = ⊥

mild-walks : (base : ℕ) (w : Walk) (t : Tok) → Mild w → Mild (walks true base w t)
mild-walks base (walk cur [] g ns) (start o) h = tt
mild-walks base (walk cur (p ∷ st) g ns) (start o) h = pick-elim Mild (children p ns) (λ _. tt) (λ _. tt)
mild-walks base (walk cur [] g ns) (end o) h = tt
mild-walks base (walk cur (p ∷ st) g ns) (end o) h = tt
mild-walks base (walk cur st g ns) (node o) h = tt
mild-walks base (walk cur st false ns) (prop p e) h = tt
mild-walks base (walk cur st true []) (prop p e) h = tt
mild-walks base (walk cur st true (n ∷ ns)) (prop p e) h = tt
mild-walks base (halted ns) t h = tt
mild-walks base (stopped r) t h = absurd h

pub mild-walked : (base : ℕ) (ts : List Tok) (w : Walk) → Mild w → Mild (walked true base w ts)
mild-walked base [] w h = h
mild-walked base (t ∷ ts) w h = mild-walked base ts (walks true base w t) (mild-walks base w t h)
