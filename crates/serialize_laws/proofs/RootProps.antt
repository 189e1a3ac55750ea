-- The root's properties are the properties that follow the first two tokens of a slice. Assumes nothing.
use Rattle.lists.proofs.Prelude.{◌≡◌, refl, sym, ap, ◌∙◌, subst, ℕ, ◌+◌, Bool, true, false, List, [], ◌∷◌, ◌++◌, append_assoc, append-nil, length, drop, pick}
use Rattle.lexer.specs.Token.{Prop, Tok, end, node, prop, start}
use Rattle.parser.specs.Game.{props}
use Rattle.parser.specs.Walk.{Walk, adds, children, halted, stopped, walk, walked}
use Rattle.serialize_laws.proofs.Closing.{Closes}
use Rattle.tables.specs.Numbers.{none}
use Rattle.tables.specs.Record.{Node}
use Rattle.tables.specs.declared.Reason.{Reason}
use Rattle.tables.specs.declared.Reason.TheVariants.{UnexpectedGameTreeEnd, UnexpectedGameTreeStart, UnexpectedProperty}

-- of the nodes, last first
abbrev pub root_props : List Node → List Prop
root_props [] = []
root_props (n ∷ []) = n.props
root_props (n ∷ m ∷ ds) = root_props (m ∷ ds)

-- what the root is still to get
abbrev due : Bool → List Node → List Tok → List Prop
due g [] ts = []
due false (n ∷ ds) ts = []
due true (n ∷ []) ts = props ts
due true (n ∷ m ∷ ds) ts = []

abbrev pub RootIs : List Prop → Walk → Type 0
RootIs R (walk cur st g []) = Unit {0}
RootIs R (walk cur st g (n ∷ ds)) = root_props (n ∷ ds) ≡ R
RootIs R (halted ns) = Unit {0}
RootIs R (stopped n) = Unit {0}

module _ (base : ℕ) where
  stopped-is : (R : List Prop) (n : Reason) (ts : List Tok) → RootIs R (walked false base (stopped n) ts)
  stopped-is R n [] = tt
  stopped-is R n (t ∷ ts) = stopped-is R n ts

  -- a token that is no property ends what is due
  no_due : (g : Bool) (ds : List Node) (t : Tok) (ts : List Tok) → props (t ∷ ts) ≡ [] → due g ds (t ∷ ts) ≡ []
  no_due g [] t ts e = refl
  no_due false (n ∷ ds) t ts e = refl
  no_due true (n ∷ []) t ts e = e
  no_due true (n ∷ m ∷ ds) t ts e = refl

  moved_on : (g g2 : Bool) (ds ds2 : List Node) (t : Tok) (ts : List Tok) (w : Walk) → props (t ∷ ts) ≡ [] → root_props ds2 ≡ root_props ds → due g2 ds2 ts ≡ []
      → RootIs (root_props ds2 ++ due g2 ds2 ts) w → RootIs (root_props ds ++ due g ds (t ∷ ts)) w
  moved_on g g2 ds ds2 t ts w e r d h = rw (no_due g ds t ts e, ← r) (rw d at h)

  due-nil : (g : Bool) (ds : List Node) → due g ds [] ≡ []
  due-nil g [] = refl
  due-nil false (n ∷ ds) = refl
  due-nil true (n ∷ []) = refl
  due-nil true (n ∷ m ∷ ds) = refl

  abbrev Runs : ℕ → List ℕ → Bool → Node → List Node → List Tok → Type 0
  Runs cur st g n ds ts = RootIs (root_props (n ∷ ds) ++ due g (n ∷ ds) ts) (walked false base (walk cur st g (n ∷ ds)) ts)

  run-start : (cur o : ℕ) (st : List ℕ) (g : Bool) (n : Node) (ds : List Node) (ts : List Tok) → ((st2 : List ℕ) → Runs cur st2 false n ds ts) → Runs cur st g n ds (start o ∷ ts)
  run-start cur o [] g n ds ts k =
      moved_on g false (n ∷ ds) (n ∷ ds) (start o) ts (walked false base (walk cur (cur ∷ []) false (n ∷ ds)) ts) refl refl refl (k (cur ∷ []))
  run-start cur o (p ∷ st) g n ds ts k = go (children p (n ∷ ds))
    where
      go : (b : Bool) → RootIs (root_props (n ∷ ds) ++ due g (n ∷ ds) (start o ∷ ts)) (walked false base (pick b (walk cur (cur ∷ p ∷ st) false (n ∷ ds)) (stopped UnexpectedGameTreeStart)) ts)
      go true = moved_on g false (n ∷ ds) (n ∷ ds) (start o) ts (walked false base (walk cur (cur ∷ p ∷ st) false (n ∷ ds)) ts) refl refl refl (k (cur ∷ p ∷ st))
      go false = stopped-is (root_props (n ∷ ds) ++ due g (n ∷ ds) (start o ∷ ts)) UnexpectedGameTreeStart ts

  grow : Node → Prop → Node
  grow n p = record { parent = n.parent; props = n.props ++ (p ∷ []) }

  run-adds : (cur e : ℕ) (st : List ℕ) (p : Prop) (n : Node) (ds : List Node) (ts : List Tok) → Runs cur st true (grow n p) ds ts
      → RootIs (root_props (n ∷ ds) ++ due true (n ∷ ds) (prop p e ∷ ts)) (walked false base (adds false p cur st (n ∷ ds)) ts)
  unfolding grow
  run-adds cur e st p n [] ts k = subst (λ (R : List Prop). RootIs R (walked false base (walk cur st true (grow n p ∷ [])) ts)) (append_assoc n.props (p ∷ []) (props ts)) k
  run-adds cur e st p n (m ∷ ds) ts k = k

  pub root-run : (cur : ℕ) (st : List ℕ) (g : Bool) (n : Node) (ds : List Node) (ts : List Tok) → Runs cur st g n ds ts
  root-run cur st g n ds [] = sym (append-nil (root_props (n ∷ ds))) ∙ ap (λ (z : List Prop). root_props (n ∷ ds) ++ z) (sym (due-nil g (n ∷ ds)))
  root-run cur st g n ds (start o ∷ ts) = run-start cur o st g n ds ts (λ st2. root-run cur st2 false n ds ts)
  root-run cur [] g n ds (end o ∷ ts) = stopped-is (root_props (n ∷ ds) ++ due g (n ∷ ds) (end o ∷ ts)) UnexpectedGameTreeEnd ts
  root-run cur (p ∷ st) g n ds (end o ∷ ts) =
      moved_on g false (n ∷ ds) (n ∷ ds) (end o) ts (walked false base (walk p st false (n ∷ ds)) ts) refl refl refl (root-run p st false n ds ts)
  root-run cur st g n ds (node o ∷ ts) =
      let k : ℕ = base + length (n ∷ ds) in
      let new : Node = record { parent = cur; props = [] } in
      moved_on g true (n ∷ ds) (new ∷ n ∷ ds) (node o) ts (walked false base (walk k st true (new ∷ n ∷ ds)) ts) refl refl refl (root-run k st true new (n ∷ ds) ts)
  root-run cur st false n ds (prop p e ∷ ts) = stopped-is (root_props (n ∷ ds) ++ due false (n ∷ ds) (prop p e ∷ ts)) UnexpectedProperty ts
  root-run cur st true n ds (prop p e ∷ ts) = run-adds cur e st p n ds ts (root-run cur st true (grow n p) ds ts)

  -- of a slice that begins with `(`
  pub root-slice : (o : ℕ) (ts : List Tok) → Closes 0 ts → RootIs (props (drop 2 (start o ∷ ts))) (walked false base (walk none [] false []) (start o ∷ ts))
  root-slice o [] k = tt
  root-slice o (start o2 ∷ ts) k = stopped-is (props ts) UnexpectedGameTreeStart ts
  root-slice o (end o2 ∷ ts) k = subst (λ (z : List Tok). RootIs (props z) (walked false base (walk none [] false []) z)) (sym k) tt
  root-slice o (node o2 ∷ ts) k = root-run (base + 0) (none ∷ []) true (record { parent = none; props = [] }) [] ts
  root-slice o (prop p e ∷ ts) k = stopped-is (props ts) UnexpectedProperty ts
