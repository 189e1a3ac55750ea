-- What a census that says `Simple` shuts out. Assumes nothing.
use Rattle.lists.proofs.Prelude.{ℕ, zero, suc, ◌+◌, ◌-◌, ◌≤◌, ◌<◌, ◌≡◌, refl, sym, ap, ◌∙◌, subst, Bool, true, false, List, [], ◌∷◌, arith, length, leb, leb-false, le-leb, lt-leb, pick}
use Rattle.lists.specs.Same.{same}
use Rattle.lists.proofs.Tests.{never}
use Rattle.lexer.specs.Token.{Prop, Tok, start, end, node, prop, End, done, broken}
use Rattle.tables.specs.Numbers.{depth_limit}
use Rattle.parser.specs.Game.{Game, is, no_game, props, props_named, GM, game_vals, game_props}
use Rattle.parser_census.specs.LocalsCensus.{on_start, on_end, on_last, on_kind, on_prop, total, census_at, census_on}
use Rattle.parser_census.specs.declared.Mode.{Mode}
use Rattle.parser_census.specs.declared.Mode.TheVariants.{Outside, First, Root, Typed, Node, Opened, Bare, Full, Odd}
use Rattle.parser_census.proofs.OddMode.{odd-stays}
use Rattle.std.specs.Prelude.{Option, Some, None}
use Rattle.lists.proofs.Parts.{some-four}

module _ (ct cn cp cv : ℕ) (e : End) where
  -- from this state on the census says so
  abbrev pub Says : Mode → (d t n p v : ℕ) → List Tok → Type 0
  Says m d t n p v ts = census_on m d t n p v ts e ≡ Some (ct, cn, cp, cv)

  pub odd-never : {A : Type 0} (d t n p v : ℕ) (ts : List Tok) → Says Odd d t n p v ts → A
  odd-never d t n p v ts h = let z : ◌≡◌ {A = Option (ℕ × ℕ × ℕ × ℕ)} None (Some (ct, cn, cp, cv)) = sym (odd-stays d t n p v ts e) ∙ h in never cc

  -- a mode that is odd
  pub odd-mode : {A : Type 0} (m : Mode) (d t n p v : ℕ) (ts : List Tok) → m ≡ Odd → Says m d t n p v ts → A
  odd-mode m d t n p v ts q h = odd-never d t n p v ts (subst (λ (z : Mode). Says z d t n p v ts) q h)

  -- a start is not too deep
  pub says-start : (m : Mode) (d t n p v o : ℕ) (ts : List Tok) → Says m d t n p v (start o ∷ ts) → (d < depth_limit) × Says (on_start m) (d + 1) t n p v ts
  says-start m d t n p v o ts h = go (leb depth_limit d) refl h
    where
      go : (b : Bool) → leb depth_limit d ≡ b → Says (pick b Odd (on_start m)) (d + 1) t n p v ts → (d < depth_limit) × Says (on_start m) (d + 1) t n p v ts
      go true q w = odd-never (d + 1) t n p v ts w
      go false q w = (leb-false depth_limit d q, w)

  -- an end
  pub says_last : (m : Mode) (d t n p v o : ℕ) (ts : List Tok) → d ≤ 1 → Says m d t n p v (end o ∷ ts) → Says (on_last m) 0 (t + 1) n p v ts
  says_last m d t n p v o ts l h = sym (ap (λ (b : Bool). pick b (census_on (on_last m) 0 (t + 1) n p v ts e) (census_on (on_end m) (d - 1) t n p v ts e)) (le-leb d 1 l)) ∙ h

  pub says-end : (m : Mode) (d t n p v o : ℕ) (ts : List Tok) → Says m (suc (suc d)) t n p v (end o ∷ ts) → Says (on_end m) (suc d) t n p v ts
  says-end m d t n p v o ts h =
      let q : suc (suc d) - 1 ≡ suc d = omega arith in
      subst (λ (z : ℕ). Says (on_end m) z t n p v ts) q
      (sym (ap (λ (b : Bool). pick b (census_on (on_last m) 0 (t + 1) n p v ts e) (census_on (on_end m) (suc (suc d) - 1) t n p v ts e)) (lt-leb (suc (suc d)) 1 (omega arith))) ∙ h)

  -- at the end: outside, with at least one tree, and no fault
  pub says_none : (m : Mode) (d t n p v : ℕ) → Says m d t n p v [] → (m ≡ Outside) × (e ≡ done) × (0 < t) × (ct ≡ t) × (cn ≡ n) × (cp ≡ p) × (cv ≡ v)
  says_none m d t n p v h = go e refl m t h
    where
      go : (f : End) → e ≡ f → (m : Mode) (t : ℕ) → census_at f (total m t n p v) ≡ Some (ct, cn, cp, cv) → (m ≡ Outside) × (e ≡ done) × (0 < t) × (ct ≡ t) × (cn ≡ n) × (cp ≡ p) × (cv ≡ v)
      go (broken f s) q m t w = never cc
      go done q Outside zero w = never cc
      go done q Outside (suc t) w =
          let x = some-four w in
          (refl, q, omega arith, sym x.0, sym x.1, sym x.2, sym x.3)
      go done q First t w = never cc
      go done q Root t w = never cc
      go done q Typed t w = never cc
      go done q Node t w = never cc
      go done q Opened t w = never cc
      go done q Bare t w = never cc
      go done q Full t w = never cc
      go done q Odd t w = never cc

  -- ---- the game type of the root

  pub typed-no-more : (ts : List Tok) (d t n p v : ℕ) → Says Typed d t n p v ts → props_named GM (props ts) ≡ []
  typed-no-more [] d t n p v h = refl
  typed-no-more (start o ∷ ts) d t n p v h = refl
  typed-no-more (end o ∷ ts) d t n p v h = refl
  typed-no-more (node o ∷ ts) d t n p v h = refl
  typed-no-more (prop q o ∷ ts) d t n p v h = go (same q.name GM) (typed-no-more ts d t n (p + 1) (v + length q.vals)) h
    where
      go : (b : Bool) → (Says Typed d t n (p + 1) (v + length q.vals) ts → props_named GM (props ts) ≡ []) → Says (on_prop Typed b q.vals) d t n (p + 1) (v + length q.vals) ts → pick b (q ∷ props_named GM (props ts)) (props_named GM (props ts)) ≡ []
      go true ih w = odd-never d t n (p + 1) (v + length q.vals) ts w
      go false ih w = ih w

  pub root-is-go : (ts : List Tok) (d t n p v : ℕ) → Says Root d t n p v ts → game_props (props_named GM (props ts)) ≡ is 0
  root-is-go [] d t n p v h = refl
  root-is-go (start o ∷ ts) d t n p v h = refl
  root-is-go (end o ∷ ts) d t n p v h = refl
  root-is-go (node o ∷ ts) d t n p v h = refl
  root-is-go (prop q o ∷ ts) d t n p v h = go (same q.name GM) (root-is-go ts d t n (p + 1) (v + length q.vals)) h
    where
      games : (k : Game) → game_vals q.vals ≡ k → Says (on_kind k) d t n (p + 1) (v + length q.vals) ts → game_props (q ∷ props_named GM (props ts)) ≡ is 0
      games (is zero) r w = ap (λ (z : List Prop). game_props (q ∷ z)) (typed-no-more ts d t n (p + 1) (v + length q.vals) w) ∙ r
      games (is (suc k)) r w = odd-never d t n (p + 1) (v + length q.vals) ts w
      games (no_game s) r w = odd-never d t n (p + 1) (v + length q.vals) ts w

      go : (b : Bool) → (Says Root d t n (p + 1) (v + length q.vals) ts → game_props (props_named GM (props ts)) ≡ is 0) → Says (on_prop Root b q.vals) d t n (p + 1) (v + length q.vals) ts → game_props (pick b (q ∷ props_named GM (props ts)) (props_named GM (props ts))) ≡ is 0
      go true ih w = games (game_vals q.vals) refl w
      go false ih w = ih w
