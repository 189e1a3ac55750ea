-- The game type that a property says: the identifier GM, exactly one value, a number, exactly `1`. Assumes nothing.
use Rattle.lists.proofs.Prelude.{ℕ, ◌+◌, ◌^◌, ◌≤◌, ◌-◌, ◌≡◌, refl, sym, ap, ◌∙◌, Bool, true, false, ◌&&◌, and-false, List, [], ◌∷◌, arith, length, take, drop, slice, length-slice, take-add, drop_at, length-take-le, eqb, eq-eqb, ne_eqb, pick}
use Rattle.std.specs.Cmp.Lexicographic.{pointwise}
use types.Run.{OneOf}
use denote.Enum.Declared.{tag_of}
use Rattle.lists.specs.Same.{same}
use Rattle.values.specs.Read.{read_value}
use Rattle.values.specs.Decimal.{decimal_of}
use Rattle.values.specs.declared.decimal.Number.{Number}
use Rattle.values.specs.declared.decimal.Number.TheVariants.{Bad}
use Rattle.lexer.specs.Token.{Val}
use Rattle.lexer_scan.specs.Scan.{value_step_at}
use Rattle.lexer.specs.Step.{vals_on, vals_by, vals_at}
use Rattle.lexer_scan.specs.declared.ValueStep.{ValueStep}
use Rattle.lexer_scan.specs.declared.ValueStep.TheVariants.{Value}
use Rattle.lexer_scan.specs.contracts.ValueStep as value-step
use Rattle.lexer.proofs.Listed.{vals-more}
use Rattle.tables.specs.declared.Reason.TheVariants.{InvalidGameType}
use Rattle.parser.specs.Game.{is, no_game, is_i32, game_of, game_vals, GM}
use Rattle.parser_game.specs.LocalsGame.{type_of}
use Rattle.parser_game.proofs.Variants.{not-value}
use Rattle.std.specs.Prelude.{Result, Ok, Err}
use Rattle.tables.specs.declared.Reason.{Reason}

-- ---- GM

same_not : (a b : ℕ) (xs : List ℕ) → (length xs ≡ 2 → ⊥) → same xs (a ∷ b ∷ []) ≡ false
same_not a b [] h = refl
same_not a b (x ∷ []) h = and-false (eqb x a)
same_not a b (x ∷ y ∷ []) h = absurd (h refl)
same_not a b (x ∷ y ∷ z ∷ l) h = ap (λ (t : Bool). eqb x a && t) (and-false (eqb y b)) ∙ and-false (eqb x a)

pub gm-not : (s : List ℕ) (i k : ℕ) → i ≤ k → k ≤ length s → (k - i ≡ 2 → ⊥) → false ≡ same (slice i k s) GM
gm-not s i k h g n = sym (same_not 0x47 0x4d (slice i k s) (λ e. n (sym (length-slice i k s g) ∙ e)))

-- slices are compared element by element
pub same-pointwise : (xs ys : List ℕ) → pointwise eqb xs ys ≡ same xs ys
same-pointwise [] [] = refl
same-pointwise [] (y ∷ ys) = refl
same-pointwise (x ∷ xs) [] = refl
same-pointwise (x ∷ xs) (y ∷ ys) = ap (λ (t : Bool). eqb x y && t) (same-pointwise xs ys)

-- ---- a number; exactly `1`

module _ (v : List ℕ) where
  pub game-bad : decimal_of (2 ^ 31 - 1) v ≡ Bad → Err InvalidGameType ≡ type_of (game_of v)
  game-bad e = ap (λ (z : Number). type_of (pick (is_i32 z) (is (pick (same v (0x31 ∷ [])) 0 1)) (no_game InvalidGameType))) (sym e)

  game-good : is_i32 (decimal_of (2 ^ 31 - 1) v) ≡ true → (b : Bool) → b ≡ same v (0x31 ∷ []) → Ok (pick b 0 1) ≡ type_of (game_of v)
  game-good e b q =
      ap (λ (z : Bool). Ok (pick z 0 1)) q
      ∙ ap (λ (z : Bool). type_of (pick z (is (pick (same v (0x31 ∷ [])) 0 1)) (no_game InvalidGameType))) (sym e)

  pub game-go : is_i32 (decimal_of (2 ^ 31 - 1) v) ≡ true → {b : Bool} → b ≡ same v (0x31 ∷ []) → b ≡ true → Ok 0 ≡ type_of (game_of v)
  game-go e {b} q t = ap (λ (z : Bool). Ok (pick z 0 1)) (sym t) ∙ game-good e b q

  pub game-unknown : is_i32 (decimal_of (2 ^ 31 - 1) v) ≡ true → {b : Bool} → b ≡ same v (0x31 ∷ []) → b ≡ false → Ok 1 ≡ type_of (game_of v)
  game-unknown e {b} q t = ap (λ (z : Bool). Ok (pick z 0 1)) (sym t) ∙ game-good e b q

  pub one_none : read_value v ≡ [] → false ≡ same (read_value v) (0x31 ∷ [])
  one_none e = sym (ap (λ (z : List ℕ). same z (0x31 ∷ [])) e)

  pub one-other : (b : ℕ) (l : List ℕ) → read_value v ≡ b ∷ l → (b ≡ 0x31 → ⊥) → false ≡ same (read_value v) (0x31 ∷ [])
  one-other b l e n = sym (ap (λ (z : List ℕ). same z (0x31 ∷ [])) e ∙ ap (λ (z : Bool). z && same l []) (ne_eqb b 0x31 n))

  pub one_more : (b c : ℕ) (l m : List ℕ) → read_value v ≡ b ∷ l → l ≡ c ∷ m → false ≡ same (read_value v) (0x31 ∷ [])
  one_more b c l m e q = sym (ap (λ (z : List ℕ). same z (0x31 ∷ [])) (e ∙ ap (λ (z : List ℕ). b ∷ z) q) ∙ and-false (eqb b 0x31))

  pub one-yes : (b : ℕ) (l : List ℕ) → read_value v ≡ b ∷ l → b ≡ 0x31 → l ≡ [] → true ≡ same (read_value v) (0x31 ∷ [])
  one-yes b l e q n = sym (ap (λ (z : List ℕ). same z (0x31 ∷ [])) (e ∙ ap (λ (z : List ℕ). b ∷ z) n) ∙ ap (λ (z : Bool). z && true) (eq-eqb b 0x31 q))

-- ---- exactly one value

-- a step that found no value
vals-shut : (s : List ℕ) (k : ℕ) {x : ValueStep} → x ≡ value_step_at s k → OneOf (1 ∷ 2 ∷ []) (tag_of value-step.the_type x) → vals_at s k ≡ []
unfolding vals_at vals_by
vals-shut s k {x} e z = ap (vals_on (vals_by (length s) s) s) (sym e) ∙ not-value (vals_by (length s) s) s x z

pub game-none : (s : List ℕ) (k : ℕ) {x : ValueStep} → x ≡ value_step_at s k → OneOf (1 ∷ 2 ∷ []) (tag_of value-step.the_type x) → Err InvalidGameType ≡ type_of (game_vals (vals_at s k))
game-none s k e z = ap (λ (y : List Val). type_of (game_vals y)) (sym (vals-shut s k e z))

module _ (s : List ℕ) (k a e n : ℕ) {x : ValueStep} (ex : x ≡ value_step_at s k) (ev : x ≡ Value a e n) where
  first-value : vals_at s k ≡ record { from = a; to = e; raw = slice a e s } ∷ vals_at s n
  first-value = vals-more s k a e n (sym ex ∙ ev)

  pub game-many : (b f m : ℕ) {y : ValueStep} → y ≡ value_step_at s n → y ≡ Value b f m → Err InvalidGameType ≡ type_of (game_vals (vals_at s k))
  game-many b f m ey ew =
      ap (λ (z : List Val). type_of (game_vals z))
      (sym (first-value ∙ ap (λ (z : List Val). record { from = a; to = e; raw = slice a e s } ∷ z) (vals-more s n b f m (sym ey ∙ ew))))

  pub game-one : {y : ValueStep} → y ≡ value_step_at s n → OneOf (1 ∷ 2 ∷ []) (tag_of value-step.the_type y) → {r : Result ℕ Reason} → r ≡ type_of (game_of (read_value (slice a e s))) → r ≡ type_of (game_vals (vals_at s k))
  game-one ey z er =
      er
      ∙ ap (λ (y : List Val). type_of (game_vals y))
      (sym (first-value ∙ ap (λ (w : List Val). record { from = a; to = e; raw = slice a e s } ∷ w) (vals-shut s n ey z)))

-- a part of the text
pub part-is : (s : List ℕ) (a e : ℕ) → a ≤ e → e ≤ length s → take (e - a) (drop a s) ≡ slice a e s
part-is s a e h g =
    let l : length (take a s) ≡ a = length-take-le a s (omega arith) in
    let q : a + (e - a) ≡ e = omega arith in
    sym (ap (drop a) (ap (λ (z : ℕ). take z s) (sym q) ∙ take-add a (e - a) s) ∙ drop_at (take a s) (take (e - a) (drop a s)) a l)
