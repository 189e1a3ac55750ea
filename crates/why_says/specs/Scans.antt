-- Where the scan of a failing token stops, in the scope's words.
use Rattle.std.specs.Prelude.{◌+◌, ◌≤◌, ◌<◌, ◌≡◌, ◌∷◌, ◌++◌}
use Rattle.lists.specs.Prelude.{ℕ, true, List, length, take, drop, get_or}
use Rattle.lists.specs.All.{All}
use Rattle.text_utf8.specs.Trim.{trimmed}
use Rattle.text_utf8.specs.declared.Trimmed.TheVariants.{Kept}
use Rattle.lexer.specs.Closed.{closed}
use Rattle.lexer_laws.specs.Reach.{Reaches}
use Rattle.lexer_scan.specs.Scan.{skip_at, ident_at, value_step_at}
use Rattle.lexer_scan.specs.declared.Ident.TheVariants.{Opens}
use Rattle.lexer_scan.specs.declared.ValueStep.TheVariants.{Value}

-- the token that starts at p in u is a property: a byte stands there, and it is none of `(`, `)` and `;` (SCOPE 263)
pub record PropertyIn (u : List ℕ) (p : ℕ) : Type 0 where
  pub inside : p < length u
  pub no_start : get_or u p 0 ≡ 0x28 → ⊥
  pub no_end : get_or u p 0 ≡ 0x29 → ⊥
  pub no_node : get_or u p 0 ≡ 0x3b → ⊥

-- trimming keeps the text from `first` to `last`; tokens reach `at` from there, white space follows up to p, and a property starts at p (SCOPE 263)
pub record PropertyAt (t : List ℕ) (p : ℕ) : Type 0 where
  pub first : ℕ
  pub last : ℕ
  pub at : ℕ
  pub kept : trimmed t ≡ Kept first last
  pub reached : Reaches (take last t) first at
  pub begins : p ≡ skip_at (take last t) at
  pub is : PropertyIn (take last t) p

-- a byte that an identifier crosses: ASCII, and no `[`
abbrev pub Crossed : ℕ → Type 0
Crossed b = (b < 128) × (b ≡ 0x5b → ⊥)

-- the bytes of u from p on: an identifier crosses those before e, and the one at e is not ASCII (SCOPE 263)
pub record MeetsForeign (u : List ℕ) (p e : ℕ) : Type 0 where
  pub before : List ℕ
  pub byte : ℕ
  pub behind : List ℕ
  pub are : drop p u ≡ before ++ (byte ∷ behind)
  pub crossed : All Crossed before
  pub foreign : 128 ≤ byte
  pub stop : e ≡ p + length before

-- k is reached from i by values
pub data ReachesByValues (u : List ℕ) : ℕ → ℕ → Type 0 where
  none_more : {i : ℕ} → ReachesByValues u i i
  one_more : {i k : ℕ} (a e n : ℕ) → value_step_at u i ≡ Value a e n → ReachesByValues u n k → ReachesByValues u i k

-- of the property that starts at p a value begins at `bracket`, and no unescaped `]` follows in u (SCOPE 263)
pub record StaysUnclosed (u : List ℕ) (p : ℕ) : Type 0 where
  pub first : ℕ
  pub bracket : ℕ
  pub named : ident_at u p ≡ Opens first
  pub reached : ReachesByValues u first bracket
  pub opens : get_or u bracket 0 ≡ 0x5b
  pub never-closed : (body post : List ℕ) → drop (bracket + 1) u ≡ body ++ (0x5d ∷ post) → closed body ≡ true → ⊥
