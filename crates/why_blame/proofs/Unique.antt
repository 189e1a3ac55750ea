-- No second answer of a public function of `why_blame`. Assumes nothing.
use Rattle.lists.proofs.Prelude.{ℕ, ◌≡◌, Bool, List, drop}
use Rattle.lists.specs.Once.{Once}
use Rattle.lists.proofs.Once.{once_is}
use Rattle.lexer.specs.Token.{lex_at}
use Rattle.lexer.specs.declared.Fault.{Fault}
use Rattle.parser.specs.Game.{props, props_named, GM}
use Rattle.parser.specs.LocalsSlice.{slice_from}
use Rattle.why_blame.specs.Cuts.{fault_fact, first_place, tokens_cut}
use Rattle.why_blame.specs.Games.{game_blame}
use Rattle.why_blame.specs.declared.Fact.{Fact}
use Rattle.std.specs.Prelude.{Option, Result}
use Rattle.tables.specs.declared.Refusal.{Refusal}

module _ (u : List ℕ) (from : ℕ) where
  pub in-token-once : (f : Fault) → Once (λ (r : Fact). r ≡ fault_fact u f from)
  in-token-once f = once_is (fault_fact u f from)

  pub first-place-once : (n : ℕ) → Once (λ (r : ℕ). r ≡ first_place n (lex_at u from).toks (lex_at u from).end)
  first-place-once n = once_is (first_place n (lex_at u from).toks (lex_at u from).end)

  pub in-split-once : (n : ℕ) (len : Bool) → Once (λ (r : Result (ℕ × ℕ) (Refusal Fact)). r ≡ tokens_cut len n u (lex_at u from) (lex_at u from).end)
  in-split-once n len = once_is (tokens_cut len n u (lex_at u from) (lex_at u from).end)

  pub in-game-once : (n : ℕ) → Once (λ (r : Option (Refusal Fact)). r ≡ game_blame n (props_named GM (props (drop 2 (slice_from 0 (lex_at u from).toks)))))
  in-game-once n = once_is (game_blame n (props_named GM (props (drop 2 (slice_from 0 (lex_at u from).toks)))))
