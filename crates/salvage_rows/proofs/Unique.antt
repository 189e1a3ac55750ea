-- No second answer of a public function. Assumes nothing.
use Rattle.lists.proofs.Prelude.{ℕ, ◌≡◌, Bool, List}
use Rattle.lists.specs.Once.{Once}
use Rattle.lists.proofs.Once.{once_is}
use Rattle.values.specs.Read.{read_value}
use Rattle.parser.specs.Game.{game_of}
use Rattle.parser_game.specs.LocalsGame.{type_of}
use Rattle.salvage_rows.specs.LocalsGM.{bad_in, kept_at}
use Rattle.std.specs.Prelude.{Result}
use Rattle.tables.specs.declared.Reason.{Reason}

pub gms-bad-once : (text pr vl : List ℕ) (first count : ℕ) → Once (λ (r : Bool). r ≡ bad_in text pr vl first count)
gms-bad-once text pr vl first count = once_is (bad_in text pr vl first count)

pub kept-type-once : (text tr nd pr vl : List ℕ) (r : ℕ) → Once (λ (k : ℕ). k ≡ kept_at text tr nd pr vl r)
kept-type-once text tr nd pr vl r = once_is (kept_at text tr nd pr vl r)

-- parser_game

pub game-of-once : (v : List ℕ) → Once (λ (r : Result ℕ Reason). r ≡ type_of (game_of (read_value v)))
game-of-once v = once_is (type_of (game_of (read_value v)))
