-- What a record in memory answers by number: the simple value of a property.
use Rattle.std.specs.Prelude.{◌-◌, ◌∷◌, Result, Ok, Err}
use Rattle.lists.specs.Prelude.{ℕ, List, [], ltb, length, get_or, pick}
use Rattle.lexer.specs.Token.{Prop}
use Rattle.values.specs.Read.{read_identifier}
use Rattle.ff4_values.specs.Simple.{simple_value}
use Rattle.ff4_values.specs.declared.Simple.{Simple}
use Rattle.ff4_values.specs.declared.Simple.TheVariants.{Other}
use Rattle.tables.specs.Record.{Tree, all_props}
use Rattle.tables.specs.Memory.{Memory}
use Rattle.tables.specs.declared.Reason.TheVariants.{NoSuchNumber, NotFitting}
use Rattle.fit.specs.Fit.{Fit}
use Rattle.fit.specs.Record.{raws_of, record_in}
use Rattle.ask.specs.Ask.{no_prop}
use Rattle.tables.specs.declared.Reason.{Reason}

-- the simple value of a property of a tree with game type k, 0 for Go
abbrev pub simple_of_prop : (k : ℕ) → Prop → Simple
simple_of_prop k p = simple_value k (read_identifier p.name) (raws_of p)

-- property p of these trees, numbered from 0
abbrev pub simple_at : List Tree → ℕ → Simple
simple_at [] p = Other
simple_at (t ∷ ts) p =
    let n = length (all_props t.nodes) in
    pick (ltb p n) (simple_of_prop t.game (get_or (all_props t.nodes) p no_prop)) (simple_at ts (p - n))

-- 19 where the tables don't fit the text; then 16 where p is not below the count; else the simple value of property p (SCOPE 235)
unfoldable pub simple_answer : Memory → ℕ → Result Simple Reason
simple_answer m p =
    pick (Fit m)
    (pick (ltb p m.counts.properties) (Ok (simple_at (record_in m) p)) (Err NoSuchNumber))
    (Err NotFitting)
