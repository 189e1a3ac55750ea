use Rattle.lists.proofs.Prelude.{◌≡◌, sym, ◌∙◌, rules, arith}
use Rattle.std.specs.Prelude.{count_by}
use Rattle.std.specs.Char.{is_ascii_uppercase}
use Rattle.std.proofs.lemmas.List.Sums.{count_by-le-length}
use Rattle.salvage_form.proofs.Counted.{letters-counted}
use Rattle.salvage_form.proofs.count_letters.Goals as goal

pub returns : goal.returns
returns c =
    let name = c.args.name.now in
    let e : c.count.result ≡ count_by is_ascii_uppercase name = search rules in
    (e ∙ sym (letters-counted name), omega (arith, count_by-le-length is_ascii_uppercase name))
