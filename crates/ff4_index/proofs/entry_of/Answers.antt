use Rattle.lists.proofs.Prelude.{ℕ, ◌<◌, ◌≤◌, ap, ◌∙◌, subst}
use Rattle.values.specs.Read.{read_identifier}
use Rattle.ff4_index.specs.Listed.{entry_of}
use Rattle.ff4_index.specs.Places.{letters_at}
use Rattle.ff4_index.proofs.Placed.{letters-upper, place-below}
use Rattle.ff4_index.proofs.Lookup.{no_place}
use Rattle.ff4_index.proofs.entry_of.Goals as goal

pub returns-then-place-ge-PLACES : goal.returns-then-place-ge-PLACES
returns-then-place-ge-PLACES c = let s = read_identifier c.args.identifier.now in
    no_place s (letters-upper c.args.identifier.now) (subst (λ (z : ℕ). 702 ≤ z) c.place_of-place.ensures c.if-place-ge-PLACES.true)

pub returns : goal.returns
returns c = let a = c.args.identifier.now in
    let e = c.place_of-place.ensures in
    c.entry_at.ensures ∙ ap (λ (z : ℕ). entry_of (letters_at z)) e ∙ ap entry_of (place-below (read_identifier a) (letters-upper a) (subst (λ (z : ℕ). z < 702) e c.if-place-ge-PLACES.false))
