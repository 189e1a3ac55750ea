use Rattle.blocks.proofs.Inks.{ident-opens, after-again}
use Rattle.blocks_step.specs.Lean.{moves}
use Rattle.blocks_step.specs.declared.Phase.{Phase}
use Rattle.lists.proofs.Prelude.{arith, refl, ap, ◌∙◌, inl, inr}
use Rattle.blocks.proofs.pair_run.Goals as goal

pub returns-in-Ident : goal.returns-in-Ident
returns-in-Ident c =
    let s = c.in-Ident.start in
    record {
      pair = c.is_pair.ensures c.if-is_pair.true;
      start = s;
      opens = λ o. elim c.in-Ident.is [
        | inl e ↦ ap (λ (p : Phase). moves p o 91) e ∙ ident-opens s o 91 refl
        | inr e ↦ ap (λ (p : Phase). moves p o 91) e ∙ after-again o 91 (omega arith) s refl
      ];
      past = refl;
    }
