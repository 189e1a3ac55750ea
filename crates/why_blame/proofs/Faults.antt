-- The first fault behind the tokens that were split is that of all tokens. Assumes nothing.
use Rattle.lists.proofs.Prelude.{ℕ, ◌≡◌, refl, sym, ap, ◌∙◌, false, List}
use Rattle.lists.proofs.Tests.{never}
use Rattle.lexer.specs.Token.{End, done, broken, lex_at}
use Rattle.lexer.specs.declared.Fault.{Fault}
use Rattle.why_blame.specs.Cuts.{fault_fact, cut_tokens, tokens_cut}
use Rattle.why_blame.specs.LocalsCuts.{ending_of, Seen}
use Rattle.why_blame.specs.declared.Fact.{Fact}
use Rattle.why_blame.specs.declared.split.Ending.{Ending}
use Rattle.why_blame.specs.declared.split.Ending.TheVariants.{Whole, Broken}
use Rattle.std.specs.Prelude.{Result, Err}
use Rattle.tables.specs.Refusals.{refusal}
use Rattle.tables.specs.declared.Refusal.{Refusal}

ending-whole : (e : End) → ending_of e ≡ Whole → e ≡ done
ending-whole done q = refl
ending-whole (broken f s) q = never cc

ending-broken : (e : End) {f : Fault} {s : ℕ} → ending_of e ≡ Broken f s → e ≡ broken f s
ending-broken done q = never cc
ending-broken (broken g o) {f} {s} q =
    let a : g ≡ f = cc in
    let b : o ≡ s = cc in
    ap (λ (y : Fault). broken y o) a ∙ ap (broken f) b

module _ {u : List ℕ} {from at d m n behind deep : ℕ} (x : Seen u from at d m n behind deep) (size : ℕ) {y : Ending} (h : y ≡ ending_of (lex_at u at).end) where
  pub cut-fault : {f : Fault} {s : ℕ} → y ≡ Broken f s → {z : Fact} → z ≡ fault_fact u f s → Err (refusal z s) ≡ tokens_cut false size u (lex_at u from) (lex_at u from).end
  cut-fault {f} {s} e q =
      ap (λ (w : Fact). Err (refusal w s)) q ∙ ap (tokens_cut false size u (lex_at u from)) (sym (x.ends ∙ ending-broken (lex_at u at).end (sym h ∙ e)))

  pub cut-whole : y ≡ Whole → {c : Result (ℕ × ℕ) (Refusal Fact)} → c ≡ cut_tokens false size (lex_at u from) → c ≡ tokens_cut false size u (lex_at u from) (lex_at u from).end
  cut-whole e q = q ∙ ap (tokens_cut false size u (lex_at u from)) (sym (x.ends ∙ ending-whole (lex_at u at).end (sym h ∙ e)))
