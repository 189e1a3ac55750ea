-- A step repeated until it is done: what recurs on a place that grows.
use Rattle.lists.specs.Prelude.{ℕ, zero, suc}

-- one step: a new state, or the answer
pub data Next (S A : Type 0) : Type 0 where
  more : S → Next S A
  done : A → Next S A

-- what a step leads to
abbrev pub onward : {S A : Type 0} → (S → A) → Next S A → A
onward g (more x) = g x
onward g (done a) = a

-- the step repeated, at most as often as the number says; `d` beyond that, which no user of it meets
unfoldable pub run : {S A : Type 0} → (S → Next S A) → A → ℕ → S → A
run f d zero x = d
run f d (suc k) x = onward (run f d k) (f x)
