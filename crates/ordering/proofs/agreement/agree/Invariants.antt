-- `ordering::agreement::agree` meets its contract. The loop's invariant: the words agree on the facets of the first x rows. Assumes nothing.
use mathlib.Core.Path.{◌≡◌}
use Prim.Native.Nat.{ℕ, ◌<◌}
use lib.ListN.{get_or}
use Rattle.lists.specs.Words.{none}
use Rattle.ordering.specs.WorkAgree.{row_word}
use Rattle.ordering.proofs.agreement.agree.Given as goal

abbrev pub invariant-loop-x : goal.invariant-loop-x
invariant-loop-x l = (y : ℕ) → y < l.x → (get_or l.mates y 0 ≡ none → ⊥) → row_word l.d l.k l.m l.list y ≡ row_word l.d l.k l.m l.list (get_or l.mates y 0)
