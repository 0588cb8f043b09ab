-- A refinement that is not refused, from its promise: what it is, that it had room, and that a call which nothing refuses and which does not say 12 is not refused.
-- Assumes nothing.
use Rattle.refusal.specs.declared.Refusal.{Refusal}
use Rattle.refusal.specs.Says.{fine}
use Rattle.std.specs.Prelude.{Err, Ok, Result}
use mathlib.Core.Path.{◌≡◌, refl, sym, ◌∙◌}
use mathlib.Core.List.{List}
use Prim.Native.Nat.{ℕ}
use native.Mathlib.Omega.{arith}
use lib.ListN.{length}
use Rattle.refusal.proofs.Chain.{fine-refused}
use Rattle.refusal.specs.Call.{refused, cramped, ended}
use Rattle.complex.specs.Check.{answer_of}
use Rattle.complex.specs.Cells.{cells_of}
use Rattle.refine_lattice.specs.Refine.{vertices}
use Rattle.refine_results.specs.declared.Refinement.{Refinement}
use Rattle.refine_results.specs.Says.{sizes}
use Rattle.refine_results.specs.Refined.{coarse, refined_cells}
use Rattle.refine_results.specs.Results.{Results, Lengths, Holds, Refines, results_of, Finishes, outside, many_cells, many_vertices, short, made}
use Rattle.refine.specs.declared.Space.{Space}
use Rattle.refine.specs.Promise.{Ends, crowded, unordered, finished, Comes}
use Rattle.refine_laws.specs.Composition.{Accepted}
use Rattle.refine_laws.specs.Calls.{Called}
use Rattle.refine_laws.specs.Demand.{Lists, Promised, HadRoom}

-- a call that is not refused
unfoldable pub IsMade : Result Refinement Refusal → Type 0
IsMade (Ok said) = Unit {0}
IsMade (Err why) = ⊥

-- what it is
pub record Makes (d R : ℕ) (ws : List ℕ) (Good : Type 0) (ks : List (List ℕ)) (r : Result Refinement Refusal) (h : Results) : Type 0 where
  pub accepted : Accepted d ws
  pub good : Good
  pub fits : Refines d R (coarse ws) ks
  pub says : r ≡ sizes (length (refined_cells d R (coarse ws) ks)) (vertices d R (coarse ws) ks)
  pub hands : h ≡ results_of d R (coarse ws) (cells_of d ws) ks

module _ (d R : ℕ) (ws : List ℕ) (Good : Type 0) (ks : List (List ℕ)) (given : Lengths) where
  -- it tells that nothing refuses it
  finish-tells : (r : Result Refinement Refusal) (h : Results) → Accepted d ws → Good → Finishes d R (coarse ws) (cells_of d ws) ks given r h → IsMade r → Makes d R ws Good ks r h
  unfolding IsMade
  finish-tells r h a g (outside f) x = absurd x
  finish-tells r h a g (many_cells i f) x = absurd x
  finish-tells r h a g (many_vertices i f k) x = absurd x
  finish-tells r h a g (short f k) x = absurd x
  finish-tells r h a g (made f k) x = record { accepted = a; good = g; fits = f; says = refl; hands = refl }

  end-tells : (r : Result Refinement Refusal) (h : Results) → answer_of d ws ≡ fine → Ends d R ws Good ks given r h → IsMade r → Makes d R ws Good ks r h
  unfolding IsMade
  end-tells r h e (crowded c) x = absurd x
  end-tells r h e (unordered c f) x = absurd x
  end-tells r h e (finished c g f) x = finish-tells r h (record { fine = e; uncrowded = c }) g f x

  pub tells : (have used : Space) (r : Result Refinement Refusal) (h : Results) → Comes d R ws Good ks given have r h used → IsMade r → Makes d R ws Good ks r h
  unfolding IsMade
  tells have used r h (refused e) x = absurd x
  tells have used r h (cramped e f) x = absurd x
  tells have used r h (ended e f n) x = end-tells r h e n x

  -- and that it had room
  finish-long : (r : Result Refinement Refusal) (h : Results) → Finishes d R (coarse ws) (cells_of d ws) ks given r h → IsMade r → Holds given (results_of d R (coarse ws) (cells_of d ws) ks)
  unfolding IsMade
  finish-long r h (outside f) x = absurd x
  finish-long r h (many_cells i f) x = absurd x
  finish-long r h (many_vertices i f k) x = absurd x
  finish-long r h (short f k) x = absurd x
  finish-long r h (made f k) x = k

  end-long : (r : Result Refinement Refusal) (h : Results) → Ends d R ws Good ks given r h → IsMade r → Holds given (results_of d R (coarse ws) (cells_of d ws) ks)
  unfolding IsMade
  end-long r h (crowded c) x = absurd x
  end-long r h (unordered c f) x = absurd x
  end-long r h (finished c g f) x = finish-long r h f x

  pub made-called : (have used : Space) (r : Result Refinement Refusal) (h : Results) → Comes d R ws Good ks given have r h used → IsMade r → Called d R ws Good ks r h
  unfolding IsMade
  made-called have used r h (refused e) x = absurd x
  made-called have used r h (cramped e f) x = absurd x
  made-called have used r h (ended e f n) x = record { given = given; have = have; used = used; comes = ended e f n; roomy = f; long = end-long r h n x }

  -- a call that nothing refuses is not refused
  module _ (a : Accepted d ws) (g : Good) (f : Refines d R (coarse ws) ks) where
    finish-made : (r : Result Refinement Refusal) (h : Results) → HadRoom r → Finishes d R (coarse ws) (cells_of d ws) ks given r h → IsMade r
    unfolding IsMade
    finish-made r h t (outside n) = absurd (n (record { least = f.least; most = f.most }))
    finish-made r h t (many_cells i n) = absurd (omega (arith, f.few_cells))
    finish-made r h t (many_vertices i n k) = absurd (omega (arith, f.few_vertices))
    finish-made r h t (short n k) = absurd (t refl)
    finish-made r h t (made n k) = tt

    end-made : (r : Result Refinement Refusal) (h : Results) → HadRoom r → Ends d R ws Good ks given r h → IsMade r
    end-made r h t (crowded c) = absurd (a.uncrowded c)
    end-made r h t (unordered c n) = absurd (n g)
    end-made r h t (finished c n e) = finish-made r h t e

    pub is_made : (have used : Space) (r : Result Refinement Refusal) (h : Results) → HadRoom r → Comes d R ws Good ks given have r h used → IsMade r
    is_made have used r h t (refused {why = why} e) = absurd (fine-refused why (sym e ∙ a.fine))
    is_made have used r h t (cramped e n) = absurd (t refl)
    is_made have used r h t (ended e n k) = end-made r h t k

-- the promise of `refine` or `refine_with`, where the call was not refused
pub promised-called : (d R : ℕ) (ws : List ℕ) (Good : Type 0) (ks : List (List ℕ)) (m N : ℕ) (l l' : Lists) → (x : Promised d R ws Good ks (sizes m N) l l')
    → Called d R ws Good ks (sizes m N) x.handed
unfolding IsMade
promised-called d R ws Good ks m N l l' x = made-called d R ws Good ks _ _ _ (sizes m N) x.handed x.comes tt
