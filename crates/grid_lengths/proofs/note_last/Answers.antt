-- `grid_lengths::note_last` meets its contract: the values of one box are measured, and then the visits are noted. Assumes nothing.
use Rattle.refusal.specs.Says.{fine}
use mathlib.Core.Path.{◌≡◌, sym, ◌∙◌, subst}
use mathlib.Core.List.{List}
use Prim.Native.Nat.{ℕ, ◌≤◌}
use native.Mathlib.Omega.{arith}
use lib.ListN.{replicate}
use lib.Ieee.{Float, binary64, of_bits}
use lib.Seq.{length-take-le}
use Rattle.quotient.specs.declared.Grid.{Grid}
use Rattle.quotient.specs.Shape.{check_of}
use Rattle.grid_lengths.specs.Work.{visits_each, Valued}
use Rattle.grid_lengths.proofs.Boxed.{each-visits-few, front-values, fits-values}
use Rattle.grid_lengths.proofs.note_last.Goals as goal

few : (g : Grid) → check_of g ≡ fine → (n : ℕ) → n ≡ visits_each g → n ≤ 36
few g taken n e = omega (arith, each-visits-few g taken)

pub visits_each-each-requires : goal.visits_each-each-requires
visits_each-each-requires c = c.requires.0.taken

pub slice_bounds-values-end : goal.slice_bounds-values-end
slice_bounds-values-end c = few c.args.grid c.requires.0.taken _ c.visits_each-each.ensures

pub slice_bounds-measure-end : goal.slice_bounds-measure-end
slice_bounds-measure-end c = sym (length-take-le _ _ (few c.args.grid c.requires.0.taken _ c.visits_each-each.ensures))

pub measure-requires : goal.measure-requires
measure-requires c = (c.requires.0.taken, length-take-le _ _ (few c.args.grid c.requires.0.taken _ c.visits_each-each.ensures) ∙ c.visits_each-each.ensures)

pub slice_bounds-values-end-2 : goal.slice_bounds-values-end-2
slice_bounds-values-end-2 c = fits-values c.visits_each-each.result (replicate {A = Float} 36 (of_bits binary64 0)) c.measure.new.values (few c.args.grid c.requires.0.taken _ c.visits_each-each.ensures) c.measure.auto.values

pub slice_bounds-note_each-end : goal.slice_bounds-note_each-end
slice_bounds-note_each-end c = sym (length-take-le _ _ (fits-values c.visits_each-each.result (replicate {A = Float} 36 (of_bits binary64 0)) c.measure.new.values (few c.args.grid c.requires.0.taken _ c.visits_each-each.ensures) c.measure.auto.values))

pub note_each-requires : goal.note_each-requires
note_each-requires c = (subst (λ (l : List Float). Valued c.args.grid l) (sym (front-values c.visits_each-each.result (replicate {A = Float} 36 (of_bits binary64 0)) c.measure.new.values (few c.args.grid c.requires.0.taken _ c.visits_each-each.ensures) c.measure.auto.values)) c.measure.ensures, c.requires.0, c.requires.1)
