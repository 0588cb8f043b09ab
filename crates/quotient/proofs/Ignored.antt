-- Entries past d are not looked at: two grids that have the same axes and sides below d get the same answers. Assumes nothing.
use mathlib.Core.Path.{◌≡◌, ap, ◌∙◌}
use mathlib.Core.Bool.{not}
use Prim.Native.Nat.{ℕ, ◌<◌}
use Rattle.lists.specs.Words.{first_where}
use Rattle.lists.proofs.Words.{first-same}
use Rattle.grid_sides.specs.Counts.{side_fits, side_of, unfit, first_bad}
use Rattle.quotient.specs.declared.Axis.{Axis}
use Rattle.quotient.specs.declared.Grid.{Grid}
use Rattle.quotient.specs.declared.GridVertex.{GridVertex}
use Rattle.quotient.specs.Shape.{closed_of, mask_of, check_of, sides_check_of, nvertices_of, parity_of}
use Rattle.quotient.specs.Reduce.{reduce_of}
use Rattle.quotient.specs.Chain.{Alike, SameBelow}
use Rattle.quotient.proofs.Alike.{nine-alike, eight-alike, cells-alike, vertices-alike, check-alike, nvertices-alike, parity-alike, reduce-alike}

-- both grids get the same answers
pub record Same (g h : Grid) : Type 0 where
  pub checks : check_of g ≡ check_of h
  pub with-sides : sides_check_of g ≡ sides_check_of h
  pub counts : nvertices_of g ≡ nvertices_of h
  pub parities : parity_of g ≡ parity_of h
  pub vertices : (v : GridVertex) → reduce_of g v ≡ reduce_of h v

-- ---- alike, with the same sides below d
module _ (g h : Grid) (alike : Alike g h) (sides : (i : ℕ) → i < g.d → side_of g.sides i ≡ side_of h.sides i) where
  -- the same side is refused first
  bad-side : first_bad g.sides g.d ≡ first_bad h.sides h.d
  bad-side =
      first-same (unfit g.sides) (unfit h.sides) g.d (λ i l. ap (λ x. not (side_fits x)) (sides i l))
      ∙ ap (first_where (unfit h.sides)) alike.dimension

  pub sides-alike : sides_check_of g ≡ sides_check_of h
  unfolding sides_check_of
  sides-alike = rw (bad-side, nine-alike g h alike, eight-alike g h alike, cells-alike g h alike, vertices-alike g h alike, alike.dimension)

-- ---- the same axes and sides below d
module _ (g h : Grid) (same : SameBelow g h) where
  pub same_alike : Alike g h
  same_alike = record {
    dimension = same.dimension;
    cells = λ i l. ap (λ (a : Axis). a.count) (same.axes i l);
    closed = λ i l. ap (λ (a : Axis). closed_of a.glue) (same.axes i l);
    masks = λ i l. ap (λ (a : Axis). mask_of a.glue) (same.axes i l);
  }

  pub unread : Same g h
  unread = record {
    checks = check-alike g h same_alike;
    with-sides = sides-alike g h same_alike same.sides;
    counts = nvertices-alike g h same_alike;
    parities = parity-alike g h same_alike;
    vertices = reduce-alike g h same_alike;
  }
