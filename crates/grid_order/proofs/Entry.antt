-- The ways out of `triangulate_ordered`. Assumes nothing.
use Rattle.refusal.specs.declared.Refusal.{Refusal}
use Rattle.refusal.specs.declared.Refusal.TheVariants.{TooShort}
use Rattle.refusal.specs.Says.{fine}
use Rattle.std.specs.Prelude.{Err, Result}
use mathlib.Core.List.{List, ◌++◌}
use mathlib.Core.Path.{◌≡◌, refl, ap, ◌∙◌, subst}
use Prim.Native.Nat.{ℕ, zero, suc, ◌+◌, ◌-◌, ◌*◌, ◌<◌, ◌≤◌}
use native.Mathlib.Nat.{suc-mul, mul-le-mul_left, mul-le-mul_right}
use native.Mathlib.Omega.{arith}
use lib.ListN.{length, take, drop}
use lib.Seq.{length-take-le}
use Rattle.refusal.specs.declared.Room.{Room}
use Rattle.refusal.specs.Limits.{most_dimension, row_most, many_corners}
use Rattle.refusal.specs.Lent.{untouched, lengths, Roomy}
use Rattle.refusal.specs.Call.{Comes, refused, cramped, ended}
use Rattle.refusal.proofs.Parts.{parts-cleared}
use Rattle.lists.specs.Zero.{AllZero}
use Rattle.complex.specs.Room.{key_room}
use Rattle.quotient.specs.declared.Grid.{Grid}
use Rattle.quotient.specs.Shape.{check_of}
use Rattle.grid_mesh.specs.Words.{corners_of}
use Rattle.grid_order.specs.declared.Triangulated.{Triangulated}
use Rattle.grid_order.specs.Promise.{order_room, nothing, Ends, TriangulateOrdered}
use Rattle.grid_order.specs.Work.{Working, Worked}

-- the room asked for is small
room_most : (d n : ℕ) → key_room d n ≤ suc d * n
room_most zero n = omega (arith, suc-mul 0 n)
room_most (suc d) n = omega (arith, suc-mul (suc d) n)

pub need-bound : (d n : ℕ) → d ≤ most_dimension → n < many_corners → key_room d n < row_most * many_corners
need-bound d n h l = omega (arith, room_most d n, mul-le-mul_right n (suc-le h), mul-le-mul_left row_most l)
  where
    suc-le : d ≤ most_dimension → suc d ≤ row_most
    suc-le h = omega arith

-- the keys' last part begins where the facet rows end
pub twice-fits : (g : Grid) (n : Room) → n ≡ order_room g → n.rows + n.rows ≤ n.keys
twice-fits g n q = omega (arith, ap (λ (m : Room). m.keys) q, ap (λ (m : Room). m.rows) q)

pub start_is : (g : Grid) (n : Room) → n ≡ order_room g → n.keys - n.rows - n.rows ≡ key_room g.d (corners_of g)
start_is g n q = omega (arith, ap (λ (m : Room). m.keys) q, ap (λ (m : Room). m.rows) q)

module _ (g : Grid) (cells order keys rows spare counts : List ℕ) where
  pub out-refused : (why : Refusal) → check_of g ≡ Err why → TriangulateOrdered g (Err why) cells cells order order keys keys rows rows spare spare counts counts
  out-refused why e =
      record {
        handed = nothing;
        used = untouched;
        comes = refused e;
        the_cells = refl;
        the_order = refl;
        room = record { of_keys = refl; of_rows = refl; of_spare = refl; of_counts = refl };
      }

  pub out-cramped : check_of g ≡ fine → (n : Room) → n ≡ order_room g → (Roomy n (lengths keys rows spare counts) → ⊥) → TriangulateOrdered g (Err TooShort) cells cells order order keys keys rows rows spare spare counts counts
  out-cramped e n q f =
      record {
        handed = nothing;
        used = untouched;
        comes = cramped e (subst (λ (m : Room). Roomy m (lengths keys rows spare counts) → ⊥) q f);
        the_cells = refl;
        the_order = refl;
        room = record { of_keys = refl; of_rows = refl; of_spare = refl; of_counts = refl };
      }

  module _ (e : check_of g ≡ fine) (n : Room) (q : n ≡ order_room g) (h : Roomy n (lengths keys rows spare counts)) where
    pub working : Working g (n.keys - n.rows - n.rows) (take n.keys keys) (take n.rows rows) (take n.spare spare) (take n.counts counts)
    working =
        record {
          taken = e;
          start = start_is g n q;
          keys_long = length-take-le n.keys keys h.in_keys ∙ ap (λ (m : Room). m.keys) q;
          rows_long = length-take-le n.rows rows h.in_rows ∙ ap (λ (m : Room). m.rows) q;
          spare_long = length-take-le n.spare spare h.in_spare ∙ ap (λ (m : Room). m.spare) q;
          counts_long = length-take-le n.counts counts h.in_counts ∙ ap (λ (m : Room). m.counts) q;
        }

    pub out-ended : (r : Result Triangulated Refusal) (cells' order' k o s c : List ℕ) → Worked g r cells cells' order order' → AllZero (take n.keys keys) k (take n.rows rows) o (take n.spare spare) s (take n.counts counts) c →
        TriangulateOrdered g r cells cells' order order' keys (k ++ drop n.keys keys) rows (o ++ drop n.rows rows) spare (s ++ drop n.spare spare) counts (c ++ drop n.counts counts)
    out-ended r cells' order' k o s c w z =
        record {
          handed = w.handed;
          used = n;
          comes = subst (λ (m : Room). Comes Err nothing (check_of g) m (lengths keys rows spare counts) (Ends g (length cells) (length order)) r w.handed n) q (ended e h w.ends);
          the_cells = w.the_cells;
          the_order = w.the_order;
          room = parts-cleared n keys k rows o spare s counts c h z;
        }
