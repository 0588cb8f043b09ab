-- A swath is the single calls one after the other: over what `reduce` promises and what `swath` promises. Assumes nothing.
use Rattle.refusal.specs.declared.Refusal.{Refusal}
use Rattle.refusal.specs.declared.Refusal.TheVariants.{TooShort}
use Rattle.refusal.specs.Says.{Answer, fine}
use Rattle.std.specs.Prelude.{Err, Ok}
use mathlib.Core.List.{List, []}
use mathlib.Core.Path.{◌≡◌, refl, ap, ◌∙◌}
use Prim.Native.Nat.{ℕ, ◌<◌}
use native.Mathlib.Omega.{arith}
use lib.Dec.{ltb}
use lib.ListN.{length, get_or, length-map, get_or-append}
use Rattle.lists.proofs.Laws.{map_at}
use Rattle.refusal.specs.Lent.{onto}
use Rattle.refusal.specs.Refuse.{refuse}
use Rattle.refusal.proofs.Chain.{fine-refused}
use Rattle.quotient.specs.declared.Crossing.{Crossing}
use Rattle.quotient.specs.declared.Grid.{Grid}
use Rattle.quotient.specs.declared.GridVertex.{GridVertex}
use Rattle.quotient.specs.Shape.{check_of}
use Rattle.quotient.specs.Reduce.{vertex_of, crossing_of, reduced_after, reduce_of}
use Rattle.grid_swath.specs.Swath.{swath_of, after, swath_says, unrefused, swath_hands}
use Rattle.grid_swath.proofs.Steps.{says-fine}

after-fine : (a x : Answer) → after a x ≡ fine → a ≡ fine
after-fine (Ok _) x e = refl
after-fine (Err why) x e = absurd (fine-refused why e)

-- where the swath is not refused, neither is the single call on any point, and each number is the one that the single call answers
pub swath-single : (g : Grid) (ps glued : List ℕ) → swath_says g ps (length glued) ≡ fine → (i : ℕ) → i < length ps
    → (c : Crossing) × (reduce_of g (record { 0 = get_or ps i 0 }) ≡ Ok c) × (get_or (onto (swath_hands g ps (length glued)) glued) i 0 ≡ c.vertex.0)
unfolding reduce_of
swath-single g ps glued e i h =
    let v : ℕ = get_or ps i 0 in
    let taken : check_of g ≡ fine = after-fine (check_of g) (refuse (ltb (length glued) (length ps)) TooShort fine) e in (
      crossing_of g v,
      ap (λ (a : Answer). reduced_after a (Ok (crossing_of g v))) taken,
      ap (λ (a : Answer). get_or (onto (unrefused a (swath_of g ps)) glued) i 0) e
          ∙ get_or-append (swath_of g ps) _ 0 i (omega (arith, length-map ps (vertex_of g)))
          ∙ map_at (vertex_of g) ps i 0 0 h,
    )

-- where the single call is refused, so is the swath, with the same refusal, for any list of points and any room
pub swath-refused : (g : Grid) (v : GridVertex) (why : Refusal) → reduce_of g v ≡ Err why → (ps : List ℕ) (room : ℕ) → swath_says g ps room ≡ Err why
unfolding reduce_of
swath-refused g v why e ps room = by-check (check_of g) e
  where
    by-check : (a : Answer) → reduced_after a (Ok (crossing_of g v.0)) ≡ Err why → after a (refuse (ltb room (length ps)) TooShort fine) ≡ Err why
    by-check (Ok _) q = cc
    by-check (Err why) q = cc

-- an empty list succeeds on a grid that is taken, whatever the room, and changes nothing
pub swath-empty : (g : Grid) (glued : List ℕ) → check_of g ≡ fine → (swath_says g [] (length glued) ≡ fine) × (onto (swath_hands g [] (length glued)) glued ≡ glued)
swath-empty g glued e =
    let f : swath_says g [] (length glued) ≡ fine = says-fine g [] glued e (omega arith) in
    (f, ap (λ (a : Answer). onto (unrefused a []) glued) f)
