-- With lists of the lengths that are told, a refinement never says 12. Assumes nothing.
use Rattle.refusal.specs.declared.Refusal.TheVariants.{BadDimension, BadRefinement, TooManyCells, TooShort}
use Rattle.refusal.specs.Says.{Answer, Counted, fine}
use Rattle.refusal.specs.declared.Refusal.{Refusal}
use Rattle.std.specs.Prelude.{Err, Ok, Result}
use mathlib.Core.Bool.{Bool, true, false, cond, false≢true}
use mathlib.Core.List.{List, [], ◌∷◌}
use mathlib.Core.Path.{◌≡◌, refl, sym, ap, ◌∙◌}
use Prim.Native.Nat.{ℕ, zero, suc, ◌*◌, ◌/◌, ◌^◌, ◌≤◌}
use native.Mathlib.Nat.{mul_assoc, mul-le-mul_right, one-mul}
use native.Mathlib.Omega.{arith}
use lib.Dec.{ltb}
use lib.IntN.{ℤ}
use lib.Ieee.{Float}
use lib.ListN.{length}
use borrow.Author.Tests.{le-ltb, ltb-false}
use Rattle.refusal.specs.Limits.{most_dimension, most_cells, most_refinement}
use Rattle.refusal.specs.Refuse.{refuse}
use Rattle.refusal.proofs.Chain.{refused-same}
use Rattle.complex.specs.Check.{answer_of, Passed}
use Rattle.complex.specs.Cells.{cells_of}
use Rattle.complex.proofs.Fine.{fine-passed}
use Rattle.ordering_words.specs.Order.{by_cell}
use Rattle.refine_lattice.specs.Pattern.{pattern_of}
use Rattle.refine_pattern.specs.Promise as pattern
use Rattle.refine_results.specs.declared.Refinement.{Refinement}
use Rattle.refine_results.specs.Refined.{coarse, order_words}
use Rattle.refine_results.specs.Results as results
use Rattle.refine.specs.declared.Space.{Space}
use Rattle.refine.specs.Space as space
use Rattle.refine.specs.Promise as refining
use Rattle.refine.proofs.Needed.{children-fit}
use Rattle.needs.specs.Needs.{worked}
use Rattle.needs.specs.Enough.{Long}
use Rattle.needs.proofs.Enough.{fine-never, check-never, call-never-says, told}
use Rattle.skeleton.proofs.Sizes.{cells-most}
use Rattle.planner_needs_refinement.specs.Needs.{ten, refine_need, corners_need}
use Rattle.planner_needs_refinement.proofs.Sizes.{holds}

-- ---- the working lists
ten-enough : (s : Space) (a b c e f g h i j k : ℕ) → Long (ten s) (a ∷ b ∷ c ∷ e ∷ f ∷ g ∷ h ∷ i ∷ j ∷ k ∷ []) → space.Enough s (record { cells = a; along = b; pattern = c; keys = e; rows = f; spare = g; counts = h; sorted = i; firsts = j; buckets = k })
ten-enough s a b c e f g h i j k l =
    record {
      in_cells = l.0;
      in_along = l.1.0;
      in_pattern = l.1.1.0;
      in_keys = l.1.1.1.0;
      in_rows = l.1.1.1.1.0;
      in_spare = l.1.1.1.1.1.0;
      in_counts = l.1.1.1.1.1.1.0;
      in_sorted = l.1.1.1.1.1.1.1.0;
      in_firsts = l.1.1.1.1.1.1.1.1.0;
      in_buckets = l.1.1.1.1.1.1.1.1.1.0;
    }

-- ---- how a refinement ends
finish-end : (d R n : ℕ) (cs ks : List (List ℕ)) (given : results.Lengths) → (results.Refines d R n ks → results.Holds given (results.results_of d R n cs ks)) → (r : Result Refinement Refusal) (h : results.Results) → results.Finishes d R n cs ks given r h → r ≡ Err TooShort → ⊥
finish-end d R n cs ks given fits r h (results.outside x) t = cc
finish-end d R n cs ks given fits r h (results.many_cells i m) t = cc
finish-end d R n cs ks given fits r h (results.many_vertices i m v) t = cc
finish-end d R n cs ks given fits r h (results.short f less) t = absurd (less (fits f))
finish-end d R n cs ks given fits r h (results.made f e) t = cc

refine-end : (d R : ℕ) (ws : List ℕ) (Ordered : Type 0) (ks : List (List ℕ)) (given : results.Lengths) → (results.Refines d R (coarse ws) ks → results.Holds given (results.results_of d R (coarse ws) (cells_of d ws) ks)) → (r : Result Refinement Refusal) (h : results.Results) → refining.Ends d R ws Ordered ks given r h → r ≡ Err TooShort → ⊥
refine-end d R ws Ordered ks given fits r h (refining.crowded x) t = cc
refine-end d R ws Ordered ks given fits r h (refining.unordered free non) t = cc
refine-end d R ws Ordered ks given fits r h (refining.finished free o f) t = finish-end d R (coarse ws) (cells_of d ws) ks given fits r h f t

-- ---- the calls: along any words that are no more than the cells
module _ (d : ℕ) (ws : List ℕ) (R : ℕ) (Ordered : Type 0) (ks : List (List ℕ)) (as_many : length ks ≡ length (cells_of d ws)) (out_cells out_words parents : List ℕ) (jacobians : List Float) (wholes : List ℤ) (vertices weights : List ℕ) (shares : List Float) (cells along pattern keys rows spare counts sorted firsts buckets : List ℕ) where
  abbrev have : List ℕ
  have = length out_cells ∷ length out_words ∷ length parents ∷ length jacobians ∷ length wholes ∷ length vertices ∷ length weights ∷ length shares ∷ length cells ∷ length along ∷ length pattern ∷ length keys ∷ length rows ∷ length spare ∷ length counts ∷ length sorted ∷ length firsts ∷ length buckets ∷ []

  fits : Passed d ws → Long (refine_need d (length ws) R) have → results.Refines d R (coarse ws) ks → results.Holds (results.lengths_of out_cells out_words parents jacobians wholes vertices weights shares) (results.results_of d R (coarse ws) (cells_of d ws) ks)
  fits p k f =
      holds d R (coarse ws) (cells_of d ws) ks (space.children_room d (length ws / suc d) R)
      (children-fit d (length ks) (length ws / suc d) R f.least f.most (omega (arith, as_many, cells-most d ws p)) f.few_cells) f.few_vertices
      (results.lengths_of out_cells out_words parents jacobians wholes vertices weights shares)
      k.0 k.1.0 k.1.1.0 k.1.1.1.0 k.1.1.1.1.0 k.1.1.1.1.1.0 k.1.1.1.1.1.1.0 k.1.1.1.1.1.1.1.0

  pub refining-enough : {out-cells' out-words' parents' : List ℕ} {jacobians' : List Float} {wholes' : List ℤ} {vertices' weights' : List ℕ} {shares' : List Float} {cells' along' pattern' keys' rows' spare' counts' sorted' firsts' buckets' : List ℕ} {r : Result Refinement Refusal} → refining.Refining d ws R Ordered ks r out_cells out-cells' out_words out-words' parents parents' jacobians jacobians' wholes wholes' vertices vertices' weights weights' shares shares' cells cells' along along' pattern pattern' keys keys' rows rows' spare spare' counts counts' sorted sorted' firsts firsts' buckets buckets'
      → Long (refine_need d (worked d (length ws)) R) have → r ≡ Err TooShort → ⊥
  refining-enough a l t =
      call-never-says results.nothing space.unused (answer_of d ws) (check-never d ws) (Passed d ws) (fine-passed d ws) (space.space_of d (length ws) R) (space.Enough (space.space_of d (length ws) R) (space.lent cells along pattern keys rows spare counts sorted firsts buckets)) (refining.Ends d R ws Ordered ks (results.lengths_of out_cells out_words parents jacobians wholes vertices weights shares))
      (λ p. let k = told d ws (λ (n : ℕ). refine_need d n R) have l p in ten-enough (space.space_of d (length ws) R) _ _ _ _ _ _ _ _ _ _ k.1.1.1.1.1.1.1.1)
      (λ p. let k = told d ws (λ (n : ℕ). refine_need d n R) have l p in refine-end d R ws Ordered ks (results.lengths_of out_cells out_words parents jacobians wholes vertices weights shares) (fits p k))
      a.comes t

-- as many words as cells, whatever the order
by-many : (ows cs : List (List ℕ)) → length (by_cell ows cs) ≡ length cs
unfolding by_cell
by-many ows [] = refl
by-many ows (c ∷ cs) = omega (arith, by-many ows cs)

-- `refine`: along the cells; `refine_with`: along the words of the order
pub refine-with-many : (d : ℕ) (ws order : List ℕ) → length (order_words d ws order) ≡ length (cells_of d ws)
refine-with-many d ws order = by-many _ (cells_of d ws)

-- ---- the pattern of one cell
passes-with : (t : Bool) (why : Refusal) (rest : Answer) → (why ≡ TooShort → ⊥) → (t ≡ false → rest ≡ Err TooShort → ⊥) → refuse t why rest ≡ Err TooShort → ⊥
passes-with true why rest other never e = other (refused-same why TooShort e)
passes-with false why rest other never e = never refl e

inside_of : (R : ℕ) → pattern.outside R ≡ false → (1 ≤ R) × (R ≤ most_refinement)
inside_of zero e = absurd (false≢true (sym e))
inside_of (suc R) e = (omega arith, ltb-false most_refinement (suc R) e)

room_of_lem : (d R len : ℕ) → d ≤ most_dimension → 1 ≤ R → R ≤ most_refinement → R ^ d ≤ most_cells → Long (corners_need d R) (len ∷ []) → R ^ d * (suc d * suc d) ≤ len
unfolding corners_need
room_of_lem d R len h a b c l =
    let k : 1 * R ^ d ≤ space.children_room d 1 R = children-fit d 1 1 R a b (omega arith) (omega (arith, one-mul (R ^ d))) in
    let e : cond (ltb most_dimension d) 0 (space.children_room d 1 R * suc d * suc d) ≡ space.children_room d 1 R * suc d * suc d = ap (λ (t : Bool). cond t 0 (space.children_room d 1 R * suc d * suc d)) (le-ltb most_dimension d h) in
    let r : R ^ d ≤ space.children_room d 1 R = omega (arith, one-mul (R ^ d)) in
    omega (arith, l.0, e, mul_assoc (R ^ d) (suc d) (suc d), mul-le-mul_right (suc d) (mul-le-mul_right (suc d) r))

pattern-never : (d R len : ℕ) → Long (corners_need d R) (len ∷ []) → pattern.answer_of d R len ≡ Err TooShort → ⊥
pattern-never d R len l =
    passes-with (ltb most_dimension d) BadDimension _ (λ (e : BadDimension ≡ TooShort). cc) (λ low.
    passes-with (pattern.outside R) BadRefinement _ (λ (e : BadRefinement ≡ TooShort). cc) (λ inside.
    passes-with (ltb most_cells (R ^ d)) TooManyCells _ (λ (e : TooManyCells ≡ TooShort). cc) (λ few.
    fits-never (ltb len (R ^ d * (suc d * suc d))) (le-ltb len (R ^ d * (suc d * suc d)) (room_of_lem d R len (ltb-false most_dimension d low) (inside_of R inside).0 (inside_of R inside).1 (ltb-false most_cells (R ^ d) few) l)))))
  where
    fits-never : (t : Bool) → t ≡ false → refuse t TooShort fine ≡ Err TooShort → ⊥
    fits-never true e f = false≢true (sym e)
    fits-never false e f = fine-never f

said-never : (a : Answer) (rows : List (List ℕ)) → (a ≡ Err TooShort → ⊥) → pattern.said a rows ≡ Err TooShort → ⊥
said-never (Ok _) rows over t = cc
said-never (Err why) rows over t = over cc

pub corners-enough : (d R : ℕ) {r : Counted} {to to' : List ℕ} → pattern.Corners d R r to to' → Long (corners_need d R) (length to ∷ []) → r ≡ Err TooShort → ⊥
corners-enough d R {to = to} a l t = said-never (pattern.answer_of d R (length to)) (pattern_of d R) (pattern-never d R (length to) l) (sym a.says ∙ t)
