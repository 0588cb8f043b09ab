-- With lists of the lengths that are told, a call never says 12. Assumes nothing.
use Rattle.refusal.specs.declared.Refusal.{Refusal}
use Rattle.refusal.specs.declared.Refusal.TheVariants.{TooShort}
use Rattle.refusal.specs.Says.{Counted, Verdict}
use Rattle.std.specs.Prelude.{Err, Result}
use mathlib.Core.List.{List, [], ◌∷◌}
use mathlib.Core.Path.{◌≡◌}
use Prim.Native.Nat.{ℕ, suc, ◌*◌, ◌≤◌}
use native.Mathlib.Omega.{arith}
use lib.IntN.{ℤ}
use lib.ListN.{length}
use Rattle.lists.specs.Rows.{flat}
use Rattle.refusal.specs.Lent.{lengths}
use Rattle.complex.specs.Check.{answer_of, Passed}
use Rattle.complex.specs.Cells.{cells_of}
use Rattle.complex.specs.Room.{need_of}
use Rattle.complex.specs.Skeleton.{edges_of, facets_of, border_of}
use Rattle.complex.proofs.Fine.{fine-passed}
use Rattle.complex_facets.specs.Sides.{table_of}
use Rattle.complex_facets.specs.Records.{record_need}
use Rattle.skeleton.specs.Parts.{edge_need}
use Rattle.skeleton.specs.Promise as skeleton
use Rattle.skeleton.proofs.Sizes.{cells-most, corners-most, cells_fit, edges_fit, facets-fit, table_fits, border-fits}
use Rattle.orientation.specs.declared.Coherence.{Coherence}
use Rattle.orientation.specs.Promise as orientation
use Rattle.orientation_by.specs.Promise as orientation-by
use Rattle.ordering.specs.declared.Ordered.{Ordered}
use Rattle.ordering.specs.Promise as ordering
use Rattle.needs.specs.Needs.{worked}
use Rattle.needs.specs.Enough.{Long}
use Rattle.needs.proofs.Enough.{check-never, never-says, roomy_of, key-least, told}
use Rattle.planner_needs.specs.Needs.{cells_need, edges_need, facets_need, border_need, signs_need, plain_need, ordered_need, turns_need}

-- ---- how the calls end
listed-end : (d : ℕ) (cs words : List (List ℕ)) (given : ℕ) → length (flat words) ≤ given → (r : Counted) (h : List ℕ) → skeleton.Ends [] d cs (skeleton.Gives words given) r h → r ≡ Err TooShort → ⊥
listed-end d cs words given fits r h (skeleton.crowded x) t = cc
listed-end d cs words given fits r h (skeleton.rest free (skeleton.short less)) t = omega (arith, less, fits)
listed-end d cs words given fits r h (skeleton.rest free (skeleton.listed enough)) t = cc

both_end : (d : ℕ) (cs words : List (List ℕ)) (table : List ℕ) (given given' : ℕ) → length (flat words) ≤ given → length table ≤ given' → (r : Counted) (h : List ℕ × List ℕ) → skeleton.Ends ([], []) d cs (skeleton.GivesBoth words table given given') r h → r ≡ Err TooShort → ⊥
both_end d cs words table given given' fits also r h (skeleton.crowded x) t = cc
both_end d cs words table given given' fits also r h (skeleton.rest free (skeleton.words_short less)) t = omega (arith, less, fits)
both_end d cs words table given given' fits also r h (skeleton.rest free (skeleton.table_short less)) t = omega (arith, less, also)
both_end d cs words table given given' fits also r h (skeleton.rest free (skeleton.both_listed e f)) t = cc

signs-end : (d : ℕ) (cs : List (List ℕ)) (given : ℕ) → length cs ≤ given → (r : Result Coherence Refusal) (h : List ℤ) → orientation.Ends d cs given r h → r ≡ Err TooShort → ⊥
signs-end d cs given fits r h (orientation.crowded x) t = cc
signs-end d cs given fits r h (orientation.one_sided free none) t = cc
signs-end d cs given fits r h (orientation.short free σ o less) t = omega (arith, less, fits)
signs-end d cs given fits r h (orientation.signed free σ o enough) t = cc

by_end : (d : ℕ) (cs : List (List ℕ)) (signs : List ℤ) (r : Verdict) (h : Unit {0}) → orientation-by.Ends d cs signs r h → r ≡ Err TooShort → ⊥
by_end d cs signs r h (orientation-by.crowded x) t = cc
by_end d cs signs r h (orientation-by.unfit free none) t = cc
by_end d cs signs r h (orientation-by.agreed free σ g some c) t = cc
by_end d cs signs r h (orientation-by.differs free σ g non) t = cc

ordered_end : (d : ℕ) (cs : List (List ℕ)) (order : List ℕ) (given : ℕ) → length cs * suc d ≤ given → (r : Result Ordered Refusal) (h : List ℕ) → ordering.Ends d cs order given r h → r ≡ Err TooShort → ⊥
ordered_end d cs order given fits r h (ordering.crowded x) t = cc
ordered_end d cs order given fits r h (ordering.unordered free non) t = cc
ordered_end d cs order given fits r h (ordering.short free o less) t = omega (arith, less, fits)
ordered_end d cs order given fits r h (ordering.agreed free o enough a) t = cc
ordered_end d cs order given fits r h (ordering.differs free o enough non) t = cc

wound-end : (d : ℕ) (cs : List (List ℕ)) (order : List ℕ) (r : Verdict) (h : Unit {0}) → ordering.Wound d cs order r h → r ≡ Err TooShort → ⊥
wound-end d cs order r h (ordering.crowded x) t = cc
wound-end d cs order r h (ordering.unordered free non) t = cc
wound-end d cs order r h (ordering.coherent free o some c) t = cc
wound-end d cs order r h (ordering.incoherent free o non) t = cc

-- ---- the calls: the working lists have the lengths that are told, or more, and so has each result list
module _ (d : ℕ) (ws keys rows spare counts : List ℕ) {keys' rows' spare' counts' : List ℕ} where
  pub cells-enough : {out out' : List ℕ} {r : Counted} → skeleton.Listed (need_of d (length ws)) (cells_of d ws) d ws r out out' keys keys' rows rows' spare spare' counts counts' → Long (cells_need d (worked d (length ws))) (length out ∷ length keys ∷ length rows ∷ length spare ∷ length counts ∷ []) → r ≡ Err TooShort → ⊥
  cells-enough {out = out} a l t =
      never-says [] (answer_of d ws) (check-never d ws) (Passed d ws) (fine-passed d ws) (need_of d (length ws)) (lengths keys rows spare counts) (skeleton.Ends [] d (cells_of d ws) (skeleton.Gives (cells_of d ws) (length out)))
      (λ p. let k = told d ws (cells_need d) (length out ∷ length keys ∷ length rows ∷ length spare ∷ length counts ∷ []) l p in roomy_of (need_of d (length ws)) _ _ _ _ k.1)
      (λ p. let k = told d ws (cells_need d) (length out ∷ length keys ∷ length rows ∷ length spare ∷ length counts ∷ []) l p in listed-end d (cells_of d ws) (cells_of d ws) (length out) (omega (arith, k.0, cells_fit d ws p)))
      a.call.comes t

  pub edges-enough : {out out' : List ℕ} {r : Counted} → skeleton.Listed (edge_need d (length ws)) (edges_of (cells_of d ws)) d ws r out out' keys keys' rows rows' spare spare' counts counts' → Long (edges_need d (worked d (length ws))) (length out ∷ length keys ∷ length rows ∷ length spare ∷ length counts ∷ []) → r ≡ Err TooShort → ⊥
  edges-enough {out = out} a l t =
      never-says [] (answer_of d ws) (check-never d ws) (Passed d ws) (fine-passed d ws) (edge_need d (length ws)) (lengths keys rows spare counts) (skeleton.Ends [] d (cells_of d ws) (skeleton.Gives (edges_of (cells_of d ws)) (length out)))
      (λ p. let k = told d ws (edges_need d) (length out ∷ length keys ∷ length rows ∷ length spare ∷ length counts ∷ []) l p in roomy_of (edge_need d (length ws)) _ _ _ _ k.1)
      (λ p. let k = told d ws (edges_need d) (length out ∷ length keys ∷ length rows ∷ length spare ∷ length counts ∷ []) l p in listed-end d (cells_of d ws) (edges_of (cells_of d ws)) (length out) (omega (arith, k.0, edges_fit d ws p, key-least d (length ws))))
      a.call.comes t

  pub border-enough : {out out' : List ℕ} {r : Counted} → skeleton.Listed (need_of d (length ws)) (border_of d (cells_of d ws)) d ws r out out' keys keys' rows rows' spare spare' counts counts' → Long (border_need d (worked d (length ws))) (length out ∷ length keys ∷ length rows ∷ length spare ∷ length counts ∷ []) → r ≡ Err TooShort → ⊥
  border-enough {out = out} a l t =
      never-says [] (answer_of d ws) (check-never d ws) (Passed d ws) (fine-passed d ws) (need_of d (length ws)) (lengths keys rows spare counts) (skeleton.Ends [] d (cells_of d ws) (skeleton.Gives (border_of d (cells_of d ws)) (length out)))
      (λ p. let k = told d ws (border_need d) (length out ∷ length keys ∷ length rows ∷ length spare ∷ length counts ∷ []) l p in roomy_of (need_of d (length ws)) _ _ _ _ k.1)
      (λ p. let k = told d ws (border_need d) (length out ∷ length keys ∷ length rows ∷ length spare ∷ length counts ∷ []) l p in listed-end d (cells_of d ws) (border_of d (cells_of d ws)) (length out) (omega (arith, k.0, border-fits d ws p)))
      a.call.comes t

  pub facets-enough : {out out' : List ℕ} {table table' : List ℕ} {r : Counted} → skeleton.FacetsListed d ws r out out' table table' keys keys' rows rows' spare spare' counts counts' → Long (facets_need d (worked d (length ws))) (length out ∷ length table ∷ length keys ∷ length rows ∷ length spare ∷ length counts ∷ []) → r ≡ Err TooShort → ⊥
  facets-enough {out = out} {table = table} a l t =
      never-says ([], []) (answer_of d ws) (check-never d ws) (Passed d ws) (fine-passed d ws) (need_of d (length ws)) (lengths keys rows spare counts) (skeleton.Ends ([], []) d (cells_of d ws) (skeleton.GivesBoth (facets_of d (cells_of d ws)) (table_of d (cells_of d ws)) (length out) (length table)))
      (λ p. let k = told d ws (facets_need d) (length out ∷ length table ∷ length keys ∷ length rows ∷ length spare ∷ length counts ∷ []) l p in roomy_of (need_of d (length ws)) _ _ _ _ k.1.1)
      (λ p. let k = told d ws (facets_need d) (length out ∷ length table ∷ length keys ∷ length rows ∷ length spare ∷ length counts ∷ []) l p in both_end d (cells_of d ws) (facets_of d (cells_of d ws)) (table_of d (cells_of d ws)) (length out) (length table) (omega (arith, k.0, facets-fit d ws p)) (omega (arith, k.1.0, table_fits d ws p)))
      a.call.comes t

  pub orientation-enough : {signs signs' : List ℤ} {r : Result Coherence Refusal} → orientation.Orientation d ws r signs signs' keys keys' rows rows' spare spare' counts counts' → Long (signs_need d (worked d (length ws))) (length signs ∷ length keys ∷ length rows ∷ length spare ∷ length counts ∷ []) → r ≡ Err TooShort → ⊥
  orientation-enough {signs = signs} a l t =
      never-says [] (answer_of d ws) (check-never d ws) (Passed d ws) (fine-passed d ws) (record_need (length ws)) (lengths keys rows spare counts) (orientation.Ends d (cells_of d ws) (length signs))
      (λ p. let k = told d ws (signs_need d) (length signs ∷ length keys ∷ length rows ∷ length spare ∷ length counts ∷ []) l p in roomy_of (record_need (length ws)) _ _ _ _ k.1)
      (λ p. let k = told d ws (signs_need d) (length signs ∷ length keys ∷ length rows ∷ length spare ∷ length counts ∷ []) l p in signs-end d (cells_of d ws) (length signs) (omega (arith, k.0, cells-most d ws p)))
      a.comes t

  pub orient-by-enough : (signs : List ℤ) {r : Verdict} → orientation-by.OrientBy d ws signs r keys keys' rows rows' spare spare' counts counts' → Long (plain_need (worked d (length ws))) (length keys ∷ length rows ∷ length spare ∷ length counts ∷ []) → r ≡ Err TooShort → ⊥
  orient-by-enough signs a l t =
      never-says tt (answer_of d ws) (check-never d ws) (Passed d ws) (fine-passed d ws) (record_need (length ws)) (lengths keys rows spare counts) (orientation-by.Ends d (cells_of d ws) signs)
      (λ p. let k = told d ws plain_need (length keys ∷ length rows ∷ length spare ∷ length counts ∷ []) l p in roomy_of (record_need (length ws)) _ _ _ _ (k))
      (λ p. let k = told d ws plain_need (length keys ∷ length rows ∷ length spare ∷ length counts ∷ []) l p in by_end d (cells_of d ws) signs)
      a.comes t

  pub ordering-enough : (order : List ℕ) {out out' : List ℕ} {r : Result Ordered Refusal} → ordering.Ordering d ws order r out out' keys keys' rows rows' spare spare' counts counts' → Long (ordered_need (worked d (length ws))) (length out ∷ length keys ∷ length rows ∷ length spare ∷ length counts ∷ []) → r ≡ Err TooShort → ⊥
  ordering-enough order {out = out} a l t =
      never-says [] (answer_of d ws) (check-never d ws) (Passed d ws) (fine-passed d ws) (ordering.order_need (length ws)) (lengths keys rows spare counts) (ordering.Ends d (cells_of d ws) order (length out))
      (λ p. let k = told d ws ordered_need (length out ∷ length keys ∷ length rows ∷ length spare ∷ length counts ∷ []) l p in roomy_of (ordering.order_need (length ws)) _ _ _ _ k.1)
      (λ p. let k = told d ws ordered_need (length out ∷ length keys ∷ length rows ∷ length spare ∷ length counts ∷ []) l p in ordered_end d (cells_of d ws) order (length out) (omega (arith, k.0, corners-most d ws p)))
      a.comes t

  pub induced-enough : (order : List ℕ) {r : Verdict} → ordering.Induced d ws order r keys keys' rows rows' spare spare' counts counts' → Long (turns_need (worked d (length ws))) (length keys ∷ length rows ∷ length spare ∷ length counts ∷ []) → r ≡ Err TooShort → ⊥
  induced-enough order a l t =
      never-says tt (answer_of d ws) (check-never d ws) (Passed d ws) (fine-passed d ws) (ordering.order_need (length ws)) (lengths keys rows spare counts) (ordering.Wound d (cells_of d ws) order)
      (λ p. let k = told d ws turns_need (length keys ∷ length rows ∷ length spare ∷ length counts ∷ []) l p in roomy_of (ordering.order_need (length ws)) _ _ _ _ (k))
      (λ p. let k = told d ws turns_need (length keys ∷ length rows ∷ length spare ∷ length counts ∷ []) l p in wound-end d (cells_of d ws) order)
      a.comes t
