-- With lists of the lengths that are told, a call never says 12. Assumes nothing.
use Rattle.refusal.specs.declared.Refusal.TheVariants.{TooShort}
use Rattle.refusal.specs.Says.{Counted}
use Rattle.std.specs.Prelude.{Err}
use Rattle.complex_dropped.specs.Says.{Dropping}
use mathlib.Core.List.{List, [], ◌∷◌}
use mathlib.Core.Path.{◌≡◌}
use Prim.Native.Nat.{ℕ, ◌-◌, ◌≤◌}
use native.Mathlib.Nat.{mul-le-mul_left}
use native.Mathlib.Omega.{arith}
use lib.IntN.{ℤ}
use lib.ListN.{length}
use Rattle.lists.specs.Rows.{flat}
use Rattle.refusal.specs.Lent.{lengths}
use Rattle.complex.specs.Check.{answer_of, Passed}
use Rattle.complex.specs.Cells.{cells_of}
use Rattle.complex.specs.Room.{need_of}
use Rattle.complex.proofs.Fine.{fine-passed}
use Rattle.skeleton.specs.Promise as skeleton
use Rattle.complex_faces.specs.Faces.{faces_of}
use Rattle.complex_faces.specs.Entries.{Entry, entries_of}
use Rattle.complex_faces.specs.Index.{starts_of, word_index}
use Rattle.complex_boundary.specs.Need.{face_need}
use Rattle.complex_boundary.specs.Promise as boundary
use Rattle.complex_incidence.specs.Promise as incidence
use Rattle.complex_dropped.specs.Kept.{staying, kept_words, old_numbers}
use Rattle.complex_dropped.specs.Promise as dropped
use Rattle.file_market.specs.File.{market_of}
use Rattle.file_market.specs.Promise as market
use Rattle.file_market.proofs.Calls.{file-long}
use Rattle.needs.specs.Needs.{worked}
use Rattle.needs.specs.Enough.{Long}
use Rattle.needs.proofs.Enough.{check-never, never-says, roomy_of, told}
use Rattle.planner_needs_faces.specs.Needs.{index_need, faces_need, boundary_need, market_need, dropped_need}
use Rattle.planner_needs_faces.proofs.Sizes.{faces-fit, entries_fit, index-fits, starts_fit, kept-fits, old-fits}

-- ---- how the calls end
module _ (d : ℕ) (cs : List (List ℕ)) where
  index-end : (words : List (List ℕ)) (table : List ℕ) (given given' : ℕ) → length (flat words) ≤ given → length table ≤ given' → (r : Counted) (h : List ℕ × List ℕ) → skeleton.Ends ([], []) d cs (skeleton.GivesBoth words table given given') r h → r ≡ Err TooShort → ⊥
  index-end words table given given' fits also r h (skeleton.crowded x) t = cc
  index-end words table given given' fits also r h (skeleton.rest free (skeleton.words_short less)) t = omega (arith, less, fits)
  index-end words table given given' fits also r h (skeleton.rest free (skeleton.table_short less)) t = omega (arith, less, also)
  index-end words table given given' fits also r h (skeleton.rest free (skeleton.both_listed e f)) t = cc

  faces-end : (k given : ℕ) → (k ≤ d → length (flat (faces_of cs k)) ≤ given) → (r : Counted) (h : List ℕ) → skeleton.Ends [] d cs (boundary.Within [] (k ≤ d) (skeleton.Gives (faces_of cs k) given)) r h → r ≡ Err TooShort → ⊥
  faces-end k given fits r h (skeleton.crowded x) t = cc
  faces-end k given fits r h (skeleton.rest free (boundary.outside non)) t = cc
  faces-end k given fits r h (skeleton.rest free (boundary.inside there (skeleton.short less))) t = omega (arith, less, fits there)
  faces-end k given fits r h (skeleton.rest free (boundary.inside there (skeleton.listed e))) t = cc

  boundary_end : (k given given' given'' : ℕ) (es : List Entry) → ((1 ≤ k) × (k ≤ d) → (length es ≤ given) × (length es ≤ given') × (length es ≤ given'')) → (r : Counted) (h : List ℤ × List ℕ × List ℕ) → skeleton.Ends ([], [], []) d cs (boundary.Within ([], [], []) ((1 ≤ k) × (k ≤ d)) (boundary.GivesEntries es given given' given'')) r h → r ≡ Err TooShort → ⊥
  boundary_end k given given' given'' es fits r h (skeleton.crowded x) t = cc
  boundary_end k given given' given'' es fits r h (skeleton.rest free (boundary.outside non)) t = cc
  boundary_end k given given' given'' es fits r h (skeleton.rest free (boundary.inside there (boundary.signs_short less))) t = omega (arith, less, (fits there).0)
  boundary_end k given given' given'' es fits r h (skeleton.rest free (boundary.inside there (boundary.faces_short less))) t = omega (arith, less, (fits there).1)
  boundary_end k given given' given'' es fits r h (skeleton.rest free (boundary.inside there (boundary.cofaces_short less))) t = omega (arith, less, (fits there).2)
  boundary_end k given given' given'' es fits r h (skeleton.rest free (boundary.inside there (boundary.entries_listed e f g))) t = cc

  market-end : (k given : ℕ) (file : List ℕ) → ((1 ≤ k) × (k ≤ d) → length file ≤ given) → (r : Counted) (h : List ℕ) → skeleton.Ends [] d cs (boundary.Within [] ((1 ≤ k) × (k ≤ d)) (market.GivesFile file given)) r h → r ≡ Err TooShort → ⊥
  market-end k given file fits r h (skeleton.crowded x) t = cc
  market-end k given file fits r h (skeleton.rest free (boundary.outside non)) t = cc
  market-end k given file fits r h (skeleton.rest free (boundary.inside there (market.short less))) t = omega (arith, less, fits there)
  market-end k given file fits r h (skeleton.rest free (boundary.inside there (market.written e))) t = cc

dropped-end : (d : ℕ) (ws gone : List ℕ) (kept old : ℕ) → ((length (staying d ws gone) ≡ 0 → ⊥) → (length (kept_words d ws gone) ≤ kept) × (length (old_numbers d ws gone) ≤ old)) → (r : Dropping) (h : dropped.Lists) → dropped.Ends d ws gone kept old r h → r ≡ Err TooShort → ⊥
dropped-end d ws gone kept old fits r h (dropped.crowded x) t = cc
dropped-end d ws gone kept old fits r h (dropped.missing free m) t = cc
dropped-end d ws gone kept old fits r h (dropped.emptied p e) t = cc
dropped-end d ws gone kept old fits r h (dropped.short p s less) t = absurd (less (record { in_kept = (fits s).0; in_old = (fits s).1 }))
dropped-end d ws gone kept old fits r h (dropped.kept_all p s f) t = cc

-- ---- the calls: the working lists have the lengths that are told, or more, and so has each result list
module _ (d : ℕ) (ws keys rows spare counts : List ℕ) {keys' rows' spare' counts' : List ℕ} where
  pub incidence-enough : {touching touching' starts starts' : List ℕ} {r : Counted} → incidence.Indexed d ws r touching touching' starts starts' keys keys' rows rows' spare spare' counts counts' → Long (index_need d (worked d (length ws))) (length starts ∷ length touching ∷ length keys ∷ length rows ∷ length spare ∷ length counts ∷ []) → r ≡ Err TooShort → ⊥
  incidence-enough {touching = touching} {starts = starts} a l t =
      never-says ([], []) (answer_of d ws) (check-never d ws) (Passed d ws) (fine-passed d ws) (need_of d (length ws)) (lengths keys rows spare counts) (skeleton.Ends ([], []) d (cells_of d ws) (skeleton.GivesBoth (word_index d ws) (starts_of (word_index d ws)) (length touching) (length starts)))
      (λ p. let k = told d ws (index_need d) (length starts ∷ length touching ∷ length keys ∷ length rows ∷ length spare ∷ length counts ∷ []) l p in roomy_of (need_of d (length ws)) _ _ _ _ k.1.1)
      (λ p. let k = told d ws (index_need d) (length starts ∷ length touching ∷ length keys ∷ length rows ∷ length spare ∷ length counts ∷ []) l p in index-end d (cells_of d ws) (word_index d ws) (starts_of (word_index d ws)) (length touching) (length starts) (omega (arith, k.1.0, index-fits d ws p)) (omega (arith, k.0, starts_fit d ws p)))
      a.call.comes t

  pub faces-enough : (k : ℕ) {out out' : List ℕ} {r : Counted} → boundary.Faced d k ws r out out' keys keys' rows rows' spare spare' counts counts' → Long (faces_need d (worked d (length ws))) (length out ∷ length keys ∷ length rows ∷ length spare ∷ length counts ∷ []) → r ≡ Err TooShort → ⊥
  faces-enough k {out = out} a l t =
      never-says [] (answer_of d ws) (check-never d ws) (Passed d ws) (fine-passed d ws) (face_need d (length ws)) (lengths keys rows spare counts) (skeleton.Ends [] d (cells_of d ws) (boundary.Within [] (k ≤ d) (skeleton.Gives (faces_of (cells_of d ws) k) (length out))))
      (λ p. let q = told d ws (faces_need d) (length out ∷ length keys ∷ length rows ∷ length spare ∷ length counts ∷ []) l p in roomy_of (face_need d (length ws)) _ _ _ _ q.1)
      (λ p. let q = told d ws (faces_need d) (length out ∷ length keys ∷ length rows ∷ length spare ∷ length counts ∷ []) l p in faces-end d (cells_of d ws) k (length out) (λ h. omega (arith, q.0, faces-fit d ws p k h)))
      a.call.comes t

  pub boundary-enough : (k : ℕ) {signs signs' : List ℤ} {faces faces' cofaces cofaces' : List ℕ} {r : Counted} → boundary.Bounded d k ws r signs signs' faces faces' cofaces cofaces' keys keys' rows rows' spare spare' counts counts' → Long (boundary_need d (worked d (length ws))) (length signs ∷ length faces ∷ length cofaces ∷ length keys ∷ length rows ∷ length spare ∷ length counts ∷ []) → r ≡ Err TooShort → ⊥
  boundary-enough k {signs = signs} {faces = faces} {cofaces = cofaces} a l t =
      never-says ([], [], []) (answer_of d ws) (check-never d ws) (Passed d ws) (fine-passed d ws) (face_need d (length ws)) (lengths keys rows spare counts) (skeleton.Ends ([], [], []) d (cells_of d ws) (boundary.Within ([], [], []) ((1 ≤ k) × (k ≤ d)) (boundary.GivesEntries (entries_of (cells_of d ws) k) (length signs) (length faces) (length cofaces))))
      (λ p. let q = told d ws (boundary_need d) (length signs ∷ length faces ∷ length cofaces ∷ length keys ∷ length rows ∷ length spare ∷ length counts ∷ []) l p in roomy_of (face_need d (length ws)) _ _ _ _ q.1.1.1)
      (λ p.
      let q = told d ws (boundary_need d) (length signs ∷ length faces ∷ length cofaces ∷ length keys ∷ length rows ∷ length spare ∷ length counts ∷ []) l p in
      boundary_end d (cells_of d ws) k (length signs) (length faces) (length cofaces) (entries_of (cells_of d ws) k)
      (λ h. let e = entries_fit d ws p k h.0 h.1 in (omega (arith, e, q.0), omega (arith, e, q.1.0), omega (arith, e, q.1.1.0))))
      a.call.comes t

  pub market-enough : (k : ℕ) {bytes bytes' : List ℕ} {r : Counted} → market.Marketed d k ws r bytes bytes' keys keys' rows rows' spare spare' counts counts' → Long (market_need d (worked d (length ws))) (length bytes ∷ length keys ∷ length rows ∷ length spare ∷ length counts ∷ []) → r ≡ Err TooShort → ⊥
  market-enough k {bytes = bytes} a l t =
      never-says [] (answer_of d ws) (check-never d ws) (Passed d ws) (fine-passed d ws) (face_need d (length ws)) (lengths keys rows spare counts) (skeleton.Ends [] d (cells_of d ws) (boundary.Within [] ((1 ≤ k) × (k ≤ d)) (market.GivesFile (market_of d k ws) (length bytes))))
      (λ p. let q = told d ws (market_need d) (length bytes ∷ length keys ∷ length rows ∷ length spare ∷ length counts ∷ []) l p in roomy_of (face_need d (length ws)) _ _ _ _ q.1)
      (λ p.
      let q = told d ws (market_need d) (length bytes ∷ length keys ∷ length rows ∷ length spare ∷ length counts ∷ []) l p in
      market-end d (cells_of d ws) k (length bytes) (market_of d k ws)
      (λ h. omega (arith, q.0, file-long (length (faces_of (cells_of d ws) (k - 1))) (length (faces_of (cells_of d ws) k)) (entries_of (cells_of d ws) k), mul-le-mul_left 34 (entries_fit d ws p k h.0 h.1))))
      a.call.comes t

  pub drop-cells-enough : (gone : List ℕ) {kept kept' old old' : List ℕ} {r : Dropping} → dropped.DropCells d ws gone r kept kept' old old' keys keys' rows rows' spare spare' counts counts' → Long (dropped_need d (worked d (length ws))) (length kept ∷ length old ∷ length keys ∷ length rows ∷ length spare ∷ length counts ∷ []) → r ≡ Err TooShort → ⊥
  drop-cells-enough gone {kept = kept} {old = old} a l t =
      never-says dropped.nothing (answer_of d ws) (check-never d ws) (Passed d ws) (fine-passed d ws) (need_of d (length ws)) (lengths keys rows spare counts) (dropped.Ends d ws gone (length kept) (length old))
      (λ p. let k = told d ws (dropped_need d) (length kept ∷ length old ∷ length keys ∷ length rows ∷ length spare ∷ length counts ∷ []) l p in roomy_of (need_of d (length ws)) _ _ _ _ k.1.1)
      (λ p.
      let k = told d ws (dropped_need d) (length kept ∷ length old ∷ length keys ∷ length rows ∷ length spare ∷ length counts ∷ []) l p in
      dropped-end d ws gone (length kept) (length old) (λ s. (omega (arith, k.0, kept-fits d ws gone p), omega (arith, k.1.0, old-fits d ws gone p s))))
      a.comes t
