-- With lists of the lengths that are told, a call of the common shape never says 12. Assumes nothing.
use Rattle.refusal.specs.declared.Refusal.{Refusal}
use Rattle.refusal.specs.declared.Refusal.TheVariants.{BadDimension, RaggedWords, TooManyCells, VertexTwice, UnusedNumber, TooManyVertices, CrowdedFacet, ShortAxis, BadReflection, BadSide, BadRefinement, TooShort, NoSigns, BadSigns, TwoLengths, BadOrder, Unreadable, OtherGrid, BadLatitudes, FileEnds, UnknownKind, BadFile, NoSuchCell, BadFaces}
use Rattle.refusal.specs.Table.{number_of}
use Rattle.refusal.specs.Says.{Answer, fine}
use Rattle.std.specs.Prelude.{Ok, Err, Result}
use mathlib.Core.Bool.{Bool, true, false, not}
use mathlib.Core.List.{List, [], ◌∷◌}
use mathlib.Core.Path.{◌≡◌, refl, sym, ap, ◌∙◌, subst}
use Prim.Native.Nat.{ℕ, zero, suc, ◌+◌, ◌*◌, ◌/◌, ◌%◌, ◌≤◌}
use native.Mathlib.Nat.{mul-le-mul_right}
use native.Mathlib.Omega.{arith}
use lib.Dec.{eqb, leb, ltb}
use lib.ListN.{length}
use Rattle.lists.specs.Words.{largest_of}
use Rattle.refusal.specs.declared.Room.{Room}
use Rattle.refusal.specs.Limits.{most_dimension, most_cells, most_vertices}
use Rattle.refusal.specs.Refuse.{refuse}
use Rattle.refusal.specs.Lent.{Roomy, untouched}
use Rattle.refusal.specs.Call.{Call, Comes, refused, cramped, ended}
use Rattle.refusal.proofs.Chain.{fine-refused, refused-same}
use Rattle.complex.specs.Check.{first_repeat, least_unused, answer_of, Passed}
use Rattle.complex.specs.Room.{key_room}
use Rattle.complex_cells.proofs.Making.{whole_words}
use Rattle.needs.specs.Needs.{worked, lists}
use Rattle.needs.specs.Enough.{Long}
use Rattle.needs.proofs.Laws.{worked-taken}

-- ---- the check of a word list never says 12
pub passes_over : (t : Bool) (why : Refusal) (rest : Answer) → (why ≡ TooShort → ⊥) → (rest ≡ Err TooShort → ⊥) → refuse t why rest ≡ Err TooShort → ⊥
passes_over true why rest other never e = other (refused-same why TooShort e)
passes_over false why rest other never e = never e

pub fine-never : fine ≡ Err TooShort → ⊥
fine-never e = fine-refused TooShort (sym e)

pub check-never : (d : ℕ) (ws : List ℕ) → answer_of d ws ≡ Err TooShort → ⊥
unfolding answer_of
check-never d ws =
    passes_over (ltb most_dimension d) BadDimension _ (λ (e : BadDimension ≡ TooShort). cc)
    (passes_over (eqb (length ws) 0) RaggedWords _ (λ (e : RaggedWords ≡ TooShort). cc)
    (passes_over (not (eqb (length ws % (d + 1)) 0)) RaggedWords _ (λ (e : RaggedWords ≡ TooShort). cc)
    (passes_over (ltb most_cells (length ws / (d + 1))) TooManyCells _ (λ (e : TooManyCells ≡ TooShort). cc)
    (passes_over (ltb (first_repeat (d + 1) ws (length ws / (d + 1))) (length ws / (d + 1))) (VertexTwice (first_repeat (d + 1) ws (length ws / (d + 1)))) _ (λ (e : VertexTwice (first_repeat (d + 1) ws (length ws / (d + 1))) ≡ TooShort). cc)
    (passes_over (leb most_vertices (largest_of ws)) TooManyVertices _ (λ (e : TooManyVertices ≡ TooShort). cc)
    (passes_over (ltb (least_unused ws) (largest_of ws)) (UnusedNumber (least_unused ws)) _ (λ (e : UnusedNumber (least_unused ws) ≡ TooShort). cc)
    fine-never))))))

-- an answer that refuses
abbrev answered : Refusal → Answer
answered why = Err why

-- 12 is the number of one refusal alone
only-twelve : (why : Refusal) → number_of why ≡ number_of TooShort → why ≡ TooShort
only-twelve BadDimension e = absurd (omega (arith, e))
only-twelve RaggedWords e = absurd (omega (arith, e))
only-twelve TooManyCells e = absurd (omega (arith, e))
only-twelve (VertexTwice word) e = absurd (omega (arith, e))
only-twelve (UnusedNumber vertex) e = absurd (omega (arith, e))
only-twelve TooManyVertices e = absurd (omega (arith, e))
only-twelve CrowdedFacet e = absurd (omega (arith, e))
only-twelve (ShortAxis axis) e = absurd (omega (arith, e))
only-twelve (BadReflection axis) e = absurd (omega (arith, e))
only-twelve (BadSide side) e = absurd (omega (arith, e))
only-twelve BadRefinement e = absurd (omega (arith, e))
only-twelve TooShort e = refl
only-twelve NoSigns e = absurd (omega (arith, e))
only-twelve BadSigns e = absurd (omega (arith, e))
only-twelve TwoLengths e = absurd (omega (arith, e))
only-twelve BadOrder e = absurd (omega (arith, e))
only-twelve Unreadable e = absurd (omega (arith, e))
only-twelve OtherGrid e = absurd (omega (arith, e))
only-twelve BadLatitudes e = absurd (omega (arith, e))
only-twelve FileEnds e = absurd (omega (arith, e))
only-twelve UnknownKind e = absurd (omega (arith, e))
only-twelve BadFile e = absurd (omega (arith, e))
only-twelve NoSuchCell e = absurd (omega (arith, e))
only-twelve BadFaces e = absurd (omega (arith, e))

-- ---- a call: the check, the room and the end never say 12, whatever the call says and however its refusals are numbered
module _ {S H K : Type 0} (no : Refusal → S) (number : S → ℕ) (refusal : (why : Refusal) → number (no why) ≡ number_of why) (nothing : H) (unused : K) (checked : Answer) (over : checked ≡ Err TooShort → ⊥) (P : Type 0) (passed : checked ≡ fine → P) (need : K) (Fits : Type 0) (Ends : S → H → Type 0) where
  pub call-never : (P → Fits) → (P → (r : S) (h : H) → Ends r h → number r ≡ number_of TooShort → ⊥) → {r : S} {h : H} {u : K} → Call no nothing unused checked need Fits Ends r h u → number r ≡ number_of TooShort → ⊥
  call-never fits ends (refused {why = why} e) t = over (e ∙ ap answered (only-twelve why (sym (refusal why) ∙ t)))
  call-never fits ends (cramped e less) t = less (fits (passed e))
  call-never fits ends (ended {r = r} {h = h} e roomy end) t = ends (passed e) r h end t

-- with the four working lists
module _ {S H : Type 0} (no : Refusal → S) (number : S → ℕ) (refusal : (why : Refusal) → number (no why) ≡ number_of why) (nothing : H) (checked : Answer) (over : checked ≡ Err TooShort → ⊥) (P : Type 0) (passed : checked ≡ fine → P) (need have : Room) (Ends : S → H → Type 0) where
  pub never : (P → Roomy need have) → (P → (r : S) (h : H) → Ends r h → number r ≡ number_of TooShort → ⊥) → {r : S} {h : H} {u : Room} → Comes no nothing checked need have Ends r h u → number r ≡ number_of TooShort → ⊥
  never = call-never no number refusal nothing untouched checked over P passed need (Roomy need have) Ends

-- ---- the same of a call that says `Err` with its refusals
abbrev numbered : {T : Type 0} → Result T Refusal → ℕ
numbered (Ok x) = 0
numbered (Err why) = number_of why

says-short : {T : Type 0} (r : Result T Refusal) → numbered r ≡ number_of TooShort → r ≡ Err TooShort
says-short (Ok x) e = absurd (omega (arith, e))
says-short (Err why) e = ap Err (only-twelve why e)

module _ {T H K : Type 0} (nothing : H) (unused : K) (checked : Answer) (over : checked ≡ Err TooShort → ⊥) (P : Type 0) (passed : checked ≡ fine → P) (need : K) (Fits : Type 0) (Ends : Result T Refusal → H → Type 0) where
  pub call-never-says : (P → Fits) → (P → (r : Result T Refusal) (h : H) → Ends r h → r ≡ Err TooShort → ⊥) → {r : Result T Refusal} {h : H} {u : K} → Call Err nothing unused checked need Fits Ends r h u → r ≡ Err TooShort → ⊥
  call-never-says fits ends {r = r} x t = call-never Err numbered (λ why. refl) nothing unused checked over P passed need Fits Ends fits (λ p s h e n. ends p s h e (says-short s n)) x (ap numbered t)

module _ {T H : Type 0} (nothing : H) (checked : Answer) (over : checked ≡ Err TooShort → ⊥) (P : Type 0) (passed : checked ≡ fine → P) (need have : Room) (Ends : Result T Refusal → H → Type 0) where
  pub never-says : (P → Roomy need have) → (P → (r : Result T Refusal) (h : H) → Ends r h → r ≡ Err TooShort → ⊥) → {r : Result T Refusal} {h : H} {u : Room} → Comes Err nothing checked need have Ends r h u → r ≡ Err TooShort → ⊥
  never-says = call-never-says nothing untouched checked over P passed need (Roomy need have) Ends

-- ---- a checked list is worked on whole
pub all-worked : (d : ℕ) (ws : List ℕ) → Passed d ws → worked d (length ws) ≡ length ws
all-worked d ws p = worked-taken d (length ws) p.small (omega (arith, whole_words d ws p, mul-le-mul_right (d + 1) p.few))

pub key-least : (d n : ℕ) → d * n ≤ key_room d n
key-least zero n = omega arith
key-least (suc d) n = omega arith

pub roomy_of : (need : Room) (a b c e : ℕ) → Long (lists need) (a ∷ b ∷ c ∷ e ∷ []) → Roomy need (record { keys = a; rows = b; spare = c; counts = e })
roomy_of need a b c e l = record { in_keys = l.0; in_rows = l.1.0; in_spare = l.1.1.0; in_counts = l.1.1.1.0 }

-- the told lengths are those of the words' own corners, once the words are checked
pub told : (d : ℕ) (ws : List ℕ) (need : ℕ → List ℕ) (have : List ℕ) → Long (need (worked d (length ws))) have → Passed d ws → Long (need (length ws)) have
told d ws need have l p = subst (λ (n : ℕ). Long (need n) have) (all-worked d ws p) l
