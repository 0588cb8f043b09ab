-- What the loops and the tests say of lists and numbers. Assumes nothing.
use mathlib.Core.Path.{◌≡◌, refl, ap, sym, ◌∙◌}
use Prim.Native.Nat.{ℕ, zero, suc, ◌+◌, ◌*◌, ◌<◌, ◌≤◌}
use native.Mathlib.Omega.{arith}
use mathlib.Core.Bool.{Bool, true, false}
use mathlib.Core.List.{List, [], ◌∷◌, ◌++◌}
use lib.ListN.{length, get_or, drop, set, length-append}
use lib.Seq.{drop-cons, set_at, append_snoc}
use lib.Dec.{eqb, lit≤}
use lib.IntN.{ℤ, pos, negsuc}
use mir.Syntax.{w32}
use mir.Val.{to_z, of_z}
use Rattle.lists.specs.Words.{none}
use Rattle.complex_facets.specs.Records.{one_if}
use Rattle.complex_records.specs.declared.FacetRec.{FacetRec}
use Rattle.complex_records.specs.Record.{no_facet, sign_if, sign_number, record_at, first_records, bordering}

-- ---- a record by its five fields
abbrev fields : ℕ → ℤ → ℕ → ℤ → Bool → FacetRec
fields cell sign other there agree = record { cell = cell; sign = sign; other = other; other_sign = there; agree = agree }

-- a sign's number is stored and read as it is
sign_kept : (s t : Bool) → to_z w32 (of_z w32 (sign_if s (pos 1) (sign_if t (negsuc 0) (pos 0)))) ≡ sign_if s (pos 1) (sign_if t (negsuc 0) (pos 0))
sign_kept true t = refl
sign_kept false true = refl
sign_kept false false = refl

stored : (mark : ℕ) (sign : ℤ) → sign ≡ sign_number mark → to_z w32 (of_z w32 sign) ≡ sign_number mark
stored mark sign e = ap (λ (z : ℤ). to_z w32 (of_z w32 z)) e ∙ sign_kept (eqb mark 1) (eqb mark 2)

pub made : (flat : List ℕ) (i : ℕ) (sign there : ℤ) → sign ≡ sign_number (get_or flat (i * 5 + 1) 0) → there ≡ sign_number (get_or flat (i * 5 + 3) 0) →
    fields (get_or flat (i * 5) 0) (to_z w32 (of_z w32 sign)) (get_or flat (i * 5 + 2) 0) (to_z w32 (of_z w32 there)) (eqb (get_or flat (i * 5 + 4) 0) 1) ≡ record_at flat i
made flat i sign there p q =
    ap (λ (z : ℤ). fields (get_or flat (i * 5) 0) z (get_or flat (i * 5 + 2) 0) (to_z w32 (of_z w32 there)) (eqb (get_or flat (i * 5 + 4) 0) 1)) (stored (get_or flat (i * 5 + 1) 0) sign p) ∙
    ap (λ (z : ℤ). fields (get_or flat (i * 5) 0) (sign_number (get_or flat (i * 5 + 1) 0)) (get_or flat (i * 5 + 2) 0) z (eqb (get_or flat (i * 5 + 4) 0) 1)) (stored (get_or flat (i * 5 + 3) 0) there q)

-- ---- the records written so far
pub first-length : (k : ℕ) (flat : List ℕ) → length (first_records k flat) ≡ k
unfolding first_records
first-length zero flat = refl
first-length (suc k) flat = length-append (first_records k flat) (record_at flat k ∷ []) ∙ omega (arith, first-length k flat)

-- one more is written
pub written : (flat : List ℕ) (records : List FacetRec) (i : ℕ) → i < length records → set (first_records i flat ++ drop i records) i (record_at flat i) ≡ first_records (suc i) flat ++ drop (suc i) records
unfolding first_records
written flat records i h = rw (drop-cons records i no_facet h) (set_at (first_records i flat) (get_or records i no_facet) (drop (suc i) records) (record_at flat i) i (first-length i flat) ∙ sym (append_snoc (first_records i flat) (record_at flat i) (drop (suc i) records)))

-- ---- the facets counted so far
pub one-most : (t : Bool) → one_if t ≤ 1
one-most true = lit≤ tt
one-most false = omega arith

pub bordering-most : (n : ℕ) (records : List FacetRec) → bordering n records ≤ n
unfolding bordering
bordering-most zero records = omega arith
bordering-most (suc n) records = omega (arith, bordering-most n records, one-most (eqb (get_or records n no_facet).other none))
