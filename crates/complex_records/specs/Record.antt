-- The facet records as structs: what five numbers of the flat list say of a facet. Assumes nothing.
use Rattle.std.specs.Prelude.{ℕ, zero, suc, ◌+◌, ◌*◌, Bool, true, false, List, [], ◌∷◌, ◌++◌, Option, Some, None, ℤ, pos, negsuc, length, get_or, eqb, ltb}
use Rattle.lists.specs.Words.{none}
use Rattle.complex.specs.Skeleton.{facets_of}
use Rattle.complex_facets.specs.Records.{one_if, records_of}
use Rattle.complex_records.specs.declared.FacetRec.{FacetRec}

-- what stands past the end of a list of records
abbrev pub no_facet : FacetRec
no_facet = record { cell = 0; sign = pos 0; other = 0; other_sign = pos 0; agree = false }

-- one number where the test holds, else the other
abbrev pub sign_if : Bool → ℤ → ℤ → ℤ
sign_if true s t = s
sign_if false s t = t

-- the sign that a mark stands for: 1 for the mark 1, -1 for 2, and 0 where there is none
abbrev pub sign_number : ℕ → ℤ
sign_number mark = sign_if (eqb mark 1) (pos 1) (sign_if (eqb mark 2) (negsuc 0) (pos 0))

-- the i-th record of a flat list: the lower cell and the sign there, the other cell and the sign there, and whether the words agree
abbrev pub record_at : List ℕ → ℕ → FacetRec
record_at flat i = record { cell = get_or flat (i * 5) 0; sign = sign_number (get_or flat (i * 5 + 1) 0); other = get_or flat (i * 5 + 2) 0; other_sign = sign_number (get_or flat (i * 5 + 3) 0); agree = eqb (get_or flat (i * 5 + 4) 0) 1 }

-- the first k records of a flat list
unfoldable pub first_records : ℕ → List ℕ → List FacetRec
first_records zero flat = []
first_records (suc k) flat = first_records k flat ++ (record_at flat k ∷ [])

-- the records of the facets of cells, by the words ks, one for each cell
abbrev pub facet_records : ℕ → List (List ℕ) → List (List ℕ) → List FacetRec
facet_records d cs ks = first_records (length (facets_of d cs)) (records_of d cs ks)

-- 1 for a facet that lies in one cell, and 0 for another
abbrev pub lone_of : FacetRec → ℕ
lone_of r = one_if (eqb r.other none)

-- how many of the first n records have a facet that lies in one cell
unfoldable pub bordering : ℕ → List FacetRec → ℕ
bordering zero records = 0
bordering (suc n) records = bordering n records + lone_of (get_or records n no_facet)

-- the i-th record, or None where there is none
abbrev pub found_if : Bool → FacetRec → Option FacetRec
found_if true r = Some r
found_if false r = None

abbrev pub found_at : List FacetRec → ℕ → Option FacetRec
found_at records i = found_if (ltb i (length records)) (get_or records i no_facet)
