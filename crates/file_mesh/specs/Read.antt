-- How a mesh file is read: each `..From` takes its part off the front of the bytes, and tests each field as soon as its last byte has come. Assumes nothing.
use Rattle.refusal.specs.declared.Refusal.{Refusal}
use Rattle.refusal.specs.declared.Refusal.TheVariants.{BadFile, FileEnds, UnknownKind}
use Rattle.std.specs.Prelude.{ℕ, zero, suc, ◌+◌, ◌*◌, ◌-◌, ◌%◌, Bool, true, false, cond, ◌&&◌, List, [], ◌∷◌, ◌++◌, length, take, drop, leb, ltb, eqb}
use Rattle.file_bytes.specs.Bytes.{said, fours_of}
use Rattle.file_mesh.specs.declared.Run.{Run}
use Rattle.file_mesh.specs.Mesh.{Mesh, past}
use Rattle.file_mesh.specs.File.{head_kind, word_kind, birth_kind, end_kind, head_length, word_length, birth_length, end_length}
use Rattle.file_mesh.specs.Rules.{no_birth, more, follows, number_fits, refinement_fits, count_fits, vertex_fits, weight_fits, run_ends, weights_of}

-- ---- parts

-- what was read, and the bytes after it; or the refusal
pub data Part (A : Type 0) : Type 0 where
  no : Refusal → Part A
  got : A → List ℕ → Part A

-- the part that is read after another
unfoldable pub and_then : {A B : Type 0} → Part A → (A → List ℕ → Part B) → Part B
and_then (no why) f = no why
and_then (got x r) f = f x r

-- a part, where a test holds; else 22
unfoldable pub asked : {A : Type 0} → Bool → Part A → Part A
asked true p = p
asked false p = no BadFile

-- a number of k bytes, and one that has to pass a test
unfoldable pub number : ℕ → List ℕ → Part ℕ
number k bs = cond (ltb (length bs) k) (no FileEnds) (got (said (take k bs)) (drop k bs))

unfoldable pub field : ℕ → (ℕ → Bool) → List ℕ → Part ℕ
field k test bs = and_then (number k bs) (λ n r. asked (test n) (got n r))

-- n numbers of four bytes
unfoldable pub numbers : ℕ → List ℕ → Part (List ℕ)
numbers n bs = cond (ltb (length bs) (n * 4)) (no FileEnds) (got (fours_of n bs) (drop (n * 4) bs))

-- ---- records

-- a record's length and its kind
pub record Opening : Type 0 where
  pub len : ℕ
  pub kind : ℕ

unfoldable pub opening_from : List ℕ → Part Opening
opening_from bs =
    and_then (field 4 (λ n. leb 2 n) bs) (λ n r.
    and_then (number 2 r) (λ k s.
    cond (leb head_kind k && leb k end_kind) (got (record { len = n; kind = k }) s) (no UnknownKind)))

-- the dimension and the number of cells
pub record Header : Type 0 where
  pub d : ℕ
  pub count : ℕ

unfoldable pub header_from : List ℕ → Part Header
header_from bs =
    and_then (opening_from bs) (λ o r.
    asked (eqb o.kind head_kind && eqb o.len head_length)
    (and_then (number 2 r) (λ d s.
    and_then (number 2 s) (λ c t.
    got (record { d = d; count = c }) t))))

-- a word after the word `before`, and count of them
unfoldable pub word_from : ℕ → List ℕ → List ℕ → Part (List ℕ)
word_from d before bs =
    and_then (opening_from bs) (λ o r.
    asked (eqb o.kind word_kind && eqb o.len (word_length d))
    (and_then (numbers (d + 1) r) (λ w s.
    asked (follows d before w) (got w s))))

unfoldable pub words_from : ℕ → ℕ → List ℕ → List ℕ → Part (List ℕ)
words_from d zero before bs = got [] bs
words_from d (suc count) before bs =
    and_then (word_from d before bs) (λ w r.
    and_then (words_from d count w r) (λ ws s.
    got (w ++ ws) s))

-- count pairs, the first vertex at least low
unfoldable pub pairs_from : ℕ → ℕ → ℕ → List ℕ → Part (List ℕ)
pairs_from first low zero bs = got [] bs
pairs_from first low (suc count) bs =
    and_then (field 4 (vertex_fits first low) bs) (λ v r.
    and_then (field 2 weight_fits r) (λ w s.
    and_then (pairs_from first (suc v) count s) (λ ps t.
    got (v ∷ (w ∷ ps)) t)))

-- a length that the record of a birth has, with some count of pairs; the count itself is tested when it comes
abbrev pub of_birth : ℕ → Bool
of_birth len = leb (birth_length 0) len && eqb ((len - birth_length 0) % 6) 0

-- a birth: what stands after the opening of its record of length len
pub record Birth : Type 0 where
  pub number : ℕ
  pub r : ℕ
  pub count : ℕ
  pub pairs : List ℕ

unfoldable pub birth_from : ℕ → Run → ℕ → List ℕ → Part Birth
birth_from vertices run len bs =
    and_then (field 4 (number_fits vertices run) bs) (λ n q.
    and_then (field 2 (refinement_fits run) q) (λ r s.
    and_then (field 2 (λ c. count_fits c && eqb len (birth_length c)) s) (λ c t.
    and_then (pairs_from (more run n r).first 0 c t) (λ ps u.
    asked (eqb (weights_of ps) r) (got (record { number = n; r = r; count = c; pairs = ps }) u)))))

-- the lists of all births
pub record Births : Type 0 where
  pub births : List ℕ
  pub pairs : List ℕ

abbrev pub no_births : Births
no_births = record { births = []; pairs = [] }

abbrev pub with_birth : Birth → Births → Births
with_birth b l = record { births = b.number ∷ (b.r ∷ (b.count ∷ l.births)); pairs = b.pairs ++ l.pairs }

-- nothing comes after kind 4
unfoldable pub nothing : List ℕ → Bool
nothing [] = true
nothing (b ∷ bs) = false

-- the births and the end of the file, in at most `most` records: a bound that never decides, since each record has bytes of its own and `most` is the number of all bytes
unfoldable pub births_read_from : ℕ → ℕ → Run → List ℕ → Part Births
births_read_from zero vertices run bs = no BadFile
births_read_from (suc most) vertices run bs =
    and_then (opening_from bs) (λ o r.
    cond (eqb o.kind end_kind)
    (asked (eqb o.len end_length && (run_ends vertices run && nothing r)) (got no_births r))
    (asked (eqb o.kind birth_kind && of_birth o.len)
    (and_then (birth_from vertices run o.len r) (λ b s.
    and_then (births_read_from most vertices (more run b.number b.r) s) (λ l t.
    got (with_birth b l) t)))))

-- ---- the file

-- the mesh of a file
unfoldable pub read_file : List ℕ → Part Mesh
read_file bs =
    and_then (header_from bs) (λ h r.
    and_then (words_from h.d h.count [] r) (λ ws s.
    and_then (births_read_from (length bs) (past ws) no_birth s) (λ l t.
    got (record { d = h.d; words = ws; births = l.births; pairs = l.pairs }) t)))
