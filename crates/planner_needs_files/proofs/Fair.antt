-- The bytes of a file are refused with 20, 21 or 22, never with 12. Assumes nothing.
use Rattle.refusal.specs.declared.Refusal.TheVariants.{BadFile, FileEnds, TooShort, UnknownKind}
use mathlib.Core.Bool.{Bool, true, false, cond, ◌&&◌}
use mathlib.Core.List.{List, []}
use mathlib.Core.Path.{◌≡◌}
use Prim.Native.Nat.{ℕ, zero, suc, ◌+◌, ◌*◌}
use lib.Dec.{leb, ltb, eqb}
use lib.ListN.{length, take, drop}
use Rattle.file_bytes.specs.Bytes.{said, fours_of}
use Rattle.file_mesh.specs.declared.Run.{Run}
use Rattle.file_mesh.specs.Mesh.{past}
use Rattle.file_mesh.specs.File.{head_kind, word_kind, birth_kind, end_kind, head_length, word_length, birth_length, end_length}
use Rattle.file_mesh.specs.Rules.{no_birth, more, follows, number_fits, refinement_fits, count_fits, vertex_fits, weight_fits, run_ends, weights_of}
use Rattle.file_mesh.specs.Read.{Part, no, got, and_then, asked, number, field, numbers, opening_from, header_from, word_from, words_from, pairs_from, of_birth, birth_from, no_births, nothing, births_read_from, read_file}

-- another refusal than 12, or a part
abbrev pub Fair : {A : Type 0} → Part A → Type 0
Fair (no why) = why ≡ TooShort → ⊥
Fair (got x r) = Unit {0}

then-fair : {A B : Type 0} (p : Part A) (f : A → List ℕ → Part B) → Fair p → ((x : A) (r : List ℕ) → Fair (f x r)) → Fair (and_then p f)
unfolding and_then
then-fair (no n) f h k = h
then-fair (got x r) f h k = k x r

asked-fair : {A : Type 0} (t : Bool) (p : Part A) → Fair p → Fair (asked t p)
unfolding asked
asked-fair true p h = h
asked-fair false p h = λ (e : BadFile ≡ TooShort). cc

either-fair : {A : Type 0} (t : Bool) (p q : Part A) → Fair p → Fair q → Fair (cond t p q)
either-fair true p q h k = h
either-fair false p q h k = k

number-fair : (k : ℕ) (bs : List ℕ) → Fair (number k bs)
unfolding number
number-fair k bs = either-fair (ltb (length bs) k) (no FileEnds) (got (said (take k bs)) (drop k bs)) (λ (e : FileEnds ≡ TooShort). cc) tt

field-fair : (k : ℕ) (test : ℕ → Bool) (bs : List ℕ) → Fair (field k test bs)
unfolding field
field-fair k test bs = then-fair (number k bs) (λ n r. asked (test n) (got n r)) (number-fair k bs) (λ n r. asked-fair (test n) (got n r) tt)

numbers-fair : (n : ℕ) (bs : List ℕ) → Fair (numbers n bs)
unfolding numbers
numbers-fair n bs = either-fair (ltb (length bs) (n * 4)) (no FileEnds) (got (fours_of n bs) (drop (n * 4) bs)) (λ (e : FileEnds ≡ TooShort). cc) tt

opening-fair : (bs : List ℕ) → Fair (opening_from bs)
unfolding opening_from
opening-fair bs =
    then-fair (field 4 (λ n. leb 2 n) bs) _ (field-fair 4 (λ n. leb 2 n) bs) (λ n r.
    then-fair (number 2 r) _ (number-fair 2 r) (λ k s.
    either-fair (leb head_kind k && leb k end_kind) (got (record { len = n; kind = k }) s) (no UnknownKind) tt (λ (e : UnknownKind ≡ TooShort). cc)))

header-fair : (bs : List ℕ) → Fair (header_from bs)
unfolding header_from
header-fair bs =
    then-fair (opening_from bs) _ (opening-fair bs) (λ o r.
    asked-fair (eqb o.kind head_kind && eqb o.len head_length) _
    (then-fair (number 2 r) _ (number-fair 2 r) (λ d s.
    then-fair (number 2 s) _ (number-fair 2 s) (λ c t. tt))))

word-fair : (d : ℕ) (before bs : List ℕ) → Fair (word_from d before bs)
unfolding word_from
word-fair d before bs =
    then-fair (opening_from bs) _ (opening-fair bs) (λ o r.
    asked-fair (eqb o.kind word_kind && eqb o.len (word_length d)) _
    (then-fair (numbers (d + 1) r) _ (numbers-fair (d + 1) r) (λ w s.
    asked-fair (follows d before w) (got w s) tt)))

words-fair : (d count : ℕ) (before bs : List ℕ) → Fair (words_from d count before bs)
unfolding words_from
words-fair d zero before bs = tt
words-fair d (suc count) before bs =
    then-fair (word_from d before bs) _ (word-fair d before bs) (λ w r.
    then-fair (words_from d count w r) _ (words-fair d count w r) (λ ws s. tt))

pairs-fair : (first low count : ℕ) (bs : List ℕ) → Fair (pairs_from first low count bs)
unfolding pairs_from
pairs-fair first low zero bs = tt
pairs-fair first low (suc count) bs =
    then-fair (field 4 (vertex_fits first low) bs) _ (field-fair 4 (vertex_fits first low) bs) (λ v r.
    then-fair (field 2 weight_fits r) _ (field-fair 2 weight_fits r) (λ w s.
    then-fair (pairs_from first (suc v) count s) _ (pairs-fair first (suc v) count s) (λ ps t. tt)))

birth-fair : (vertices : ℕ) (run : Run) (len : ℕ) (bs : List ℕ) → Fair (birth_from vertices run len bs)
unfolding birth_from
birth-fair vertices run len bs =
    then-fair (field 4 (number_fits vertices run) bs) _ (field-fair 4 (number_fits vertices run) bs) (λ n q.
    then-fair (field 2 (refinement_fits run) q) _ (field-fair 2 (refinement_fits run) q) (λ r s.
    then-fair (field 2 (λ c. count_fits c && eqb len (birth_length c)) s) _ (field-fair 2 (λ c. count_fits c && eqb len (birth_length c)) s) (λ c t.
    then-fair (pairs_from (more run n r).first 0 c t) _ (pairs-fair (more run n r).first 0 c t) (λ ps u.
    asked-fair (eqb (weights_of ps) r) _ tt))))

births-fair : (most vertices : ℕ) (run : Run) (bs : List ℕ) → Fair (births_read_from most vertices run bs)
unfolding births_read_from
births-fair zero vertices run bs = λ (e : BadFile ≡ TooShort). cc
births-fair (suc most) vertices run bs =
    then-fair (opening_from bs) _ (opening-fair bs) (λ o r.
    either-fair (eqb o.kind end_kind) _ _
    (asked-fair (eqb o.len end_length && (run_ends vertices run && nothing r)) (got no_births r) tt)
    (asked-fair (eqb o.kind birth_kind && of_birth o.len) _
    (then-fair (birth_from vertices run o.len r) _ (birth-fair vertices run o.len r) (λ b s.
    then-fair (births_read_from most vertices (more run b.number b.r) s) _ (births-fair most vertices (more run b.number b.r) s) (λ l t. tt)))))

pub file-fair : (bs : List ℕ) → Fair (read_file bs)
unfolding read_file
file-fair bs =
    then-fair (header_from bs) _ (header-fair bs) (λ h r.
    then-fair (words_from h.d h.count [] r) _ (words-fair h.d h.count [] r) (λ ws s.
    then-fair (births_read_from (length bs) (past ws) no_birth s) _ (births-fair (length bs) (past ws) no_birth s) (λ l t. tt)))
