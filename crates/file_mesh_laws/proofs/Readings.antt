-- Files that tell how the request is read where it leaves a choice: the number of the refusal, 0 where the bytes are taken. Assumes nothing.
use Rattle.refusal.specs.Table.{number_of}
use mathlib.Core.Path.{◌≡◌, refl}
use mathlib.Core.List.{List, [], ◌∷◌, ◌++◌}
use Prim.Native.Nat.{ℕ}
use Rattle.multiindex.specs.Sort.{sort_word, insert, insert_by}
use Rattle.complex.specs.Cells.{comes_before, decides}
use Rattle.file_bytes.specs.Bytes.{said, fours_of}
use Rattle.file_mesh.specs.Mesh.{Mesh, past}
use Rattle.file_mesh.specs.Rules.{follows, begun, weights_of}
use Rattle.file_mesh.specs.Read.{Part, no, got, and_then, asked, number, field, numbers, opening_from, header_from, word_from, words_from, pairs_from, birth_from, births_read_from, nothing, read_file}

-- an edge: the header and the words
abbrev pub one : List ℕ
one = 6 ∷ 0 ∷ 0 ∷ 0 ∷ 1 ∷ 0 ∷ 1 ∷ 0 ∷ 1 ∷ 0 ∷ 10 ∷ 0 ∷ 0 ∷ 0 ∷ 2 ∷ 0 ∷ 0 ∷ 0 ∷ 0 ∷ 0 ∷ 1 ∷ 0 ∷ 0 ∷ 0 ∷ []

-- an edge and its halves: the header and the words
abbrev pub three : List ℕ
three = 6 ∷ 0 ∷ 0 ∷ 0 ∷ 1 ∷ 0 ∷ 1 ∷ 0 ∷ 2 ∷ 0 ∷ 10 ∷ 0 ∷ 0 ∷ 0 ∷ 2 ∷ 0 ∷ 0 ∷ 0 ∷ 0 ∷ 0 ∷ 2 ∷ 0 ∷ 0 ∷ 0 ∷ 10 ∷ 0 ∷ 0 ∷ 0 ∷ 2 ∷ 0 ∷ 2 ∷ 0 ∷ 0 ∷ 0 ∷ 1 ∷ 0 ∷ 0 ∷ 0 ∷ []

-- two cells of dimension 4, out of order: the header and the words
abbrev pub wide : List ℕ
wide = 6 ∷ 0 ∷ 0 ∷ 0 ∷ 1 ∷ 0 ∷ 4 ∷ 0 ∷ 2 ∷ 0 ∷ 22 ∷ 0 ∷ 0 ∷ 0 ∷ 2 ∷ 0 ∷ 0 ∷ 0 ∷ 0 ∷ 0 ∷ 1 ∷ 0 ∷ 0 ∷ 0 ∷ 2 ∷ 0 ∷ 0 ∷ 0 ∷ 3 ∷ 0 ∷ 0 ∷ 0 ∷ 5 ∷ 0 ∷ 0 ∷ 0 ∷ 22 ∷ 0 ∷ 0 ∷ 0 ∷ 2 ∷ 0 ∷ 0 ∷ 0 ∷ 0 ∷ 0 ∷ 1 ∷ 0 ∷ 0 ∷ 0 ∷ 2 ∷ 0 ∷ 0 ∷ 0 ∷ 3 ∷ 0 ∷ 0 ∷ 0 ∷ 4 ∷ 0 ∷ 0 ∷ 0 ∷ []

-- the refusals of files
pub refusal : Part Mesh → ℕ
refusal (no why) = number_of why
refusal (got m r) = 0

pub refusals : List (List ℕ) → List ℕ
refusals [] = []
refusals (f ∷ fs) = refusal (read_file f) ∷ refusals fs

pub readings : refusals (
    -- a length alone, which no kind has
    (7 ∷ 0 ∷ 0 ∷ 0 ∷ []) ∷
    -- kind 0
    (2 ∷ 0 ∷ 0 ∷ 0 ∷ 0 ∷ 0 ∷ []) ∷
    -- kind 5, with the length that it may have one day
    (8 ∷ 0 ∷ 0 ∷ 0 ∷ 5 ∷ 0 ∷ []) ∷
    -- kind 5 after the words
    (one ++ (8 ∷ 0 ∷ 0 ∷ 0 ∷ 5 ∷ 0 ∷ [])) ∷
    -- the head of a birth with no pairs, and the end: its count has not come
    (one ++ (10 ∷ 0 ∷ 0 ∷ 0 ∷ 3 ∷ 0 ∷ [])) ∷
    -- the head of a birth with one pair, and the end
    (one ++ (16 ∷ 0 ∷ 0 ∷ 0 ∷ 3 ∷ 0 ∷ [])) ∷
    -- a length that no count of pairs gives
    (one ++ (11 ∷ 0 ∷ 0 ∷ 0 ∷ 3 ∷ 0 ∷ [])) ∷
    -- no pairs: the count has come
    (one ++ (10 ∷ 0 ∷ 0 ∷ 0 ∷ 3 ∷ 0 ∷ 1 ∷ 0 ∷ 0 ∷ 0 ∷ 2 ∷ 0 ∷ 0 ∷ 0 ∷ [])) ∷
    -- the first birth is vertex 0: its count is taken
    (one ++ (22 ∷ 0 ∷ 0 ∷ 0 ∷ 3 ∷ 0 ∷ 0 ∷ 0 ∷ 0 ∷ 0 ∷ 2 ∷ 0 ∷ 2 ∷ 0 ∷ [])) ∷
    -- but no vertex is below it
    (one ++ (22 ∷ 0 ∷ 0 ∷ 0 ∷ 3 ∷ 0 ∷ 0 ∷ 0 ∷ 0 ∷ 0 ∷ 2 ∷ 0 ∷ 2 ∷ 0 ∷ 0 ∷ 0 ∷ 0 ∷ 0 ∷ [])) ∷
    -- a weight above R, and the end: the sum is tested after the last pair
    (three ++ (22 ∷ 0 ∷ 0 ∷ 0 ∷ 3 ∷ 0 ∷ 2 ∷ 0 ∷ 0 ∷ 0 ∷ 2 ∷ 0 ∷ 2 ∷ 0 ∷ 0 ∷ 0 ∷ 0 ∷ 0 ∷ 9 ∷ 0 ∷ [])) ∷
    -- 65,535 pairs, and the end
    (three ++ (4 ∷ 0 ∷ 6 ∷ 0 ∷ 3 ∷ 0 ∷ 2 ∷ 0 ∷ 0 ∷ 0 ∷ 2 ∷ 0 ∷ 255 ∷ 255 ∷ [])) ∷
    -- above dimension 3 words have no order to break: left to 1
    (wide ++ (2 ∷ 0 ∷ 0 ∷ 0 ∷ 4 ∷ 0 ∷ [])) ∷
    -- the rest of such a file is tested: a byte more
    (wide ++ (2 ∷ 0 ∷ 0 ∷ 0 ∷ 4 ∷ 0 ∷ 0 ∷ [])) ∷
    -- the rest of such a file is tested: no end
    (wide) ∷
    []) ≡ 20 ∷ 21 ∷ 21 ∷ 21 ∷ 20 ∷ 20 ∷ 22 ∷ 22 ∷ 20 ∷ 22 ∷ 20 ∷ 20 ∷ 0 ∷ 22 ∷ 20 ∷ []
unfolding refusals refusal read_file header_from opening_from field number asked and_then said words_from word_from numbers fours_of follows sort_word insert insert_by comes_before decides past births_read_from birth_from begun pairs_from weights_of nothing
readings = refl
