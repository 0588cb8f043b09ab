-- The rules of a mesh file, as tests of one field each, and over the lists of a mesh. The reader tests each field as its bytes come, the writer all of them before it
-- writes. Assumes nothing.
use Rattle.std.specs.Prelude.{ℕ, zero, suc, ◌+◌, Bool, true, false, ◌&&◌, ◌||◌, List, [], ◌∷◌, length, take, drop, leb, ltb, eqb}
use Rattle.refusal.specs.Limits.{most_dimension, most_refinement}
use Rattle.multiindex.specs.Sort.{sort_word}
use Rattle.complex.specs.Cells.{comes_before}
use Rattle.file_mesh.specs.declared.Run.{Run}
use Rattle.file_mesh.specs.Mesh.{Mesh, cell_count, past}

-- ---- words

-- a word may follow the word before it: its cell comes later. The first word follows none. Above the largest dimension there are no cells, so no order to keep.
unfoldable pub follows : ℕ → List ℕ → List ℕ → Bool
follows d [] w = true
follows d (v ∷ vs) w = ltb most_dimension d || comes_before (d + 1) (sort_word (v ∷ vs)) (sort_word w)

-- count words stand in the order of their cells, after the word `before`
unfoldable pub rise : ℕ → ℕ → List ℕ → List ℕ → Bool
rise d zero before ws = true
rise d (suc count) before ws = follows d before (take (d + 1) ws) && rise d count (take (d + 1) ws) (drop (d + 1) ws)

-- ---- births

-- before the first birth: R is 0, which no birth has
abbrev pub no_birth : Run
no_birth = record { first = 0; r = 0; next = 0 }

-- the births after one more, with number n and refinement r
unfoldable pub begun : ℕ → Run → ℕ → ℕ → Run
begun zero run n r = record { first = n; r = r; next = suc n }
begun (suc _) run n r = record { first = run.first; r = r; next = suc n }

abbrev pub more : Run → ℕ → ℕ → Run
more run n r = begun run.r run n r

-- a birth's number is a vertex's, and runs on; R is 2 to 64, and one in the whole file; two or more pairs
abbrev pub number_fits : ℕ → Run → ℕ → Bool
number_fits vertices run n = ltb n vertices && (eqb run.r 0 || eqb n run.next)

abbrev pub refinement_fits : Run → ℕ → Bool
refinement_fits run r = leb 2 r && (leb r most_refinement && (eqb run.r 0 || eqb r run.r))

abbrev pub count_fits : ℕ → Bool
count_fits c = leb 2 c

-- a pair's vertex is at least `low`, one past the vertex before it, and below the first birth; its weight is positive
abbrev pub vertex_fits : ℕ → ℕ → ℕ → Bool
vertex_fits first low v = leb low v && ltb v first

abbrev pub weight_fits : ℕ → Bool
weight_fits w = leb 1 w

-- the births run on to the last vertex, where there are any
abbrev pub run_ends : ℕ → Run → Bool
run_ends vertices run = eqb run.r 0 || eqb run.next vertices

-- the pairs of one birth, and the sum of their weights
unfoldable pub pairs_fit : ℕ → ℕ → List ℕ → Bool
pairs_fit first low [] = true
pairs_fit first low (v ∷ []) = false
pairs_fit first low (v ∷ (w ∷ ps)) = vertex_fits first low v && (weight_fits w && pairs_fit first (suc v) ps)

unfoldable pub weights_of : List ℕ → ℕ
weights_of [] = 0
weights_of (v ∷ []) = 0
weights_of (v ∷ (w ∷ ps)) = w + weights_of ps

-- one birth, whose pairs begin a list
unfoldable pub birth_fits : ℕ → Run → ℕ → ℕ → ℕ → List ℕ → Bool
birth_fits vertices run n r c ps =
    number_fits vertices run n && (refinement_fits run r && (count_fits c && (leb (c + c) (length ps) &&
    (pairs_fit (more run n r).first 0 (take (c + c) ps) && eqb (weights_of (take (c + c) ps)) r))))

-- all births, after those of the run
unfoldable pub births_fit : ℕ → Run → List ℕ → List ℕ → Bool
births_fit vertices run [] [] = run_ends vertices run
births_fit vertices run [] (p ∷ ps) = false
births_fit vertices run (n ∷ []) ps = false
births_fit vertices run (n ∷ (r ∷ [])) ps = false
births_fit vertices run (n ∷ (r ∷ (c ∷ bs))) ps = birth_fits vertices run n r c ps && births_fit vertices (more run n r) bs (drop (c + c) ps)

-- ---- the mesh

-- the rules of a mesh's lists
abbrev pub rules : Mesh → Bool
rules m = rise m.d (cell_count m) [] m.words && births_fit (past m.words) no_birth m.births m.pairs
