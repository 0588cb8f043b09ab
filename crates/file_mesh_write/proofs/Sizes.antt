-- How long a file is, and that the lists of a mesh that keeps the rules are whole. Assumes nothing.
use mathlib.Core.Path.{◌≡◌, refl, ap, subst, ◌∙◌}
use mathlib.Core.Bool.{Bool, true, false, ◌&&◌, ◌||◌, false≢true}
use mathlib.Core.List.{List, [], ◌∷◌, ◌++◌, append_assoc}
use Prim.Native.Nat.{ℕ, zero, suc, ◌+◌, ◌*◌, ◌/◌, ◌≤◌, ◌<◌}
use native.Mathlib.Nat.{suc-mul, mul-le-mul}
use native.Mathlib.Omega.{arith}
use lib.ListN.{length, take, drop, length-append, length-drop, length-take}
use lib.Seq.{length-take-le}
use lib.Dec.{leb, ltb, eqb}
use borrow.Author.Tests.{leb-true, eqb-true}
use Rattle.refusal.specs.Limits.{most_dimension, most_cells, most_refinement}
use Rattle.lists.specs.Words.{largest_of}
use Rattle.complex.specs.Check.{Passed}
use Rattle.file_mesh.specs.declared.Run.{Run}
use Rattle.file_mesh.specs.Mesh.{Mesh, past}
use Rattle.file_mesh.specs.Rules.{no_birth, more, begun, rise, number_fits, birth_fits, births_fit, rules}
use Rattle.file_mesh.specs.File.{header_of, word_of, words_of, birth_of, births_of, end_of, file_of}
use Rattle.file_mesh.proofs.Parts.{both}
use Rattle.file_mesh.proofs.Written.{fits-of, number-low, refinement-small, pairs-heavy}
use Rattle.file_mesh_write.specs.Work.{Whole}
use Rattle.file_mesh_write.proofs.Bytes.{header-long, word_long, birth-long, end-long}
use Rattle.file_mesh_write.proofs.Fit.{count_fits_lem}

-- ---- the run

pub next_of : (k : ℕ) (run : Run) (n r : ℕ) → (begun k run n r).next ≡ suc n
unfolding begun
next_of zero run n r = refl
next_of (suc k) run n r = refl

pub r-of : (k : ℕ) (run : Run) (n r : ℕ) → (begun k run n r).r ≡ r
unfolding begun
r-of zero run n r = refl
r-of (suc k) run n r = refl

pub runs_on : (vertices : ℕ) (run : Run) (n : ℕ) → (run.r ≡ 0 → run.next ≡ 0) → number_fits vertices run n ≡ true → run.next ≤ n
runs_on vertices run n z e = go (eqb run.r 0) refl
  where
    go : (t : Bool) → eqb run.r 0 ≡ t → run.next ≤ n
    go true q = omega (arith, z (eqb-true run.r 0 q))
    go false q =
        let f = (both (ltb n vertices) (eqb run.r 0 || eqb n run.next) e).1 in
        omega (arith, eqb-true n run.next (rw q at f))

-- ---- the births

-- the sizes of the births: a birth has three numbers and its record 14 bytes, a pair has two and six
pub record Sizes (vertices next : ℕ) (births pairs : List ℕ) : Type 0 where
  pub many : ℕ
  pub weights : ℕ
  pub of_births : length births ≡ many * 3
  pub of_pairs : length pairs ≡ weights * 2
  pub of-bytes : length (births_of births pairs) ≡ many * 14 + weights * 6
  pub small : 398 * next + (many * 14 + weights * 6) ≤ 398 * vertices
  pub whole : Whole births pairs

sizes-none : (vertices next : ℕ) → next ≤ vertices → Sizes vertices next [] []
unfolding births_of Whole
sizes-none vertices next h = record { many = 0; weights = 0; of_births = refl; of_pairs = refl; of-bytes = refl; small = omega arith; whole = tt }

sizes-more : (vertices : ℕ) (run : Run) (n r c : ℕ) (bs ps : List ℕ) → (run.r ≡ 0 → run.next ≡ 0) → birth_fits vertices run n r c ps ≡ true → Sizes vertices (suc n) bs (drop (c + c) ps) →
    Sizes vertices run.next (n ∷ (r ∷ (c ∷ bs))) ps
unfolding births_of Whole
sizes-more vertices run n r c bs ps z e s =
    let f = fits-of vertices run n r c ps e in
    let heavy = pairs-heavy (more run n r).first 0 c (take (c + c) ps) f.long f.pairs in
    let light = refinement-small run r f.refinement in
    let sum = f.sum in
    let few : c ≤ most_refinement = omega arith in
    let on = runs_on vertices run n z f.number in
    let t = length-take (c + c) ps in
    let long = f.long in
    let inside : c + c ≤ length ps = omega arith in
    let d = length-drop (c + c) ps in
    let size = birth-long n r c (take (c + c) ps) f.long in
    record {
      many = suc s.many;
      weights = c + s.weights;
      of_births = omega (arith, s.of_births);
      of_pairs = omega (arith, s.of_pairs);
      of-bytes = length-append (birth_of n r c (take (c + c) ps)) (births_of bs (drop (c + c) ps)) ∙ omega (arith, s.of-bytes);
      small = omega (arith, s.small);
      whole = (few, inside, s.whole);
    }

pub sizes : (vertices : ℕ) (run : Run) (births pairs : List ℕ) → run.next ≤ vertices → (run.r ≡ 0 → run.next ≡ 0) → births_fit vertices run births pairs ≡ true → Sizes vertices run.next births pairs
unfolding births_fit
sizes vertices run [] [] h z e = sizes-none vertices run.next h
sizes vertices run [] (p ∷ ps) h z e = absurd (false≢true e)
sizes vertices run (n ∷ []) ps h z e = absurd (false≢true e)
sizes vertices run (n ∷ (r ∷ [])) ps h z e = absurd (false≢true e)
sizes vertices run (n ∷ (r ∷ (c ∷ bs))) ps h z e =
    let g = both (birth_fits vertices run n r c ps) (births_fit vertices (more run n r) bs (drop (c + c) ps)) e in
    let f = fits-of vertices run n r c ps g.0 in
    let low = number-low vertices run n f.number in
    let q = next_of run.r run n r in
    let two : 2 ≤ r = leb-true 2 r (both (leb 2 r) (leb r most_refinement && (eqb run.r 0 || eqb r run.r)) f.refinement).0 in
    let i = sizes vertices (more run n r) bs (drop (c + c) ps) (omega (arith, q)) (λ x. absurd (omega (arith, x, r-of run.r run n r))) g.1 in
    sizes-more vertices run n r c bs ps z g.0 (subst (λ (x : ℕ). Sizes vertices x bs (drop (c + c) ps)) q i)

-- ---- the words

pub words_size : (d count : ℕ) (ws : List ℕ) → count * (d + 1) ≤ length ws → length (words_of d count ws) ≡ count * (10 + 4 * d)
unfolding words_of
words_size d zero ws h = omega arith
words_size d (suc count) ws h =
    let s = suc-mul count (d + 1) in
    let t = suc-mul count (10 + 4 * d) in
    let l = length-take-le (d + 1) ws (omega arith) in
    length-append (word_of (take (d + 1) ws)) (words_of d count (drop (d + 1) ws))
    ∙ omega (arith, word_long (take (d + 1) ws), words_size d count (drop (d + 1) ws) (omega (arith, length-drop (d + 1) ws)))

-- ---- the file

pub file-parts : (m : Mesh) → length (file_of m) ≡ 16 + length m.words / (m.d + 1) * (10 + 4 * m.d) + length (births_of m.births m.pairs)
unfolding file_of
file-parts m =
    let n = length m.words / (m.d + 1) in
    let w = words_of m.d n m.words in
    let b = births_of m.births m.pairs in
    length-append (header_of m.d n) (w ++ (b ++ end_of))
    ∙ omega (arith, header-long m.d n, length-append w (b ++ end_of), length-append b end_of, end-long, words_size m.d n m.words (count_fits_lem (length m.words) (m.d + 1)))

pub past-largest : (ws : List ℕ) → past ws ≤ suc (largest_of ws)
unfolding past largest_of
past-largest [] = omega arith
past-largest (v ∷ ws) = omega (arith, past-largest ws)

module _ (m : Mesh) (p : Passed m.d m.words) (k : rules m ≡ true) where
  counted : Sizes (past m.words) 0 m.births m.pairs
  counted = sizes (past m.words) no_birth m.births m.pairs (omega arith) (λ e. refl) (both (rise m.d (length m.words / (m.d + 1)) [] m.words) (births_fit (past m.words) no_birth m.births m.pairs) k).1

  pub kept_whole : Whole m.births m.pairs
  kept_whole = counted.whole

  pub file-size : length (file_of m) ≡ 16 + length m.words / (m.d + 1) * (10 + 4 * m.d) + length m.births / 3 * 14 + length m.pairs / 2 * 6
  file-size =
      let b : length m.births / 3 ≡ counted.many = omega (arith, counted.of_births) in
      let q : length m.pairs / 2 ≡ counted.weights = omega (arith, counted.of_pairs) in
      file-parts m ∙ omega (arith, counted.of-bytes)

  pub file-small : length (file_of m) < 4294967296
  file-small =
      let c = mul-le-mul {n₁ = length m.words / (m.d + 1)} {m₁ = 10 + 4 * m.d} {n₂ = most_cells} {m₂ = 10 + 4 * most_dimension} p.few (omega (arith, p.small)) in
      omega (arith, file-parts m, counted.of-bytes, counted.small, past-largest m.words, p.low)

-- the parts of the file, one after the other
pub file-is : (m : Mesh) (tail : List ℕ) → tail ≡ end_of →
    ((header_of m.d (length m.words / (m.d + 1)) ++ words_of m.d (length m.words / (m.d + 1)) m.words) ++ births_of m.births m.pairs) ++ tail ≡ file_of m
unfolding file_of
file-is m tail e =
    let n = length m.words / (m.d + 1) in
    let h = header_of m.d n in
    let w = words_of m.d n m.words in
    let b = births_of m.births m.pairs in
    append_assoc (h ++ w) b tail ∙ append_assoc h w (b ++ tail) ∙ ap (λ (l : List ℕ). h ++ (w ++ (b ++ l))) e
