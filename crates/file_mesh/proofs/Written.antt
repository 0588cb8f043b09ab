-- What was written is read again: the file of a mesh that keeps the rules is read as that mesh. Assumes nothing.
use mathlib.Core.Path.{◌≡◌, refl, sym, ap, subst, ◌∙◌}
use mathlib.Core.Bool.{true, ◌&&◌, ◌||◌}
use mathlib.Core.List.{List, [], ◌∷◌, ◌++◌, append_assoc, append-nil}
use Prim.Native.Nat.{ℕ, zero, suc, ◌+◌, ◌*◌, ◌-◌, ◌/◌, ◌%◌, ◌≤◌, ◌<◌}
use native.Mathlib.Nat.{div-add-mod', suc-mul, mul-mod_left}
use native.Mathlib.Omega.{arith}
use lib.ListN.{length, take, drop, length-append, length-drop, take-append-drop}
use lib.Seq.{length-take-le}
use lib.Dec.{leb, ltb, eqb}
use borrow.Author.Tests.{ltb-true, leb-true, eqb-true, le-leb, eq-eqb}
use Rattle.lists.proofs.Members.{All}
use Rattle.file_bytes.specs.Bytes.{little, fours}
use Rattle.file_bytes.proofs.Laws.{Four, all_take, all_drop, little-length, fours-length}
use Rattle.file_mesh.specs.declared.Run.{Run}
use Rattle.file_mesh.specs.Mesh.{Mesh, past}
use Rattle.file_mesh.specs.Rules.{no_birth, more, begun, follows, rise, number_fits, refinement_fits, count_fits, vertex_fits, weight_fits, pairs_fit, weights_of, birth_fits, births_fit, rules}
use Rattle.file_mesh.specs.File.{record_of, header_of, word_of, words_of, pairs_of, birth_of, births_of, end_of, file_of}
use Rattle.file_mesh.specs.Read.{got, and_then, asked, numbers, opening_from, header_from, word_from, words_from, pairs_from, birth_from, births_read_from, nothing, read_file}
use Rattle.file_mesh.proofs.Parts.{both, and_both, number_read, field-read, numbers-read}

-- ---- records

pub opening-read : (len kind : ℕ) (rest : List ℕ) → 2 ≤ len → Four len → 1 ≤ kind → kind ≤ 4 →
    opening_from (little 4 len ++ (little 2 kind ++ rest)) ≡ got (record { len = len; kind = kind }) rest
unfolding opening_from and_then
opening-read len kind rest h f a b =
    rw (field-read 4 (λ n. leb 2 n) len (little 2 kind ++ rest) f (le-leb 2 len h), number_read 2 kind rest (omega arith), le-leb 1 kind a, le-leb kind 4 b)

pub record-read : (kind : ℕ) (body rest : List ℕ) → 1 ≤ kind → kind ≤ 4 → length body < 4294967294 →
    opening_from (record_of kind body ++ rest) ≡ got (record { len = 2 + length body; kind = kind }) (body ++ rest)
unfolding record_of
record-read kind body rest a b h =
    ap opening_from (append_assoc (little 4 (2 + length body)) (little 2 kind ++ body) rest ∙ ap (λ (l : List ℕ). little 4 (2 + length body) ++ l) (append_assoc (little 2 kind) body rest))
    ∙ opening-read (2 + length body) kind (body ++ rest) (omega arith) (omega arith) a b

header-long : (d c : ℕ) → length (little 2 d ++ little 2 c) ≡ 4
header-long d c = length-append (little 2 d) (little 2 c) ∙ omega (arith, little-length 2 d, little-length 2 c)

pub header_read : (d c : ℕ) (rest : List ℕ) → d < 65536 → c < 65536 → header_from (header_of d c ++ rest) ≡ got (record { d = d; count = c }) rest
unfolding header_from header_of and_then asked
header_read d c rest hd hc =
    let l = header-long d c in
    let t : eqb (2 + length (little 2 d ++ little 2 c)) 6 ≡ true = eq-eqb (2 + length (little 2 d ++ little 2 c)) 6 (omega arith) in
    rw (
      record-read 1 (little 2 d ++ little 2 c) rest (omega arith) (omega arith) (omega arith),
      t,
      append_assoc (little 2 d) (little 2 c) rest,
      number_read 2 d (little 2 c ++ rest) hd,
      number_read 2 c rest hc,
    )

-- ---- words

pub word_read : (d : ℕ) (before w rest : List ℕ) → d < 65536 → length w ≡ d + 1 → All Four w → follows d before w ≡ true →
    word_from d before (word_of w ++ rest) ≡ got w rest
unfolding word_from word_of and_then asked
word_read d before w rest hd long a f =
    let l = fours-length w in
    let t : eqb (2 + length (fours w)) (2 + (d + 1) * 4) ≡ true = eq-eqb (2 + length (fours w)) (2 + (d + 1) * 4) (omega arith) in
    let q : numbers (d + 1) (fours w ++ rest) ≡ got w rest = subst (λ (n : ℕ). numbers n (fours w ++ rest) ≡ got w rest) long (numbers-read w rest a) in
    rw (record-read 2 (fours w) rest (omega arith) (omega arith) (omega arith), t, q, f)

nil-of : (l : List ℕ) → length l ≡ 0 → [] ≡ l
nil-of [] e = refl
nil-of (x ∷ l) e = absurd (omega arith)

pub words-read : (d count : ℕ) (before ws rest : List ℕ) → d < 65536 → length ws ≡ count * (d + 1) → All Four ws → rise d count before ws ≡ true →
    words_from d count before (words_of d count ws ++ rest) ≡ got ws rest
unfolding words_from words_of rise and_then
words-read d zero before ws rest hd long a f = ap (λ (l : List ℕ). got l rest) (nil-of ws (long ∙ omega arith))
words-read d (suc count) before ws rest hd long a f =
    let h = both (follows d before (take (d + 1) ws)) (rise d count (take (d + 1) ws) (drop (d + 1) ws)) f in
    let s : suc count * (d + 1) ≡ count * (d + 1) + (d + 1) = suc-mul count (d + 1) in
    let lt : length (take (d + 1) ws) ≡ d + 1 = length-take-le (d + 1) ws (omega arith) in
    let ld : length (drop (d + 1) ws) ≡ count * (d + 1) = length-drop (d + 1) ws ∙ omega arith in
    rw (
      append_assoc (word_of (take (d + 1) ws)) (words_of d count (drop (d + 1) ws)) rest,
      word_read d before (take (d + 1) ws) (words_of d count (drop (d + 1) ws) ++ rest) hd lt (all_take Four (d + 1) ws a) h.0,
      words-read d count (take (d + 1) ws) (drop (d + 1) ws) rest hd ld (all_drop Four (d + 1) ws a) h.1,
      take-append-drop (d + 1) ws,
    )

-- ---- births

pub pairs-read : (first low c : ℕ) (ps rest : List ℕ) → length ps ≡ c + c → pairs_fit first low ps ≡ true → first ≤ 4294967296 → weights_of ps < 65536 →
    pairs_from first low c (pairs_of ps ++ rest) ≡ got ps rest
unfolding pairs_from pairs_of pairs_fit weights_of and_then
pairs-read first low zero [] rest long f hf hw = refl
pairs-read first low zero (v ∷ ps) rest long f hf hw = absurd (omega arith)
pairs-read first low (suc c) [] rest long f hf hw = absurd (omega arith)
pairs-read first low (suc c) (v ∷ []) rest long f hf hw = absurd (omega arith)
pairs-read first low (suc c) (v ∷ (w ∷ ps)) rest long f hf hw =
    let h = both (vertex_fits first low v) (weight_fits w && pairs_fit first (suc v) ps) f in
    let k = both (weight_fits w) (pairs_fit first (suc v) ps) h.1 in
    let b : v < first = ltb-true v first (both (leb low v) (ltb v first) h.0).1 in
    rw (
      append_assoc (little 4 v) (little 2 w ++ pairs_of ps) rest,
      append_assoc (little 2 w) (pairs_of ps) rest,
      field-read 4 (vertex_fits first low) v (little 2 w ++ (pairs_of ps ++ rest)) (omega arith) h.0,
      field-read 2 weight_fits w (pairs_of ps ++ rest) (omega arith) k.0,
      pairs-read first (suc v) c ps rest (omega arith) k.1 hf (omega arith),
    )

-- each pair weighs at least one
pub pairs-heavy : (first low c : ℕ) (ps : List ℕ) → length ps ≡ c + c → pairs_fit first low ps ≡ true → c ≤ weights_of ps
unfolding pairs_fit weights_of
pairs-heavy first low zero [] long f = omega arith
pairs-heavy first low zero (v ∷ ps) long f = absurd (omega arith)
pairs-heavy first low (suc c) [] long f = absurd (omega arith)
pairs-heavy first low (suc c) (v ∷ []) long f = absurd (omega arith)
pairs-heavy first low (suc c) (v ∷ (w ∷ ps)) long f =
    let h = both (vertex_fits first low v) (weight_fits w && pairs_fit first (suc v) ps) f in
    let k = both (weight_fits w) (pairs_fit first (suc v) ps) h.1 in
    omega (arith, leb-true 1 w k.0, pairs-heavy first (suc v) c ps (omega arith) k.1)

pub pairs-long : (c : ℕ) (ps : List ℕ) → length ps ≡ c + c → length (pairs_of ps) ≡ c * 6
unfolding pairs_of
pairs-long zero [] long = refl
pairs-long zero (v ∷ ps) long = absurd (omega arith)
pairs-long (suc c) [] long = absurd (omega arith)
pairs-long (suc c) (v ∷ []) long = absurd (omega arith)
pairs-long (suc c) (v ∷ (w ∷ ps)) long =
    length-append (little 4 v) (little 2 w ++ pairs_of ps)
    ∙ omega (arith, little-length 4 v, little-length 2 w, length-append (little 2 w) (pairs_of ps), pairs-long c ps (omega arith))

-- the body of a birth's record
abbrev pub body_of : ℕ → ℕ → ℕ → List ℕ → List ℕ
body_of n r c ps = little 4 n ++ (little 2 r ++ (little 2 c ++ pairs_of ps))

pub body-long : (n r c : ℕ) (ps : List ℕ) → length ps ≡ c + c → 2 + length (body_of n r c ps) ≡ 10 + c * 6
body-long n r c ps long =
    omega (
      arith,
      length-append (little 4 n) (little 2 r ++ (little 2 c ++ pairs_of ps)),
      length-append (little 2 r) (little 2 c ++ pairs_of ps),
      length-append (little 2 c) (pairs_of ps),
      little-length 4 n,
      little-length 2 r,
      little-length 2 c,
      pairs-long c ps long,
    )

pub body-before : (n r c : ℕ) (ps rest : List ℕ) → body_of n r c ps ++ rest ≡ little 4 n ++ (little 2 r ++ (little 2 c ++ (pairs_of ps ++ rest)))
body-before n r c ps rest = simp append_assoc

-- what the rules say of one birth
pub record Fits (vertices : ℕ) (run : Run) (n r c : ℕ) (ps : List ℕ) : Type 0 where
  pub number : number_fits vertices run n ≡ true
  pub refinement : refinement_fits run r ≡ true
  pub count : count_fits c ≡ true
  pub long : length ps ≡ c + c
  pub pairs : pairs_fit (more run n r).first 0 ps ≡ true
  pub sum : weights_of ps ≡ r

pub fits-of : (vertices : ℕ) (run : Run) (n r c : ℕ) (ps : List ℕ) → birth_fits vertices run n r c ps ≡ true → Fits vertices run n r c (take (c + c) ps)
unfolding birth_fits
fits-of vertices run n r c ps e =
    let qs = take (c + c) ps in
    let t5 = pairs_fit (more run n r).first 0 qs && eqb (weights_of qs) r in
    let t4 = leb (c + c) (length ps) && t5 in
    let t3 = count_fits c && t4 in
    let a = both (number_fits vertices run n) (refinement_fits run r && t3) e in
    let b = both (refinement_fits run r) t3 a.1 in
    let d = both (count_fits c) t4 b.1 in
    let f = both (leb (c + c) (length ps)) t5 d.1 in
    let g = both (pairs_fit (more run n r).first 0 qs) (eqb (weights_of qs) r) f.1 in
    record {
      number = a.0;
      refinement = b.0;
      count = d.0;
      long = length-take-le (c + c) ps (leb-true (c + c) (length ps) f.0);
      pairs = g.0;
      sum = eqb-true (weights_of qs) r g.1;
    }

pub number-low : (vertices : ℕ) (run : Run) (n : ℕ) → number_fits vertices run n ≡ true → n < vertices
number-low vertices run n e = ltb-true n vertices (both (ltb n vertices) (eqb run.r 0 || eqb n run.next) e).0

-- numbers of births are vertices, so small
pub begun-small : (vertices : ℕ) (run : Run) (n r k : ℕ) → vertices ≤ 4294967296 → run.first ≤ 4294967296 → number_fits vertices run n ≡ true →
    (begun k run n r).first ≤ 4294967296
unfolding begun
begun-small vertices run n r zero hv hr f = omega (arith, number-low vertices run n f)
begun-small vertices run n r (suc k) hv hr f = hr

pub refinement-small : (run : Run) (r : ℕ) → refinement_fits run r ≡ true → r ≤ 64
refinement-small run r e =
    let t = eqb run.r 0 || eqb r run.r in
    leb-true r 64 (both (leb r 64) t (both (leb 2 r) (leb r 64 && t) e).1).0

pub birth-read : (vertices : ℕ) (run : Run) (n r c : ℕ) (ps rest : List ℕ) → vertices ≤ 4294967296 → run.first ≤ 4294967296 → Fits vertices run n r c ps →
    birth_from vertices run (10 + c * 6) (body_of n r c ps ++ rest) ≡ got (record { number = n; r = r; count = c; pairs = ps }) rest
unfolding birth_from and_then asked
birth-read vertices run n r c ps rest hv hr f =
    let b : n < vertices = number-low vertices run n f.number in
    let s : r ≤ 64 = refinement-small run r f.refinement in
    let w : weights_of ps ≡ r = f.sum in
    let k : c ≤ weights_of ps = pairs-heavy (more run n r).first 0 c ps f.long f.pairs in
    rw (
      body-before n r c ps rest,
      field-read 4 (number_fits vertices run) n (little 2 r ++ (little 2 c ++ (pairs_of ps ++ rest))) (omega arith) f.number,
      field-read 2 (refinement_fits run) r (little 2 c ++ (pairs_of ps ++ rest)) (omega arith) f.refinement,
      field-read 2 (λ x. count_fits x && eqb (10 + c * 6) (10 + x * 6)) c (pairs_of ps ++ rest) (omega arith) (and_both f.count (eq-eqb (10 + c * 6) (10 + c * 6) refl)),
      pairs-read (more run n r).first 0 c ps rest f.long f.pairs (begun-small vertices run n r run.r hv hr f.number) (omega arith),
      eq-eqb (weights_of ps) r w,
    )

pub births-read : (most vertices : ℕ) (run : Run) (births pairs : List ℕ) → vertices ≤ 4294967296 → run.first ≤ 4294967296 → length births < most →
    births_fit vertices run births pairs ≡ true →
    births_read_from most vertices run (births_of births pairs ++ end_of) ≡ got (record { births = births; pairs = pairs }) []
unfolding births_read_from births_of birth_of births_fit end_of and_then asked nothing
births-read zero vertices run births pairs hv hr h f = absurd (omega arith)
births-read (suc most) vertices run [] [] hv hr h f =
    let o : opening_from (record_of 4 []) ≡ got (record { len = 2; kind = 4 }) [] = ap opening_from (sym (append-nil (record_of 4 []))) ∙ record-read 4 [] [] (omega arith) (omega arith) (omega arith) in
    rw (o, f)
births-read (suc most) vertices run [] (p ∷ ps) hv hr h f = absurd (let z : ◌≡◌ {A = ℕ} 0 1 = cc in omega arith)
births-read (suc most) vertices run (n ∷ []) ps hv hr h f = absurd (let z : ◌≡◌ {A = ℕ} 0 1 = cc in omega arith)
births-read (suc most) vertices run (n ∷ (r ∷ [])) ps hv hr h f = absurd (let z : ◌≡◌ {A = ℕ} 0 1 = cc in omega arith)
births-read (suc most) vertices run (n ∷ (r ∷ (c ∷ bs))) ps hv hr h f =
    let g = both (birth_fits vertices run n r c ps) (births_fit vertices (more run n r) bs (drop (c + c) ps)) f in
    let t = fits-of vertices run n r c ps g.0 in
    let qs = take (c + c) ps in
    let rest = births_of bs (drop (c + c) ps) ++ record_of 4 [] in
    let l : 2 + length (body_of n r c qs) ≡ 10 + c * 6 = body-long n r c qs t.long in
    let k : c ≤ weights_of qs = pairs-heavy (more run n r).first 0 c qs t.long t.pairs in
    let s : r ≤ 64 = refinement-small run r t.refinement in
    let w : weights_of qs ≡ r = t.sum in
    let z : eqb ((10 + c * 6 - 10) % 6) 0 ≡ true = eq-eqb ((10 + c * 6 - 10) % 6) 0 (ap (λ (x : ℕ). x % 6) {x = 10 + c * 6 - 10} {y = c * 6} (omega arith) ∙ mul-mod_left c 6) in
    rw (
      append_assoc (record_of 3 (body_of n r c qs)) (births_of bs (drop (c + c) ps)) (record_of 4 []),
      record-read 3 (body_of n r c qs) rest (omega arith) (omega arith) (omega arith),
      l,
      le-leb 10 (10 + c * 6) (omega arith),
      z,
      birth-read vertices run n r c qs rest hv hr t,
      births-read most vertices (more run n r) bs (drop (c + c) ps) hv (begun-small vertices run n r run.r hv hr t.number) (omega arith) g.1,
      take-append-drop (c + c) ps,
    )

-- ---- the file

-- lists that a file has room for
pub record Held (m : Mesh) : Type 0 where
  pub dimension : m.d < 65536
  pub whole : length m.words % (m.d + 1) ≡ 0
  pub few : length m.words / (m.d + 1) < 65536
  pub small : All Four m.words

pub past-small : (ws : List ℕ) → All Four ws → past ws ≤ 4294967296
unfolding past
past-small [] a = omega arith
past-small (v ∷ ws) a = omega (arith, a.0, past-small ws a.1)

births-long : (vertices : ℕ) (run : Run) (births pairs : List ℕ) → births_fit vertices run births pairs ≡ true → length births ≤ length (births_of births pairs)
unfolding births_fit births_of birth_of record_of
births-long vertices run [] ps f = omega arith
births-long vertices run (n ∷ []) ps f = absurd (let z : ◌≡◌ {A = ℕ} 0 1 = cc in omega arith)
births-long vertices run (n ∷ (r ∷ [])) ps f = absurd (let z : ◌≡◌ {A = ℕ} 0 1 = cc in omega arith)
births-long vertices run (n ∷ (r ∷ (c ∷ bs))) ps f =
    let body = body_of n r c (take (c + c) ps) in
    omega (
      arith,
      length-append (little 4 (2 + length body) ++ (little 2 3 ++ body)) (births_of bs (drop (c + c) ps)),
      length-append (little 4 (2 + length body)) (little 2 3 ++ body),
      little-length 4 (2 + length body),
      births-long vertices (more run n r) bs (drop (c + c) ps) (both (birth_fits vertices run n r c ps) (births_fit vertices (more run n r) bs (drop (c + c) ps)) f).1,
    )

end-long : length end_of ≡ 6
unfolding end_of record_of little
end-long = refl

-- reading what was written gives the same lists
pub written_read : (m : Mesh) → Held m → rules m ≡ true → read_file (file_of m) ≡ got m []
unfolding read_file file_of and_then
written_read m h f =
    let g = both (rise m.d (length m.words / (m.d + 1)) [] m.words) (births_fit (past m.words) no_birth m.births m.pairs) f in
    let n = length m.words / (m.d + 1) in
    let long : length m.words ≡ n * (m.d + 1) = sym (div-add-mod' (length m.words) (m.d + 1)) ∙ omega (arith, h.whole) in
    let b = births_of m.births m.pairs in
    let most : length m.births < length (header_of m.d n ++ (words_of m.d n m.words ++ (b ++ end_of))) =
    omega (
      arith,
      length-append (header_of m.d n) (words_of m.d n m.words ++ (b ++ end_of)),
      length-append (words_of m.d n m.words) (b ++ end_of),
      length-append b end_of,
      births-long (past m.words) no_birth m.births m.pairs g.1,
      end-long,
    ) in
    rw (
      header_read m.d n (words_of m.d n m.words ++ (b ++ end_of)) h.dimension h.few,
      words-read m.d n [] m.words (b ++ end_of) h.dimension long h.small g.0,
      births-read (length (header_of m.d n ++ (words_of m.d n m.words ++ (b ++ end_of)))) (past m.words) no_birth m.births m.pairs (past-small m.words h.small) (omega arith) most g.1,
    )
