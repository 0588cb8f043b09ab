-- The loops that write: what stands written, and one turn of each. Assumes nothing.
use mathlib.Core.Path.{◌≡◌, refl, ap, subst, ◌∙◌}
use mathlib.Core.List.{List, [], ◌∷◌, ◌++◌}
use Prim.Native.Nat.{ℕ, suc, ◌+◌, ◌*◌, ◌-◌, ◌/◌, ◌≤◌, ◌<◌}
use native.Mathlib.Nat.{suc-mul, mul-le-mul_right}
use native.Mathlib.Omega.{arith}
use lib.ListN.{length, take, drop, get_or, length-drop, drop_of_length-le}
use lib.Seq.{drop-drop, length-take-le}
use Rattle.refusal.specs.Limits.{most_dimension, most_refinement}
use Rattle.refusal.specs.Lent.{onto}
use Rattle.refine_pattern.proofs.Written.{Written, written_none, written_same, written-length, written-end, written_count}
use Rattle.file_bytes.specs.Bytes.{little}
use Rattle.file_bytes.proofs.Steps.{next-room, tail-room, tail_more}
use Rattle.file_mesh.specs.File.{word_of, words_of, pairs_of, birth_of, births_of}
use Rattle.file_mesh.proofs.Written.{pairs-long}
use Rattle.file_mesh_write.specs.Work.{Whole}
use Rattle.file_mesh_write.proofs.Bytes.{opening-long, word_long, birth-long, three, pairs_next, pairs-none, words-next, words-none}
use Rattle.file_mesh_write.proofs.Fit.{part, count_fits_lem}

-- ---- pairs

-- the first i numbers of the pairs are written, and the writing stands at `at`
pub record PairsAt (pairs to₀ to : List ℕ) (at i : ℕ) : Type 0 where
  pub half : ℕ
  pub even : i ≡ half + half
  pub most : i ≤ length pairs
  pub written : Written (pairs_of pairs) to₀ (pairs_of (drop i pairs)) at to

pub pairs-begin : (pairs to₀ : List ℕ) → PairsAt pairs to₀ to₀ 0 0
pairs-begin pairs to₀ = record { half = 0; even = refl; most = omega arith; written = written_none (pairs_of pairs) to₀ }

pub pair-next : (pairs to₀ to : List ℕ) (at k : ℕ) → PairsAt pairs to₀ to at (k + k + 2) → PairsAt pairs to₀ to at (k + 1 + (k + 1))
pair-next pairs to₀ to at k p =
    let e : k + k + 2 ≡ k + 1 + (k + 1) = omega arith in
    subst (λ (i : ℕ). PairsAt pairs to₀ to at i) e p

module _ (count : ℕ) (pairs to₀ to : List ℕ) (at i : ℕ) (long : length pairs ≡ count + count) (room : count * 6 ≤ length to₀) (p : PairsAt pairs to₀ to at i) where
  fits : length (pairs_of pairs) ≤ length to₀
  fits = omega (arith, pairs-long count pairs long)

  pub pairs-same : length to ≡ length to₀
  pairs-same = written-length (pairs_of pairs) to₀ (pairs_of (drop i pairs)) at to fits p.written

  pub pairs_end : length pairs ≤ i → to ≡ onto (pairs_of pairs) to₀
  pairs_end h = written-end (pairs_of pairs) to₀ (pairs_of (drop i pairs)) at to fits p.written (pairs-none pairs i h)

  module _ (h : i < length pairs) where
    pub two-left : i + 2 ≤ length pairs
    two-left = omega (arith, p.even)

    abbrev bytes : List ℕ
    bytes = little 4 (get_or pairs i 0) ++ little 2 (get_or pairs (i + 1) 0)

    six : length bytes ≡ 6
    six = opening-long (get_or pairs i 0) (get_or pairs (i + 1) 0)

    pub pair-room : at + 6 ≤ length to
    pair-room = omega (arith, six, next-room (pairs_of pairs) to₀ (pairs_of (drop i pairs)) at to fits p.written bytes (pairs_of (drop (i + 2) pairs)) (pairs_next pairs i two-left))

    pub pair-tail : 6 ≤ length (take (length to - at) (drop at to))
    pair-tail = omega (arith, six, tail-room (pairs_of pairs) to₀ (pairs_of (drop i pairs)) at to fits p.written bytes (pairs_of (drop (i + 2) pairs)) (pairs_next pairs i two-left))

    pub pair-more : (ys : List ℕ) → ys ≡ onto bytes (take (length to - at) (drop at to)) → PairsAt pairs to₀ (take at to ++ (ys ++ drop (length to - at) (drop at to))) (at + 6) (i + 2)
    pair-more ys q =
        record {
          half = suc p.half;
          even = omega (arith, p.even);
          most = two-left;
          written = tail_more (pairs_of pairs) to₀ (pairs_of (drop i pairs)) at to fits p.written bytes (pairs_of (drop (i + 2) pairs)) (pairs_next pairs i two-left) (at + 6) (ap (λ (n : ℕ). at + n) six) (length to - at) ys (omega arith) q;
        }

-- ---- words

-- the first k words are written
abbrev pub many : ℕ → List ℕ → ℕ
many d ws = length ws / (d + 1)

pub record WordsAt (d : ℕ) (ws to₀ to : List ℕ) (at k : ℕ) : Type 0 where
  pub most : k ≤ many d ws
  pub written : Written (words_of d (many d ws) ws) to₀ (words_of d (many d ws - k) (drop (k * (d + 1)) ws)) at to

pub words-begin : (d : ℕ) (ws to₀ : List ℕ) → WordsAt d ws to₀ to₀ 0 0
words-begin d ws to₀ =
    record {
      most = omega arith;
      written = written_same (words_of d (many d ws) ws) to₀ (words_of d (many d ws) ws) (words_of d (many d ws - 0) (drop (0 * (d + 1)) ws)) 0 to₀ begin (written_none (words_of d (many d ws) ws) to₀);
    }
  where
    begin : words_of d (many d ws) ws ≡ words_of d (many d ws - 0) (drop (0 * (d + 1)) ws)
    begin =
        ap (λ (n : ℕ). words_of d n ws) {x = many d ws} {y = many d ws - 0} (omega arith)
        ∙ ap (λ (n : ℕ). words_of d (many d ws - 0) (drop n ws)) {x = 0} {y = 0 * (d + 1)} (omega arith)

module _ (d : ℕ) (ws to₀ to : List ℕ) (at k : ℕ) (dim : d ≤ most_dimension) (fits : length (words_of d (many d ws) ws) ≤ length to₀) (p : WordsAt d ws to₀ to at k) where
  pub words_same : length to ≡ length to₀
  words_same = written-length (words_of d (many d ws) ws) to₀ (words_of d (many d ws - k) (drop (k * (d + 1)) ws)) at to fits p.written

  pub words-end : many d ws ≤ k → to ≡ onto (words_of d (many d ws) ws) to₀
  words-end h = written-end (words_of d (many d ws) ws) to₀ (words_of d (many d ws - k) (drop (k * (d + 1)) ws)) at to fits p.written (words-none d (many d ws) k (drop (k * (d + 1)) ws) h)

  module _ (h : k < many d ws) where
    pub word_in : k * (d + 1) + (d + 1) ≤ length ws
    word_in =
        let s : suc k * (d + 1) ≡ k * (d + 1) + (d + 1) = suc-mul k (d + 1) in
        omega (arith, mul-le-mul_right {m = suc k} {n = many d ws} (d + 1) (omega arith), count_fits_lem (length ws) (d + 1))

    pub word_size : length (part d ws (k * (d + 1))) ≡ d + 1
    word_size = length-take-le (d + 1) (drop (k * (d + 1)) ws) (omega (arith, length-drop (k * (d + 1)) ws, word_in))

    long : length (word_of (part d ws (k * (d + 1)))) ≡ 6 + (d + 1) * 4
    long = word_long (part d ws (k * (d + 1))) ∙ ap (λ (n : ℕ). 6 + n * 4) word_size

    pub word_room : at + (6 + (d + 1) * 4) ≤ length to
    word_room = omega (arith, long, next-room (words_of d (many d ws) ws) to₀ (words_of d (many d ws - k) (drop (k * (d + 1)) ws)) at to fits p.written (word_of (part d ws (k * (d + 1)))) (words_of d (many d ws - (k + 1)) (drop ((k + 1) * (d + 1)) ws)) (words-next d (many d ws) k ws h))

    pub word-tail : 6 + (d + 1) * 4 ≤ length (take (length to - at) (drop at to))
    word-tail = omega (arith, long, tail-room (words_of d (many d ws) ws) to₀ (words_of d (many d ws - k) (drop (k * (d + 1)) ws)) at to fits p.written (word_of (part d ws (k * (d + 1)))) (words_of d (many d ws - (k + 1)) (drop ((k + 1) * (d + 1)) ws)) (words-next d (many d ws) k ws h))

    pub word_more : (w ys : List ℕ) → w ≡ part d ws (k * (d + 1)) → ys ≡ onto (word_of w) (take (length to - at) (drop at to)) → WordsAt d ws to₀ (take at to ++ (ys ++ drop (length to - at) (drop at to))) (at + (6 + (d + 1) * 4)) (k + 1)
    word_more w ys e q =
        record {
          most = omega arith;
          written = tail_more (words_of d (many d ws) ws) to₀ (words_of d (many d ws - k) (drop (k * (d + 1)) ws)) at to fits p.written (word_of (part d ws (k * (d + 1)))) (words_of d (many d ws - (k + 1)) (drop ((k + 1) * (d + 1)) ws)) (words-next d (many d ws) k ws h) (at + (6 + (d + 1) * 4)) (ap (λ (n : ℕ). at + n) long) (length to - at) ys (omega arith) (q ∙ ap (λ (l : List ℕ). onto (word_of l) (take (length to - at) (drop at to))) e);
        }

-- ---- births

-- the births before number b of their list, and their pairs before number p, are written
pub record BirthsAt (births pairs to₀ to : List ℕ) (at p b : ℕ) : Type 0 where
  pub most : b ≤ length births
  pub inside : p ≤ length pairs
  pub whole : Whole (drop b births) (drop p pairs)
  pub written : Written (births_of births pairs) to₀ (births_of (drop b births) (drop p pairs)) at to

pub births-begin : (births pairs to₀ : List ℕ) → Whole births pairs → BirthsAt births pairs to₀ to₀ 0 0 0
births-begin births pairs to₀ w = record { most = omega arith; inside = omega arith; whole = w; written = written_none (births_of births pairs) to₀ }

whole-three : (l ps : List ℕ) → 0 < length l → Whole l ps → 3 ≤ length l
unfolding Whole
whole-three [] ps h w = absurd (omega arith)
whole-three (n ∷ []) ps h w = absurd w
whole-three (n ∷ (r ∷ [])) ps h w = absurd w
whole-three (n ∷ (r ∷ (c ∷ l))) ps h w = omega arith

births-empty : (births ps : List ℕ) (b : ℕ) → length births ≤ b → births_of (drop b births) ps ≡ []
unfolding births_of
births-empty births ps b h = ap (λ (l : List ℕ). births_of l ps) (drop_of_length-le births {i = b} h)

module _ (births pairs to₀ to : List ℕ) (at p b : ℕ) (fits : length (births_of births pairs) ≤ length to₀) (s : BirthsAt births pairs to₀ to at p b) where
  pub births-same : length to ≡ length to₀
  births-same = written-length (births_of births pairs) to₀ (births_of (drop b births) (drop p pairs)) at to fits s.written

  pub births-count : length births ≤ b → at ≡ length (births_of births pairs)
  births-count h = written_count (births_of births pairs) to₀ (births_of (drop b births) (drop p pairs)) at to fits s.written (births-empty births (drop p pairs) b h)

  pub births-done : length births ≤ b → to ≡ onto (births_of births pairs) to₀
  births-done h = written-end (births_of births pairs) to₀ (births_of (drop b births) (drop p pairs)) at to fits s.written (births-empty births (drop p pairs) b h)

  module _ (h : b < length births) where
    abbrev n : ℕ
    n = get_or births b 0

    abbrev r : ℕ
    r = get_or births (b + 1) 0

    abbrev c : ℕ
    c = get_or births (b + 2) 0

    pub three-left : b + 3 ≤ length births
    three-left = omega (arith, whole-three (drop b births) (drop p pairs) (omega (arith, length-drop b births)) s.whole, length-drop b births)

    opened : (c ≤ most_refinement) × (c + c ≤ length (drop p pairs)) × Whole (drop (b + 3) births) (drop (c + c) (drop p pairs))
    unfolding Whole
    opened = rw (three births b three-left) at s.whole

    pub few : c ≤ most_refinement
    few = opened.0

    pub pairs-in : p + c + c ≤ length pairs
    pairs-in = omega (arith, opened.1, length-drop p pairs, s.inside)

    abbrev own : List ℕ
    own = take (c + c) (drop p pairs)

    pub own-long : length own ≡ c + c
    own-long = length-take-le (c + c) (drop p pairs) opened.1

    ahead : drop (c + c) (drop p pairs) ≡ drop (p + c + c) pairs
    ahead = drop-drop (c + c) p pairs ∙ ap (λ (x : ℕ). drop x pairs) {x = p + (c + c)} {y = p + c + c} (omega arith)

    next : births_of (drop b births) (drop p pairs) ≡ birth_of n r c own ++ births_of (drop (b + 3) births) (drop (p + c + c) pairs)
    unfolding births_of
    next = rw (three births b three-left) (ap (λ (l : List ℕ). birth_of n r c own ++ births_of (drop (b + 3) births) l) ahead)

    size : length (birth_of n r c own) ≡ 14 + c * 6
    size = birth-long n r c own own-long

    pub birth-room : at + (14 + c * 6) ≤ length to
    birth-room = omega (arith, size, next-room (births_of births pairs) to₀ (births_of (drop b births) (drop p pairs)) at to fits s.written (birth_of n r c own) (births_of (drop (b + 3) births) (drop (p + c + c) pairs)) next)

    pub birth-tail : 14 + c * 6 ≤ length (take (length to - at) (drop at to))
    birth-tail = omega (arith, size, tail-room (births_of births pairs) to₀ (births_of (drop b births) (drop p pairs)) at to fits s.written (birth_of n r c own) (births_of (drop (b + 3) births) (drop (p + c + c) pairs)) next)

    pub birth-more : (ps ys : List ℕ) → ps ≡ own → ys ≡ onto (birth_of n r c ps) (take (length to - at) (drop at to)) → BirthsAt births pairs to₀ (take at to ++ (ys ++ drop (length to - at) (drop at to))) (at + 14 + c * 6) (p + c + c) (b + 3)
    birth-more ps ys e q =
        record {
          most = three-left;
          inside = pairs-in;
          whole = subst (λ (l : List ℕ). Whole (drop (b + 3) births) l) ahead opened.2;
          written = tail_more (births_of births pairs) to₀ (births_of (drop b births) (drop p pairs)) at to fits s.written (birth_of n r c own) (births_of (drop (b + 3) births) (drop (p + c + c) pairs)) next (at + 14 + c * 6) (omega (arith, size)) (length to - at) ys (omega arith) (q ∙ ap (λ (l : List ℕ). onto (birth_of n r c l) (take (length to - at) (drop at to))) e);
        }
