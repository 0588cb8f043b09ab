-- The words of a file that was read, one after the other. Assumes nothing.
use mathlib.Core.Path.{◌≡◌, refl, sym, ap, subst, ◌∙◌}
use mathlib.Core.List.{List, [], ◌∷◌, ◌++◌}
use Prim.Native.Nat.{ℕ, zero, suc, ◌+◌, ◌*◌, ◌-◌, ◌≤◌, ◌<◌}
use native.Mathlib.Nat.{suc-mul, mul-le-mul_right}
use native.Mathlib.Numerals.{add-one}
use native.Mathlib.Omega.{arith}
use lib.ListN.{length, take, drop, set, length-append, length-drop}
use lib.Seq.{take_all, length-take-le}
use Rattle.refine_pattern.proofs.Written.{Written, written_none, written_same, written-length, written-part, written-put, written-whole}
use Rattle.file_bytes.specs.Bytes.{said, fours_of}
use Rattle.file_bytes.proofs.Laws.{fours_of-length}
use Rattle.file_mesh.specs.Read.{got, word_from, words_from}
use Rattle.file_mesh.proofs.Parts.{same-part, then-inv}
use Rattle.file_mesh_read.specs.Work.{words_in, pairs_in}
use Rattle.file_mesh_read.proofs.Turns.{word-rest}

-- the words that are read are those that stand there
pub words_are : (d count at : ℕ) (before bs ws r : List ℕ) → words_from d count before (drop at bs) ≡ got ws r → ws ≡ words_in (d + 1) count at bs
unfolding words_from words_in
words_are d zero at before bs ws r e = sym (same-part e).0
words_are d (suc count) at before bs ws r e =
    let i = then-inv (word_from d before (drop at bs)) _ ws r e in
    let f = word-rest d before bs at i.x i.r i.part in
    let j = then-inv (words_from d count i.x i.r) _ ws r i.next in
    let g = words_are d count (at + (6 + (d + 1) * 4)) i.x bs j.x j.r (ap (words_from d count i.x) (sym f.2) ∙ j.part) in
    sym (same-part j.next).0 ∙ ap (λ (l : List ℕ). l ++ j.x) f.1 ∙ ap (λ (l : List ℕ). fours_of (d + 1) (drop (at + 6) bs) ++ l) g

in-long : (n count at : ℕ) (bs : List ℕ) → length (words_in n count at bs) ≡ count * n
unfolding words_in
in-long n zero at bs = omega arith
in-long n (suc count) at bs =
    length-append (fours_of n (drop (at + 6) bs)) (words_in n count (at + (6 + n * 4)) bs)
    ∙ omega (arith, fours_of-length n (drop (at + 6) bs), in-long n count (at + (6 + n * 4)) bs, suc-mul count n)

-- the first k words are read
pub record WordsRead (n count : ℕ) (bs to₀ to : List ℕ) (k : ℕ) : Type 0 where
  pub most : k ≤ count
  pub written : Written (words_in n count 10 bs) to₀ (words_in n (count - k) (10 + k * (6 + n * 4)) bs) (k * n) to

pub read-begin : (n count : ℕ) (bs to₀ : List ℕ) → WordsRead n count bs to₀ to₀ 0
read-begin n count bs to₀ =
    record {
      most = omega arith;
      written =
          subst (λ (x : ℕ). Written (words_in n count 10 bs) to₀ (words_in n (count - 0) (10 + 0 * (6 + n * 4)) bs) x to₀) {x = 0} {y = 0 * n} (omega arith)
          (written_same (words_in n count 10 bs) to₀ (words_in n count 10 bs) (words_in n (count - 0) (10 + 0 * (6 + n * 4)) bs) 0 to₀
          (ap (λ (x : ℕ). words_in n x 10 bs) {x = count} {y = count - 0} (omega arith) ∙ ap (λ (x : ℕ). words_in n (count - 0) x bs) {x = 10} {y = 10 + 0 * (6 + n * 4)} (omega arith))
          (written_none (words_in n count 10 bs) to₀));
    }

module _ (n count : ℕ) (bs to₀ to : List ℕ) (k : ℕ) (long : length to₀ ≡ count * n) (room : 10 + count * (6 + n * 4) ≤ length bs) (w : WordsRead n count bs to₀ to k) where
  fits : length (words_in n count 10 bs) ≤ length to₀
  fits = omega (arith, in-long n count 10 bs)

  pub read_same : length to ≡ length to₀
  read_same = written-length (words_in n count 10 bs) to₀ (words_in n (count - k) (10 + k * (6 + n * 4)) bs) (k * n) to fits w.written

  module _ (h : count ≤ k) where
    pub read_done : to ≡ words_in n count 10 bs
    unfolding words_in
    read_done =
        let e : count - k ≡ 0 = omega arith in
        written-whole (words_in n count 10 bs) to₀ (k * n) to (long ∙ sym (in-long n count 10 bs))
        (written_same (words_in n count 10 bs) to₀ (words_in n (count - k) (10 + k * (6 + n * 4)) bs) [] (k * n) to (ap (λ (x : ℕ). words_in n x (10 + k * (6 + n * 4)) bs) e) w.written)

  module _ (h : k < count) where
    pub part_in : k * n + n ≤ length to
    part_in = omega (arith, read_same, suc-mul k n, mul-le-mul_right {m = suc k} {n = count} n (omega arith))

    pub word-there : 16 + k * (6 + n * 4) + n * 4 ≤ length bs
    word-there = omega (arith, suc-mul k (6 + n * 4), mul-le-mul_right {m = suc k} {n = count} (6 + n * 4) (omega arith))

    next : words_in n (count - k) (10 + k * (6 + n * 4)) bs ≡ fours_of n (drop (16 + k * (6 + n * 4)) bs) ++ words_in n (count - (k + 1)) (10 + (k + 1) * (6 + n * 4)) bs
    unfolding words_in
    next =
        let e : count - k ≡ suc (count - (k + 1)) = omega arith in
        let p : 10 + k * (6 + n * 4) + 6 ≡ 16 + k * (6 + n * 4) = omega arith in
        let q : 10 + k * (6 + n * 4) + (6 + n * 4) ≡ 10 + (k + 1) * (6 + n * 4) = omega (arith, suc-mul k (6 + n * 4), ap (λ (x : ℕ). x * (6 + n * 4)) (add-one k)) in
        rw (e, p, q)

    pub word-tail : length (take (k * n + n - k * n) (drop (k * n) to)) * 4 ≤ length (take (length bs - (16 + k * (6 + n * 4))) (drop (16 + k * (6 + n * 4)) bs))
    word-tail =
        omega (
          arith,
          word-there,
          part_in,
          length-take-le (k * n + n - k * n) (drop (k * n) to) (omega (arith, length-drop (k * n) to, part_in)),
          length-take-le (length bs - (16 + k * (6 + n * 4))) (drop (16 + k * (6 + n * 4)) bs) (omega (arith, length-drop (16 + k * (6 + n * 4)) bs)),
        )

    pub read_more : (ys : List ℕ) → ys ≡ fours_of (length (take (k * n + n - k * n) (drop (k * n) to))) (take (length bs - (16 + k * (6 + n * 4))) (drop (16 + k * (6 + n * 4)) bs)) →
        WordsRead n count bs to₀ (take (k * n) to ++ (ys ++ drop (k * n + n - k * n) (drop (k * n) to))) (k + 1)
    read_more ys e =
        let from = 16 + k * (6 + n * 4) in
        let m : k * n + n - k * n ≡ n = omega arith in
        let l : length (take (k * n + n - k * n) (drop (k * n) to)) ≡ n = length-take-le (k * n + n - k * n) (drop (k * n) to) (omega (arith, length-drop (k * n) to, part_in)) ∙ m in
        let y : ys ≡ fours_of n (drop from bs) = e ∙ ap (λ (x : ℕ). fours_of x (take (length bs - from) (drop from bs))) l ∙ ap (fours_of n) (take_all (length bs - from) (drop from bs) (omega (arith, length-drop from bs))) in
        record {
          most = omega arith;
          written =
              subst (λ (x : ℕ). Written (words_in n count 10 bs) to₀ (words_in n (count - (k + 1)) (10 + (k + 1) * (6 + n * 4)) bs) x (take (k * n) to ++ (ys ++ drop (k * n + n - k * n) (drop (k * n) to)))) {x = k * n + (k * n + n - k * n)} {y = (k + 1) * n} (omega (arith, suc-mul k n, ap (λ (x : ℕ). x * n) (add-one k)))
              (written-part (words_in n count 10 bs) to₀ (words_in n (count - k) (10 + k * (6 + n * 4)) bs) (k * n) to fits w.written (fours_of n (drop from bs)) (words_in n (count - (k + 1)) (10 + (k + 1) * (6 + n * 4)) bs) next
              (k * n + n - k * n) ys y (m ∙ sym (fours_of-length n (drop from bs))));
        }

-- ---- the pairs of a birth

pub pairs-in-long : (count at : ℕ) (bs : List ℕ) → length (pairs_in count at bs) ≡ count * 2
unfolding pairs_in
pairs-in-long zero at bs = refl
pairs-in-long (suc count) at bs = omega (arith, pairs-in-long count (at + 6) bs)

-- the first k pairs are read
pub record PairsRead (count from : ℕ) (bs to₀ to : List ℕ) (k : ℕ) : Type 0 where
  pub most : k ≤ count
  pub written : Written (pairs_in count from bs) to₀ (pairs_in (count - k) (from + k * 6) bs) (k * 2) to

pub pairs-begin : (count from : ℕ) (bs to₀ : List ℕ) → PairsRead count from bs to₀ to₀ 0
pairs-begin count from bs to₀ =
    record {
      most = omega arith;
      written =
          written_same (pairs_in count from bs) to₀ (pairs_in count from bs) (pairs_in (count - 0) (from + 0 * 6) bs) 0 to₀
          (ap (λ (x : ℕ). pairs_in x from bs) {x = count} {y = count - 0} (omega arith) ∙ ap (λ (x : ℕ). pairs_in (count - 0) x bs) {x = from} {y = from + 0 * 6} (omega arith))
          (written_none (pairs_in count from bs) to₀);
    }

module _ (count from : ℕ) (bs to₀ to : List ℕ) (k : ℕ) (long : length to₀ ≡ count * 2) (w : PairsRead count from bs to₀ to k) where
  pairs-fit : length (pairs_in count from bs) ≤ length to₀
  pairs-fit = omega (arith, pairs-in-long count from bs)

  pub pairs-same : length to ≡ length to₀
  pairs-same = written-length (pairs_in count from bs) to₀ (pairs_in (count - k) (from + k * 6) bs) (k * 2) to pairs-fit w.written

  pub pairs-done : count ≤ k → to ≡ pairs_in count from bs
  unfolding pairs_in
  pairs-done h =
      let e : count - k ≡ 0 = omega arith in
      written-whole (pairs_in count from bs) to₀ (k * 2) to (long ∙ sym (pairs-in-long count from bs))
      (written_same (pairs_in count from bs) to₀ (pairs_in (count - k) (from + k * 6) bs) [] (k * 2) to (ap (λ (x : ℕ). pairs_in x (from + k * 6) bs) e) w.written)

  module _ (h : k < count) (v u : ℕ) (ev : v ≡ said (take 4 (drop (from + k * 6) bs))) (eu : u ≡ said (take 2 (drop (from + k * 6 + 4) bs))) where
    pair-next : pairs_in (count - k) (from + k * 6) bs ≡ v ∷ (u ∷ pairs_in (count - (k + 1)) (from + (k + 1) * 6) bs)
    unfolding pairs_in
    pair-next =
        let e : count - k ≡ suc (count - (k + 1)) = omega arith in
        let q : from + k * 6 + 6 ≡ from + (k + 1) * 6 = omega arith in
        rw (ev, eu, e, q)

    pub pairs-more : PairsRead count from bs to₀ (set (set to (k * 2) v) (k * 2 + 1) u) (k + 1)
    pairs-more =
        let a = written-put (pairs_in count from bs) to₀ (pairs_in (count - k) (from + k * 6) bs) (k * 2) to pairs-fit w.written v (u ∷ pairs_in (count - (k + 1)) (from + (k + 1) * 6) bs) pair-next in
        let b = written-put (pairs_in count from bs) to₀ (u ∷ pairs_in (count - (k + 1)) (from + (k + 1) * 6) bs) (k * 2 + 1) (set to (k * 2) v) pairs-fit a u (pairs_in (count - (k + 1)) (from + (k + 1) * 6) bs) refl in
        record {
          most = omega arith;
          written = subst (λ (x : ℕ). Written (pairs_in count from bs) to₀ (pairs_in (count - (k + 1)) (from + (k + 1) * 6) bs) x (set (set to (k * 2) v) (k * 2 + 1) u)) {x = k * 2 + 1 + 1} {y = (k + 1) * 2} (omega arith) b;
        }
