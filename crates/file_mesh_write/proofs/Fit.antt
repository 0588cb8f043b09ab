-- One turn of each loop that tests a rule. Assumes nothing.
use mathlib.Core.Path.{◌≡◌, refl, sym, ap, ◌∙◌}
use mathlib.Core.Bool.{Bool, true, false, ◌&&◌}
use mathlib.Core.List.{List, [], ◌∷◌}
use Prim.Native.Nat.{ℕ, zero, suc, ◌+◌, ◌*◌, ◌-◌, ◌/◌, ◌≤◌, ◌<◌, max}
use native.Mathlib.Nat.{suc-mul, mul-le-mul_right, div-add-mod'}
use native.Mathlib.Numerals.{add-one}
use native.Mathlib.Omega.{arith}
use lib.ListN.{length, take, drop, get_or, length-drop, drop_of_length-le}
use lib.Seq.{drop-cons, drop-drop, length-take-le, take_all}
use lib.Dec.{eqb}
use borrow.Author.Tests.{eqb-true, eqb-false, lt-ltb, le-ltb, le-leb, lt-leb, eq-eqb, ne_eqb}
use Rattle.refusal.specs.Limits.{most_dimension}
use Rattle.multiindex.specs.Sort.{sort_word}
use Rattle.complex.specs.Cells.{comes_before}
use Rattle.file_mesh.specs.declared.Run.{Run}
use Rattle.file_mesh.specs.Mesh.{past}
use Rattle.file_mesh.specs.Rules.{more, follows, rise, number_fits, refinement_fits, count_fits, run_ends, pairs_fit, weights_of, birth_fits, births_fit}
use Rattle.file_mesh_write.proofs.Bytes.{two, three}

and-false : (a : Bool) → (a && false) ≡ false
and-false true = refl
and-false false = refl

-- ---- the pairs of a birth

-- the pairs rise below first from low on, and weigh left together
abbrev pub weigh : ℕ → ℕ → ℕ → List ℕ → Bool
weigh first low left ps = pairs_fit first low ps && eqb (weights_of ps) left

sum_less : (w x left : ℕ) → w ≤ left → eqb (w + x) left ≡ eqb x (left - w)
sum_less w x left h = go (eqb x (left - w)) refl
  where
    go : (t : Bool) → eqb x (left - w) ≡ t → eqb (w + x) left ≡ t
    go true e = eq-eqb (w + x) left (omega (arith, eqb-true x (left - w) e))
    go false e = ne_eqb (w + x) left (λ q. eqb-false x (left - w) e (omega arith))

module _ (first low left : ℕ) (ps : List ℕ) (i : ℕ) where
  pub fit-odd : i + 1 ≡ length ps → weigh first low left (drop i ps) ≡ false
  unfolding pairs_fit
  fit-odd e = rw (drop-cons ps i 0 (omega arith), drop_of_length-le ps {i = suc i} (omega arith))

  pub fit-end : length ps ≤ i → weigh first low left (drop i ps) ≡ eqb left 0
  unfolding pairs_fit weights_of
  fit-end h = rw (drop_of_length-le ps {i = i} h) (go left)
    where
      go : (n : ℕ) → eqb 0 n ≡ eqb n 0
      go zero = refl
      go (suc n) = ne_eqb 0 (suc n) (λ e. omega arith) ∙ sym (ne_eqb (suc n) 0 (λ e. omega arith))

  module _ (h : i + 2 ≤ length ps) where
    pub fit_low : get_or ps i 0 < low → weigh first low left (drop i ps) ≡ false
    unfolding pairs_fit
    fit_low k = rw (two ps i h, lt-leb low (get_or ps i 0) k)

    pub fit-high : low ≤ get_or ps i 0 → first ≤ get_or ps i 0 → weigh first low left (drop i ps) ≡ false
    unfolding pairs_fit
    fit-high j k = rw (two ps i h, le-leb low (get_or ps i 0) j, le-ltb (get_or ps i 0) first k)

    module _ (j : low ≤ get_or ps i 0) (k : get_or ps i 0 < first) where
      pub fit_none : get_or ps (i + 1) 0 ≡ 0 → weigh first low left (drop i ps) ≡ false
      unfolding pairs_fit
      fit_none e = rw (two ps i h, le-leb low (get_or ps i 0) j, lt-ltb (get_or ps i 0) first k, e)

      module _ (s : get_or ps (i + 1) 0 ≡ 0 → ⊥) where
        pub fit-heavy : left < get_or ps (i + 1) 0 → weigh first low left (drop i ps) ≡ false
        unfolding weights_of
        fit-heavy e =
            let w = weights_of (drop (i + 2) ps) in
            rw (two ps i h, ne_eqb (get_or ps (i + 1) 0 + w) left (λ q. omega arith)) (and-false (pairs_fit first low (get_or ps i 0 ∷ (get_or ps (i + 1) 0 ∷ drop (i + 2) ps))))

        pub fit-more : get_or ps (i + 1) 0 ≤ left → weigh first low left (drop i ps) ≡ weigh first (get_or ps i 0 + 1) (left - get_or ps (i + 1) 0) (drop (i + 2) ps)
        unfolding pairs_fit weights_of
        fit-more e =
            rw (
              two ps i h,
              le-leb low (get_or ps i 0) j,
              lt-ltb (get_or ps i 0) first k,
              le-leb 1 (get_or ps (i + 1) 0) (omega (arith, s)),
              sum_less (get_or ps (i + 1) 0) (weights_of (drop (i + 2) ps)) left e,
              add-one (get_or ps i 0),
            )

-- ---- the vertices

module _ (ws : List ℕ) (i : ℕ) where
  pub past_more : i < length ws → past (drop i ws) ≡ max (suc (get_or ws i 0)) (past (drop (i + 1) ws))
  unfolding past
  past_more h = rw (add-one i) (ap past (drop-cons ws i 0 h))

  pub past_end : length ws ≤ i → past (drop i ws) ≡ 0
  unfolding past
  past_end h = ap past (drop_of_length-le ws {i = i} h)

pub ruleset past_rules = (past_more, past_end)

-- ---- the births

module _ (vertices : ℕ) (run : Run) (n r c : ℕ) (ps : List ℕ) where
  -- the tests of a birth, one by one
  pub birth-number : number_fits vertices run n ≡ false → birth_fits vertices run n r c ps ≡ false
  unfolding birth_fits
  birth-number e = rw e

  pub birth-refinement : number_fits vertices run n ≡ true → refinement_fits run r ≡ false → birth_fits vertices run n r c ps ≡ false
  unfolding birth_fits
  birth-refinement e f = rw (e, f)

  pub birth-count : number_fits vertices run n ≡ true → refinement_fits run r ≡ true → c < 2 → birth_fits vertices run n r c ps ≡ false
  unfolding birth_fits
  birth-count e f g = rw (e, f, lt-leb 2 c g)

  pub birth-pairs : number_fits vertices run n ≡ true → refinement_fits run r ≡ true → 2 ≤ c → length ps ≡ c + c → birth_fits vertices run n r c ps ≡ weigh (more run n r).first 0 r ps
  unfolding birth_fits
  birth-pairs e f g l = rw (e, f, le-leb 2 c g, le-leb (c + c) (length ps) (omega arith), take_all (c + c) ps (omega arith))

  -- only a birth's own pairs count
  pub birth-part : c + c ≤ length ps → birth_fits vertices run n r c (take (c + c) ps) ≡ birth_fits vertices run n r c ps
  unfolding birth_fits
  birth-part h =
      let l = length-take-le (c + c) ps h in
      rw (le-leb (c + c) (length ps) h, le-leb (c + c) (length (take (c + c) ps)) (omega arith), take_all (c + c) (take (c + c) ps) (omega arith))

  birth-lack : length ps < c + c → birth_fits vertices run n r c ps ≡ false
  unfolding birth_fits
  birth-lack h = rw (lt-leb (c + c) (length ps) h, and-false (count_fits c), and-false (refinement_fits run r), and-false (number_fits vertices run n))

module _ (vertices : ℕ) (run : Run) (births pairs : List ℕ) (b at : ℕ) where
  pub births-ragged : b < length births → length births - b < 3 → births_fit vertices run (drop b births) (drop at pairs) ≡ false
  unfolding births_fit
  births-ragged h k = go (drop b births) (omega (arith, length-drop b births)) (omega (arith, length-drop b births))
    where
      go : (l : List ℕ) → 0 < length l → length l < 3 → births_fit vertices run l (drop at pairs) ≡ false
      go [] p q = absurd (omega arith)
      go (x ∷ []) p q = refl
      go (x ∷ (y ∷ [])) p q = refl
      go (x ∷ (y ∷ (z ∷ l))) p q = absurd (omega arith)

  pub births-left : length births ≤ b → at < length pairs → births_fit vertices run (drop b births) (drop at pairs) ≡ false
  unfolding births_fit
  births-left h k = rw (drop_of_length-le births {i = b} h, drop-cons pairs at 0 k)

  pub births-end : length births ≤ b → length pairs ≤ at → births_fit vertices run (drop b births) (drop at pairs) ≡ run_ends vertices run
  unfolding births_fit
  births-end h k = rw (drop_of_length-le births {i = b} h, drop_of_length-le pairs {i = at} k)

  module _ (h : b + 3 ≤ length births) where
    abbrev n : ℕ
    n = get_or births b 0

    abbrev r : ℕ
    r = get_or births (b + 1) 0

    abbrev c : ℕ
    c = get_or births (b + 2) 0

    pub births-lack : length pairs < at + c + c → at ≤ length pairs → births_fit vertices run (drop b births) (drop at pairs) ≡ false
    unfolding births_fit
    births-lack k l = rw (three births b h, birth-lack vertices run n r c (drop at pairs) (omega (arith, length-drop at pairs)))

    module _ (k : at + c + c ≤ length pairs) where
      fit : c + c ≤ length (drop at pairs)
      fit = omega (arith, length-drop at pairs)

      pub births-bad : birth_fits vertices run n r c (take (c + c) (drop at pairs)) ≡ false → births_fit vertices run (drop b births) (drop at pairs) ≡ false
      unfolding births_fit
      births-bad e = rw (three births b h, sym (birth-part vertices run n r c (drop at pairs) fit) ∙ e)

      pub births-more : birth_fits vertices run n r c (take (c + c) (drop at pairs)) ≡ true →
          births_fit vertices run (drop b births) (drop at pairs) ≡ births_fit vertices (more run n r) (drop (b + 3) births) (drop (at + c + c) pairs)
      unfolding births_fit
      births-more e =
          let q : at + (c + c) ≡ at + c + c = omega arith in
          rw (three births b h, sym (birth-part vertices run n r c (drop at pairs) fit) ∙ e)
          (ap (births_fit vertices (more run n r) (drop (b + 3) births)) (drop-drop (c + c) at pairs ∙ ap (λ (x : ℕ). drop x pairs) q))

-- ---- the words

follows-some : (d : ℕ) (v w : List ℕ) → d ≤ most_dimension → length v ≡ d + 1 → follows d v w ≡ comes_before (d + 1) (sort_word v) (sort_word w)
unfolding follows
follows-some d [] w h e = absurd (omega arith)
follows-some d (x ∷ v) w h e = rw (le-ltb 3 d h)

-- word number k of a flat list
abbrev pub part : ℕ → List ℕ → ℕ → List ℕ
part d ws at = take (d + 1) (drop at ws)

pub rise-none : (d count : ℕ) (ws : List ℕ) → rise d count [] ws ≡ rise d (count - 1) (part d ws (1 * (d + 1) - (d + 1))) (drop (1 * (d + 1)) ws)
unfolding rise follows
rise-none d zero ws = refl
rise-none d (suc count) ws =
    let a : 1 * (d + 1) - (d + 1) ≡ 0 = omega arith in
    let b : 1 * (d + 1) ≡ d + 1 = omega arith in
    let e : suc count - 1 ≡ count = omega arith in
    rw (a, b, e)

module _ (d count k : ℕ) (ws : List ℕ) (dim : d ≤ most_dimension) (low : 1 ≤ k) (h : k < count) (long : count * (d + 1) ≤ length ws) where
  pub word_end : k * (d + 1) + (d + 1) ≤ length ws
  word_end = omega (arith, sym (suc-mul k (d + 1)), mul-le-mul_right {m = suc k} {n = count} (d + 1) (omega arith))

  pub word-start : d + 1 ≤ k * (d + 1)
  word-start = omega (arith, mul-le-mul_right {m = 1} {n = k} (d + 1) low)

  pub part-before : length (part d ws (k * (d + 1) - (d + 1))) ≡ d + 1
  part-before = length-take-le (d + 1) (drop (k * (d + 1) - (d + 1)) ws) (omega (arith, length-drop (k * (d + 1) - (d + 1)) ws, word_end, word-start))

  pub part-now : length (part d ws (k * (d + 1))) ≡ d + 1
  part-now = length-take-le (d + 1) (drop (k * (d + 1)) ws) (omega (arith, length-drop (k * (d + 1)) ws, word_end))

  abbrev before : Bool
  before = comes_before (d + 1) (sort_word (part d ws (k * (d + 1) - (d + 1)))) (sort_word (part d ws (k * (d + 1))))

  step : rise d (count - k) (part d ws (k * (d + 1) - (d + 1))) (drop (k * (d + 1)) ws) ≡ before && rise d (count - (k + 1)) (part d ws (k * (d + 1))) (drop (d + 1) (drop (k * (d + 1)) ws))
  unfolding rise
  step =
      let e : count - k ≡ suc (count - (k + 1)) = omega arith in
      rw (e, follows-some d (part d ws (k * (d + 1) - (d + 1))) (part d ws (k * (d + 1))) dim part-before)

  pub rise-bad : before ≡ false → rise d (count - k) (part d ws (k * (d + 1) - (d + 1))) (drop (k * (d + 1)) ws) ≡ false
  rise-bad e = step ∙ ap (λ (t : Bool). t && rise d (count - (k + 1)) (part d ws (k * (d + 1))) (drop (d + 1) (drop (k * (d + 1)) ws))) e

  pub rise-more : before ≡ true → rise d (count - k) (part d ws (k * (d + 1) - (d + 1))) (drop (k * (d + 1)) ws) ≡ rise d (count - (k + 1)) (part d ws ((k + 1) * (d + 1) - (d + 1))) (drop ((k + 1) * (d + 1)) ws)
  rise-more e =
      let s : k * (d + 1) + (d + 1) ≡ (k + 1) * (d + 1) = sym (ap (λ (x : ℕ). x * (d + 1)) (add-one k) ∙ suc-mul k (d + 1)) in
      let a : k * (d + 1) ≡ (k + 1) * (d + 1) - (d + 1) = omega arith in
      step ∙ ap (λ (t : Bool). t && rise d (count - (k + 1)) (part d ws (k * (d + 1))) (drop (d + 1) (drop (k * (d + 1)) ws))) e
      ∙ ap (λ (x : ℕ). rise d (count - (k + 1)) (part d ws x) (drop (d + 1) (drop (k * (d + 1)) ws))) a
      ∙ ap (λ (l : List ℕ). rise d (count - (k + 1)) (part d ws ((k + 1) * (d + 1) - (d + 1))) l) (drop-drop (d + 1) (k * (d + 1)) ws ∙ ap (λ (x : ℕ). drop x ws) s)

pub rise-end : (d count k : ℕ) (before ws : List ℕ) → count ≤ k → rise d (count - k) before ws ≡ true
unfolding rise
rise-end d count k before ws h =
    let e : count - k ≡ 0 = omega arith in
    rw e

-- whole words fit their list
pub count_fits_lem : (len n : ℕ) → len / n * n ≤ len
count_fits_lem len n = omega (arith, div-add-mod' len n)

-- a part that ends n past its start has n numbers
pub upto : (ws : List ℕ) (a e n : ℕ) → e - a ≡ n → take (e - a) (drop a ws) ≡ take n (drop a ws)
upto ws a e n q = ap (λ (x : ℕ). take x (drop a ws)) q
