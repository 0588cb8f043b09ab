-- The values by number, read from what a refinement and an order hand out: each child's parent and Jacobian are those of its refined cell, each birth's vertices and weights
-- those of its support, each word is the word of its cell, and a number past the last one is refused. Assumes nothing.
use Rattle.refusal.specs.declared.Refusal.TheVariants.{TooShort}
use Rattle.std.specs.Prelude.{Err, Ok}
use mathlib.Core.Bool.{true, false}
use mathlib.Core.List.{List, [], ◌∷◌, ◌++◌, map}
use mathlib.Core.Path.{◌≡◌, refl, sym, ap, ◌∙◌}
use Prim.Native.Nat.{ℕ, zero, suc, ◌+◌, ◌*◌, ◌<◌, ◌≤◌}
use native.Mathlib.Nat.{zero-mul, suc-mul, mul-le-mul_right, le_refl}
use native.Mathlib.Decide.{dec_lt}
use native.Mathlib.Omega.{arith}
use borrow.Author.Tests.{lt-ltb, le-ltb, le-leb, lt-leb, eq-eqb, ne_eqb}
use lib.Dec.{eqb}
use lib.IntN.{ℤ}
use lib.Ieee.{Float}
use lib.ListN.{length, get_or, take, drop, length-append, length-map}
use lib.Seq.{take_at, drop-append-add}
use Rattle.lists.specs.Rows.{flat, row}
use Rattle.lists.proofs.Laws.{map_at}
use Rattle.lists.proofs.Words.{first-none, first-at}
use Rattle.complex.specs.Facets.{cell_at}
use Rattle.refine_lattice.specs.Children.{gather}
use Rattle.refine_lattice.specs.Refine.{positives, births, share}
use Rattle.refine_lattice.proofs.Count.{length-gather}
use Rattle.lists.proofs.Tables.{length-tab, get_or-tab}
use Rattle.lists.specs.Words.{none}
use Rattle.refine_births.specs.Support.{supporters, shares, padded}
use Rattle.refine_births.specs.Promise.{birth_weights_of}
use Rattle.refine_births.proofs.Points.{supporters-high, supporters-past}
use Rattle.refine_jacobian.specs.Entries.{nought, share_of, whole_of, float_of}
use Rattle.refine_results.specs.Refined.{refined_cells, parent_of}
use Rattle.refine_results.specs.Results.{results_of}
use Rattle.refine_values.specs.Reading.{reaches, child_of, four, support, birth_of, word_in}

-- ---- lists of one length, one after the other
gather-part : {A : Type 0} (f : List ℕ → List A) (s : ℕ) → ((x : List ℕ) → length (f x) ≡ s) → (ls : List (List ℕ)) (k : ℕ) → k < length ls → row (gather f ls) s k ≡ f (get_or ls k [])
gather-part f s long [] k h = absurd (omega arith)
gather-part {A} f s long (x ∷ ls) zero h = ap (λ (i : ℕ). take s (drop i (f x ++ gather f ls))) (zero-mul s) ∙ take_at (f x) (gather f ls) s (long x)
gather-part {A} f s long (x ∷ ls) (suc k) h =
    let e : suc k * s ≡ length (f x) + k * s = omega (arith, suc-mul k s, long x) in
    ap (λ (i : ℕ). take s (drop i (f x ++ gather f ls))) e ∙ ap (take s) (drop-append-add (f x) (gather f ls) (k * s)) ∙ gather-part f s long ls k (omega arith)

flat-gather : (f : List ℕ → List ℕ) (ls : List (List ℕ)) → flat (map f ls) ≡ gather f ls
flat-gather f [] = refl
flat-gather f (x ∷ ls) = ap (λ (t : List ℕ). f x ++ t) (flat-gather f ls)

take-map : {A B : Type 0} (f : A → B) (i : ℕ) (l : List A) → take i (map f l) ≡ map f (take i l)
take-map f zero l = refl
take-map f (suc i) [] = refl
take-map {A} {B} f (suc i) (x ∷ l) = ap (λ (t : List B). f x ∷ t) (take-map f i l)

drop-map : {A B : Type 0} (f : A → B) (i : ℕ) (l : List A) → drop i (map f l) ≡ map f (drop i l)
drop-map f zero l = refl
drop-map f (suc i) [] = refl
drop-map f (suc i) (x ∷ l) = drop-map f i l

part-map : {A B : Type 0} (f : A → B) (s k : ℕ) (l : List A) → row (map f l) s k ≡ map f (row l s k)
part-map f s k l = ap (take s) (drop-map f (k * s) l) ∙ take-map f s (drop (k * s) l)

-- ---- the tests
inside : (n k m long : ℕ) → long ≡ m * n → k < m → reaches n k long ≡ true
inside n k m long e h = le-leb (k * n + n) long (omega (arith, suc-mul k n, mul-le-mul_right n h))

outside : (n k m long : ℕ) → 0 < n → long ≡ m * n → m ≤ k → reaches n k long ≡ false
outside n k m long s e h = lt-leb (k * n + n) long (omega (arith, mul-le-mul_right n h))

-- ---- the children
module _ (d R n : ℕ) (cs ks : List (List ℕ)) where
  -- refined cell c, its parent's number and its parent
  abbrev cell : ℕ → List ℕ
  cell c = cell_at (refined_cells d R n ks) c

  abbrev parent : ℕ → ℕ
  parent c = parent_of d R n ks (cell c)

  abbrev whole_by : List ℕ → List ℤ
  whole_by x = whole_of d (share d R n ks) (cell_at cs (parent_of d R n ks x)) x

  abbrev float_by : List ℕ → List Float
  float_by x = float_of d R (share d R n ks) (cell_at cs (parent_of d R n ks x)) x

  many-parents : length (results_of d R n cs ks).parents_out ≡ length (refined_cells d R n ks)
  many-parents = length-map (refined_cells d R n ks) (parent_of d R n ks)

  many-floats : length (results_of d R n cs ks).jacobians_out ≡ length (refined_cells d R n ks) * 9
  many-floats = length-gather float_by 9 (refined_cells d R n ks) (λ x. refl)

  many-wholes : length (results_of d R n cs ks).wholes_out ≡ length (refined_cells d R n ks) * 9
  many-wholes = length-gather whole_by 9 (refined_cells d R n ks) (λ x. refl)

  pub child-handed : (c : ℕ) → c < length (refined_cells d R n ks)
      → child_of c (results_of d R n cs ks).parents_out (results_of d R n cs ks).jacobians_out (results_of d R n cs ks).wholes_out
      ≡ Ok (record { parent = parent c; jacobian = float_of d R (share d R n ks) (cell_at cs (parent c)) (cell c); whole = whole_of d (share d R n ks) (cell_at cs (parent c)) (cell c) })
  child-handed c h =
      rw (
        lt-ltb c (length (results_of d R n cs ks).parents_out) (omega (arith, many-parents)),
        inside 9 c (length (refined_cells d R n ks)) (length (results_of d R n cs ks).jacobians_out) many-floats h,
        inside 9 c (length (refined_cells d R n ks)) (length (results_of d R n cs ks).wholes_out) many-wholes h,
        map_at (parent_of d R n ks) (refined_cells d R n ks) c [] 0 h,
        gather-part float_by 9 (λ x. refl) (refined_cells d R n ks) c h,
        gather-part whole_by 9 (λ x. refl) (refined_cells d R n ks) c h,
      )

  pub child-past : (c : ℕ) → length (refined_cells d R n ks) ≤ c
      → child_of c (results_of d R n cs ks).parents_out (results_of d R n cs ks).jacobians_out (results_of d R n cs ks).wholes_out ≡ Err TooShort
  child-past c h = rw (le-ltb c (length (results_of d R n cs ks).parents_out) (omega (arith, many-parents)))

  -- ---- the births
  -- the support of birth b, padded
  abbrev named : List ℕ → List ℕ
  named l = padded (suc d) none (supporters 0 l)

  abbrev weighed : List ℕ → List ℕ
  weighed l = padded (suc d) 0 (shares l)

  many_vertices : length (results_of d R n cs ks).birth_vertices ≡ length (births d R n ks) * suc d
  many_vertices = ap length (flat-gather named (births d R n ks)) ∙ length-gather named (suc d) (births d R n ks) (λ l. length-tab (suc d) (λ j. get_or (supporters 0 l) j none))

  many-weights : length (results_of d R n cs ks).birth_weights ≡ length (births d R n ks) * suc d
  many-weights = ap length (flat-gather weighed (births d R n ks)) ∙ length-gather weighed (suc d) (births d R n ks) (λ l. length-tab (suc d) (λ j. get_or (shares l) j 0))

  many-shares : length (results_of d R n cs ks).birth_shares ≡ length (births d R n ks) * suc d
  many-shares = length-map (birth_weights_of (suc d) (births d R n ks)) (share_of R) ∙ many-weights

  row-vertices : (b : ℕ) → b < length (births d R n ks) → row (results_of d R n cs ks).birth_vertices (suc d) b ≡ named (get_or (births d R n ks) b [])
  row-vertices b h =
      ap (λ (l : List ℕ). row l (suc d) b) (flat-gather named (births d R n ks)) ∙ gather-part named (suc d) (λ l. length-tab (suc d) (λ j. get_or (supporters 0 l) j none)) (births d R n ks) b h

  row-weights : (b : ℕ) → b < length (births d R n ks) → row (results_of d R n cs ks).birth_weights (suc d) b ≡ weighed (get_or (births d R n ks) b [])
  row-weights b h =
      ap (λ (l : List ℕ). row l (suc d) b) (flat-gather weighed (births d R n ks)) ∙ gather-part weighed (suc d) (λ l. length-tab (suc d) (λ j. get_or (shares l) j 0)) (births d R n ks) b h

  row-shares : (b : ℕ) → b < length (births d R n ks) → row (results_of d R n cs ks).birth_shares (suc d) b ≡ map (share_of R) (weighed (get_or (births d R n ks) b []))
  row-shares b h = part-map (share_of R) (suc d) b (birth_weights_of (suc d) (births d R n ks)) ∙ ap (map (share_of R)) (row-weights b h)

  pub birth-handed : d ≤ 3 → (b : ℕ) → b < length (births d R n ks)
      → birth_of d b (results_of d R n cs ks).birth_vertices (results_of d R n cs ks).birth_weights (results_of d R n cs ks).birth_shares
      ≡ Ok (record {
        count = support (named (get_or (births d R n ks) b []));
        vertices = four none (named (get_or (births d R n ks) b []));
        weights = four 0 (weighed (get_or (births d R n ks) b []));
        shares = four nought (map (share_of R) (weighed (get_or (births d R n ks) b [])));
      })
  birth-handed s b h =
      rw (
        le-ltb 3 d s,
        inside (suc d) b (length (births d R n ks)) (length (results_of d R n cs ks).birth_vertices) many_vertices h,
        inside (suc d) b (length (births d R n ks)) (length (results_of d R n cs ks).birth_weights) many-weights h,
        inside (suc d) b (length (births d R n ks)) (length (results_of d R n cs ks).birth_shares) many-shares h,
        row-vertices b h,
        row-weights b h,
        row-shares b h,
      )

  pub birth-past : d ≤ 3 → (b : ℕ) → length (births d R n ks) ≤ b
      → birth_of d b (results_of d R n cs ks).birth_vertices (results_of d R n cs ks).birth_weights (results_of d R n cs ks).birth_shares ≡ Err TooShort
  birth-past s b h = rw (le-ltb 3 d s, outside (suc d) b (length (births d R n ks)) (length (results_of d R n cs ks).birth_vertices) (omega arith) many_vertices h)

-- how many vertices a padded support has: as many as shares are positive
pub support-padded : (size : ℕ) (l : List ℕ) → length l ≤ none → positives l ≤ size → support (padded size none (supporters 0 l)) ≡ positives l
support-padded size l low fits =
    let row = padded size none (supporters 0 l) in
    let long : length row ≡ size = length-tab size (λ j. get_or (supporters 0 l) j none) in
    let at : (j : ℕ) → j < size → get_or row j 0 ≡ get_or (supporters 0 l) j none = λ j h. get_or-tab size (λ i. get_or (supporters 0 l) i none) j 0 h in
    let some : (j : ℕ) → j < positives l → eqb (get_or row j 0) none ≡ false = λ j h. ne_eqb (get_or row j 0) none (λ e. let q : get_or (supporters 0 l) j none < 0 + length l = supporters-high 0 l j none h in omega (arith, at j (omega arith), e)) in
    elim (dec_lt (positives l) size) [
      | yes h ↦ first-at (λ j. eqb (get_or row j 0) none) (length row) (positives l) (omega (arith, long)) some (eq-eqb (get_or row (positives l) 0) none (at (positives l) h ∙ supporters-past 0 l (positives l) none (le_refl (positives l))))
      | no h ↦ let e : length row ≡ positives l = omega (arith, long) in first-none (λ j. eqb (get_or row j 0) none) (length row) (λ j k. some j (omega (arith, e))) ∙ e
    ]

-- ---- the words
-- words of one length, one after the other
words_long : (s : ℕ) (ks : List (List ℕ)) → ((k : ℕ) → k < length ks → length (cell_at ks k) ≡ s) → length (flat ks) ≡ length ks * s
words_long s [] long = sym (zero-mul s)
words_long s (w ∷ ks) long = omega (arith, length-append w (flat ks), long 0 (omega arith), words_long s ks (λ k h. long (suc k) (omega arith)), suc-mul (length ks) s)

words-part : (s : ℕ) (ks : List (List ℕ)) → ((k : ℕ) → k < length ks → length (cell_at ks k) ≡ s) → (k : ℕ) → k < length ks → row (flat ks) s k ≡ cell_at ks k
words-part s [] long k h = absurd (omega arith)
words-part s (w ∷ ks) long zero h = ap (λ (i : ℕ). take s (drop i (w ++ flat ks))) (zero-mul s) ∙ take_at w (flat ks) s (long 0 (omega arith))
words-part s (w ∷ ks) long (suc k) h =
    let e : suc k * s ≡ length w + k * s = omega (arith, suc-mul k s, long 0 (omega arith)) in
    ap (λ (i : ℕ). take s (drop i (w ++ flat ks))) e ∙ ap (take s) (drop-append-add w (flat ks) (k * s)) ∙ words-part s ks (λ c q. long (suc c) (omega arith)) k (omega arith)

pub word-handed : (d : ℕ) → d ≤ 3 → (ks : List (List ℕ)) → ((k : ℕ) → k < length ks → length (cell_at ks k) ≡ suc d) → (k : ℕ) → k < length ks → word_in d k (flat ks) ≡ cell_at ks k
word-handed d s ks long k h =
    rw (le-leb d 3 s, inside (suc d) k (length ks) (length (flat ks)) (words_long (suc d) ks long) h) (words-part (suc d) ks long k h)

pub word-past : (d : ℕ) → d ≤ 3 → (ks : List (List ℕ)) → ((k : ℕ) → k < length ks → length (cell_at ks k) ≡ suc d) → (k : ℕ) → length ks ≤ k → word_in d k (flat ks) ≡ []
word-past d s ks long k h = rw (le-leb d 3 s, outside (suc d) k (length ks) (length (flat ks)) (omega arith) (words_long (suc d) ks long) h)
