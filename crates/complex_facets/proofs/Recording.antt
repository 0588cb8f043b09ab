-- The facet records, one facet at a time, and what they hold: the induced sign by the parity of the position dropped, and cells, whose vertices rise, agree on every facet as
-- their own words. Assumes nothing.
use mathlib.Core.List.{List, [], ◌∷◌, ◌++◌, append_assoc, append-nil}
use mathlib.Core.Path.{◌≡◌, refl, sym, ap, ◌∙◌}
use Prim.Native.Nat.{ℕ, zero, suc, ◌+◌, ◌-◌, ◌*◌, ◌/◌, ◌%◌, ◌<◌, ◌≤◌, suc-le-suc}
use native.Mathlib.Nat.{suc-mul}
use native.Mathlib.Numerals.{add-one}
use native.Mathlib.Decide.{ℕ_discrete, dec_lt}
use native.Mathlib.Omega.{arith}
use lib.ListN.{length, get_or, take, drop, set, length-append}
use lib.Seq.{take-suc, take-length, get_or-set_same, get_or-set_other}
use borrow.Author.Tests.{eq-eqb, ne_eqb}
use Rattle.lists.proofs.Front.{put}
use Rattle.multiindex.specs.Sign.{Sign, plus, minus, opposite, induced}
use Rattle.lists.specs.Words.{without, none}
use Rattle.lists.proofs.Words.{same_self, same-no, word-true}
use Rattle.complex.specs.Facets.{cell_at, facet_at, Mates, Cells, Crowded, slots}
use Rattle.complex.specs.Skeleton.{facets_of}
use Rattle.complex_cells.proofs.Words.{Word}
use Rattle.complex_cells.proofs.Named.{named-many}
use Rattle.complex_facets.specs.WorkClasses.{Pass}
use Rattle.complex_facets.specs.WorkSides.{cell_of}
use Rattle.complex_facets.specs.Records.{sign_mark, signed_of, one_if, agree_of, record_of, each_record, records_of}
use Rattle.complex_facets.specs.WorkRecords.{sign_at, five_of, fives}

-- one more other row is stored
pub turn_more : (i : ℕ) (reps mates to : List ℕ) (v : ℕ) → i < length to → v ≡ get_or mates (get_or reps i 0) 0 → ((j : ℕ) → j < i → get_or to j 0 ≡ get_or mates (get_or reps j 0) 0) → (j : ℕ) → j < i + 1 → get_or (set to i v) j 0 ≡ get_or mates (get_or reps j 0) 0
turn_more i reps mates to v h e old j l =
    elim (ℕ_discrete j i) [
      | yes q ↦ rw q (get_or-set_same to i v 0 h ∙ e)
      | no n ↦ get_or-set_other to i j v 0 n ∙ old j (omega arith)
    ]

-- ---- the induced sign's mark: 1 where the position dropped is even, 2 where it is odd
mark-turn : (s : Sign) → sign_mark (opposite s) + sign_mark s ≡ 3
mark-turn plus = refl
mark-turn minus = refl

pub mark-parity : (i : ℕ) → sign_mark (induced i) ≡ i % 2 + 1
mark-parity zero = refl
mark-parity (suc i) = omega (arith, mark-turn (induced i), mark-parity i)

-- ---- five numbers more behind p
snoc-length : (p : List ℕ) (a n : ℕ) → length p ≡ n → length (p ++ (a ∷ [])) ≡ n + 1
snoc-length p a n e = omega (arith, length-append p (a ∷ []))

put_five : (p t : List ℕ) (n a b c e g : ℕ) → length p ≡ n → n + 5 ≤ length t →
    set (set (set (set (set (p ++ drop n t) n a) (n + 1) b) (n + 1 + 1) c) (n + 1 + 1 + 1) e) (n + 1 + 1 + 1 + 1) g ≡ (p ++ (a ∷ b ∷ c ∷ e ∷ g ∷ [])) ++ drop (n + 5) t
put_five p t n a b c e g l h =
    let l1 = snoc-length p a n l in
    let l2 = snoc-length (p ++ (a ∷ [])) b (n + 1) l1 in
    let l3 = snoc-length ((p ++ (a ∷ [])) ++ (b ∷ [])) c (n + 1 + 1) l2 in
    let l4 = snoc-length (((p ++ (a ∷ [])) ++ (b ∷ [])) ++ (c ∷ [])) e (n + 1 + 1 + 1) l3 in
    let e1 = put p t n a l (omega arith) in
    let e2 = put (p ++ (a ∷ [])) t (n + 1) b l1 (omega arith) in
    let e3 = put ((p ++ (a ∷ [])) ++ (b ∷ [])) t (n + 1 + 1) c l2 (omega arith) in
    let e4 = put (((p ++ (a ∷ [])) ++ (b ∷ [])) ++ (c ∷ [])) t (n + 1 + 1 + 1) e l3 (omega arith) in
    let e5 = put ((((p ++ (a ∷ [])) ++ (b ∷ [])) ++ (c ∷ [])) ++ (e ∷ [])) t (n + 1 + 1 + 1 + 1) g l4 (omega arith) in
    let i : n + 1 + 1 + 1 + 1 + 1 ≡ n + 5 = omega arith in
    let q : ((((p ++ (a ∷ [])) ++ (b ∷ [])) ++ (c ∷ [])) ++ (e ∷ [])) ++ (g ∷ []) ≡ p ++ (a ∷ b ∷ c ∷ e ∷ g ∷ []) = simp append_assoc in
    ap (λ (z : List ℕ). set (set (set (set z (n + 1) b) (n + 1 + 1) c) (n + 1 + 1 + 1) e) (n + 1 + 1 + 1 + 1) g) e1
    ∙ ap (λ (z : List ℕ). set (set (set z (n + 1 + 1) c) (n + 1 + 1 + 1) e) (n + 1 + 1 + 1 + 1) g) e2
    ∙ ap (λ (z : List ℕ). set (set z (n + 1 + 1 + 1) e) (n + 1 + 1 + 1 + 1) g) e3
    ∙ ap (λ (z : List ℕ). set z (n + 1 + 1 + 1 + 1) g) e4
    ∙ e5
    ∙ ap (λ (z : List ℕ). z ++ drop (n + 1 + 1 + 1 + 1 + 1) t) q
    ∙ ap (λ (z : ℕ). (p ++ (a ∷ b ∷ c ∷ e ∷ g ∷ [])) ++ drop z t) i

module _ (d k : ℕ) (reps others : List ℕ) where
  pub fives-length : (f : ℕ) → length (fives d k f reps others) ≡ f * 5
  unfolding fives
  fives-length zero = refl
  fives-length (suc f) =
      omega (arith, length-append (fives d k f reps others) (five_of d k (get_or reps f 0) (get_or others f 0)), fives-length f, suc-mul f 5)

  pub fives-turn : (i : ℕ) (records₀ records : List ℕ) (a b c e : ℕ) → i * 5 + 5 ≤ length records₀ → records ≡ fives d k i reps others ++ drop (i * 5) records₀ → a ≡ cell_of k (get_or reps i 0) → b ≡ sign_at d k (get_or reps i 0) → c ≡ cell_of k (get_or others i 0) → e ≡ sign_at d k (get_or others i 0) →
      set (set (set (set (set records (i * 5) a) (i * 5 + 1) b) (i * 5 + 1 + 1) c) (i * 5 + 1 + 1 + 1) e) (i * 5 + 1 + 1 + 1 + 1) 1 ≡ fives d k (i + 1) reps others ++ drop ((i + 1) * 5) records₀
  unfolding fives
  fives-turn i records₀ records a b c e h t ea eb ec ee =
      let n : (i + 1) * 5 ≡ i * 5 + 5 = omega arith in
      let q : a ∷ b ∷ c ∷ e ∷ 1 ∷ [] ≡ five_of d k (get_or reps i 0) (get_or others i 0) = cc in
      ap (λ (z : List ℕ). set (set (set (set (set z (i * 5) a) (i * 5 + 1) b) (i * 5 + 1 + 1) c) (i * 5 + 1 + 1 + 1) e) (i * 5 + 1 + 1 + 1 + 1) 1) t
      ∙ put_five (fives d k i reps others) records₀ (i * 5) a b c e 1 (fives-length i) h
      ∙ ap (λ (z : List ℕ). (fives d k i reps others ++ z) ++ drop (i * 5 + 5) records₀) q
      ∙ rw (add-one i) (ap (λ (z : ℕ). (fives d k i reps others ++ five_of d k (get_or reps i 0) (get_or others i 0)) ++ drop z records₀) (sym n ∙ ap (λ (z : ℕ). z * 5) (add-one i)))

-- ---- a rising word without one of its vertices is the word without that position
without-none : (v : ℕ) (w : Word) → ((j : ℕ) → j < length w → v ≡ get_or w j 0 → ⊥) → without v w ≡ w
without-none v [] n = refl
without-none v (x ∷ w) n = rw (same-no v x (n 0 (omega arith))) (ap (λ (l : Word). x ∷ l) (without-none v w (λ j h. n (suc j) (suc-le-suc h))))

pub without-place : (w : Word) (i : ℕ) → i < length w → ((j : ℕ) → j < length w → (j ≡ i → ⊥) → get_or w i 0 ≡ get_or w j 0 → ⊥) → without (get_or w i 0) w ≡ facet_at w i
without-place [] i h n = absurd (omega arith)
without-place (x ∷ w) zero h n = rw (same_self x) (without-none x w (λ j l. n (suc j) (suc-le-suc l) (λ e. omega arith)))
without-place (x ∷ w) (suc i) h n =
    rw (same-no (get_or w i 0) x (n 0 (omega arith) (λ e. omega arith))) (ap (λ (l : Word). x ∷ l) (without-place w i (omega arith) (λ j l o. n (suc j) (suc-le-suc l) (λ e. o (omega arith)))))

-- a cell's vertices rise, so two of them differ
module _ (d : ℕ) (cs : List Word) (good : Cells d cs) where
  apart : (c i j : ℕ) → c < length cs → i ≤ d → j ≤ d → (j ≡ i → ⊥) → get_or (cell_at cs c) i 0 ≡ get_or (cell_at cs c) j 0 → ⊥
  apart c i j hc hi hj n e =
      elim (dec_lt i j) [
        | yes l ↦ omega (arith, good.rising c i j hc l hj, e)
        | no l ↦ let o : j < i = omega (arith, n) in omega (arith, good.rising c j i hc o hi, e)
      ]

  cell-without : (c i : ℕ) → c < length cs → i ≤ d → without (get_or (cell_at cs c) i 0) (cell_at cs c) ≡ facet_at (cell_at cs c) i
  cell-without c i hc hi =
      without-place (cell_at cs c) i (omega (arith, good.long c hc)) (λ j h n. apart c i j hc hi (omega (arith, good.long c hc)) n)

  -- COLEX WORDS AGREE ON EVERY FACET
  pub sorted-agree : (c i c' i' : ℕ) → Mates d cs c i c' i' → without (get_or (cell_at cs c) i 0) (cell_at cs c) ≡ without (get_or (cell_at cs c') i' 0) (cell_at cs c')
  sorted-agree c i c' i' m = cell-without c i m.this.cell m.this.place ∙ m.one ∙ sym (cell-without c' i' m.that.cell m.that.place)

-- ---- what the records hold
record-append : (d : ℕ) (cs ks xs ys : List Word) → each_record d cs ks (xs ++ ys) ≡ each_record d cs ks xs ++ each_record d cs ks ys
unfolding each_record
record-append d cs ks [] ys = refl
record-append d cs ks (x ∷ xs) ys = ap (λ (l : List ℕ). record_of d cs ks x ++ l) (record-append d cs ks xs ys) ∙ sym (append_assoc (record_of d cs ks x) (each_record d cs ks xs) (each_record d cs ks ys))

record-one : (d : ℕ) (cs ks : List Word) (x : Word) → each_record d cs ks (x ∷ []) ≡ record_of d cs ks x
unfolding each_record
record-one d cs ks x = append-nil (record_of d cs ks x)

module _ (d : ℕ) (cs : List Word) (good : Cells d cs) (f : ℕ) (keys reps others rows : List ℕ) (a : Pass d cs f keys reps others rows) (free : Crowded d cs → ⊥) where
  many : length (facets_of d cs) ≡ f
  many = named-many (facets_of d cs) d f keys reps a.classes.named

  signed_is : (x : ℕ) (rest : List ℕ) → (x ≡ none → ⊥) → signed_of d (x ∷ rest) ≡ cell_of (slots d) x ∷ sign_at d (slots d) x ∷ []
  signed_is x rest n = rw (ne_eqb x none n) (ap (λ (m : ℕ). (x / slots d) ∷ m ∷ []) (mark-parity (d - x % slots d)))

  five-is : (i : ℕ) → i < f → record_of d cs cs (get_or (facets_of d cs) i []) ≡ five_of d (slots d) (get_or reps i 0) (get_or others i 0)
  five-is i h =
      let n : get_or reps i 0 ≡ none → ⊥ = λ e. omega (arith, a.classes.small i h) in
      elim (ℕ_discrete (get_or others i 0) none) [
        | yes e ↦
            ap (λ (l : List ℕ). signed_of d l ++ (signed_of d (drop 1 l) ++ (agree_of d cs cs l ∷ []))) (a.classes.one i h e)
            ∙ ap (λ (l : List ℕ). l ++ (none ∷ 0 ∷ 1 ∷ [])) (signed_is (get_or reps i 0) [] n)
            ∙ rw (eq-eqb (get_or others i 0) none e)
        | no e ↦
            let m = a.meet i h e in
            let g : agree_of d cs cs (get_or reps i 0 ∷ get_or others i 0 ∷ []) ≡ 1 = ap one_if (word-true _ _ (sorted-agree d cs good _ _ _ _ m)) in
            ap (λ (l : List ℕ). signed_of d l ++ (signed_of d (drop 1 l) ++ (agree_of d cs cs l ∷ []))) (a.classes.two free i h e)
            ∙ ap (λ (l : List ℕ). l ++ (signed_of d (get_or others i 0 ∷ []) ++ (agree_of d cs cs (get_or reps i 0 ∷ get_or others i 0 ∷ []) ∷ []))) (signed_is (get_or reps i 0) (get_or others i 0 ∷ []) n)
            ∙ ap (λ (l : List ℕ). cell_of (slots d) (get_or reps i 0) ∷ sign_at d (slots d) (get_or reps i 0) ∷ (l ++ (agree_of d cs cs (get_or reps i 0 ∷ get_or others i 0 ∷ []) ∷ []))) (signed_is (get_or others i 0) [] e)
            ∙ ap (λ (z : ℕ). cell_of (slots d) (get_or reps i 0) ∷ sign_at d (slots d) (get_or reps i 0) ∷ cell_of (slots d) (get_or others i 0) ∷ sign_at d (slots d) (get_or others i 0) ∷ z ∷ []) g
      ]

  fives-are : (n : ℕ) → n ≤ f → each_record d cs cs (take n (facets_of d cs)) ≡ fives d (slots d) n reps others
  unfolding fives each_record
  fives-are zero h = refl
  fives-are (suc n) h =
      ap (each_record d cs cs) (take-suc (facets_of d cs) n [] (omega (arith, many))) ∙ record-append d cs cs (take n (facets_of d cs)) (get_or (facets_of d cs) n [] ∷ [])
      ∙ ap (λ (l : List ℕ). each_record d cs cs (take n (facets_of d cs)) ++ l) (record-one d cs cs (get_or (facets_of d cs) n []) ∙ five-is n h)
      ∙ ap (λ (l : List ℕ). l ++ five_of d (slots d) (get_or reps n 0) (get_or others n 0)) (fives-are n (omega arith))

  pub records-are : records_of d cs cs ≡ fives d (slots d) f reps others
  records-are = ap (each_record d cs cs) (sym (take-length (facets_of d cs)) ∙ ap (λ (n : ℕ). take n (facets_of d cs)) many) ∙ fives-are f (omega arith)
