-- Records with their last numbers set: where each is what the words of the facet's cells say, they are the records by those words. Assumes nothing.
use mathlib.Core.Bool.{Bool, true, false}
use mathlib.Core.List.{List, [], ◌∷◌, ◌++◌, append_assoc, append-nil}
use mathlib.Core.Path.{◌≡◌, refl, sym, ap, ◌∙◌, subst}
use Prim.Native.Nat.{ℕ, zero, suc, ◌+◌, ◌*◌, ◌<◌, ◌≤◌}
use native.Mathlib.Nat.{le_refl, suc-mul}
use native.Mathlib.Numerals.{add-one}
use native.Mathlib.Omega.{arith}
use lib.ListN.{length, get_or, take, drop, set, length-append, drop_of_length-le}
use lib.Seq.{set_at, drop-cons, take-length, length-take-le}
use borrow.Author.Tests.{eq-eqb, ne_eqb}
use Rattle.lists.specs.Words.{same_word, none}
use Rattle.complex.specs.Skeleton.{rows_with}
use Rattle.complex_cells.proofs.Words.{Word}
use Rattle.complex_facets.specs.Records.{one_if, signed_of, agree_of, record_of, each_record}
use Rattle.ordering.specs.WorkAgree.{row_word, Reading}
use Rattle.ordering_records.specs.Work.{one_or, agree_at, Asking, tagged}

-- ---- one record
signed-two : (d : ℕ) (l : List ℕ) → length (signed_of d l) ≡ 2
signed-two d [] = refl
signed-two d (x ∷ l) = refl

-- the first four numbers: they are the same whatever the words
abbrev fourth : ℕ → List Word → Word → List ℕ
fourth d cs f = signed_of d (rows_with d cs f) ++ signed_of d (drop 1 (rows_with d cs f))

four-long : (d : ℕ) (cs : List Word) (f : Word) → length (fourth d cs f) ≡ 4
four-long d cs f =
    omega (arith, length-append (signed_of d (rows_with d cs f)) (signed_of d (drop 1 (rows_with d cs f))), signed-two d (rows_with d cs f), signed-two d (drop 1 (rows_with d cs f)))

record_is : (d : ℕ) (cs ks : List Word) (f : Word) → record_of d cs ks f ≡ fourth d cs f ++ (agree_of d cs ks (rows_with d cs f) ∷ [])
record_is d cs ks f = sym (append_assoc (signed_of d (rows_with d cs f)) (signed_of d (drop 1 (rows_with d cs f))) (agree_of d cs ks (rows_with d cs f) ∷ []))

pub record-long : (d : ℕ) (cs ks : List Word) (f : Word) → length (record_of d cs ks f) ≡ 5
record-long d cs ks f = ap length (record_is d cs ks f) ∙ omega (arith, length-append (fourth d cs f) (agree_of d cs ks (rows_with d cs f) ∷ []), four-long d cs f)

-- the fifth number behind p is set
set-fifth : (p q t : List ℕ) (v w n : ℕ) → length p ≡ n → length q ≡ 4 → set (p ++ ((q ++ (v ∷ [])) ++ t)) (n + 4) w ≡ p ++ ((q ++ (w ∷ [])) ++ t)
set-fifth p q t v w n lp lq =
    let a : (u : ℕ) → p ++ ((q ++ (u ∷ [])) ++ t) ≡ (p ++ q) ++ (u ∷ t) = λ u. ap (λ (l : List ℕ). p ++ l) (append_assoc q (u ∷ []) t) ∙ sym (append_assoc p q (u ∷ t)) in
    ap (λ (l : List ℕ). set l (n + 4) w) (a v) ∙ set_at (p ++ q) v t w (n + 4) (omega (arith, length-append p q)) ∙ sym (a w)

-- ---- one record more
each_more : (d : ℕ) (cs ks fs : List Word) (n : ℕ) → n < length fs → each_record d cs ks (take (suc n) fs) ≡ each_record d cs ks (take n fs) ++ record_of d cs ks (get_or fs n [])
unfolding each_record
each_more d cs ks [] n h = absurd (omega arith)
each_more d cs ks (f ∷ fs) zero h = append-nil (record_of d cs ks f)
each_more d cs ks (f ∷ fs) (suc n) h =
    ap (λ (l : List ℕ). record_of d cs ks f ++ l) (each_more d cs ks fs n (omega arith))
    ∙ sym (append_assoc (record_of d cs ks f) (each_record d cs ks (take n fs)) (record_of d cs ks (get_or fs n [])))

pub each_long : (d : ℕ) (cs ks fs : List Word) → length (each_record d cs ks fs) ≡ length fs * 5
unfolding each_record
each_long d cs ks [] = refl
each_long d cs ks (f ∷ fs) =
    omega (arith, length-append (record_of d cs ks f) (each_record d cs ks fs), record-long d cs ks f, each_long d cs ks fs, suc-mul (length fs) 5)

each_first : (d : ℕ) (cs ks fs : List Word) (n : ℕ) → n < length fs → each_record d cs ks (drop n fs) ≡ record_of d cs ks (get_or fs n []) ++ each_record d cs ks (drop (suc n) fs)
unfolding each_record
each_first d cs ks fs n h = ap (each_record d cs ks) (drop-cons fs n [] h)

module _ (d : ℕ) (cs ks fs : List Word) (g : ℕ → ℕ) (says : (i : ℕ) → i < length fs → g i ≡ agree_of d cs ks (rows_with d cs (get_or fs i []))) (t : List ℕ) where
  -- the first n are set
  set_first : (n : ℕ) → n ≤ length fs → tagged g n (each_record d cs cs fs ++ t) ≡ each_record d cs ks (take n fs) ++ (each_record d cs cs (drop n fs) ++ t)
  unfolding tagged each_record
  set_first zero h = refl
  set_first (suc n) h =
      let f = get_or fs n [] in
      let p = each_record d cs ks (take n fs) in
      let u = each_record d cs cs (drop (suc n) fs) ++ t in
      let old : tagged g n (each_record d cs cs fs ++ t) ≡ p ++ ((fourth d cs f ++ (agree_of d cs cs (rows_with d cs f) ∷ [])) ++ u) =
      set_first n (omega arith) ∙ ap (λ (l : List ℕ). p ++ (l ++ t)) (each_first d cs cs fs n (omega arith))
      ∙ ap (λ (l : List ℕ). p ++ l) (append_assoc (record_of d cs cs f) (each_record d cs cs (drop (suc n) fs)) t)
      ∙ ap (λ (l : List ℕ). p ++ (l ++ u)) (record_is d cs cs f) in
      let long : length p ≡ n * 5 = each_long d cs ks (take n fs) ∙ ap (λ (x : ℕ). x * 5) (length-take-le n fs (omega arith)) in
      ap (λ (l : List ℕ). set l (n * 5 + 4) (g n)) old
      ∙ ap (λ (x : ℕ). set (p ++ ((fourth d cs f ++ (agree_of d cs cs (rows_with d cs f) ∷ [])) ++ u)) (n * 5 + 4) x) (says n (omega arith))
      ∙ set-fifth p (fourth d cs f) u (agree_of d cs cs (rows_with d cs f)) (agree_of d cs ks (rows_with d cs f)) (n * 5) long (four-long d cs f)
      ∙ ap (λ (l : List ℕ). p ++ (l ++ u)) (sym (record_is d cs ks f))
      ∙ sym (append_assoc p (record_of d cs ks f) u)
      ∙ ap (λ (l : List ℕ). l ++ u) (sym (each_more d cs ks fs n (omega arith)))

  pub set_all : tagged g (length fs) (each_record d cs cs fs ++ t) ≡ each_record d cs ks fs ++ t
  unfolding each_record
  set_all =
      set_first (length fs) (le_refl (length fs)) ∙ ap (λ (l : List Word). each_record d cs ks l ++ (each_record d cs cs (drop (length fs) fs) ++ t)) (take-length fs)
      ∙ ap (λ (l : List Word). each_record d cs ks fs ++ (each_record d cs cs l ++ t)) (drop_of_length-le fs (le_refl (length fs)))

-- one more is set
pub tag-turn : (g : ℕ → ℕ) (i v : ℕ) (records₀ records : List ℕ) → records ≡ tagged g i records₀ → v ≡ g i → set records (i * 5 + 4) v ≡ tagged g (i + 1) records₀
unfolding tagged
tag-turn g i v records₀ records e f =
    subst (λ (n : ℕ). set records (i * 5 + 4) v ≡ tagged g n records₀) (sym (add-one i)) (ap (λ (l : List ℕ). set l (i * 5 + 4) v) e ∙ ap (λ (x : ℕ). set (tagged g i records₀) (i * 5 + 4) x) f)

-- ---- one facet
module _ (d k m : ℕ) (list : List ℕ) (x y : ℕ) where
  pub agree-none : y ≡ none → 1 ≡ agree_at d k m list x y
  agree-none e = sym (ap (λ (b : Bool). one_or b (one_if (same_word (row_word d k m list x) (row_word d k m list y)))) (eq-eqb y none e))

  module _ (n : y ≡ none → ⊥) (x' y' : ℕ) (ex : x' ≡ x) (ey : y' ≡ y) (r : Bool) (e : r ≡ same_word (row_word d k m list x') (row_word d k m list y')) where
    same-is : same_word (row_word d k m list x) (row_word d k m list y) ≡ r
    same-is = ap (λ (z : ℕ). same_word (row_word d k m list z) (row_word d k m list y)) (sym ex) ∙ ap (λ (z : ℕ). same_word (row_word d k m list x') (row_word d k m list z)) (sym ey) ∙ sym e

    at-is : agree_at d k m list x y ≡ one_if r
    at-is = ap (λ (b : Bool). one_or b (one_if (same_word (row_word d k m list x) (row_word d k m list y)))) (ne_eqb y none n) ∙ ap one_if same-is

    pub agree-yes : r ≡ true → 1 ≡ agree_at d k m list x y
    agree-yes t = sym (at-is ∙ ap one_if t)

    pub agree-no : r ≡ false → 0 ≡ agree_at d k m list x y
    agree-no t = sym (at-is ∙ ap one_if t)

pub asked-at : (d k m : ℕ) (list : List ℕ) (x y x' y' : ℕ) → x' ≡ x → y' ≡ y → (y ≡ none → ⊥) → Asking d k m list x y → Reading d k m list x' y'
asked-at d k m list x y x' y' ex ey n f = subst (λ (z : ℕ). Reading d k m list z y') (sym ex) (subst (λ (z : ℕ). Reading d k m list x z) (sym ey) (f n))
