-- The pairs of a birth, one after the other, and a birth. Assumes nothing.
use Rattle.refusal.specs.declared.Refusal.TheVariants.{FileEnds, BadFile}
use Rattle.refusal.specs.Says.{fine, Answer}
use Rattle.refusal.specs.declared.Refusal.{Refusal}
use Rattle.std.specs.Prelude.{Ok, Err}
use mathlib.Core.Path.{◌≡◌, refl, sym, ap, ◌∙◌}
use mathlib.Core.Bool.{Bool, true, false}
use mathlib.Core.List.{List, ◌∷◌}
use Prim.Native.Nat.{ℕ, suc, ◌+◌, ◌*◌, ◌-◌, ◌≤◌, ◌<◌}
use native.Mathlib.Nat.{add_assoc, zero-add}
use native.Mathlib.Numerals.{add-one}
use native.Mathlib.Omega.{arith}
use lib.ListN.{length, take, drop}
use lib.Dec.{eqb}
use borrow.Author.Tests.{lt-ltb, le-ltb, le-leb, lt-leb, eq-eqb, ne_eqb}
use Rattle.file_bytes.specs.Bytes.{said}
use Rattle.file_mesh.specs.declared.Run.{Run}
use Rattle.file_mesh.specs.Rules.{more, number_fits, refinement_fits, weights_of}
use Rattle.file_mesh.specs.Read.{Part, no, got, and_then, asked, field, pairs_from, Birth, birth_from}
use Rattle.file_mesh_read.specs.Work.{refusal_of, weighed, born_of}
use Rattle.file_mesh_read.proofs.Parts.{number-ends, number-got}

-- ---- the sum of the weights

-- the refusal of pairs after others, whose weights sum to `sum`
abbrev pub summed : ℕ → ℕ → Part (List ℕ) → Answer
summed r sum p = refusal_of (and_then p (λ ps t. asked (eqb (sum + weights_of ps) r) (got ps t)))

pub summed-none : (r : ℕ) (p : Part (List ℕ)) → refusal_of (weighed r p) ≡ summed r 0 p
unfolding and_then
summed-none r (no why) = refl
summed-none r (got ps t) = ap (λ (x : ℕ). refusal_of (asked (eqb x r) (got ps t))) (sym (zero-add (weights_of ps)))

refusal-asked : {A B : Type 0} (t : Bool) (x : A) (y : B) (r s : List ℕ) → refusal_of (asked t (got x r)) ≡ refusal_of (asked t (got y s))
unfolding asked
refusal-asked true x y r s = refl
refusal-asked false x y r s = refl

pub summed-more : (r sum v w : ℕ) (p : Part (List ℕ)) → summed r sum (and_then p (λ ps t. got (v ∷ (w ∷ ps)) t)) ≡ summed r (sum + w) p
unfolding and_then weights_of
summed-more r sum v w (no why) = refl
summed-more r sum v w (got ps t) =
    ap (λ (x : ℕ). refusal_of (asked (eqb x r) (got (v ∷ (w ∷ ps)) t))) (sym (add_assoc sum w (weights_of ps))) ∙ refusal-asked (eqb (sum + w + weights_of ps) r) (v ∷ (w ∷ ps)) ps t t

pub summed-no : (r sum : ℕ) (why : Refusal) (p : Part (List ℕ)) → p ≡ no why → summed r sum p ≡ Err why
unfolding and_then
summed-no r sum why p e = rw e

pub summed-bad : (first low r sum : ℕ) (bs : List ℕ) (n : ℕ) → n ≡ 0 → (sum ≡ r → ⊥) → summed r sum (pairs_from first low n bs) ≡ Err BadFile
unfolding and_then pairs_from weights_of asked
summed-bad first low r sum bs n e f = rw (e, ne_eqb (sum + 0) r (λ q. f (omega arith)))

pub summed-good : (first low r sum : ℕ) (bs : List ℕ) (n : ℕ) → n ≡ 0 → sum ≡ r → summed r sum (pairs_from first low n bs) ≡ fine
unfolding and_then pairs_from weights_of asked
summed-good first low r sum bs n e f = rw (e, eq-eqb (sum + 0) r (omega arith))

-- ---- one pair

module _ (bs : List ℕ) (at first low n left : ℕ) (a : at ≤ length bs) (el : left ≡ suc n) where
  pub pair_ends : length bs - at < 4 → pairs_from first low left (drop at bs) ≡ no FileEnds
  unfolding pairs_from field and_then
  pair_ends h = rw (el, number-ends bs at 4 h)

  module _ (l : 4 ≤ length bs - at) (v : ℕ) (ev : v ≡ said (take 4 (drop at bs))) where
    pub pair-low : v < low → pairs_from first low left (drop at bs) ≡ no BadFile
    unfolding pairs_from field and_then asked
    pair-low h = rw (el, number-got bs at 4 a l, sym ev, lt-leb low v h)

    module _ (h : low ≤ v) where
      pub pair-high : first ≤ v → pairs_from first low left (drop at bs) ≡ no BadFile
      unfolding pairs_from field and_then asked
      pair-high k = rw (el, number-got bs at 4 a l, sym ev, le-leb low v h, le-ltb v first k)

      module _ (k : v < first) where
        pub pair-cut : length bs - at < 6 → pairs_from first low left (drop at bs) ≡ no FileEnds
        unfolding pairs_from field and_then asked
        pair-cut s = rw (el, number-got bs at 4 a l, sym ev, le-leb low v h, lt-ltb v first k, number-ends bs (at + 4) 2 (omega arith))

        module _ (s : 6 ≤ length bs - at) (w : ℕ) (ew : w ≡ said (take 2 (drop (at + 4) bs))) where
          pub pair-none : w ≡ 0 → pairs_from first low left (drop at bs) ≡ no BadFile
          unfolding pairs_from field and_then asked
          pair-none z = rw (el, number-got bs at 4 a l, sym ev, le-leb low v h, lt-ltb v first k, number-got bs (at + 4) 2 (omega arith) (omega arith), sym ew, lt-leb 1 w (omega arith))

          pub pair-got : (w ≡ 0 → ⊥) → pairs_from first low left (drop at bs) ≡ and_then (pairs_from first (v + 1) n (drop (at + 6) bs)) (λ ps t. got (v ∷ (w ∷ ps)) t)
          unfolding pairs_from field and_then asked
          pair-got z =
              let q : at + 4 + 2 ≡ at + 6 = omega arith in
              rw (el, number-got bs at 4 a l, sym ev, le-leb low v h, lt-ltb v first k, number-got bs (at + 4) 2 (omega arith) (omega arith), sym ew, le-leb 1 w (omega arith), q, add-one v)

-- ---- a birth

module _ (n r c : ℕ) where
  abbrev bare : List ℕ → Birth
  bare ps = record { number = n; r = r; count = c; pairs = ps }

  abbrev finished : Part (List ℕ) → Part Birth
  finished p = and_then p (λ ps u. asked (eqb (weights_of ps) r) (got (bare ps) u))

  pub born-refused : (p : Part (List ℕ)) (why : Refusal) → Err why ≡ refusal_of (weighed r p) → born_of (finished p) ≡ Err why
  unfolding and_then asked
  born-refused (no other) why e = cc
  born-refused (got ps u) why e = go (eqb (weights_of ps) r) e
    where
      go : (t : Bool) → Err why ≡ refusal_of (asked t (got ps u)) → born_of (asked t (got (bare ps) u)) ≡ Err why
      go true q = cc
      go false q = cc

  pub born-read : (p : Part (List ℕ)) → fine ≡ refusal_of (weighed r p) → born_of (finished p) ≡ Ok (record { number = n; r = r; count = c })
  unfolding and_then asked
  born-read (no why) e = cc
  born-read (got ps u) e = go (eqb (weights_of ps) r) e
    where
      go : (t : Bool) → fine ≡ refusal_of (asked t (got ps u)) → born_of (asked t (got (bare ps) u)) ≡ Ok (record { number = n; r = r; count = c })
      go true q = refl
      go false q = cc

module _ (vertices : ℕ) (run : Run) (len : ℕ) (bs : List ℕ) (at : ℕ) (a : at ≤ length bs) where
  pub birth-ends : length bs - at < 4 → birth_from vertices run len (drop at bs) ≡ no FileEnds
  unfolding birth_from field and_then
  birth-ends h = rw (number-ends bs at 4 h)

  module _ (l : 4 ≤ length bs - at) (n : ℕ) (en : n ≡ said (take 4 (drop at bs))) where
    pub birth-number : number_fits vertices run n ≡ false → birth_from vertices run len (drop at bs) ≡ no BadFile
    unfolding birth_from field and_then asked
    birth-number f = rw (number-got bs at 4 a l, sym en, f)

    module _ (f : number_fits vertices run n ≡ true) where
      pub birth-cut : length bs - at < 6 → birth_from vertices run len (drop at bs) ≡ no FileEnds
      unfolding birth_from field and_then asked
      birth-cut h = rw (number-got bs at 4 a l, sym en, f, number-ends bs (at + 4) 2 (omega arith))

      module _ (s : 6 ≤ length bs - at) (r : ℕ) (er : r ≡ said (take 2 (drop (at + 4) bs))) where
        pub birth-refinement : refinement_fits run r ≡ false → birth_from vertices run len (drop at bs) ≡ no BadFile
        unfolding birth_from field and_then asked
        birth-refinement g = rw (number-got bs at 4 a l, sym en, f, number-got bs (at + 4) 2 (omega arith) (omega arith), sym er, g)

        module _ (g : refinement_fits run r ≡ true) where
          pub birth-short : length bs - at < 8 → birth_from vertices run len (drop at bs) ≡ no FileEnds
          unfolding birth_from field and_then asked
          birth-short h =
              let q : at + 4 + 2 ≡ at + 6 = omega arith in
              rw (number-got bs at 4 a l, sym en, f, number-got bs (at + 4) 2 (omega arith) (omega arith), sym er, g, q, number-ends bs (at + 6) 2 (omega arith))

          module _ (h : 8 ≤ length bs - at) (c : ℕ) (ec : c ≡ said (take 2 (drop (at + 6) bs))) where
            pub birth-few : c < 2 → birth_from vertices run len (drop at bs) ≡ no BadFile
            unfolding birth_from field and_then asked
            birth-few k =
                let q : at + 4 + 2 ≡ at + 6 = omega arith in
                rw (number-got bs at 4 a l, sym en, f, number-got bs (at + 4) 2 (omega arith) (omega arith), sym er, g, q, number-got bs (at + 6) 2 (omega arith) (omega arith), sym ec, lt-leb 2 c k)

            module _ (k : 2 ≤ c) where
              pub birth-len : (len ≡ 10 + c * 6 → ⊥) → birth_from vertices run len (drop at bs) ≡ no BadFile
              unfolding birth_from field and_then asked
              birth-len z =
                  let q : at + 4 + 2 ≡ at + 6 = omega arith in
                  rw (number-got bs at 4 a l, sym en, f, number-got bs (at + 4) 2 (omega arith) (omega arith), sym er, g, q, number-got bs (at + 6) 2 (omega arith) (omega arith), sym ec, le-leb 2 c k, ne_eqb len (10 + c * 6) z)

              pub birth-pairs : len ≡ 10 + c * 6 → birth_from vertices run len (drop at bs) ≡ finished n r c (pairs_from (more run n r).first 0 c (drop (at + 8) bs))
              unfolding birth_from field and_then asked
              birth-pairs z =
                  let q : at + 4 + 2 ≡ at + 6 = omega arith in
                  let p : at + 6 + 2 ≡ at + 8 = omega arith in
                  rw (number-got bs at 4 a l, sym en, f, number-got bs (at + 4) 2 (omega arith) (omega arith), sym er, g, q, number-got bs (at + 6) 2 (omega arith) (omega arith), sym ec, le-leb 2 c k, eq-eqb len (10 + c * 6) z, p)
